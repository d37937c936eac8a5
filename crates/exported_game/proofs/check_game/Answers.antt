-- An accepted game's counts go to the references; a refusal leaves them as they were.
use mathlib.Core.Path.{refl}
use Rattle.checks.specs.Answers.{answered}
use Rattle.lookups.specs.Answers.{game_seen}
use Rattle.model.specs.Exported.{same}
use Rattle.model.proofs.Exported.{exports_answer}
use Rattle.exported_game.proofs.check_game.Goals as goal

pub returns-in-Ok : goal.returns-in-Ok
returns-in-Ok c = exports_answer (answered game_seen) same _ c.check_game.ensures c.in-Ok.is refl refl

pub returns-in-Err : goal.returns-in-Err
returns-in-Err c = exports_answer (answered game_seen) same _ c.check_game.ensures c.in-Err.is c.number.ensures refl
