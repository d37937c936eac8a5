-- The answer's number is the result; the buffers are as the call leaves them.
use mathlib.Core.Path.{◌≡◌, refl, ◌∙◌}
use Rattle.std.specs.Prelude.{Result, Ok, Err}
use Rattle.model.specs.Exported.{refusal_of}
use Rattle.model.proofs.Exported.{exports_number}
use Rattle.checks.specs.declared.Refusal.{Refusal}
use Rattle.checks.specs.Answers.{answered, number_of}
use Rattle.exported_game.proofs.game_fields.Goals as goal

-- the number of an answer is that of the model's
same_number : {A B : Type 0} (seen : A → B) (r : Result A Refusal) → number_of r ≡ refusal_of (answered seen r)
same_number seen (Ok x) = refl
same_number seen (Err d) = refl

pub returns : goal.returns
returns c =
    record {
      call = exports_number c.game_fields-answer.ensures.call (c.number.ensures ∙ same_number _ _);
      same = c.game_fields-answer.ensures.same;
    }
