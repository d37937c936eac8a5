-- Players of the code as the model's.
use Rattle.std.specs.Prelude.{ℕ, ◌+◌, List}
use Rattle.algebra.specs.Arrays.{item}
use Rattle.model.specs.Game.{one, two, player_of}
use Rattle.model.specs.Game as Model
use Rattle.loaded.specs.Sections.{player_section}
use Rattle.loaded.specs.declared.Player.{Player}
use Rattle.loaded.specs.declared.Player.TheVariants.{One, Two}

-- the model's player that a player of the code is
abbrev pub as_player : Player → Model.Player
as_player One = one
as_player Two = two

-- whose set h is, by the section of players
abbrev pub owner_in : (numbers : List ℕ) → (h : ℕ) → Model.Player
owner_in numbers h = player_of (item numbers (player_section + h))
