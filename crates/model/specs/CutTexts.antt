-- A text of which only the first bytes are written.
use Rattle.std.specs.Prelude.{ℕ, ◌<◌, ◌≡◌, List, ◌++◌, length, take}
use Rattle.model.specs.Game.{game_of}
use Rattle.model.specs.Plan.{plan_pair_of}
use Rattle.model.specs.Checks.{pair_refusal}
use Rattle.model.specs.Verdict.{verdict, equilibrium}
use Rattle.model.specs.Report.{ascii, line, printed}

-- the text's last bytes are these
abbrev pub EndsIn : (text last : List ℕ) → Type 0
EndsIn text last = (before : List ℕ) × (text ≡ before ++ last)

-- The first bytes of what is printed for two files, where they are not all of it, do not end in the line `accepted`.
abbrev pub LineIsLast : Type 0
LineIsLast = (game plan : List ℕ) (k : ℕ) → k < length (printed game plan) → ¬ EndsIn (take k (printed game plan)) (line (ascii "accepted"))

-- Where they end in the word, nobody can gain: they lack the line feed at most.
abbrev pub WordIsTrue : Type 0
WordIsTrue = (game plan : List ℕ) (k : ℕ) → EndsIn (take k (printed game plan)) (ascii "accepted") → (pair_refusal game plan ≡ 0) × (verdict (game_of game) (plan_pair_of (game_of game) plan) ≡ equilibrium)
