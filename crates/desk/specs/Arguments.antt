-- What the program is started with.
use Rattle.std.specs.Prelude.{ℕ, Bool, ltb}

-- The program's own name is the first of its words: there is no argument after it.
abbrev pub is_alone_of : (words : ℕ) → Bool
is_alone_of words = ltb words 2
