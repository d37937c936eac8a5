-- A file in a buffer.
use Rattle.std.specs.Prelude.{ℕ, ◌≡◌, List, length, take}

-- the first `count` entries of the buffer are the file's bytes, as many as the buffer takes
abbrev pub Loaded : (file : List ℕ) → (count : ℕ) → (buffer : List ℕ) → Type 0
Loaded file count buffer = take (length buffer) file ≡ take count buffer
