-- What a read or a write moves, what follows it, and when a text is written whole.
use Rattle.std.specs.Prelude.{◌≡◌, ℕ, zero, suc, ◌+◌, ◌≤◌, Bool, List, eqb, length, take}
use Rattle.std.specs.declared.option.Option.{Option}
use Rattle.std.specs.Io.KnownBytes.{Appends, Keeps}
use Rattle.std.specs.declared.option.Option.TheVariants.{Some, None}
use Rattle.std.specs.declared.ops.ControlFlow.{ControlFlow}
use Rattle.std.specs.declared.ops.ControlFlow.TheVariants.{Continue, Break}

-- `&xs[..n]` is in bounds and has n bytes. The second part follows from the first.
abbrev pub IsPrefixLen : ℕ → List ℕ → Type 0
IsPrefixLen n xs = (n ≤ length xs) × (n ≡ length (take n xs))

-- What a read or a write moves is a number of bytes, or none of that where it fails: no more bytes than there is room for,
-- or than there are to be written
abbrev pub Within : (room : ℕ) → Option ℕ → Type 0
Within room (Some n) = n ≤ room
Within room None = Unit {0}

-- A write took the first of the bytes, as many as it moved, and one that failed took none: what the writer held before
-- and holds afterwards, where that is known.
abbrev pub Taken : (before after : Option (List ℕ)) → (bytes : List ℕ) → Option ℕ → Type 0
Taken before after bytes (Some n) = Appends before after (take n bytes)
Taken before after bytes None = Keeps before after

-- What follows a read or a write that had `done` bytes before it. Where it fails, `kept` count in all; one of no bytes is
-- the last, so that none is made for ever; the bytes of any other are added.
abbrev pub next_after_of : (done kept : ℕ) → Option ℕ → ControlFlow ℕ ℕ
next_after_of done kept None = Break kept
next_after_of done kept (Some zero) = Break done
next_after_of done kept (Some (suc n)) = Continue (done + suc n)

-- a read that fails leaves no byte, "an absent or unreadable file counting as empty"
abbrev pub after_read_of : (done : ℕ) → Option ℕ → ControlFlow ℕ ℕ
after_read_of done = next_after_of done 0

-- a write that fails leaves those that were taken before it
abbrev pub after_write_of : (done : ℕ) → Option ℕ → ControlFlow ℕ ℕ
after_write_of done = next_after_of done done

-- as many bytes were taken as the text has
abbrev pub is_whole : (taken : ℕ) → (text : List ℕ) → Bool
is_whole taken text = eqb taken (length text)
