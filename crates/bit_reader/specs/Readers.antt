-- A reader of a file's bits: where it stands, what it reads next, and where it stands then.
use Rattle.std.specs.Prelude.{ℕ, ◌+◌, List}
use Rattle.std.specs.Borrow.{Bor}
use Rattle.model.specs.Bits.{field}
use Rattle.bit_reader.specs.declared.Reader.{Reader}

-- the reader of bytes before a bit
abbrev pub reader_at : Bor (List ℕ) → (at : ℕ) → Reader
reader_at bytes at = record { bytes = bytes; at = at }

-- the number in the next bits
abbrev pub next_field : Reader → (width : ℕ) → ℕ
next_field r width = field r.bytes.now r.at width

-- the reader past those bits
abbrev pub past : Reader → (width : ℕ) → Reader
past r width = record { bytes = r.bytes; at = r.at + width }
