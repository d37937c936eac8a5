-- The longest that each line can be.
use Prim.Native.Nat.{ℕ, ◌+◌, ◌^◌, ◌≤◌, ◌<◌}
use mathlib.Core.Path.{◌≡◌}
use mathlib.Core.List.{List, ◌++◌}
use native.Mathlib.Omega.{arith}
use lib.IntN.{ℤ}
use lib.ListN.{length, length-append}
use mir.Syntax.{w64}
use mir.Val.{SFits}
use Rattle.model.specs.Earnings.{◌over◌}
use Rattle.model.specs.Report.{ascii, decimal, amount, line, move_line, refusal_line_of}
use Rattle.text.specs.Lines.{amount_line}
use Rattle.text.proofs.Decimals.{decimal_length}
use Rattle.text.proofs.Amounts.{size_few, amount_length}

-- a line has one byte more than what stands in it
line_length : (l : List ℕ) → length (line l) ≡ length l + 1
unfolding line ascii
line_length l = length-append l (ascii "\n")

-- a player has one digit, the size of an i64 at most 19, and D0 × D1 × D2 at most 14
pub amount_line_length : (label : List ℕ) (player : ℕ) (between : List ℕ) (count : ℤ) (base : ℕ) → player < 10 → base < 10 ^ 14 → SFits w64 count → length (amount_line label player between (count over base)) ≤ length label + length between + 40
unfolding amount_line
amount_line_length label player between count base one few f =
    let a = amount (count over base) in
    omega (
      arith,
      line_length (label ++ decimal player ++ between ++ a),
      length-append (label ++ decimal player ++ between) a,
      length-append (label ++ decimal player) between,
      length-append label (decimal player),
      decimal_length 0 player one,
      amount_length count base 18 13 (omega (arith, size_few count f)) few,
    )

-- a set has at most four digits and a move two
pub move_line_length : (h m : ℕ) → h < 10 ^ 4 → m < 10 ^ 2 → length (move_line (h, m)) ≤ 17
unfolding move_line ascii
move_line_length h m few small =
    omega (
      arith,
      line_length (ascii "set " ++ decimal h ++ ascii " move " ++ decimal m),
      length-append (ascii "set " ++ decimal h ++ ascii " move ") (decimal m),
      length-append (ascii "set " ++ decimal h) (ascii " move "),
      length-append (ascii "set ") (decimal h),
      decimal_length 3 h few,
      decimal_length 1 m small,
    )

-- a number of 64 bits has at most 20 digits
pub refusal_line_length : (k : ℕ) → k < 2 ^ 64 → length (refusal_line_of k) ≤ 29
unfolding refusal_line_of ascii
refusal_line_length k l =
    omega (arith, line_length (ascii "refusal " ++ decimal k), length-append (ascii "refusal ") (decimal k), decimal_length 19 k (omega arith))
