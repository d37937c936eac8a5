-- The check that stands for a list of numbers or of bytes.
use Rattle.std.specs.Prelude.{ℕ, ◌+◌, ◌*◌, ◌%◌, List, [], ◌∷◌}

-- a check after one more number
unfoldable pub taken_in_of : (check number : ℕ) → ℕ
taken_in_of check number = (check % 65521 * 31 + number % 65521) % 65521

-- a check after the numbers of a list, each after its sign, which is 0
unfoldable pub check_from : (check : ℕ) → List ℕ → ℕ
check_from check [] = check
check_from check (x ∷ xs) = check_from (taken_in_of (taken_in_of check 0) x) xs

-- the check of a list
unfoldable pub checksum_of : List ℕ → ℕ
checksum_of xs = check_from 0 xs

-- a check after the bytes of a list, which have no sign
unfoldable pub bytes_from : (check : ℕ) → List ℕ → ℕ
bytes_from check [] = check
bytes_from check (x ∷ xs) = bytes_from (taken_in_of check x) xs

-- the check of bytes
unfoldable pub checksum_of_bytes : List ℕ → ℕ
checksum_of_bytes xs = bytes_from 0 xs
