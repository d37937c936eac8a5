-- Lists of cases: lines, and the names that paths begin with.
use Rattle.std.specs.Prelude.{ℕ, ◌+◌, ◌-◌, cond, List, [], ◌∷◌, eqb, ltb, length, take, drop}

-- how many bytes stand before the first that is b, and all of them where none is
unfoldable pub before : (b : ℕ) → List ℕ → ℕ
before b [] = 0
before b (x ∷ xs) = let later = before b xs + 1 in cond (eqb x b) 0 later

-- the first place from `start` on that holds b, or the text's end
unfoldable pub place_of : (text : List ℕ) → (start b : ℕ) → ℕ
place_of text start b = start + before b (drop start text)

-- the line that begins at `start`; 10 ends a line
unfoldable pub line_at : (list : List ℕ) → (start : ℕ) → List ℕ
line_at list start = take (place_of list start 10 - start) (drop start list)

-- where the next line begins, or the list's end
unfoldable pub next_line_of : (list : List ℕ) → (start : ℕ) → ℕ
next_line_of list start = let end = place_of list start 10 in cond (ltb end (length list)) (end + 1) end

-- what stands before the first `/` of a path
unfoldable pub name_of : List ℕ → List ℕ
name_of path = take (place_of path 0 47) path
