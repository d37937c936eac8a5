-- The range's test is the model's conjunction.
use Rattle.std.specs.Prelude.{ℕ, ◌≡◌, ◌&&◌, leb}
use Rattle.std.specs.Ordering.{nat_cmp, is_le}
use Rattle.std.proofs.Common.{arith, refl}
use Rattle.std.proofs.lemmas.Grind.{common_steps}
use Rattle.model.specs.GameChecks.{is_move_count_of}
use Rattle.records.proofs.game_file.is_move_count.Goals as goal

le_test : (a b : ℕ) → is_le (nat_cmp a b) ≡ leb a b
le_test a b = grind (arith, common_steps)

-- between two numbers
both_test : (low high k : ℕ) → (is_le (nat_cmp low k) && is_le (nat_cmp k high)) ≡ (leb low k && leb k high)
both_test low high k = rw (le_test low k, le_test k high) refl

pub returns : goal.returns
unfolding is_move_count_of
returns c =
    let range = c.new.ensures in
    rw (c.contains.ensures.value, range.exhausted, range.start, range.end) (both_test 1 64 c.args.moves)
