-- The bytes are put one by one.
use mathlib.Core.Path.{◌≡◌, refl, ◌∙◌}
use native.Mathlib.Omega.{arith}
use lib.ListN.{length, get_or}
use Rattle.algebra.proofs.Arrays.{placing_none, placing_more, placing_long, placing_all}
use Rattle.algebra.proofs.Lists.{list_to_is}
use Rattle.text.proofs.put_text.Goals as goal
use Rattle.text.proofs.put_text.Goals.{At-loop-i}

long : (c : At-loop-i) → length c.loop-i.out ≡ length c.args.out.now
long c = placing_long _ _ _ _ _ _ c.loop-i.invariant c.requires.fits

pub returns : goal.returns
returns c =
    let text = c.args.text.now in
    record {
      buffer = placing_all _ _ _ _ _ _ c.loop-i.invariant (omega arith) ∙ rw (list_to_is 0 (λ j. get_or text j 0) text refl refl (λ j l. refl));
      place = refl;
    }

pub loop-i-init : goal.loop-i-init
loop-i-init c = placing_none _ _ _ _

pub overflow_add-out : goal.overflow_add-out
overflow_add-out c = omega (arith, long (goal.at.overflow_add-out c).At-loop-i)

pub bounds-out-at : goal.bounds-out-at
bounds-out-at c = omega (arith, long (goal.at.bounds-out-at c).At-loop-i)

pub loop-i-preserved : goal.loop-i-preserved
loop-i-preserved c = placing_more _ _ _ _ _ _ _ c.loop-i.invariant (omega arith) c.requires.fits refl

pub overflow_add-result : goal.overflow_add-result
overflow_add-result c = omega (arith, long (goal.at.overflow_add-result c).At-loop-i)

pub shape_of-out : goal.shape_of-out
shape_of-out c = long (goal.at.shape_of-out c).At-loop-i
