use mathlib.Core.Path.{◌≡◌, ◌∙◌}
use native.Mathlib.Omega.{arith}
use Rattle.algebra.proofs.Sections.{held_more, apart_set}
use Rattle.sequences.proofs.Stored.{filled_apart}
use Rattle.sequences.proofs.sets.leads.Goals as goal

pub loop-h-preserved : goal.loop-h-preserved
loop-h-preserved c =
    let inv = c.loop-h.invariant in
    let q = c.requires in
    let lead = c.lead_of-lead.ensures.1 in
    let put = c.put.ensures in
    record {
      apart = apart_set _ _ inv.apart put (omega arith) (omega (arith, q.1, q.2.decoded.few_sets));
      held = λ g e F. held_more _ (inv.held g e F) (omega (arith, e, F.decoded.room, F.decoded.few_sets, inv.apart.long)) put (lead g (omega (arith, e)) (filled_apart F inv.apart (omega arith)));
    }

pub returns : goal.returns
returns c =
    let e : c.loop-h.h ≡ c.args.sets = omega arith in
    (λ g w F. rw (e ∙ w) at (c.loop-h.invariant.held g w F), c.loop-h.invariant.apart)
