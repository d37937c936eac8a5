use mathlib.Core.Path.{◌≡◌, ◌∙◌}
use native.Mathlib.Omega.{arith}
use Rattle.algebra.proofs.Sections.{apart_set}
use Rattle.loaded.specs.Players.{as_player}
use Rattle.sequences.proofs.Few.{own_number_small}
use Rattle.sequences.proofs.Stored.{own_range, stored_more}
use Rattle.sequences.proofs.recall.own_numbers.Goals as goal

pub put-requires : goal.put-requires
put-requires c =
    let q = c.requires in
    let S = c.loop-n.invariant.stored q.0 q.1 q.3 in
    (omega (arith, c.own_section-section.ensures, own_range (as_player c.args.player), S.decoded.room, S.decoded.few_nodes, q.1), omega (arith, c.last_own_move-own.ensures q.0 (omega (arith, q.1)) S, own_number_small q.2 (as_player c.args.player) c.loop-n.n (omega (arith, q.1))))

pub loop-n-preserved : goal.loop-n-preserved
loop-n-preserved c =
    let inv = c.loop-n.invariant in
    let own = c.own_section-section.ensures in
    let q = c.requires in
    let put = c.put.ensures in
    record {
      apart = apart_set _ _ inv.apart put (omega (arith, own)) (omega (arith, own, q.1, q.3.decoded.few_nodes));
      stored = λ g e S. stored_more _ _ (inv.stored g e S) (omega (arith, e)) own put (c.last_own_move-own.ensures g (omega (arith, e)) (inv.stored g e S));
    }

pub returns : goal.returns
returns c = let e : c.loop-n.n ≡ c.args.nodes = omega arith in (λ g w S. rw (e ∙ w) at (c.loop-n.invariant.stored g w S).own, c.loop-n.invariant.apart)
