use Prim.Native.Nat.{◌≤◌, ◌<◌}
use mathlib.Core.Path.{◌≡◌, ◌∙◌}
use native.Mathlib.Omega.{arith}
use borrow.Author.Rules.{rules}
use lib.ListN.{get_or}
use Rattle.algebra.proofs.Sections.{held_none, held_more, apart_none, apart_set}
use Rattle.model.specs.Limits.{count_limit}
use Rattle.model.specs.Game.{Game}
use Rattle.loaded.specs.Sets.{first_sequence}
use Rattle.loaded.specs.Loaded.{Decoded}
use Rattle.loaded.proofs.Decoded.{decoded_apart}
use Rattle.loaded.proofs.Owners.{bit_small}
use Rattle.sequences.proofs.Few.{start_small}
use Rattle.sequences.proofs.FirstSequences.{next_none, next_counts, next_at, next_add}
use Rattle.sequences.proofs.sets.first_sequences.Goals as goal
use Rattle.sequences.proofs.sets.first_sequences.Goals.{After-number-moves}

-- what is known of any game there, where the player of set `h` is read
known : (c : After-number-moves) (g : Game) → c.args.sets ≡ g.sets → Decoded g c.args.numbers.now → (c.number-player.result < 2) × (get_or c.loop-h.next c.number-player.result 0 ≡ first_sequence g c.loop-h.h)
known c g e D =
    let inv = c.loop-h.invariant in
    let after = decoded_apart D inv.apart (omega arith) in
    let player = c.number-player.ensures.0 in
    (bit_small after (omega (arith, e)) player, next_at after (omega (arith, e)) player (inv.held g e D).1)

-- the number that is stored is small
small : (c : After-number-moves) → (c.number-player.result < 2) × (get_or c.loop-h.next c.number-player.result 0 ≤ count_limit)
small c =
    let q = c.requires in
    let k = known c q.0 q.1 q.2 in
    (k.0, omega (arith, k.1, start_small q.3 c.loop-h.h (omega (arith, q.1))))

pub put-requires : goal.put-requires
put-requires c =
    let q = c.requires in
    (omega (arith, q.1, q.2.room, q.2.few_sets, c.loop-h.invariant.apart.long), omega (arith, (small (goal.at.put-requires c).After-number-moves).1))

pub loop-h-preserved : goal.loop-h-preserved
loop-h-preserved c =
    let inv = c.loop-h.invariant in
    let q = c.requires in
    let put = c.put.ensures in
    let player = c.number-player.ensures.0 in
    let moves = c.number-moves.ensures.0 in
    record {
      two = search rules;
      apart = apart_set _ _ inv.apart put (omega arith) (omega (arith, q.1, q.2.few_sets));
      held = λ g e D.
          let at = inv.held g e D in
          (held_more _ at.0 (omega (arith, e, D.room, D.few_sets, inv.apart.long)) put (known (goal.at.loop-h-preserved c).After-number-moves g e D).1, next_add (decoded_apart D inv.apart (omega arith)) (omega (arith, e)) player _ moves at.1);
    }

pub returns : goal.returns
returns c =
    let inv = c.loop-h.invariant in
    let e : c.loop-h.h ≡ c.args.sets = omega arith in
    (λ g w D. (next_counts g _ (inv.held g w D).1 (e ∙ w), rw (e ∙ w) at (inv.held g w D).0), inv.apart)

pub loop-h-init : goal.loop-h-init
loop-h-init c = record { two = search rules; apart = apart_none; held = λ g e D. (held_none _ (omega (arith, D.room)), next_none g) }

pub bounds-next-player : goal.bounds-next-player
bounds-next-player c = omega (arith, (small c).0)

pub overflow_add-next : goal.overflow_add-next
overflow_add-next c = omega (arith, (small (goal.at.overflow_add-next c).After-number-moves).1, c.number-moves.ensures.1)

pub bounds-next-player-in-loop-h : goal.bounds-next-player-in-loop-h
bounds-next-player-in-loop-h c = omega (arith, (small (goal.at.bounds-next-player-in-loop-h c).After-number-moves).0)
