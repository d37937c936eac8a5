use Prim.Native.Nat.{ℕ}
use mathlib.Core.Path.{◌≡◌, ap, ◌∙◌}
use mathlib.Core.List.{List, map}
use native.Mathlib.Omega.{arith}
use Rattle.algebra.specs.Arrays.{item, placed}
use Rattle.algebra.proofs.Filters.{gathered_part, count_none, count_more, gathering_none, gathering_long, gathering_more, gathering_all}
use Rattle.loaded.specs.Players.{as_player}
use Rattle.judgement.specs.Strategy.{is_own, own_alone}
use Rattle.judgement.proofs.OwnSets.{sets_are_own, own_room}
use Rattle.judgement.proofs.strategy.put_strategy.Goals as goal

pub loop-h-init : goal.loop-h-init
loop-h-init c =
    let own = is_own c.args.numbers.now (as_player c.args.player) in
    (count_none own, gathering_none own _ _)

pub put_move-at-requires : goal.put_move-at-requires
unfolding own_alone
put_move-at-requires c =
    let asked = c.requires in
    let own = is_own c.args.numbers.now (as_player c.args.player) in
    let h = c.loop-h.h in
    let part = gathered_part own h c.args.sets (omega arith) in
    let room = own_room (as_player c.args.player) asked in
    let long = gathering_long own _ h _ _ c.loop-h.invariant.1 (omega (arith, part, room)) in
    (omega (arith, asked.sets_are, asked.players.long), omega (arith, asked.moves_long), omega (arith, part, room, long, c.loop-h.invariant.0))

pub loop-h-preserved : goal.loop-h-preserved
unfolding own_alone
loop-h-preserved c =
    let a = c.args in
    let own = is_own a.numbers.now (as_player a.player) in
    let i = c.loop-h.invariant in
    let put = c.put_move-at.ensures in
    (count_more own _ _ _ i.0 put.0, gathering_more own (item a.moves.now) _ _ a.out.now _ _ i.1 i.0 put.1)

pub shape_of-out : goal.shape_of-out
shape_of-out c =
    let own = is_own c.args.numbers.now (as_player c.args.player) in
    let all : c.loop-h.h ≡ c.args.sets = omega arith in
    gathering_long own (item c.args.moves.now) _ _ _ c.loop-h.invariant.1 (rw all (own_room (as_player c.args.player) c.requires))

pub returns : goal.returns
returns c g e held =
    let own = is_own c.args.numbers.now (as_player c.args.player) in
    gathering_all own (item c.args.moves.now) _ _ c.args.out.now _ c.loop-h.invariant.1 (omega arith)
    ∙ ap (λ (l : List ℕ). placed 0 (map (item c.args.moves.now) l) c.args.out.now) (sets_are_own g held (as_player c.args.player))
