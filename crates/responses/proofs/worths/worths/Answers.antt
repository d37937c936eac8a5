-- A call for the empty sequence gives the best value, and leaves every place right.
use native.Mathlib.Omega.{arith}
use mir.Syntax.{w64}
use mir.Facts.{to_z-of_z}
use Rattle.loaded.specs.Players.{as_player}
use Rattle.responses.proofs.Everywhere.{worths_given}
use Rattle.responses.proofs.SequencesAt.{some_sequence}
use Rattle.loaded.proofs.Sides.{heads_is, sets_counted, few_sequences}
use Rattle.responses.proofs.worths.worths.Goals as goal

pub sequence_worth-requires : goal.sequence_worth-requires
sequence_worth-requires c =
    let Q = c.requires.0 in
    let p = as_player c.args.player in
    let L = Q.held.loaded in
    record {
      game = Q.game;
      player = p;
      plan = Q.plan;
      ready = record { counts = c.args.counts; sums_held = Q.held; heads_are = heads_is c.args.counts p c.side-side.ensures; sets_are = sets_counted Q.game L.counts_are };
      room = omega (arith, few_sequences Q.game L.rules L.limits p, c.requires.1);
      is_sequence = some_sequence Q.game p;
    }

pub returns : goal.returns
returns c g y H =
    let p = as_player c.args.player in
    let call = c.sequence_worth in
    let done = call.ensures g p y (record { counts = c.args.counts; sums_held = H; heads_are = heads_is c.args.counts p c.side-side.ensures; sets_are = sets_counted g H.loaded.counts_are }) (some_sequence g p) in
    rw (to_z-of_z {w = w64} {z = call.result} (record { sfits = call.type_inv })) (worths_given H.loaded done (omega (arith, call.auto.worths, c.requires.1)))
