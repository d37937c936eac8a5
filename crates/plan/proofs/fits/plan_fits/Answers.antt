-- Both arrays are filled with the file's weights, so that the answer on them is that on the file.
use mathlib.Core.Path.{◌≡◌}
use native.Mathlib.Omega.{arith}
use Rattle.algebra.specs.Arrays.{over}
use Rattle.algebra.proofs.Fillings.{filled}
use Rattle.model.specs.Game.{Game, one, two}
use Rattle.model.specs.Sequences.{sequence_count}
use Rattle.loaded.specs.Loaded.{NumbersLoaded}
use Rattle.plan.specs.Loaded.{SequencesCounted}
use Rattle.plan.specs.Weights.{weight_by_number}
use Rattle.plan.proofs.Balance.{loaded_sets, asked_all}
use Rattle.plan.proofs.ByNumber.{by_number_from, pair_fits}
use Rattle.plan.proofs.FormatChecks.{header_d1, header_d2, header_small}
use Rattle.plan.proofs.Refusals.{counted, few_sequences, run_is, run_few, room}
use Rattle.plan.proofs.fits.plan_fits.Goals as goal
use Rattle.plan.proofs.fits.plan_fits.Goals.{After-decode, After-decode-2, Start}

-- the sequences are few
few : (s : Start) → SequencesCounted s.args.counts
few s = let l = s.requires.0.loaded in few_sequences l.rules l.limits l.counts_are

-- player 1's weights
weights1 : (c : After-decode) → (g : Game) → NumbersLoaded g c.args.counts c.args.numbers.now → c.decode.new.out ≡ over (weight_by_number g c.args.plan.now one) (sequence_count g one) c.args.x.now
weights1 c g l =
    let run = run_is g l.counts_are one c.of-first.ensures in
    by_number_from g _ one _ c.decode.ensures (header_d1 g _ _ c.read-header.ensures) run.0 run.1

-- and player 2's
weights2 : (c : After-decode-2) → (g : Game) → NumbersLoaded g c.args.counts c.args.numbers.now → c.decode-2.new.out ≡ over (weight_by_number g c.args.plan.now two) (sequence_count g two) c.args.y.now
weights2 c g l =
    let run = run_is g l.counts_are two c.of-second.ensures in
    by_number_from g _ two _ c.decode-2.ensures (header_d2 g _ _ c.read-header.ensures) run.0 run.1

pub of-first-requires : goal.of-first-requires
of-first-requires c = few (goal.at.of-first-requires c).Start

pub of-second-requires : goal.of-second-requires
of-second-requires c = few (goal.at.of-second-requires c).Start

pub decode-requires : goal.decode-requires
decode-requires c =
    let run = run_few (few (goal.at.decode-requires c).Start) one c.of-first.ensures in
    ((header_small _ _ c.read-header.ensures).0, run.0, run.1, omega (arith, run.1, c.requires.1))

pub decode-requires-2 : goal.decode-requires-2
decode-requires-2 c =
    let run = run_few (few (goal.at.decode-requires-2 c).Start) two c.of-second.ensures in
    ((header_small _ _ c.read-header.ensures).1, run.0, run.1, omega (arith, run.1, c.requires.2))

pub pair_fits-requires : goal.pair_fits-requires
pair_fits-requires c =
    let l = c.requires.0 in
    (asked_all l one _ (omega (arith, c.decode.auto, c.requires.1)), asked_all l two _ (omega (arith, c.decode-2.auto, c.requires.2)))

pub returns : goal.returns
returns c g l =
    let first = weights1 (goal.at.returns c).After-decode g l in
    let second = weights2 (goal.at.returns c).After-decode-2 g l in
    let held1 = filled _ first (room l.rules l.limits one c.args.x.now c.requires.1) in
    let held2 = filled _ second (room l.rules l.limits two c.args.y.now c.requires.2) in
    record { answer = pair_fits g l.rules c.args.plan.now held1 held2 (c.pair_fits.ensures g (loaded_sets l) (counted l.counts_are).sets_are); first = first; second = second }
