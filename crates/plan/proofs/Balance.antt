-- Check 16: where a set's weights stand in an array of weights by number, and both players' answers.
use Prim.Native.Nat.{ℕ, suc, ◌+◌, ◌≤◌, ◌<◌}
use mathlib.Core.Path.{◌≡◌, sym, ap, ◌∙◌}
use mathlib.Core.Bool.{Bool, true, false}
use mathlib.Core.List.{List}
use native.Mathlib.Omega.{arith}
use lib.ListN.{length}
use lib.Dec.{T, eqb}
use denote.Enum.Bare.{sameb}
use Rattle.algebra.specs.Arrays.{item}
use Rattle.algebra.specs.Bounded.{total_to, implies}
use Rattle.algebra.proofs.Totals.{count_cong}
use Rattle.model.specs.Limits.{count_limit}
use Rattle.model.specs.Game.{Game, Player, one, two, owns, moves_before}
use Rattle.model.specs.Sequences.{leading, move_number, sequence_number, leading_number}
use Rattle.model.specs.Plan.{balanced, fits, pair_fits_of}
use Rattle.model.proofs.Tree.{owner}
use Rattle.std.specs.Prelude.{Ok, Err}
use Rattle.checks.specs.declared.Refusal.{Refusal}
use Rattle.checks.specs.declared.Refusal.TheVariants.{PlanUnfit}
use Rattle.checks.specs.Answers.{checked_of}
use Rattle.checks.proofs.Chains.{Checked, first_broken, then_second}
use Rattle.loaded.specs.declared.Counts.{Counts}
use Rattle.loaded.specs.declared.SetSequences.{SetSequences}
use Rattle.loaded.specs.SetSequences.{set_sequences_in, set_sequences_of}
use Rattle.loaded.specs.Loaded.{NumbersLoaded}
use Rattle.loaded.specs.Players.{as_player, owner_in}
use Rattle.loaded.specs.contracts.Player.{the_type}
use Rattle.loaded.specs.declared.Player as Code
use Rattle.loaded.specs.Weights.{plan_by_number, pair_by_number}
use Rattle.loaded.proofs.Owners.{owner_test, is_owner, own_start}
use Rattle.loaded.proofs.SetsRead.{Stand, set_stands}
use Rattle.loaded.proofs.Weights.{weight_at_lem}
use Rattle.plan.specs.Loaded.{LoadedIn, SetsLoaded, FitsAsked}
use Rattle.plan.proofs.Refusals.{counted, room}

-- the test of check 16 at set h, for weights x by the numbers of p's sequences
abbrev pub balance_test : Game → Player → (x : List ℕ) → ℕ → Bool
balance_test g p x h = implies (owns g p h) (balanced g (plan_by_number g p (item x)) h)

-- the sequences of a set, as they are read, are the game's
pub sequences_read : {g : Game} {numbers : List ℕ} → SetsLoaded g numbers → {h : ℕ} → h < g.sets → {s : SetSequences} → s ≡ set_sequences_in numbers h → s ≡ set_sequences_of g h
unfolding set_sequences_in set_sequences_of
sequences_read S {h} l e = e ∙ rw (S.starts.at 0 h l, S.moves.at 0 h l, S.leads.at 0 h l)

-- A set of p's.
module _ (g : Game) (p : Player) (h : ℕ) (o : T (owns g p h)) where
  -- the sequence that leads to it is his
  leads : leading_number g h ≡ sequence_number g p (leading g h)
  unfolding leading_number
  leads = ap (λ (r : Player). sequence_number g r (leading g h)) (owner g p h o)

-- The owner of set h is read, and tested against a player.
module _ {g : Game} {numbers : List ℕ} (S : SetsLoaded g numbers) {h : ℕ} (l : h < g.sets) (read player : Code.Player) (is : as_player read ≡ owner_in numbers h) where
  -- the set is not his: the test passes
  pub other_set : (x : List ℕ) → false ≡ sameb the_type read player → true ≡ balance_test g (as_player player) x h
  unfolding implies
  other_set x d = rw (sym (d ∙ owner_test g S.players l read player is))

  -- it is his: the test is that of the weights that stand there
  pub balance_is : true ≡ sameb the_type read player → {s : SetSequences} → s ≡ set_sequences_in numbers h → (x : List ℕ) {sum weight : ℕ} → sum ≡ total_to s.moves (λ m. item x (s.start + m)) → weight ≡ item x (0 + s.lead) → eqb sum weight ≡ balance_test g (as_player player) x h
  unfolding balanced implies move_number plan_by_number set_sequences_of
  balance_is t {s} q x e f =
      let p = as_player player in
      let o = is_owner g S.players l read player is t in
      let own : owns g p h ≡ true = sym (t ∙ owner_test g S.players l read player is) in
      let at = sequences_read S l q in
      let many : s.moves ≡ g.set_moves h = ap (λ (t : SetSequences). t.moves) at in
      let from : s.start ≡ 1 + moves_before g p h = ap (λ (t : SetSequences). t.start) at ∙ own_start g p h o in
      let last : 0 + s.lead ≡ sequence_number g p (leading g h) = omega (arith, ap (λ (t : SetSequences). t.lead) at, leads g p h o) in
      rw (own, e, f, many, last, weight_at_lem g p (item x) (leading g h))
      (ap (λ (k : ℕ). eqb k (item x (sequence_number g p (leading g h)))) (count_cong (g.set_moves h) _ _ (λ i v. ap (λ (k : ℕ). item x (k + i)) from)))

-- the weights of the moves of a player's set, and that of the sequence that leads to it, stand in the array
pub weights_stand : {h : ℕ} {numbers x : List ℕ} (read player : Code.Player) → FitsAsked (suc h) (as_player player) numbers x → as_player read ≡ owner_in numbers h → true ≡ sameb the_type read player → {s : SetSequences} → s ≡ set_sequences_in numbers h → Stand (length x) s
weights_stand {h} read player F is t q =
    let g = F.game in
    let S = F.sets_loaded in
    let l : h < g.sets = omega (arith, F.sets_in) in
    let at = set_stands S.rules (as_player player) l (is_owner g S.players l read player is t) (sequences_read S l q) in
    record { few = at.few; some = at.some; first = at.first; block = omega (arith, at.block, F.weights_long); below = omega (arith, at.below, F.weights_long) }

-- the sets of a loaded game
pub loaded_sets : {g : Game} {c : Counts} {numbers : List ℕ} → NumbersLoaded g c numbers → SetsLoaded g numbers
loaded_sets L = record { rules = L.rules; players = L.decoded.sets_decoded.players; moves = L.decoded.sets_decoded.moves; starts = L.starts; leads = L.leads }

-- all of them are asked for
pub asked_all : {c : Counts} {numbers : List ℕ} → LoadedIn c numbers → (p : Player) (x : List ℕ) → count_limit ≤ length x → FitsAsked c.sets p numbers x
asked_all L p x l = record {
  game = L.game;
  sets_loaded = loaded_sets L.loaded;
  sets_in = omega (arith, (counted L.loaded.counts_are).sets_are);
  weights_long = room L.loaded.rules L.loaded.limits p x l;
}

-- fewer
pub asked_less : {sets : ℕ} {p : Player} {numbers x : List ℕ} → FitsAsked sets p numbers x → (h : ℕ) → h < sets → FitsAsked (suc h) p numbers x
asked_less F h l = record { game = F.game; sets_loaded = F.sets_loaded; sets_in = omega (arith, F.sets_in); weights_long = F.weights_long }

-- Check 16 of both players' weights.
module _ (g : Game) (x y : List ℕ) where
  -- its answer, where player 1's plan does not fit
  pub pair_broken : {r : Checked} {d : Refusal} → r ≡ checked_of PlanUnfit (fits g one (plan_by_number g one (item x))) → r ≡ Err d → Err d ≡ checked_of PlanUnfit (pair_fits_of g (pair_by_number g (item x) (item y)))
  unfolding pair_fits_of pair_by_number
  pair_broken e f = sym f ∙ first_broken PlanUnfit (fits g one (plan_by_number g one (item x))) (fits g two (plan_by_number g two (item y))) e f

  -- and where it does: player 2's answer
  pub pair_second : {r s : Checked} {u : Unit {0}} → r ≡ checked_of PlanUnfit (fits g one (plan_by_number g one (item x))) → r ≡ Ok u → s ≡ checked_of PlanUnfit (fits g two (plan_by_number g two (item y))) → s ≡ checked_of PlanUnfit (pair_fits_of g (pair_by_number g (item x) (item y)))
  unfolding pair_fits_of pair_by_number
  pair_second e f second = then_second PlanUnfit (fits g one (plan_by_number g one (item x))) (fits g two (plan_by_number g two (item y))) e f second
