-- What falls from call to call of the worth recursion: how far the first nodes of the sets led to are from the last.
use Prim.Native.Nat.{ℕ, ◌+◌, ◌-◌, ◌*◌, ◌≤◌, ◌<◌}
use mathlib.Core.Path.{◌≡◌, refl}
use mathlib.Core.Bool.{Bool, ◌&&◌}
use mathlib.Core.List.{List}
use native.Mathlib.Omega.{arith}
use native.Mathlib.Decide.{dec_lt}
use lib.Dec.{T, eqb, eqb→eq}
use lib.IntN.{ℤ}
use mir.Facts.{yes_and, and_yes}
use Rattle.algebra.specs.Arrays.{item}
use Rattle.algebra.specs.Bounded.{any_to, first_to}
use Rattle.algebra.proofs.Tests.{eqb_make}
use Rattle.algebra.proofs.Searches.{any_to_find, any_to_make, first_to_bound, first_to_least, first_to_holds}
use Rattle.model.specs.Game.{Game, Player, one, two, player_bit, same_player, owns}
use Rattle.model.specs.Sequences.{first_node}
use Rattle.model.specs.Plan.{RealizationPlan}
use Rattle.model.specs.Writing.{player_field}
use Rattle.model.proofs.Tree.{first_in_lem}
use Rattle.loaded.specs.Sections.{player_section, first_node_section, lead_section, head_section_of}
use Rattle.loaded.specs.Sets.{first_sequence, lead_by}
use Rattle.responses.specs.Worths.{WorthReady}
use Rattle.responses.proofs.SequencesAt.{later}

-- Of the numbers alone, with where a player's first sets begin.
module _ (numbers : List ℕ) (heads : ℕ) where
  -- set h is that player's, and sequence s leads to it
  unfoldable pub led_in : (s h : ℕ) → Bool
  led_in s h = eqb (head_section_of one + 4096 * item numbers (player_section + h)) heads && eqb (item numbers (lead_section + h)) s

  -- the least first node of the sets that sequence s leads to; 4096 where there is none
  unfoldable pub lowest : (sets s : ℕ) → ℕ
  lowest sets s = first_to 4096 (λ n. any_to sets (λ h. led_in s h && eqb (item numbers (first_node_section + h)) n))

  -- it is at most that of each
  lowest_below : (sets s h : ℕ) → h < sets → T (led_in s h) → item numbers (first_node_section + h) < 4096 → lowest sets s ≤ item numbers (first_node_section + h)
  unfolding lowest
  lowest_below sets s h l t b =
      let n = item numbers (first_node_section + h) in
      first_to_least 4096 (λ n. any_to sets (λ h. led_in s h && eqb (item numbers (first_node_section + h)) n)) n b
      (any_to_make sets (λ h. led_in s h && eqb (item numbers (first_node_section + h)) n) h l (yes_and (led_in s h) (eqb n n) t (eqb_make n n refl)))

  -- and at a floor or later where they all are
  lowest_above : (sets s floor : ℕ) → floor ≤ 4096 → ((h : ℕ) → h < sets → T (led_in s h) → floor ≤ item numbers (first_node_section + h)) → floor ≤ lowest sets s
  unfolding lowest
  lowest_above sets s floor b each =
      elim (dec_lt found 4096) [
        | yes l ↦
            let q = any_to_find sets (λ h. led_in s h && eqb (item numbers (first_node_section + h)) found) (first_to_holds 4096 test l) in
            let r = and_yes (led_in s q.0) (eqb (item numbers (first_node_section + q.0)) found) q.2 in
            omega (arith, each q.0 q.1 r.0, eqb→eq (item numbers (first_node_section + q.0)) found r.1)
        | no l ↦ omega (arith, first_to_bound 4096 test)
      ]
    where
      test : ℕ → Bool
      test n = any_to sets (λ h. led_in s h && eqb (item numbers (first_node_section + h)) n)

      found : ℕ
      found = first_to 4096 test

-- a player's first sets tell him
heads_tell : (p r : Player) → eqb (head_section_of one + 4096 * player_bit r) (head_section_of p) ≡ same_player p r
heads_tell one one = refl
heads_tell one two = refl
heads_tell two one = refl
heads_tell two two = refl

module _ {g : Game} {p : Player} {y : RealizationPlan} {numbers : List ℕ} {sums : List ℤ} {heads sets : ℕ} (W : WorthReady g p y numbers sums heads sets) where
  -- the numbers tell which sets a sequence leads to,
  led_in_lem : (s h : ℕ) → h < g.sets → led_in numbers heads s h ≡ lead_by g p s h
  unfolding led_in lead_by owns player_field
  led_in_lem s h l =
      let L = W.sums_held.loaded in
      rw (L.decoded.sets_decoded.players.at 0 h l, L.leads.at 0 h l, W.heads_are, heads_tell p (g.set_player h))

  -- and their first nodes
  node_is : (h : ℕ) → h < g.sets → (item numbers (first_node_section + h) ≡ first_node g h) × (first_node g h < 4096)
  node_is h l =
      let L = W.sums_held.loaded in
      (L.first_nodes.at 0 h l, omega (arith, (first_in_lem g L.rules h l).1, L.limits.nodes))

  -- from a sequence to a set that it leads to,
  pub set_falls : (s h : ℕ) → h < g.sets → T (lead_by g p s h) → 3 * (4096 - item numbers (first_node_section + h)) < 3 * (4096 - lowest numbers heads sets s) + 1
  set_falls s h l t =
      let n = node_is h l in
      omega (arith, n.0, n.1, lowest_below numbers heads sets s h (omega (arith, W.sets_are)) (rw (led_in_lem s h l) t) (omega (arith, n.0, n.1)))

  -- and from a set to its moves
  pub move_falls : (h m s : ℕ) → h < g.sets → T (owns g p h) → m < g.set_moves h → s ≡ first_sequence g h + m → 3 * (4096 - lowest numbers heads sets s) + 2 < 3 * (4096 - item numbers (first_node_section + h))
  move_falls h m s l o b is =
      let n = node_is h l in
      omega (arith, n.0, n.1, lowest_above numbers heads sets s (first_node g h + 1) (omega (arith, n.1)) above)
    where
      above : (k : ℕ) → k < sets → T (led_in numbers heads s k) → first_node g h + 1 ≤ item numbers (first_node_section + k)
      above k v t =
          let u : k < g.sets = omega (arith, W.sets_are) in
          omega (arith, (node_is k u).0, later g p W.sums_held.loaded.rules h m k l o b u (rw (led_in_lem s k u, is) at t))
