-- Sets linked one by one, from the last to the first, into the chains of the sequences that lead to them.
use Prim.Native.Nat.{ℕ, ◌+◌, ◌≤◌, ◌<◌}
use mathlib.Core.Path.{◌≡◌, sym, ap, ◌∙◌, subst}
use mathlib.Core.List.{List}
use native.Mathlib.Omega.{arith}
use native.Mathlib.Decide.{ℕ_discrete}
use lib.ListN.{length, get_or, set}
use lib.Seq.{get_or-set_same, get_or-set_other}
use lib.Dec.{T, eqb, eqb→eq}
use mir.Facts.{and_yes}
use Rattle.algebra.specs.Arrays.{item}
use Rattle.algebra.specs.Sections.{Held, Apart}
use Rattle.algebra.proofs.Sections.{held_put, held_still, held_before, held_as, apart_none, apart_set, apart_twice}
use Rattle.algebra.proofs.Tests.{dec}
use Rattle.model.specs.Game.{Game, Player, one, two, same_player, owns}
use Rattle.model.specs.Sequences.{leading_number, sequence_count}
use Rattle.model.proofs.Numbers.{leading_number_lem, sequences_few}
use Rattle.model.proofs.Tree.{owner}
use Rattle.loaded.specs.Sections.{section_room, lead_section, head_section_of, next_section, numbers_room}
use Rattle.loaded.specs.Sets.{lead_by, first_led, next_led}
use Rattle.loaded.specs.Players.{owner_in}
use Rattle.loaded.proofs.Owners.{player_read}
use Rattle.loaded.proofs.Chains.{led_end, led_here, led_next}
use Rattle.gather.specs.Numbered.{Numbered}
use Rattle.gather.specs.Gathered.{ChainsFrom, Chained}

-- where a player's heads stand
heads_within : (p : Player) → (head_section_of one ≤ head_section_of p) × (head_section_of p + section_room ≤ next_section)
heads_within one = (omega arith, omega arith)
heads_within two = (omega arith, omega arith)

-- and that the players' are apart
heads_apart : (p r : Player) → ¬ T (same_player p r) → (i j : ℕ) → i < section_room → j < section_room → ¬ (head_section_of p + i ≡ head_section_of r + j)
heads_apart one one d i j u v e = d tt
heads_apart one two d i j u v e = omega arith
heads_apart two one d i j u v e = omega arith
heads_apart two two d i j u v e = d tt

-- a player has fewer sequences than a section has places
pub sequences_below : {g : Game} {l : List ℕ} → Numbered g l → (p : Player) → sequence_count g p < section_room
sequences_below {g} N p = omega (arith, sequences_few g N.rules p, N.decoded.few_nodes)

module _ {g : Game} {l : List ℕ} (N : Numbered g l) {h : ℕ} (v : h < g.sets) where
  -- the heads that are read are those of set h's player
  pub heads_are : {p : Player} {heads : ℕ} → p ≡ owner_in l h → heads ≡ head_section_of p → heads ≡ head_section_of (g.set_player h)
  heads_are e f = f ∙ ap head_section_of (player_read N.decoded v e)

  -- the sequence that is read leads to it
  pub lead_is : {lead : ℕ} → lead ≡ item l (lead_section + h) → lead ≡ leading_number g h
  lead_is e = e ∙ N.leads.at 0 h v

  -- and is one of the player's
  lead_below : leading_number g h < sequence_count g (g.set_player h)
  lead_below = (leading_number_lem g N.rules h v).0

  -- so its head is a place of the section
  pub head_in : {heads lead : ℕ} → heads ≡ head_section_of (g.set_player h) → lead ≡ leading_number g h → (head_section_of one ≤ heads + lead) × (heads + lead < next_section)
  head_in e f =
      let w = heads_within (g.set_player h) in
      (omega (arith, w.0), omega (arith, w.1, lead_below, sequences_below N (g.set_player h)))

  -- A set is linked by two stores: what comes after it, and itself at the head.
  module _ (heads lead next : ℕ) {m k : List ℕ} (heads_is : heads ≡ head_section_of (g.set_player h)) (lead_led : lead ≡ leading_number g h) (first : m ≡ set l (next_section + h) next) (second : k ≡ set m (heads + lead) h) where
    -- they change nothing but the chains
    pub link_apart : Apart (head_section_of one) numbers_room l k
    link_apart =
        let one_put : Apart (head_section_of one) numbers_room l m = apart_set (next_section + h) next apart_none first (omega arith) (omega (arith, N.decoded.few_sets)) in
        let i = head_in heads_is lead_led in
        apart_set (heads + lead) h one_put second i.0 (omega (arith, i.1))

    module _ (C : ChainsFrom g (h + 1) l) where
      -- the first store leaves the heads as they were
      heads_still : (q : Player) → Held (head_section_of q) (λ s. first_led g q s (h + 1)) (sequence_count g q) m
      heads_still q = held_still (next_section + h) next (C.heads q) first (λ i u e. omega (arith, (heads_within q).1, sequences_below N q))

      -- the second puts one of them anew
      heads_linked : (q : Player) → Held (head_section_of q) (λ s. first_led g q s h) (sequence_count g q) k
      unfolding lead_by owns
      heads_linked q =
          elim (dec (owns g q h)) [
            | yes o ↦
                let same : g.set_player h ≡ q = owner g q h o in
                held_put (λ s. first_led g q s h) lead h (heads_still q) (second ∙ ap (λ (a : ℕ). set m (a + lead) h) (heads_is ∙ ap head_section_of same)) (subst (λ (r : Player). lead < sequence_count g r) same (omega (arith, lead_below)))
                (sym (ap (λ (s : ℕ). first_led g q s h) lead_led ∙ subst (λ (r : Player). first_led g r (leading_number g h) h ≡ h) same (led_here g h v)))
                (λ s u d. led_next g q s h v (λ t. d (sym (lead_led ∙ eqb→eq (leading_number g h) s (and_yes (owns g q h) (eqb (leading_number g h) s) t).1))))
            | no o ↦
                held_as (λ s. first_led g q s h)
                (held_still (heads + lead) h (heads_still q) second (λ i u e. heads_apart q (g.set_player h) o i lead (omega (arith, sequences_below N q)) (omega (arith, lead_below, sequences_below N (g.set_player h))) (e ∙ ap (λ (a : ℕ). a + lead) heads_is)))
                (λ s u. led_next g q s h v (λ t. o (and_yes (owns g q h) (eqb (leading_number g h) s) t).0))
          ]

      -- a place past the heads has what the first store left there
      past_heads : (d j : ℕ) → get_or k (next_section + j) d ≡ get_or (set l (next_section + h) next) (next_section + j) d
      past_heads d j =
          ap (λ (z : List ℕ). get_or z (next_section + j) d) second
          ∙ get_or-set_other m (heads + lead) (next_section + j) h d (λ e. omega (arith, (head_in heads_is lead_led).1))
          ∙ ap (λ (z : List ℕ). get_or z (next_section + j) d) first

      nexts_linked : next ≡ item l (heads + lead) → (d j : ℕ) → h ≤ j → j < g.sets → get_or k (next_section + j) d ≡ next_led g j
      unfolding next_led
      nexts_linked is d j a u =
          past_heads d j
          ∙ elim (ℕ_discrete j h) [
            | yes q ↦
                rw q
                (get_or-set_same l (next_section + h) next d (omega (arith, N.decoded.few_sets, N.decoded.room))
                ∙ is
                ∙ ap (λ (a : ℕ). item l (a + lead)) heads_is
                ∙ (C.heads (g.set_player h)).at 0 lead (omega (arith, lead_below))
                ∙ ap (λ (s : ℕ). first_led g (g.set_player h) s (h + 1)) lead_led)
            | no q ↦ get_or-set_other l (next_section + h) (next_section + j) next d (λ e. q (omega arith)) ∙ C.nexts d j (omega (arith, q)) u
          ]

      -- so the chains of the sets from h on are made
      pub linked : next ≡ item l (heads + lead) → ChainsFrom g h k
      linked is = record { heads = heads_linked; nexts = nexts_linked is }

-- both players' heads are filled
pub heads_filled : {g : Game} {a b : ℕ} {l m k : List ℕ} → Numbered g l → a ≡ sequence_count g one → b ≡ sequence_count g two → Apart (head_section_of one) (head_section_of one + a) l m → Apart (head_section_of two) (head_section_of two + b) m k → Apart (head_section_of one) numbers_room l k
heads_filled N a b first second = apart_twice (head_section_of one) numbers_room first second (omega arith) (omega (arith, sequences_below N one)) (omega arith) (omega (arith, sequences_below N two))

module _ (g : Game) where
  -- where the loop begins no chain has a set
  pub chains_none : (sets a b : ℕ) {l m k : List ℕ} → sets ≡ g.sets → a ≡ sequence_count g one → b ≡ sequence_count g two → Held (head_section_of one) (λ _. sets) a m → Held (head_section_of two) (λ _. sets) b k → Apart (head_section_of two) (head_section_of two + b) m k → Numbered g l → ChainsFrom g sets k
  chains_none sets a b {k = k} e ea eb first second kept N = record { heads = both; nexts = λ d j u v. absurd (omega arith) }
    where
      end : (p : Player) (s : ℕ) → sets ≡ first_led g p s sets
      end p s = rw e (sym (led_end g p s))

      both : (p : Player) → Held (head_section_of p) (λ s. first_led g p s sets) (sequence_count g p) k
      both one = held_as _ (rw ea at (held_before first kept (omega (arith, sequences_below N one)))) (λ s u. end one s)
      both two = held_as _ (rw eb at second) (λ s u. end two s)

  -- all sets
  pub chains_all : (left : ℕ) {l k : List ℕ} → ChainsFrom g left k → left ≡ 0 → Numbered g l → length k ≡ length l → Chained g k
  chains_all left C e N same =
      let D = rw e at C in
      record {
        heads = D.heads;
        nexts = record { long = omega (arith, N.decoded.few_sets, N.decoded.room); at = λ d i v. D.nexts d i (omega arith) v };
      }
