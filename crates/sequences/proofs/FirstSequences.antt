-- Laws of the numbers of the sets' first sequences, which are given out set by set.
use Prim.Native.Nat.{ℕ, ◌+◌, ◌<◌}
use mathlib.Core.Path.{◌≡◌, sym, ap, ◌∙◌}
use mathlib.Core.Bool.{Bool}
use mathlib.Core.List.{List}
use native.Mathlib.Omega.{arith}
use native.Mathlib.Numerals.{add-one}
use lib.Dec.{eqb, eqb→eq}
use lib.ListN.{get_or, set, replicate, get_or-replicate}
use Rattle.algebra.specs.Bounded.{total_to}
use Rattle.algebra.specs.Arrays.{item, Holds}
use Rattle.algebra.proofs.Tests.{cond_yes, cond_no, eqb_make}
use Rattle.algebra.proofs.Totals.{only, count_suc, count_cong}
use Rattle.algebra.proofs.Fillings.{holds_more}
use Rattle.model.specs.Game.{Game, Player, one, two, player_bit, owns, moves_before}
use Rattle.model.specs.Sequences.{sequence_count, move_number}
use Rattle.model.specs.Writing.{player_field}
use Rattle.model.proofs.Tree.{bit_tells, bit_below}
use Rattle.loaded.specs.Sections.{player_section, moves_section}
use Rattle.loaded.specs.Sets.{first_sequence}
use Rattle.loaded.specs.Loaded.{Decoded}
use Rattle.loaded.proofs.Owners.{bit_read, bit_small}
use Rattle.sequences.specs.declared.SequenceCounts.{SequenceCounts}
use Rattle.sequences.specs.Sets.{sequence_counts}

module _ (g : Game) where
  -- the number that the next sequence of the player with bit b gets, after the sets below h
  unfoldable pub next_number : (h b : ℕ) → ℕ
  next_number h b = 1 + total_to h (λ k. only (eqb (player_field g k) b) (g.set_moves k))

  -- it comes after those of the player's sets below h
  next_of : (h : ℕ) (p : Player) → next_number h (player_bit p) ≡ 1 + moves_before g p h
  unfolding next_number moves_before owns player_field
  next_of h p =
      ap (λ (n : ℕ). 1 + n)
      (count_cong h _ _ (λ k l. ap (λ (t : Bool). only t (g.set_moves k)) (bit_tells p (g.set_player k))))

  -- set h gives it to its own first sequence
  next_first : (h : ℕ) → next_number h (player_field g h) ≡ first_sequence g h
  unfolding first_sequence move_number player_field
  next_first h = omega (arith, next_of h (g.set_player h))

  -- and takes as many as it has moves
  next_more : (h b : ℕ) → next_number (h + 1) b ≡ next_number h b + only (eqb (player_field g h) b) (g.set_moves h)
  unfolding next_number
  next_more h b = rw (add-one h) (omega (arith, count_suc h (λ k. only (eqb (player_field g k) b) (g.set_moves k))))

  -- no set has taken any
  pub next_none : Holds (next_number 0) 2 (replicate 2 1)
  unfolding next_number total_to
  next_none = record { long = omega arith; at = λ b l. get_or-replicate 2 b 1 0 l }

  -- after the last set it is how many there are
  next_count : (h : ℕ) (p : Player) {next : List ℕ} → Holds (next_number h) 2 next → h ≡ g.sets → get_or next (player_bit p) 0 ≡ sequence_count g p
  unfolding sequence_count
  next_count h p N e = N.at (player_bit p) (bit_below p) ∙ rw e (next_of g.sets p)

  -- of each player
  pub next_counts : (h : ℕ) {next : List ℕ} → Holds (next_number h) 2 next → h ≡ g.sets → ◌≡◌ {A = SequenceCounts} (record { first = get_or next 0 0; second = get_or next 1 0 }) (sequence_counts g)
  unfolding sequence_counts
  next_counts h N e = rw (next_count h one N e, next_count h two N e)

-- The player and the move count of set h are read.
module _ {g : Game} {l : List ℕ} (D : Decoded g l) {h b : ℕ} (v : h < g.sets) (e : b ≡ item l (player_section + h)) where
  -- the number there is that of the set's first sequence
  pub next_at : {next : List ℕ} → Holds (next_number g h) 2 next → get_or next b 0 ≡ first_sequence g h
  next_at N = N.at b (bit_small D v e) ∙ rw (bit_read D v e) (next_first g h)

  -- and the set's moves are added to it
  pub next_add : {next : List ℕ} (m : ℕ) → m ≡ item l (moves_section + h) → Holds (next_number g h) 2 next → Holds (next_number g (h + 1)) 2 (set next b (get_or next b 0 + m))
  next_add {next} m d N = holds_more (next_number g h) (next_number g (h + 1)) 2 next b (get_or next b 0 + m) N (bit_small D v e) here others
    where
      bit : ℕ
      bit = player_field g h

      moves : m ≡ g.set_moves h
      moves = d ∙ D.sets_decoded.moves.at 0 h v

      here : get_or next b 0 + m ≡ next_number g (h + 1) b
      here = omega (arith, N.at b (bit_small D v e), next_more g h b, cond_yes (eqb bit b) (g.set_moves h) 0 (eqb_make bit b (sym (bit_read D v e))), moves)

      others : (i : ℕ) → ¬ (i ≡ b) → next_number g h i ≡ next_number g (h + 1) i
      others i c = omega (arith, next_more g h i, cond_no (eqb bit i) (g.set_moves h) 0 (λ t. c (sym (bit_read D v e ∙ eqb→eq bit i t))))
