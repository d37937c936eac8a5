-- A player's side of a loaded game, and what is counted of it.
use Prim.Native.Nat.{◌≤◌}
use mathlib.Core.Path.{◌≡◌, refl, ap, ◌∙◌}
use native.Mathlib.Omega.{arith}
use Rattle.model.specs.Limits.{count_limit, GameLimits}
use Rattle.model.specs.Game.{Game, Player, one, two, other}
use Rattle.model.specs.Sequences.{sequence_count}
use Rattle.model.specs.Rules.{GameRules}
use Rattle.model.proofs.Numbers.{sequences_few}
use Rattle.loaded.specs.Sections.{leaf_section, payoff_section, head_section_of}
use Rattle.loaded.specs.Counts.{counts_of, side_of}
use Rattle.loaded.specs.declared.Counts.{Counts}
use Rattle.loaded.specs.declared.Side.{Side}

-- where a player's part of each section begins
side_own : (c : Counts) (p : Player) → (side_of c p).own ≡ leaf_section p
unfolding side_of
side_own c one = refl
side_own c two = refl

side_opponent : (c : Counts) (p : Player) → (side_of c p).opponent ≡ leaf_section (other p)
unfolding side_of
side_opponent c one = refl
side_opponent c two = refl

side_payoffs : (c : Counts) (p : Player) → (side_of c p).payoffs ≡ payoff_section p
unfolding side_of
side_payoffs c one = refl
side_payoffs c two = refl

side_heads : (c : Counts) (p : Player) → (side_of c p).heads ≡ head_section_of p
unfolding side_of
side_heads c one = refl
side_heads c two = refl

-- how many sequences he has
side_sequences : (g : Game) (p : Player) → (side_of (counts_of g) p).sequences ≡ sequence_count g p
unfolding side_of counts_of
side_sequences g one = refl
side_sequences g two = refl

module _ (c : Counts) (p : Player) {side : Side} (e : side ≡ side_of c p) where
  pub own_is : side.own ≡ leaf_section p
  own_is = ap (λ (v : Side). v.own) e ∙ side_own c p

  pub opponent_is : side.opponent ≡ leaf_section (other p)
  opponent_is = ap (λ (v : Side). v.opponent) e ∙ side_opponent c p

  pub payoffs_is : side.payoffs ≡ payoff_section p
  payoffs_is = ap (λ (v : Side). v.payoffs) e ∙ side_payoffs c p

  pub heads_is : side.heads ≡ head_section_of p
  heads_is = ap (λ (v : Side). v.heads) e ∙ side_heads c p

  pub sequences_is : (g : Game) → c ≡ counts_of g → side.sequences ≡ sequence_count g p
  sequences_is g i = ap (λ (v : Side). v.sequences) e ∙ ap (λ (k : Counts). (side_of k p).sequences) i ∙ side_sequences g p

-- how many sets there are
pub sets_counted : (g : Game) {c : Counts} → c ≡ counts_of g → c.sets ≡ g.sets
unfolding counts_of
sets_counted g e = ap (λ (c : Counts). c.sets) e

-- a player has no more sequences than there is room for
pub few_sequences : (g : Game) → GameRules g → GameLimits g → (p : Player) → sequence_count g p ≤ count_limit
few_sequences g R L p = omega (arith, sequences_few g R p, L.nodes)
