-- The leaves of a game, and number slices with one place a leaf.
use Rattle.std.specs.Prelude.{ℕ, ◌≤◌, ◌<◌, ◌≡◌, cond, List, [], ◌∷◌, length, get_or, ℤ}
use Rattle.algebra.specs.Arrays.{item}
use Rattle.algebra.specs.Bounded.{join_to}
use Rattle.model.specs.Game.{Game, Player, one, two, other, is_leaf}
use Rattle.model.specs.Table.{own_number}

module _ (g : Game) where
  -- node n alone, where it is a leaf
  unfoldable pub leaf_at : (n : ℕ) → List ℕ
  leaf_at n = cond (is_leaf g n) (n ∷ []) []

  -- the leaves below n, rising
  unfoldable pub leaves_below : (n : ℕ) → List ℕ
  leaves_below n = join_to n leaf_at

  -- all leaves
  unfoldable pub leaves_of : List ℕ
  leaves_of = leaves_below g.nodes

  -- the leaf at place k
  unfoldable pub leaf_of : (k : ℕ) → ℕ
  leaf_of k = item leaves_of k

  -- A slice holds f of each leaf, by place.
  pub record Column {A : Type 0} (f : ℕ → A) (l : List A) : Type 0 where
    pub long : length leaves_of ≤ length l
    pub at : (d : A) (k : ℕ) → k < length leaves_of → get_or l k d ≡ f (leaf_of k)

  -- All leaves stand in five slices: sequence numbers of player 1 and 2, chance weights, payoffs of player 1 and 2.
  pub record Gathered (count : ℕ) (first second chance : List ℕ) (payoffs1 payoffs2 : List ℤ) : Type 0 where
    pub counted : count ≡ length leaves_of
    pub first_is : Column (own_number g one) first
    pub second_is : Column (own_number g two) second
    pub chance_is : Column g.weight chance
    pub payoffs1_is : Column (g.payoff one) payoffs1
    pub payoffs2_is : Column (g.payoff two) payoffs2

  -- The same from one player's side: his own sequence numbers, the opponent's, chance weights and his payoffs.
  pub record PlayerLeaves (p : Player) (count : ℕ) (own opponent chance : List ℕ) (payoffs : List ℤ) : Type 0 where
    pub counted : count ≡ length leaves_of
    pub own_is : Column (own_number g p) own
    pub opponent_is : Column (own_number g (other p)) opponent
    pub chance_is : Column g.weight chance
    pub payoffs_is : Column (g.payoff p) payoffs
