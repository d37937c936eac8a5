-- What the lists have where refusal 17 of the game writer does not apply.
use Rattle.std.proofs.Common.{true, ◌≡◌, arith}
use Rattle.std.proofs.lemmas.Bool.Decides.{nat_tests}
use Rattle.algebra.proofs.Tests.{true→T}
use Rattle.model.specs.Writing.{GameFields, set_count, node_count, side_by_side, game_fields_fit}
use Rattle.model.proofs.FieldRules.{FieldRules, game_fields_iff}
use Rattle.fitting.specs.GameLists.{Beside, SetsFit, NodesFit}

module _ (t : GameFields) where
  -- lists side by side have one length
  pub beside : side_by_side t ≡ true → Beside t
  unfolding side_by_side set_count node_count
  beside e = record {
    parents = grind (arith, nat_tests);
    moves = grind (arith, nat_tests);
    weights = grind (arith, nat_tests);
    node_sets = grind (arith, nat_tests);
    chance_moves = grind (arith, nat_tests);
    payoffs1 = grind (arith, nat_tests);
    payoffs2 = grind (arith, nat_tests);
  }

  -- what was tested, in propositions
  pub fitting : game_fields_fit t ≡ true → FieldRules t
  fitting e = (game_fields_iff t).holds (true→T (game_fields_fit t) e)

  -- the sets' lists fit
  pub sets_fit : FieldRules t → SetsFit t
  unfolding set_count
  sets_fit f = record { beside = f.set_moves.0; few = f.sets }

  -- the nodes' lists fit
  pub nodes_fit : FieldRules t → NodesFit t
  unfolding node_count
  nodes_fit f = record {
    beside = record {
      parents = f.parents.0;
      moves = f.moves.0;
      weights = f.weights.0;
      node_sets = f.node_sets.0;
      chance_moves = f.chance_moves.0;
      payoffs1 = f.payoffs1.0;
      payoffs2 = f.payoffs2.0;
    };
    few = f.nodes;
    payoff1 = f.payoffs1.1;
    payoff2 = f.payoffs2.1;
  }
