-- The header, the set entries and the node records, each where the last one ends, are the file.
use native.Mathlib.Omega.{arith}
use borrow.Author.Rules.{rules}
use Rattle.model.specs.Writing.{set_count, node_count}
use Rattle.model.proofs.FieldRules.{FieldRules}
use Rattle.fitting.specs.GameLists.{fields_of_lists}
use Rattle.fitting.proofs.GameFits.{fitting, sets_fit, nodes_fit}
use Rattle.game_writer.proofs.GameFiles.{header_records, game_put}
use Rattle.game_writer.proofs.put_game.Goals as goal
use Rattle.game_writer.proofs.put_game.Goals.{Start}

fits : (c : Start) → FieldRules (fields_of_lists c.args.lists.now)
fits c = fitting (fields_of_lists c.args.lists.now) c.requires.1

pub returns : goal.returns
returns c =
    game_put (fields_of_lists c.args.lists.now) c.args.out.now c.requires.0
    c.put.ensures
    c.put_sets.ensures
    c.put_nodes.ensures

pub put_nodes-requires : goal.put_nodes-requires
unfolding set_count node_count
put_nodes-requires c =
    let f = fits (goal.at.put_nodes-requires c).Start in
    let records = header_records _ c.requires.0 in
    (nodes_fit _ f, omega (arith, records), omega (arith, records, f.sets), omega (arith, records))

pub put_sets-requires : goal.put_sets-requires
put_sets-requires c = (sets_fit _ (fits (goal.at.put_sets-requires c).Start), search rules)
