-- Of each kind its fields.
use borrow.Author.Rules.{rules}
use mathlib.Core.Path.{sym, ◌∙◌}
use Rattle.game_writer.specs.Nodes.{payload_by}
use Rattle.game_writer.proofs.payload_at.Goals as goal

pub returns-in-Leaf : goal.returns-in-Leaf
unfolding payload_by
returns-in-Leaf c = rw (sym c.from.ensures ∙ c.in-Leaf.is) (search rules)

pub returns-in-Decision : goal.returns-in-Decision
unfolding payload_by
returns-in-Decision c = rw (sym c.from.ensures ∙ c.in-Decision.is, c.index.ensures)

pub returns-in-Chance : goal.returns-in-Chance
unfolding payload_by
returns-in-Chance c = rw (sym c.from.ensures ∙ c.in-Chance.is, c.index-in-Chance.ensures)

pub returns-in-Unknown : goal.returns-in-Unknown
unfolding payload_by
returns-in-Unknown c = rw (sym c.from.ensures ∙ c.in-Unknown.is, c.index-in-Unknown.ensures)
