-- A decision's moves are its set's; any other node's count stands in its payload.
use mathlib.Core.Path.{sym, ap, ◌∙◌}
use Rattle.records.specs.Records.{kind_of}
use Rattle.records.proofs.KindNumbers.{decision_number}
use Rattle.loaded.proofs.NodeReads.{kind_read, set_moves_read, moves_read}
use Rattle.tree.proofs.each_node.move_count.Goals as goal

pub returns-in-Decision : goal.returns-in-Decision
returns-in-Decision c = λ g D S.
    let k = sym (kind_read D S.inside) ∙ decision_number _ (sym c.kind.ensures ∙ c.in-Decision.is) in
    c.number.ensures.0 ∙ set_moves_read D S.inside c.number-payload.ensures.0 k (S.set k)

pub returns-in_default : goal.returns-in_default
unfolding kind_of
returns-in_default c = λ g D S. c.number-payload.ensures.0 ∙ moves_read D S.inside (λ e. c.in_default.not-Decision (c.kind.ensures ∙ ap kind_of (kind_read D S.inside ∙ e)))
