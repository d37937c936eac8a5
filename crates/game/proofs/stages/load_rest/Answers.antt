-- Each call leaves what the next asks, whichever game stands in the sections.
use native.Mathlib.Omega.{arith}
use Rattle.model.specs.Game.{Game}
use Rattle.gather.specs.Numbered.{Numbered}
use Rattle.gather.proofs.Numbered.{numbered_apart}
use Rattle.game.specs.Stages.{Sequenced}
use Rattle.game.proofs.RestStage.{counted, numbered, all_loaded}
use Rattle.game.proofs.stages.load_rest.Goals as goal
use Rattle.game.proofs.stages.load_rest.Goals.{After-leads, After-leaves, After-order}

-- after leads, order and leaves
after_leads : (c : After-leads) (g : Game) → Sequenced g c.args.counts c.args.numbers.now → Numbered g c.leads.new.numbers
after_leads c g S = numbered S c.leads.ensures.1 (c.leads.ensures.0 g (counted S).1 S.sequences.filled)

after_order : (c : After-order) (g : Game) → Sequenced g c.args.counts c.args.numbers.now → Numbered g c.order.new.numbers
after_order c g S =
    let after_leads : (g : Game) → Sequenced g c.args.counts c.args.numbers.now → Numbered g c.leads.new.numbers = λ g. λ S. numbered S c.leads.ensures.1 (c.leads.ensures.0 g (counted S).1 S.sequences.filled) in
    numbered_apart (after_leads g S) c.order.ensures.0 (omega arith)

after_leaves : (c : After-leaves) (g : Game) → Sequenced g c.args.counts c.args.numbers.now → Numbered g c.leaves.new.numbers
after_leaves c g S =
    let after_leads : (g : Game) → Sequenced g c.args.counts c.args.numbers.now → Numbered g c.leads.new.numbers = λ g. λ S. numbered S c.leads.ensures.1 (c.leads.ensures.0 g (counted S).1 S.sequences.filled) in
    let after_order : (g : Game) → Sequenced g c.args.counts c.args.numbers.now → Numbered g c.order.new.numbers = λ g. λ S. numbered_apart (after_leads g S) c.order.ensures.0 (omega arith) in
    numbered_apart (after_order g S) c.leaves.ensures.0 (omega arith)

pub returns : goal.returns
returns c g S =
    let n = counted S in
    all_loaded S c.leads.ensures.1 (after_leads (goal.at.returns c).After-leads g S) c.order.ensures.0 (c.order.ensures.1 g n.0 (after_leads (goal.at.returns c).After-leads g S)) c.leaves.ensures.0 (c.leaves.ensures.1 g n.0 (after_order (goal.at.returns c).After-order g S)) c.chains.ensures.0 (c.chains.ensures.1 g n.1 n.2 n.3 (after_leaves (goal.at.returns c).After-leaves g S))

pub leads-requires : goal.leads-requires
leads-requires c = let p = c.requires in (p.0, (counted p.1).1, p.1.sequences.filled)

pub order-requires : goal.order-requires
order-requires c = let p = c.requires in record { game = p.0; has = (counted p.1).0; numbered = after_leads (goal.at.order-requires c).After-leads p.0 p.1 }

pub leaves-requires : goal.leaves-requires
leaves-requires c = let p = c.requires in record { game = p.0; has = (counted p.1).0; numbered = after_order (goal.at.leaves-requires c).After-order p.0 p.1 }

pub chains-requires : goal.chains-requires
chains-requires c = let p = c.requires in let n = counted p.1 in record { game = p.0; has = (n.1, n.2, n.3); numbered = after_leaves (goal.at.chains-requires c).After-leaves p.0 p.1 }
