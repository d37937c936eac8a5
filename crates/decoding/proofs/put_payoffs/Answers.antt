-- The two stores are the definition's: a payoff fits 16 bits, so what is stored is the payoff.
use mir.Facts.{to_z-of_z}
use Rattle.decoding.proofs.Nodes.{both_put}
use Rattle.decoding.proofs.put_payoffs.Goals as goal

pub returns : goal.returns
returns c = both_put _ _ _ _ c.put_payoff.ensures c.put_payoff-2.ensures (to_z-of_z c.ranges.payoff1) (to_z-of_z c.ranges.payoff2)
