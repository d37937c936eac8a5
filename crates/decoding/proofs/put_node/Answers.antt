-- The five stores are the definition's.
use Rattle.decoding.specs.Puts.{node_put}
use Rattle.decoding.proofs.put_node.Goals as goal

pub returns : goal.returns
unfolding node_put
returns c = rw (c.put-5.ensures, c.payload_number.ensures, c.put-4.ensures, c.put-3.ensures, c.put-2.ensures, c.put.ensures, c.number-kind.ensures, c.kind.ensures)
