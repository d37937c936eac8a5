-- `children::ones` meets its contract: all 64 ones are the largest number, and fewer are below it.
use Rattle.tree.proofs.children.ones.Goals as goal

pub returns-then-k-eq64 : goal.returns-then-k-eq64
returns-then-k-eq64 c = rw c.if-k-eq64.true
