-- Each number is read from its section.
use Rattle.loaded.specs.SetSequences.{set_sequences_in}
use Rattle.loaded.proofs.set_sequences.Goals as goal

pub returns : goal.returns
unfolding set_sequences_in
returns c = λ i. record { start = c.number.ensures.0 i; moves = c.number-2.ensures.0 i; lead = c.number-3.ensures.0 i }
