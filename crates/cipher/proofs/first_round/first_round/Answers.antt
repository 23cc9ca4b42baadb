-- `first_round::first_round` meets its contract: what is kept and what the index decides make up each row, and the rest is a round. Assumes nothing.
use Rattle.cipher.proofs.FirstRound.{first_round}
use Rattle.cipher.proofs.first_round.first_round.Goals as goal

pub returns : goal.returns
returns c = search first_round
