-- `key_expansion::next_key` meets its contract, word by word. Assumes nothing.
use Rattle.cipher.proofs.KeyExpansion.{key_words}
use Rattle.cipher.proofs.key_expansion.next_key.Goals as goal

pub returns : goal.returns
returns c = search key_words
