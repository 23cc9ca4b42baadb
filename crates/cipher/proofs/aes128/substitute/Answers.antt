-- `aes128::substitute` meets its contract: the entry of the lent table at an octet is its substitution. Assumes nothing.
use Rattle.gf256.specs.Substitution.{sbox}
use Rattle.gf256.proofs.Table.{table_at}
use borrow.Author.Rules.{rules}
use Rattle.cipher.proofs.aes128.substitute.Goals as goal

pub returns : goal.returns
returns c = rw c.requires (table_at sbox c.args.x (search rules))
