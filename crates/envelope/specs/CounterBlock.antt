-- The counter block (01, Counter block and mask; 001, 11.3.5.4). Assumes nothing.
use Rattle.std.specs.Prelude.{List, ◌∷◌, ◌++◌, ℕ}
use Rattle.octets.specs.BigEndian.{octets_of}
use Rattle.envelope.specs.declared.Nonce.{Nonce}

-- block k of an envelope: channel index (1 octet), sender's MAC (6), cipher clock at the header (6), block index (3)
unfoldable pub counter_block : Nonce → ℕ → List ℕ
counter_block n k = n.channel ∷ (octets_of 6 n.mac ++ (octets_of 6 n.clock ++ octets_of 3 k))
