-- The payload of an envelope, enciphered under the control mask (01, Counter block and mask; 001, 11.3.5). Sealing and opening
-- are one act. w is the expanded key.
-- Assumes nothing.
use Rattle.std.specs.Prelude.{◌≡◌, true, List, ℕ, suc, ◌+◌, ◌*◌, ◌/◌, ◌%◌, ◌<◌, ◌≤◌, length, get_or}
use Rattle.octets.specs.Bits.{bit_of}
use Rattle.octets.specs.Lists.{tabulate}
use Rattle.envelope.specs.ControlMask.{eqs_of, control_octet, masked_at, count_enciphered, most_runs, needs_run, runs}
use Rattle.envelope.specs.CounterBlock.{counter_block}
use Rattle.envelope.specs.declared.Nonce.{Nonce}
use Rattle.cipher.specs.Cipher.{cipher}

-- the cipher block of EQ e: block k serves EQs 2k and 2k + 1
abbrev pub cipher_block : List ℕ → Nonce → ℕ → List ℕ
cipher_block w n e = cipher w (counter_block n (e / 2))

-- where EQ e's cipher octets start in its block: 0 for EQ 2k, 8 for EQ 2k + 1
abbrev pub half_of : ℕ → ℕ
half_of e = 8 * (e % 2)

-- octet i of the payload, sealed or opened
unfoldable pub sealed_octet : List ℕ → Nonce → List ℕ → ℕ → ℕ
sealed_octet w n p i = masked_at (cipher_block w n (i / 9)) (half_of (i / 9)) (control_octet p (i / 9)) (i % 9) (get_or p i 0)

unfoldable pub sealed : List ℕ → Nonce → List ℕ → List ℕ
sealed w n p = tabulate 0 (length p) (sealed_octet w n p)

-- what holds of every payload, key and nonce
pub record SealedLaws (w : List ℕ) (n : Nonce) (p : List ℕ) : Type 0 where
  pub same_length : length (sealed w n p) ≡ length p
  -- control octets pass
  pub control : (e : ℕ) → e < eqs_of p → control_octet (sealed w n p) e ≡ control_octet p e
  -- control characters pass
  pub character : (e j : ℕ) → e < eqs_of p → j < 8 → bit_of (control_octet p e) j ≡ 1
      → get_or (sealed w n p) (9 * e + suc j) 0 ≡ get_or p (9 * e + suc j) 0
  -- an octet becomes what itself, its place, its EQ's control octet, key and nonce make of it, whatever else the payload holds
  pub own : (q : List ℕ) (i : ℕ) → i < length p → i < length q → control_octet p (i / 9) ≡ control_octet q (i / 9) → get_or p i 0 ≡ get_or q i 0
      → get_or (sealed w n p) i 0 ≡ get_or (sealed w n q) i 0
  -- sealing and opening are one act: done twice, it gives the payload back, and both report one count
  pub twice : sealed w n (sealed w n p) ≡ p
  pub count : count_enciphered (sealed w n p) ≡ count_enciphered p
  -- 02, C-17: and as many runs of the cipher; at most half the EQs, rounded up, which a payload with a data octet in every block reaches
  pub as_often : runs (sealed w n p) ≡ runs p
  pub at_most : runs p ≤ most_runs p
  pub reached : ((k : ℕ) → k < most_runs p → needs_run p k ≡ true) → runs p ≡ most_runs p
