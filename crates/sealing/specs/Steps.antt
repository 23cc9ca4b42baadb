-- Steps of the code that the papers do not name: a payload block by block, two that need a run at a time. That they make up the papers'
-- definitions is proved. Assumes nothing.
use Rattle.std.specs.Prelude.{◌≡◌, true, false, List, ◌∷◌, ℕ, ◌+◌, ◌-◌, ◌*◌, ◌<◌, ◌≤◌, min, length, get_or}
use Rattle.std.specs.Int.Count.{ones}
use Rattle.octets.specs.Lists.{sum, tabulate, written}
use Rattle.envelope.specs.ControlMask.{blocks_of, control_octet, eqs_of, masked, needs_run, runs_below}
use Rattle.envelope.specs.CounterBlock.{counter_block}
use Rattle.envelope.specs.declared.Nonce.{Nonce}
use Rattle.gf256.specs.Lanes.{octet_at}
use Rattle.cipher.specs.Cipher.{cipher}
use Rattle.cipher.specs.FirstRound.{Kept}
use Rattle.cipher.specs.RowWords.{block_octets}
use Rattle.cipher.specs.declared.row_words.Block.{Block}
use Rattle.cipher.specs.declared.row_words.Rows.{Rows}
use Rattle.sealing.specs.Payload.{sealed}
use Rattle.sealing.specs.declared.counter_mode.Paired.{Paired}
use Rattle.envelope.specs.declared.Work.{Work}

-- p with the one or two EQs of block i sealed, and the others as they are
abbrev pub block_sealed : List ℕ → Nonce → List ℕ → ℕ → List ℕ
block_sealed w n p i = written (sealed w n p) (18 * i) (min (18 * i + 18) (length p)) p

-- p with its blocks below k sealed
abbrev pub sealed_below : List ℕ → Nonce → List ℕ → ℕ → List ℕ
sealed_below w n p k = written (sealed w n p) 0 (min (18 * k) (length p)) p

-- the EQ that starts at octet `at` of p, under the eight octets h of a cipher block: its control octet passes, and its data octets are masked
abbrev pub masked_eq : ℕ → List ℕ → ℕ → List ℕ
masked_eq h p at = get_or p at 0 ∷ tabulate 0 8 (λ j. masked (get_or p at 0) j (octet_at h j) (get_or p (at + (j + 1)) 0))

-- the octets that are enciphered in the one or two EQs of block k, and in the blocks below k
abbrev pub block_count : List ℕ → ℕ → ℕ
block_count p k = sum (2 * k) (min 2 (eqs_of p - 2 * k)) (λ e. 8 - ones (control_octet p e))

abbrev pub count_below : List ℕ → ℕ → ℕ
count_below p k = sum 0 (min (2 * k) (eqs_of p)) (λ e. 8 - ones (control_octet p e))

-- q is p with the one or two EQs of block i sealed, if b is the cipher block that serves them; so many octets are enciphered
pub record Masked (b : Block) (i : ℕ) (p q : List ℕ) (count : ℕ) : Type 0 where
  pub counted : count ≡ block_count p i
  pub few : count ≤ 16
  pub sealed : (w : List ℕ) (n : Nonce) → block_octets b ≡ cipher w (counter_block n i) → q ≡ block_sealed w n p i

-- q is p with the blocks i and j sealed, by the work r, if `kept` is what they share of round 1
pub record PairSealed (w : List ℕ) (kept : Rows) (i j : ℕ) (p q : List ℕ) (r : Work) : Type 0 where
  pub sealed : (n : Nonce) → Kept w n kept → q ≡ block_sealed w n (block_sealed w n p i) j
  pub count : (n : Nonce) → Kept w n kept → r.count ≡ block_count p i + block_count (block_sealed w n p i) j
  pub runs : r.runs ≡ 2

-- r is the first block from i on that needs a run, or `blocks`, as many as there are, where none does
pub record NextRun (p : List ℕ) (blocks i r : ℕ) : Type 0 where
  pub from : i ≤ r
  pub below : i ≤ blocks → r ≤ blocks
  pub idle : (k : ℕ) → i ≤ k → k < r → needs_run p k ≡ false
  pub needed : r < blocks → needs_run p r ≡ true

-- what pairs of runs leave: q has the blocks below the next one sealed, of which count and runs tell, and after that no block needs one
pub record PairsSealed (w : List ℕ) (n : Nonce) (p q : List ℕ) (r : Paired) : Type 0 where
  pub below : r.next ≤ blocks_of (length p)
  pub needed : r.next < blocks_of (length p) → needs_run p r.next ≡ true
  pub rest : (k : ℕ) → r.next < k → k < blocks_of (length p) → needs_run p k ≡ false
  pub sealed : q ≡ sealed_below w n p r.next
  pub count : r.count ≡ count_below p r.next
  pub runs : r.runs ≡ runs_below p r.next
