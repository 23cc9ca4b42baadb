-- Laws of the octets that are enciphered, block by block: a block that needs no run has none, and how those of the others add up. Assumes nothing.
use mathlib.Core.Path.{◌≡◌, refl, ap, ◌∙◌}
use mathlib.Core.Bool.{true, false}
use mathlib.Core.List.{List}
use Prim.Native.Nat.{ℕ, zero, suc, ◌+◌, ◌-◌, ◌*◌, ◌/◌, ◌%◌, ◌^◌, ◌<◌, ◌≤◌, min}
use native.Mathlib.Nat.{add-zero, zero-add, div-div-eq-div-mul, mul_comm, pow-suc}
use native.Mathlib.Omega.{arith}
use lib.Count.{ones, ones_step}
use lib.ListN.{length}
use Rattle.octets.specs.Bits.{bit_of}
use Rattle.octets.specs.Choice.{pick}
use Rattle.octets.specs.Lists.{sum}
use Rattle.octets.proofs.Lists.{sum_below, sum_ext, written_all}
use Rattle.envelope.specs.ControlMask.{blocks_of, control_octet, count_enciphered, eqs_of, most_runs, needs_run, runs, runs_below}
use Rattle.envelope.specs.declared.Nonce.{Nonce}
use Rattle.cipher.specs.FirstRound.{Kept}
use Rattle.cipher.specs.declared.row_words.Rows.{Rows}
use Rattle.sealing.specs.Payload.{sealed}
use Rattle.sealing.specs.Steps.{NextRun, PairSealed, block_count, block_sealed, count_below, sealed_below}
use Rattle.envelope.specs.declared.Work.{Work}
use Rattle.sealing.proofs.Payload.{sealed_length}
use Rattle.sealing.proofs.Runs.{all_bits, idle_eq, idle_more, one_more, run_more, same_past, stretch}

-- n set bits at the lowest places are as many ones
set_bits : (n c : ℕ) → ((j : ℕ) → j < n → bit_of c j ≡ 1) → n ≤ ones c
unfolding bit_of
set_bits zero c set = omega arith
set_bits (suc n) c set =
    let lowest : c / 2 ^ 0 % 2 ≡ 1 = set 0 (omega arith) in
    let rest : n ≤ ones (c / 2) = set_bits n (c / 2) (λ j l. ap (λ (x : ℕ). x % 2) (halved j) ∙ set (suc j) (omega arith)) in
    omega (arith, ones_step c) where
      halved : (j : ℕ) → c / 2 / 2 ^ j ≡ c / 2 ^ suc j
      halved j = rw pow-suc (div-div-eq-div-mul c 2 (2 ^ j) ∙ ap (λ (x : ℕ). c / x) (mul_comm 2 (2 ^ j)))

-- a sum in two parts
sum_parts : (i n m : ℕ) (f : ℕ → ℕ) → sum i (n + m) f ≡ sum i n f + sum (i + n) m f
sum_parts i zero m f = rw (zero-add m, add-zero) (omega arith)
sum_parts i (suc n) m f =
    let parts : suc n + m ≡ suc (n + m) = omega arith in
    let place : i + suc n ≡ suc i + n = omega arith in
    rw (parts, place) (omega (arith, sum_parts (suc i) n m f))

module _ (p : List ℕ) where
  pub count_at_most : (k : ℕ) → count_below p k ≤ 16 * k
  count_at_most k = omega (arith, sum_below 0 (min (2 * k) (eqs_of p)) 8 (λ e. 8 - ones (control_octet p e)) (λ e. omega arith))

  count_more : (k : ℕ) → 2 * k ≤ eqs_of p → count_below p (k + 1) ≡ count_below p k + block_count p k
  count_more k h =
      let before : min (2 * k) (eqs_of p) ≡ 2 * k = omega arith in
      let after : min (2 * (k + 1)) (eqs_of p) ≡ 2 * k + min 2 (eqs_of p - 2 * k) = omega arith in
      rw (before, after) (rw zero-add at (sum_parts 0 (2 * k) (min 2 (eqs_of p - 2 * k)) (λ e. 8 - ones (control_octet p e))))

  idle_count : (k : ℕ) → needs_run p k ≡ false → block_count p k ≡ 0
  idle_count k idle =
      let none : block_count p k ≡ sum (2 * k) (min 2 (eqs_of p - 2 * k)) (λ e. 0) =
      sum_ext (2 * k) (min 2 (eqs_of p - 2 * k)) (λ e. 8 - ones (control_octet p e)) (λ e. 0)
      (λ e a b. omega (arith, set_bits 8 (control_octet p e) (all_bits (control_octet p e) (idle_eq p k e idle (omega arith) (omega arith))))) in
      omega (arith, sum_below (2 * k) (min 2 (eqs_of p - 2 * k)) 0 (λ e. 0) (λ e. omega arith))

---- the blocks below k

-- q is p with its blocks below k sealed, which enciphers c octets in t runs
pub record Below (w : List ℕ) (n : Nonce) (p : List ℕ) (k : ℕ) (q : List ℕ) (c t : ℕ) : Type 0 where
  pub sealed : q ≡ sealed_below w n p k
  pub count : c ≡ count_below p k
  pub runs : t ≡ runs_below p k

module _ (w : List ℕ) (n : Nonce) (p : List ℕ) (whole : length p % 9 ≡ 0) where
  -- blocks that need no run, one after the other
  pub idle_below : (i r : ℕ) {q : List ℕ} {count t : ℕ} → i ≤ r → r ≤ blocks_of (length p)
      → ((k : ℕ) → i ≤ k → k < r → needs_run p k ≡ false)
      → Below w n p i q count t → Below w n p r q count t
  unfolding pick
  idle_below i r {q} {count} {t} h l idle =
      stretch (λ k. Below w n p k q count t) i r h
      (λ k a b done.
      record {
        sealed = done.sealed ∙ idle_more w n p whole k (idle k a b);
        count = omega (arith, done.count, count_more p k (omega arith), idle_count p k (idle k a b));
        runs = omega (arith, done.runs, run_more p k false (idle k a b));
      })

  -- before the first block that needs a run, nothing is to be sealed
  pub first_below : (i : ℕ) → NextRun p (blocks_of (length p)) 0 i → Below w n p i p 0 0
  first_below i next =
      let octets : min (18 * 0) (length p) ≡ 0 = omega arith in
      let eqs : min (2 * 0) (eqs_of p) ≡ 0 = omega arith in
      idle_below 0 i (omega arith) (next.below (omega arith)) next.idle record { sealed = rw octets; count = rw eqs; runs = refl }

  -- one block more that needs a run, as it is when those below it are sealed
  pub one_below : (k : ℕ) {q : List ℕ} {count t : ℕ} → k < blocks_of (length p) → needs_run p k ≡ true → Below w n p k q count t
      → Below w n p (k + 1) (block_sealed w n q k) (count + block_count q k) (t + 1)
  unfolding pick
  one_below k {q} {count} {t} h need done =
      let same : block_count q k ≡ block_count p k = rw done.sealed (same_past w n p whole (λ o. 8 - ones o) k k (omega arith)) in
      record {
        sealed = rw done.sealed (one_more w n p whole k h);
        count = omega (arith, done.count, same, count_more p k (omega arith));
        runs = omega (arith, done.runs, run_more p k true need);
      }

  -- two blocks that need a run, with none between them that does
  pub two_below : (i j : ℕ) {q r : List ℕ} {count t : ℕ} {kept : Rows} {work : Work} → j < blocks_of (length p) → needs_run p i ≡ true
      → NextRun p (blocks_of (length p)) (i + 1) j
      → Kept w n kept → PairSealed w kept i j q r work → Below w n p i q count t → Below w n p (j + 1) r (count + work.count) (t + work.runs)
  two_below i j h need next share pair done =
      let after : i + 1 ≤ j = next.from in
      let both = one_below j h (next.needed h) (idle_below (i + 1) j after (omega arith) next.idle (one_below i (omega arith) need done)) in
      record {
        sealed = pair.sealed n share ∙ both.sealed;
        count = omega (arith, pair.count n share, both.count);
        runs = omega (arith, pair.runs, both.runs);
      }

  pub all_below : {q : List ℕ} {count t : ℕ} → Below w n p (blocks_of (length p)) q count t
      → (q ≡ sealed w n p) × (count ≡ count_enciphered p) × (t ≡ runs p)
  unfolding count_enciphered runs
  all_below done =
      let octets : min (18 * blocks_of (length p)) (length p) ≡ length p = omega arith in
      let eqs : min (2 * blocks_of (length p)) (eqs_of p) ≡ eqs_of p = omega arith in
      let most : blocks_of (length p) ≡ most_runs p = omega arith in
      (rw octets at done.sealed ∙ written_all (sealed w n p) p (sealed_length w n p), rw eqs at done.count, rw most at done.runs)

  -- the last block that needs a run
  pub last_below : (k : ℕ) {q : List ℕ} {count t : ℕ} → k < blocks_of (length p) → needs_run p k ≡ true
      → ((b : ℕ) → k < b → b < blocks_of (length p) → needs_run p b ≡ false) → Below w n p k q count t
      → (block_sealed w n q k ≡ sealed w n p) × (count + block_count q k ≡ count_enciphered p) × (t + 1 ≡ runs p)
  last_below k h need idle done =
      all_below
      (idle_below (k + 1) (blocks_of (length p)) (omega arith) (omega arith) (λ b l u. idle b (omega arith) u) (one_below k h need done))
