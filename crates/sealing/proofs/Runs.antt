-- Laws of runs of the cipher (02, C-17): the test on control octets, that a block with nothing to encipher is sealed as it is, and how runs add up.
-- Assumes nothing.
use mathlib.Core.Path.{◌≡◌, refl, ap, sym, ◌∙◌}
use mathlib.Core.Bool.{Bool, true, false}
use mathlib.Core.List.{List, append_assoc}
use mathlib.Core.Logic.{⊎_elim}
use Prim.Native.Nat.{ℕ, zero, suc, ◌+◌, ◌-◌, ◌*◌, ◌/◌, ◌%◌, ◌<◌, ◌≤◌, min}
use native.Mathlib.Nat.{add-zero, eq-or-lt_of_le, sub-zero}
use native.Mathlib.Numerals.{add-one}
use native.Mathlib.Omega.{arith}
use borrow.Author.Tests.{ltb-true, ltb-false, lt-ltb, le-ltb}
use lib.Bits.{bit_and, and_le_l, and_le_r}
use lib.Dec.{T, ltb}
use lib.ListN.{length, get_or, drop}
use lib.Seq.{drop-cons, take-suc}
use Rattle.octets.specs.Bits.{bit_of}
use Rattle.octets.specs.Choice.{pick}
use Rattle.octets.specs.Lists.{sum, written}
use Rattle.octets.proofs.Bits.{bit_below}
use Rattle.octets.proofs.Lists.{sum_ext, sum_more, written_length, written_rest}
use Rattle.octets.proofs.Table.{every}
use Rattle.envelope.specs.ControlMask.{blocks_of, control_octet, to_encipher, eqs_of, masked, masked_at, needs_run, runs_below}
use Rattle.envelope.specs.declared.Nonce.{Nonce}
use Rattle.gf256.specs.Table.{table}
use Rattle.gf256.proofs.Table.{follows}
use Rattle.sealing.specs.Payload.{cipher_block, half_of, sealed_octet, sealed}
use Rattle.sealing.specs.Steps.{NextRun, block_sealed, sealed_below}
use Rattle.sealing.proofs.DataOctets.{by_test}
use Rattle.sealing.proofs.Payload.{block_more, same_from, sealed_at, sealed_length}

---- the test on control octets

-- 1 where the test holds
abbrev one : Bool → ℕ
one t = pick t 1 0

same_test : (s t : Bool) → one s ≡ one t → s ≡ t
unfolding pick
same_test true true e = refl
same_test true false e = absurd (omega arith)
same_test false true e = absurd (omega arith)
same_test false false e = refl

unfoldable left : ℕ → ℕ
left c = one (ltb 0 (to_encipher c))

unfoldable short : ℕ → ℕ
short c = one (ltb c 255)

-- the one computed test, of the 256 control octets
right : T (every (follows short) 0 (table left))
unfolding table left short pick bit_of
right = tt

-- a control octet leaves data octets unless it is FF hex
data_left : (c : ℕ) → c < 256 → ltb 0 (to_encipher c) ≡ ltb c 255
unfolding left short
data_left c h = same_test _ _ (by_test left short right c h)

-- either of two tests, by the octets' bits
either_left : (a b c d : ℕ) → c < 256 → d < 256 → ltb 0 a ≡ ltb c 255 → ltb 0 b ≡ ltb d 255 → ltb 0 (a + b) ≡ ltb (bit_and c d) 255
either_left a b c d h l p q = by (ltb c 255) (ltb d 255) refl refl where
  by : (s t : Bool) → ltb c 255 ≡ s → ltb d 255 ≡ t → ltb 0 (a + b) ≡ ltb (bit_and c d) 255
  by true t e f =
      lt-ltb 0 (a + b) (omega (arith, ltb-true 0 a (p ∙ e))) ∙ sym (lt-ltb (bit_and c d) 255 (omega (arith, ltb-true c 255 e, and_le_l c d)))
  by false true e f =
      lt-ltb 0 (a + b) (omega (arith, ltb-true 0 b (q ∙ f))) ∙ sym (lt-ltb (bit_and c d) 255 (omega (arith, ltb-true d 255 f, and_le_r c d)))
  by false false e f =
      let c-is : c ≡ 255 = omega (arith, ltb-false c 255 e) in
      let d-is : d ≡ 255 = omega (arith, ltb-false d 255 f) in
      le-ltb 0 (a + b) (omega (arith, ltb-false 0 a (p ∙ e), ltb-false 0 b (q ∙ f))) ∙ rw (c-is, d-is)

-- the sum of f over the control octets of block k
abbrev pub over_block : (ℕ → ℕ) → List ℕ → ℕ → ℕ
over_block f p k = sum (2 * k) (min 2 (eqs_of p - 2 * k)) (λ e. f (control_octet p e))

-- of a block of two EQs, and of a last one of one; and so its test
module _ (p : List ℕ) (k : ℕ) where
  pub over_two : (f : ℕ → ℕ) → 2 * k + 2 ≤ eqs_of p → over_block f p k ≡ f (get_or p (18 * k) 0) + f (get_or p (18 * k + 9) 0)
  over_two f h =
      let two : min 2 (eqs_of p - 2 * k) ≡ 2 = omega arith in
      let first : 9 * (2 * k) ≡ 18 * k = omega arith in
      let second : 9 * suc (2 * k) ≡ 18 * k + 9 = omega arith in
      rw (two, add-zero, first, second)

  pub over_one : (f : ℕ → ℕ) → eqs_of p ≡ 2 * k + 1 → over_block f p k ≡ f (get_or p (18 * k) 0)
  over_one f h =
      let single : min 2 (eqs_of p - 2 * k) ≡ 1 = omega arith in
      let first : 9 * (2 * k) ≡ 18 * k = omega arith in
      rw (single, add-zero, first)

  pub needs_two : 2 * k + 2 ≤ eqs_of p → get_or p (18 * k) 0 < 256 → get_or p (18 * k + 9) 0 < 256
      → needs_run p k ≡ ltb (bit_and (get_or p (18 * k) 0) (get_or p (18 * k + 9) 0)) 255
  unfolding needs_run
  needs_two h a b =
      let c = get_or p (18 * k) 0 in
      let d = get_or p (18 * k + 9) 0 in
      ap (ltb 0) (over_two to_encipher h) ∙ either_left (to_encipher c) (to_encipher d) c d a b (data_left c a) (data_left d b)

  pub needs_one : eqs_of p ≡ 2 * k + 1 → get_or p (18 * k) 0 < 256 → needs_run p k ≡ ltb (get_or p (18 * k) 0) 255
  unfolding needs_run
  needs_one h a = ap (ltb 0) (over_one to_encipher h) ∙ data_left _ a

---- a block with nothing to encipher

-- what each step from i up to r keeps holds at r
pub stretch : (P : ℕ → Type 0) (i r : ℕ) → i ≤ r → ((k : ℕ) → i ≤ k → k < r → P k → P (k + 1)) → P i → P r
stretch P i r h step base =
    let there : i + (r - i) ≡ r = omega arith in
    rw there at (from (r - i) (omega arith)) where
      from : (d : ℕ) → i + d ≤ r → P (i + d)
      from zero l = rw add-zero base
      from (suc d) l =
          let next : i + suc d ≡ i + d + 1 = omega arith in
          rw next (step (i + d) (omega arith) (omega arith) (from d (omega arith)))

-- a sum of 0 has no other term
sum_zero : (i n : ℕ) (f : ℕ → ℕ) → sum i n f ≡ 0 → (k : ℕ) → i ≤ k → k < i + n → f k ≡ 0
sum_zero i zero f e k a b = absurd (omega arith)
sum_zero i (suc n) f e k a b =
    ⊎_elim (λ (here : i ≡ k). rw (← here) (omega arith)) (λ (past : i < k). sum_zero (suc i) n f (omega arith) k past (omega arith)) (eq-or-lt_of_le a)

pub all_bits : (c : ℕ) → to_encipher c ≡ 0 → (j : ℕ) → j < 8 → bit_of c j ≡ 1
all_bits c e j h =
    let none : 1 - bit_of c j ≡ 0 = sum_zero 0 8 (λ j. 1 - bit_of c j) e j (omega arith) (omega arith) in
    omega (arith, bit_below c j)

passes : (block : List ℕ) (half c place x : ℕ) → to_encipher c ≡ 0 → place < 9 → masked_at block half c place x ≡ x
unfolding masked_at masked pick
passes block half c zero x e h = refl
passes block half c (suc j) x e h = rw (all_bits c e j (omega arith))

-- every EQ of a block that needs no run has nothing to encipher
pub idle_eq : (p : List ℕ) (k e : ℕ) → needs_run p k ≡ false → e / 2 ≡ k → e < eqs_of p → to_encipher (control_octet p e) ≡ 0
unfolding needs_run
idle_eq p k e idle block h =
    let f : ℕ → ℕ = λ (e : ℕ). to_encipher (control_octet p e) in
    let none : sum (2 * k) (min 2 (eqs_of p - 2 * k)) f ≤ 0 = ltb-false 0 (sum (2 * k) (min 2 (eqs_of p - 2 * k)) f) idle in
    sum_zero (2 * k) (min 2 (eqs_of p - 2 * k)) f (omega arith) e (omega arith) (omega arith)

module _ (w : List ℕ) (n : Nonce) (p : List ℕ) (whole : length p % 9 ≡ 0) where
  idle_octet : (k x : ℕ) → needs_run p k ≡ false → 18 * k ≤ x → x < 18 * k + 18 → x < length p → get_or (sealed w n p) x 0 ≡ get_or p x 0
  unfolding sealed_octet
  idle_octet k x idle a b h =
      sealed_at w n p x h
      ∙ passes (cipher_block w n (x / 9)) (half_of (x / 9)) (control_octet p (x / 9)) (x % 9) (get_or p x 0)
      (idle_eq p k (x / 9) idle (omega arith) (omega arith))
      (omega arith)

  -- it is sealed as it is
  pub idle_more : (k : ℕ) → needs_run p k ≡ false → sealed_below w n p k ≡ sealed_below w n p (k + 1)
  idle_more k idle =
      let s = sealed w n p in
      let a = min (18 * k) (length p) in
      let long : length s ≡ length p = sealed_length w n p in
      stretch (λ e. written s 0 a p ≡ written s 0 e p) a (min (18 * (k + 1)) (length p)) (omega arith)
      (λ x l u same. same ∙ same_octet s p x (omega arith) (omega arith) (idle_octet k x idle (omega arith) (omega arith) (omega arith))) refl where
        same_octet : (s p : List ℕ) (x : ℕ) → x < length s → x < length p → get_or s x 0 ≡ get_or p x 0
            → written s 0 x p ≡ written s 0 (x + 1) p
        same_octet s p x hs hp e =
            simp (sub-zero, add-one) (rw (take-suc s x 0 hs, drop-cons p x 0 hp, e, append_assoc))

  -- one block more
  pub one_more : (k : ℕ) → k < blocks_of (length p) → block_sealed w n (sealed_below w n p k) k ≡ sealed_below w n p (k + 1)
  one_more k h =
      let start : min (18 * k) (length p) ≡ 18 * k = omega arith in
      let next : min (18 * k + 18) (length p) ≡ min (18 * (k + 1)) (length p) = omega arith in
      rw (start, ← next) (block_more w n p k whole (omega arith))

  -- what lies past the sealed blocks has the control octets that it had, and so whatever is summed over those of a block
  pub same_past : (f : ℕ → ℕ) (m k : ℕ) → m ≤ k → over_block f (sealed_below w n p m) k ≡ over_block f p k
  same_past f m k h =
      let s = sealed w n p in
      let a = min (18 * m) (length p) in
      let q = sealed_below w n p m in
      let fits : length s ≡ length p = sealed_length w n p in
      let long : length q ≡ length p = written_length s 0 a p (omega arith) (omega arith) (omega arith) in
      let rest : drop a q ≡ drop a p = written_rest s 0 a p (omega arith) (omega arith) (omega arith) in
      rw long
      (sum_ext (2 * k) (min 2 (length p / 9 - 2 * k)) (λ e. f (control_octet q e)) (λ e. f (control_octet p e))
      (λ e b c. ap f (same_from p q a (9 * e) rest (omega arith))))

  needs_past : (m k : ℕ) → m ≤ k → needs_run (sealed_below w n p m) k ≡ needs_run p k
  unfolding needs_run
  needs_past m k h = ap (ltb 0) (same_past to_encipher m k h)

  pub next_past : (m i : ℕ) {r : ℕ} → m ≤ i → NextRun (sealed_below w n p m) (blocks_of (length p)) i r → NextRun p (blocks_of (length p)) i r
  next_past m i {r} h next =
      let after : i ≤ r = next.from in
      record {
        from = after;
        below = next.below;
        idle = λ k a b. sym (needs_past m k (omega arith)) ∙ next.idle k a b;
        needed = λ b. sym (needs_past m r (omega arith)) ∙ next.needed b;
      }

-- one block more, with a run if it needs one
pub run_more : (p : List ℕ) (k : ℕ) (t : Bool) → needs_run p k ≡ t → runs_below p (k + 1) ≡ runs_below p k + pick t 1 0
run_more p k t e = sum_more (λ b. pick (needs_run p b) 1 0) k ∙ rw e
