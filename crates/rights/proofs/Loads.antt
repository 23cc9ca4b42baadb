-- Laws of loading a key. Assumes nothing.
use mathlib.Core.Path.{◌≡◌, refl, sym, ap, ◌∙◌}
use mathlib.Core.Bool.{Bool, true, false}
use mathlib.Core.Logic.{⊎_elim}
use mathlib.Core.List.{List, ◌++◌}
use Prim.Native.Nat.{ℕ, zero, suc, ◌+◌, ◌-◌, ◌*◌, ◌/◌, ◌%◌, ◌^◌, ◌≤◌, ◌<◌}
use native.Mathlib.Nat.{eq-or-lt_of_le, add-zero}
use native.Mathlib.Omega.{arith}
use lib.Dec.{eqb, leb}
use lib.ListN.{length, get_or, take, drop, set, replicate, length-set, length-take, length-drop, length-replicate}
use lib.Seq.{ext_get_or, take_at, drop_at, length-take-le, get_or-take, get_or-drop, get_or-set_same, get_or-set_other, length-paste, drop-paste}
use borrow.Author.Tests.{eq-eqb, ne_eqb, leb-true, leb-false}
use Rattle.octets.specs.BigEndian.{number_at}
use Rattle.octets.specs.Bits.{bit_of}
use Rattle.octets.specs.Lists.{part, replaced, copied}
use Rattle.octets.proofs.Bits.{bit_below}
use Rattle.octets.proofs.Choice.{true_false, pick_true, pick_false}
use Rattle.octets.proofs.Lists.{part_at, part_length, paste_all, copied_whole}
use Rattle.octets.proofs.BigEndian.{number_same}
use Rattle.records.specs.Settings.{key_present, presence_of, key_of, mac_of, llid_of}
use Rattle.rights.specs.Settings.{set_of}
use Rattle.rights.specs.Loading.{with_key, loaded}
use Rattle.rights.specs.Claims.{Loaded}

-- the test of a bit is that of a key's presence
pub present_bit : (p i : ℕ) {r : ℕ} → r ≡ bit_of p i → r ≡ 1 → key_present p i ≡ true
unfolding key_present
present_bit p i e f = eq-eqb _ _ (sym e ∙ f)

pub absent_bit : (p i : ℕ) {r : ℕ} → r ≡ bit_of p i → (r ≡ 1 → ⊥) → key_present p i ≡ false
unfolding key_present
absent_bit p i e f = ne_eqb _ _ (λ g. f (e ∙ g))

-- a bit that is not 1 is 0
not_one : (x : ℕ) → x < 2 → eqb x 1 ≡ false → x ≡ 0
not_one zero h e = refl
not_one (suc zero) h e = true_false e
not_one (suc (suc x)) h e = absurd (omega arith)

-- a bit that is not there is added
pub raised : (p i : ℕ) → i < 2 → p + 1 + i ≡ p + 2 ^ i
raised p zero h = omega arith
raised p (suc zero) h = omega arith
raised p (suc (suc i)) h = absurd (omega arith)

pub raised_below : (p i : ℕ) → p < 256 → i < 2 → key_present p i ≡ false → p + 1 + i < 256
unfolding key_present bit_of
raised_below p zero b h e = omega (arith, not_one (p / 2 ^ 0 % 2) (bit_below p 0) e)
raised_below p (suc zero) b h e = omega (arith, not_one (p / 2 ^ 1 % 2) (bit_below p 1) e)
raised_below p (suc (suc i)) b h e = absurd (omega arith)

---- a list with others in its places from `at` on
module _ (s t : List ℕ) (at : ℕ) (room : at + length t ≤ length s) where
  put_length : length (replaced s at t) ≡ length s
  put_length = ap length (sym (paste_all s at t)) ∙ length-paste s at t (length t) room (omega arith)

  put_before : (x : ℕ) → x < at → get_or (replaced s at t) x 0 ≡ get_or s x 0
  put_before x h =
      sym (get_or-take at (replaced s at t) x 0 h)
      ∙ ap (λ (l : List ℕ). get_or l x 0) (take_at (take at s) (t ++ drop (length t) (drop at s)) at (length-take-le at s (omega arith)))
      ∙ get_or-take at s x 0 h

  put_behind : (x : ℕ) → at + length t ≤ x → get_or (replaced s at t) x 0 ≡ get_or s x 0
  put_behind x h =
      let e : x ≡ at + length t + (x - (at + length t)) = omega arith in
      let same : drop (at + length t) (replaced s at t) ≡ drop (at + length t) s =
      ap (drop (at + length t)) (sym (paste_all s at t)) ∙ drop-paste s at t (length t) (omega arith) (omega arith) in
      rw e
      (sym (get_or-drop (at + length t) (replaced s at t) (x - (at + length t)) 0)
      ∙ ap (λ (l : List ℕ). get_or l (x - (at + length t)) 0) same
      ∙ get_or-drop (at + length t) s (x - (at + length t)) 0)

  put_inside : (x : ℕ) → x < length t → get_or (replaced s at t) (at + x) 0 ≡ get_or t x 0
  put_inside x h =
      let back = drop (length t) (drop at s) in
      sym (get_or-drop at (replaced s at t) x 0)
      ∙ ap (λ (l : List ℕ). get_or l x 0) (drop_at (take at s) (t ++ back) at (length-take-le at s (omega arith)))
      ∙ sym (get_or-take (length t) (t ++ back) x 0 h)
      ∙ ap (λ (l : List ℕ). get_or l x 0) (take_at t back (length t) refl)

---- a presence octet with the bit of key i
raised_has : (p i : ℕ) → i < 2 → key_present p i ≡ false → key_present (p + 2 ^ i) i ≡ true
unfolding key_present bit_of
raised_has p zero h e = eq-eqb ((p + 2 ^ 0) / 2 ^ 0 % 2) 1 (omega (arith, not_one (p / 2 ^ 0 % 2) (bit_below p 0) e))
raised_has p (suc zero) h e = eq-eqb ((p + 2 ^ 1) / 2 ^ 1 % 2) 1 (omega (arith, not_one (p / 2 ^ 1 % 2) (bit_below p 1) e))
raised_has p (suc (suc i)) h e = absurd (omega arith)

raised_keeps : (p i k : ℕ) → i < 2 → k < 2 → (k ≡ i → ⊥) → key_present p i ≡ false → key_present (p + 2 ^ i) k ≡ key_present p k
unfolding key_present bit_of
raised_keeps p zero zero h b n e = absurd (n refl)
raised_keeps p zero (suc (suc k)) h b n e = absurd (omega arith)
raised_keeps p zero (suc zero) h b n e =
    let same : (p + 2 ^ 0) / 2 ^ 1 ≡ p / 2 ^ 1 = omega (arith, not_one (p / 2 ^ 0 % 2) (bit_below p 0) e) in
    ap (λ (x : ℕ). eqb (x % 2) 1) same
raised_keeps p (suc zero) zero h b n e =
    let same : (p + 2 ^ 1) / 2 ^ 0 % 2 ≡ p / 2 ^ 0 % 2 = omega arith in
    ap (λ (x : ℕ). eqb x 1) same
raised_keeps p (suc zero) (suc zero) h b n e = absurd (n refl)
raised_keeps p (suc zero) (suc (suc k)) h b n e = absurd (omega arith)
raised_keeps p (suc (suc i)) k h b n e = absurd (omega arith)

with_by : (p i : ℕ) (v : Bool) → i < 2 → key_present p i ≡ v
    → (key_present (with_key p i) i ≡ true) × ((k : ℕ) → k < 2 → (k ≡ i → ⊥) → key_present (with_key p i) k ≡ key_present p k)
unfolding with_key
with_by p i true h e = rw (pick_true p (p + 2 ^ i) e) (e, λ k b n. refl)
with_by p i false h e = rw (pick_false p (p + 2 ^ i) e) (raised_has p i h e, λ k b n. raised_keeps p i k h b n e)

---- the sets with a key put into set j
module _ (s key : List ℕ) (j i p : ℕ) (place : 41 * j + 41 ≤ length s) (few : i < 2) (long : length key ≡ 16) where
  abbrev front : List ℕ
  front = set s (41 * j) p

  abbrev at : ℕ
  at = 41 * j + (1 + 16 * i)

  abbrev next : List ℕ
  next = replaced front at key

  room : at + length key ≤ length front
  room = simp length-set (omega arith)

  next_length : length next ≡ length s
  next_length = put_length front key at room ∙ simp length-set

  -- an octet that is none of the key's and not the presence octet stays
  stays_by : (v : Bool) (x : ℕ) → leb at x ≡ v → (x ≡ 41 * j → ⊥) → (at ≤ x → at + 16 ≤ x) → get_or next x 0 ≡ get_or s x 0
  stays_by true x e n f =
      put_behind front key at room x (omega (arith, long, f (leb-true _ _ e))) ∙ get_or-set_other s (41 * j) x p 0 n
  stays_by false x e n f = put_before front key at room x (leb-false _ _ e) ∙ get_or-set_other s (41 * j) x p 0 n

  -- of set j, the octets behind the presence octet that are none of the key's
  inner : (x : ℕ) → x < 41 → 0 < x → (1 + 16 * i ≤ x → 17 + 16 * i ≤ x) → get_or (set_of next j) x 0 ≡ get_or (set_of s j) x 0
  inner x h b f =
      part_at next (41 * j) 41 x 0 h
      ∙ stays_by (leb at (41 * j + x)) (41 * j + x) refl (λ e. absurd (omega (arith, e))) (λ g. omega (arith, f (omega arith)))
      ∙ sym (part_at s (41 * j) 41 x 0 h)

  -- the presence octet
  inner_first : presence_of (set_of next j) ≡ p
  unfolding presence_of
  inner_first =
      part_at next (41 * j) 41 0 0 (omega arith)
      ∙ rw add-zero (put_before front key at room (41 * j) (omega arith) ∙ get_or-set_same s (41 * j) p 0 (omega arith))

  set_length : (t : List ℕ) → length t ≡ length s → length (set_of t j) ≡ 41
  set_length t e = part_length t (41 * j) 41 (omega arith)

  -- the key
  key_there : key_of (set_of next j) i ≡ key
  unfolding key_of
  key_there =
      let n : length (part (set_of next j) (1 + 16 * i) 16) ≡ 16 = part_length (set_of next j) (1 + 16 * i) 16 (omega (arith, set_length next next_length)) in
      copied_whole (part (set_of next j) (1 + 16 * i) 16) (replicate 16 0) (length-replicate {A = ℕ} 16 0 ∙ sym n)
      ∙ ext_get_or 0 (part (set_of next j) (1 + 16 * i) 16) key (n ∙ sym long)
      (λ x h.
      part_at (set_of next j) (1 + 16 * i) 16 x 0 (omega (arith, n))
      ∙ part_at next (41 * j) 41 (1 + 16 * i + x) 0 (omega (arith, n))
      ∙ ap (λ (y : ℕ). get_or next y 0) (omega arith)
      ∙ put_inside front key at room x (omega (arith, n, long)))

  kept_size : (t : List ℕ) (k : ℕ) → length t ≡ length s → k < 2 → length (part (set_of t j) (1 + 16 * k) 16) ≡ 16
  kept_size t k e h = part_length (set_of t j) (1 + 16 * k) 16 (omega (arith, set_length t e))

  -- the other key
  key_kept : (k : ℕ) → k < 2 → (k ≡ i → ⊥) → key_of (set_of next j) k ≡ key_of (set_of s j) k
  unfolding key_of
  key_kept k h n =
      let size = kept_size next k next_length h in
      ap (λ (l : List ℕ). copied l (replicate 16 0))
      (ext_get_or 0 (part (set_of next j) (1 + 16 * k) 16) (part (set_of s j) (1 + 16 * k) 16) (size ∙ sym (kept_size s k refl h))
      (λ x b.
      part_at (set_of next j) (1 + 16 * k) 16 x 0 (omega (arith, size))
      ∙ inner (1 + 16 * k + x) (omega (arith, size)) (omega arith)
      (λ g. ⊎_elim (λ z. absurd (n (sym z))) (λ l. omega arith) (eq-or-lt_of_le {n = i} {m = k} (omega (arith, size))))
      ∙ sym (part_at (set_of s j) (1 + 16 * k) 16 x 0 (omega (arith, size)))))

  -- MAC and LLID
  number_kept : (n from : ℕ) → 33 ≤ from → from + n ≤ 41 → number_at n (set_of next j) from ≡ number_at n (set_of s j) from
  number_kept n from a b =
      number_same n (set_of next j) (set_of s j) from from (λ x h. inner (from + x) (omega arith) (omega arith) (λ g. omega arith))

  -- another set
  set_kept : (k : ℕ) → (k ≡ j → ⊥) → set_of next k ≡ set_of s k
  set_kept k n =
      ext_get_or 0 (set_of next k) (set_of s k) (simp (length-take, length-drop, next_length))
      (λ x h.
      let b : x < 41 = omega (arith, length-take 41 (drop (41 * k) next)) in
      part_at next (41 * k) 41 x 0 b
      ∙ stays_by (leb at (41 * k + x)) (41 * k + x) refl (λ e. n (omega (arith, e)))
      (λ g. ⊎_elim (λ z. absurd (n (sym z))) (λ l. omega arith) (eq-or-lt_of_le {n = j} {m = k} (omega arith)))
      ∙ sym (part_at s (41 * k) 41 x 0 b))

pub key_loaded-holds : (s key : List ℕ) (j i : ℕ) → 41 * j + 41 ≤ length s → i < 2 → length key ≡ 16 → Loaded s (loaded s j i key) j i key
unfolding loaded mac_of llid_of
key_loaded-holds s key j i place few long =
    let p = with_key (presence_of (set_of s j)) i in
    let first = inner_first s key j i p place few long in
    let bits = with_by (presence_of (set_of s j)) i (key_present (presence_of (set_of s j)) i) few refl in
    record {
      size = next_length s key j i p place few long;
      there = key_there s key j i p place few long;
      present = rw first bits.0;
      other = key_kept s key j i p place few long;
      bit = λ k b n. rw first (bits.1 k b n);
      mac = number_kept s key j i p place few long 6 33 (omega arith) (omega arith);
      llid = number_kept s key j i p place few long 2 39 (omega arith) (omega arith);
      rest = set_kept s key j i p place few long;
    }
