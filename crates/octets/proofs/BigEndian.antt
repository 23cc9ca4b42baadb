-- Laws of numbers in octets. Assumes nothing.
use mathlib.Core.Path.{◌≡◌, refl, ap, ap₂, sym, ◌∙◌}
use mathlib.Core.List.{List}
use Prim.Native.Nat.{ℕ, zero, suc, ◌+◌, ◌*◌, ◌/◌, ◌%◌, ◌<◌, ◌^◌}
use native.Mathlib.Nat.{mod-eq_of_lt, mod-one, pow-suc, mul_comm, one-le-pow, zero-lt-suc, zero-add, suc-add}
use native.Mathlib.Omega.{arith}
use lib.Arith.{mod-mul}
use lib.ListN.{length, get_or, drop}
use Rattle.octets.specs.BigEndian.{number_at, octets_of}

pub octets_length : (k n : ℕ) → length (octets_of k n) ≡ k
octets_length zero n = refl
octets_length (suc k) n = ap suc (octets_length k n)

-- the k octets of a number are the last of more octets of it
pub octets_last : (k j n : ℕ) → drop j (octets_of (j + k) n) ≡ octets_of k n
octets_last k zero n = rw zero-add
octets_last k (suc j) n = rw suc-add (octets_last k j n)

-- the highest of k + 1 digits, and the others
split : (k n : ℕ) → n % 256 ^ suc k ≡ n / 256 ^ k % 256 * 256 ^ k + n % 256 ^ k
split k n =
    ap (λ (x : ℕ). n % x) (pow-suc 256 k ∙ mul_comm (256 ^ k) 256)
    ∙ mod-mul n {m = 256} {c = 256 ^ k} (zero-lt-suc 255) (one-le-pow k 256 (zero-lt-suc 255))

same_low : (k m n : ℕ) → octets_of k m ≡ octets_of k n → m % 256 ^ k ≡ n % 256 ^ k
same_low zero m n e = mod-one m ∙ sym (mod-one n)
same_low (suc k) m n e =
    let head : m / 256 ^ k % 256 ≡ n / 256 ^ k % 256 = cc in
    let tail : octets_of k m ≡ octets_of k n = cc in
    split k m ∙ ap₂ (λ (x y : ℕ). x * 256 ^ k + y) head (same_low k m n tail) ∙ sym (split k n)

-- two numbers of at most k octets with the same octets are the same
pub octets_injective : (k m n : ℕ) → m < 256 ^ k → n < 256 ^ k → octets_of k m ≡ octets_of k n → m ≡ n
octets_injective k m n hm hn e = sym (mod-eq_of_lt hm) ∙ same_low k m n e ∙ mod-eq_of_lt hn

-- the number at a place depends on its octets alone
pub number_same : (k : ℕ) (s t : List ℕ) (a b : ℕ) → ((j : ℕ) → j < k → get_or s (a + j) 0 ≡ get_or t (b + j) 0)
    → number_at k s a ≡ number_at k t b
number_same zero s t a b h = refl
number_same (suc k) s t a b h =
    ap₂ (λ (x y : ℕ). x * 256 + y) (number_same k s t a b (λ j l. h j (omega arith))) (h k (omega arith))
