-- Laws of the key schedule: a step of 16 octets is four steps of a word. Assumes nothing.
use mathlib.Core.Path.{◌≡◌, refl, ap, ap₂, sym, ◌∙◌}
use mathlib.Core.List.{List, ◌++◌, append_assoc}
use Prim.Native.Nat.{ℕ, zero, suc, ◌+◌, ◌-◌, ◌*◌, ◌/◌, ◌%◌, ◌≤◌}
use native.Mathlib.Omega.{arith}
use lib.Dec.{eqb}
use lib.ListN.{length, get_or, take, drop, length-append, length-drop, take-append-drop}
use lib.Seq.{get_or-append-add, length-take-le, drop_at}
use Rattle.octets.specs.Choice.{pick}
use Rattle.octets.specs.Lists.{tabulate, replaced}
use Rattle.octets.proofs.Lists.{tabulate_self, replaced_next}
use Rattle.gf256.specs.Table.{power_of_x}
use Rattle.cipher.specs.KeyExpansion.{constant_word, rcon, next_word, expanded}
use Rattle.cipher.specs.Steps.{next_key}
use Rattle.cipher.specs.Words.{word, xor_words, rot_word, sub_word}

-- a round key, from its four words, and the first of them from the last before it
pub key_words : (k : List ℕ) (x : ℕ) {a b c d e k₀ k₁ k₂ k₃ last moved sub con r : List ℕ}
    → r ≡ word a 0 ++ (word b 0 ++ (word c 0 ++ word d 0))
    → d ≡ xor_words k₃ c → c ≡ xor_words k₂ b → b ≡ xor_words k₁ a → a ≡ xor_words k₀ e → e ≡ xor_words sub con
    → sub ≡ sub_word moved → moved ≡ rot_word last → con ≡ constant_word x
    → last ≡ word k 3 → k₀ ≡ word k 0 → k₁ ≡ word k 1 → k₂ ≡ word k 2 → k₃ ≡ word k 3 → r ≡ next_key k x
unfolding next_key
key_words k x er ed ec eb ea ee es em ex el e₀ e₁ e₂ e₃ = rw (er, ed, ec, eb, ea, ee, es, em, ex, el, e₀, e₁, e₂, e₃)

pub expanded_length : (key : List ℕ) (n : ℕ) → length key ≡ 16 → length (expanded key n) ≡ 16 + 4 * n
unfolding expanded next_word
expanded_length key zero h = h
expanded_length key (suc n) h =
    length-append (expanded key n) (next_word (expanded key n) (4 + n)) ∙ omega (arith, expanded_length key n h)

-- a word from the word four before it, the word before it, its place in its round key and the round
abbrev word_from : List ℕ → List ℕ → ℕ → ℕ → List ℕ
word_from a b place round = xor_words a (pick (eqb place 0) (xor_words (sub_word (rot_word b)) (rcon round)) b)

-- past the first m round keys q, what stands at word 4 m + r of q ++ s is word r of s
module _ (q : List ℕ) (m : ℕ) (sized : length q ≡ 16 * m) where
  octet_past : (s : List ℕ) (r j : ℕ) → get_or (q ++ s) (4 * (4 * m + r) + j) 0 ≡ get_or s (4 * r + j) 0
  octet_past s r j =
      let e : 4 * (4 * m + r) + j ≡ length q + (4 * r + j) = omega arith in
      rw e (get_or-append-add q s (4 * r + j) 0)

  word_past : (s : List ℕ) (r : ℕ) → word (q ++ s) (4 * m + r) ≡ word s r
  word_past s r = rw (octet_past s r 0, octet_past s r 1, octet_past s r 2, octet_past s r 3)

  -- word r of s, as it is made from the words of s before it
  made : List ℕ → ℕ → List ℕ
  made s r = word_from (word s (r - 4)) (word s (r - 1)) (r % 4) (m + r / 4)

  next_past : (s : List ℕ) (i r : ℕ) → i ≡ 4 * m + r → 4 ≤ r → next_word (q ++ s) i ≡ made s r
  unfolding next_word made
  next_past s i r e h =
      let four : i - 4 ≡ 4 * m + (r - 4) = omega arith in
      let one : i - 1 ≡ 4 * m + (r - 1) = omega arith in
      let rest : i % 4 ≡ r % 4 = omega arith in
      let round : i / 4 ≡ m + r / 4 = omega arith in
      ap₂ (λ (a b : List ℕ). word_from a b (i % 4) (i / 4)) (ap (word (q ++ s)) four ∙ word_past s (r - 4))
      (ap (word (q ++ s)) one ∙ word_past s (r - 1))
      ∙ ap₂ (word_from (word s (r - 4)) (word s (r - 1))) rest round

  grown : (key s : List ℕ) (n r : ℕ) → expanded key n ≡ q ++ s → 4 + n ≡ 4 * m + r → 4 ≤ r
      → expanded key (suc n) ≡ q ++ (s ++ made s r)
  unfolding expanded
  grown key s n r e d h =
      rw (e, next_past s (4 + n) r d h) (append_assoc q s (made s r))

  -- the four words after a round key that is written out
  four_words : (key : List ℕ) (f : ℕ → ℕ) (n : ℕ) → n ≡ 4 * m → expanded key n ≡ q ++ tabulate 0 16 f
      → expanded key (suc (suc (suc (suc n)))) ≡ q ++ (tabulate 0 16 f ++ next_key (tabulate 0 16 f) (power_of_x m))
  unfolding made pick next_key
  four_words key f n d e =
      let k = tabulate 0 16 f in
      let k₁ = k ++ made k 4 in
      let k₂ = k₁ ++ made k₁ 5 in
      let k₃ = k₂ ++ made k₂ 6 in
      let last : m + 1 - 1 ≡ m = omega arith in
      grown key k₃ (suc (suc (suc n))) 7
      (grown key k₂ (suc (suc n)) 6 (grown key k₁ (suc n) 5 (grown key k n 4 e (omega arith) (omega arith)) (omega arith) (omega arith)) (omega arith)
      (omega arith))
      (omega arith)
      (omega arith)
      ∙ rw last

next_length : (k : List ℕ) (x : ℕ) → length (next_key k x) ≡ 16
unfolding next_key
next_length k x = refl

-- ten steps of 16 octets: a step
pub expanded_step : (key : List ℕ) (n : ℕ) → length key ≡ 16
    → expanded key (4 * (n + 1)) ≡ expanded key (4 * n) ++ next_key (drop (16 * n) (expanded key (4 * n))) (power_of_x n)
expanded_step key n h =
    let p = expanded key (4 * n) in
    let sized : length p ≡ 16 + 4 * (4 * n) = expanded_length key (4 * n) h in
    let q = take (16 * n) p in
    let k = drop (16 * n) p in
    let k-sized : length k ≡ 16 = omega (arith, length-drop (16 * n) p) in
    let q-sized : length q ≡ 16 * n = omega (arith, length-take-le (16 * n) p (omega arith)) in
    let k-self : tabulate 0 16 (λ i. get_or k i 0) ≡ k = rw k-sized at (tabulate_self k 0) in
    let p-split : p ≡ q ++ tabulate 0 16 (λ i. get_or k i 0) = sym (ap (λ (l : List ℕ). q ++ l) k-self ∙ take-append-drop (16 * n) p) in
    let four : 4 * (n + 1) ≡ suc (suc (suc (suc (4 * n)))) = omega arith in
    ap (expanded key) four
    ∙ four_words q n q-sized key (λ i. get_or k i 0) (4 * n) refl p-split
    ∙ ap (λ (l : List ℕ). q ++ (l ++ next_key l (power_of_x n))) k-self
    ∙ sym (append_assoc q k (next_key k (power_of_x n)))
    ∙ ap (λ (l : List ℕ). l ++ next_key k (power_of_x n)) (take-append-drop (16 * n) p)

-- one turn of the loop that makes and stores the round keys
pub turned : (key z w k u : List ℕ) (n x : ℕ) → length key ≡ 16 → k ≡ drop (16 * n) (expanded key (4 * n))
    → w ≡ expanded key (4 * n) ++ drop (16 * (n + 1)) z → u ≡ next_key k x → x ≡ power_of_x n
    → (u ≡ drop (16 * (n + 1)) (expanded key (4 * (n + 1))))
    × (replaced w (16 * (n + 1)) u ≡ expanded key (4 * (n + 1)) ++ drop (16 * (n + 1 + 1)) z)
turned key z w k u n x h ek ew eu ex =
    let p = expanded key (4 * n) in
    let made : expanded key (4 * (n + 1)) ≡ p ++ u = expanded_step key n h ∙ rw (eu, ek, ex) in
    let before : length p ≡ 16 * (n + 1) = omega (arith, expanded_length key (4 * n) h) in
    let u-length : length u ≡ 16 = ap length eu ∙ next_length k x in
    let end : 16 * (n + 1) + length u ≡ 16 * (n + 1 + 1) = omega arith in
    (rw made (sym (drop_at p u (16 * (n + 1)) before)), rw (ew, made, ← end) (replaced_next p z u (16 * (n + 1)) before))
