-- Laws of rows in words: what is joined of octets, and the cipher's steps on one state or on two, row by row. Assumes nothing.
use mathlib.Core.Path.{◌≡◌, refl, ap, ap₂, sym, ◌∙◌}
use mathlib.Core.List.{List, ◌++◌}
use mathlib.Core.Logic.{◌≢◌}
use Prim.Native.Nat.{ℕ, zero, suc, ◌+◌, ◌*◌, ◌/◌, ◌%◌, ◌^◌, ◌<◌, ◌≤◌}
use native.Mathlib.Nat.{add_comm, div-div-eq-div-mul, one-mul, zero-add}
use native.Mathlib.Numerals.{add-one}
use native.Mathlib.Omega.{arith}
use lib.Bits.{bit_xor, xor_zero_r}
use lib.ListN.{length, get_or}
use lib.Pow.{pow-add}
use Rattle.octets.specs.Lists.{tabulate}
use Rattle.octets.proofs.Lists.{tabulate_at, tabulate_ext, tabulate_self}
use Rattle.gf256.specs.Field.{◌⊕◌, ◌•◌, x_times}
use Rattle.gf256.specs.Lanes.{octet_at, each_octet}
use Rattle.gf256.specs.Substitution.{sbox}
use Rattle.gf256.proofs.Lanes.{octet_xor, octet_below, octet_rest, octet_doubled}
use Rattle.cipher.specs.Cipher.{state_of, cell, sub_bytes, shift_rows, mix_columns, add_round_key, round_key, round, rounds, last_round}
use Rattle.cipher.specs.RowWords.{BySbox, Four, Both, Eight, TwoRows, Shifted, Mixed, Rounded, Keyed, LastColumns, keyed_state, Reached, TwoOctets, of_four, row_of, state, no_rows, block_octets}
use Rattle.cipher.specs.declared.row_words.Block.{Block}
use Rattle.cipher.specs.declared.row_words.Rows.{Rows}
use Rattle.cipher.proofs.Sums.{double_sum, first, second, third, fourth}

---- numbers below four, and below eight

-- what holds of 0 to 3 holds below four
pub by_four : (P : ℕ → Type 0) → P 0 → P 1 → P 2 → P 3 → (j : ℕ) → j < 4 → P j
by_four P a b c d zero l = a
by_four P a b c d (suc zero) l = b
by_four P a b c d (suc (suc zero)) l = c
by_four P a b c d (suc (suc (suc zero))) l = d
by_four P a b c d (suc (suc (suc (suc j)))) l = absurd (omega arith)

-- place c of half z, of two halves of four
pub by_halves : (P : ℕ → ℕ → ℕ → Type 0) → ((c : ℕ) → c < 4 → P c 0 c) → ((c : ℕ) → c < 4 → P (4 + c) 1 c)
    → (z c : ℕ) → z < 2 → c < 4 → P (4 * z + c) z c
by_halves P low high zero c h l = rw zero-add (low c l)
by_halves P low high (suc zero) c h l = high c l
by_halves P low high (suc (suc z)) c h l = absurd (omega arith)

---- octets joined

pub four_octets : {f : ℕ → ℕ} {a b c d r : ℕ} → r ≡ a + b * 256 + (c + d * 256) * 65536
    → a ≡ f 0 → b ≡ f 1 → c ≡ f 2 → d ≡ f 3 → a < 256 → b < 256 → c < 256 → d < 256 → Four f r
unfolding octet_at
four_octets {f} {r = r} e ea eb ec ed ha hb hc hd =
    record { below = omega arith; octet = by_four (λ j. octet_at r j ≡ f j) (omega arith) (omega arith) (omega arith) (omega arith) }

-- the same of octets that a lent table gives
pub four_substituted : {t : List ℕ} {f : ℕ → ℕ} {a b c d r : ℕ} → r ≡ a + b * 256 + (c + d * 256) * 65536
    → BySbox t (a ≡ f 0) → BySbox t (b ≡ f 1) → BySbox t (c ≡ f 2) → BySbox t (d ≡ f 3) → a < 256 → b < 256 → c < 256
    → d < 256 → BySbox t (Four f r)
four_substituted e ea eb ec ed ha hb hc hd =
    record { holds = λ s. four_octets e (ea.holds s) (eb.holds s) (ec.holds s) (ed.holds s) ha hb hc hd }

low_octet : (l u : ℕ) → l < 4294967296 → (j : ℕ) → j < 4 → octet_at (l + u * 4294967296) j ≡ octet_at l j
unfolding octet_at
low_octet l u h = by_four (λ j. octet_at (l + u * 4294967296) j ≡ octet_at l j) (omega arith) (omega arith) (omega arith) (omega arith)

-- past the fourth, the octets are those of the quotient by 2^32
pub upper_octet : (x u j : ℕ) → x / 4294967296 ≡ u → octet_at x (4 + j) ≡ octet_at u j
upper_octet x u j e =
    let place : 4 + j ≡ suc (suc (suc (suc j))) = omega arith in
    let rest : x / 2 ^ 8 / 2 ^ 8 / 2 ^ 8 / 2 ^ 8 ≡ u = omega arith in
    rw (place, octet_rest, octet_rest, octet_rest, octet_rest, rest)

pub both_octets : (l u : ℕ) → l < 4294967296 → Both l u (l + u * 4294967296)
both_octets l u h = record { low = low_octet l u h; high = λ j i. upper_octet (l + u * 4294967296) u j (omega arith) }

-- the two lowest octets of a word that was shifted by j octets
pub two_lowest : (x j : ℕ) → TwoOctets x j (x / 2 ^ (8 * j) % 65536)
unfolding octet_at
two_lowest x j =
    let next : x / 2 ^ (8 * (j + 1)) ≡ x / 2 ^ (8 * j) / 2 ^ 8 =
    ap (λ (n : ℕ). x / 2 ^ n) (omega arith) ∙ ap (λ (n : ℕ). x / n) (pow-add 2 (8 * j) 8) ∙ sym (div-div-eq-div-mul x (2 ^ (8 * j)) (2 ^ 8)) in
    record { first = omega arith; second = rw next (omega arith) }

---- one of four octets, two by two

pub last_of_four : (p q m : ℕ) → m ≢ 0 → m ≢ 1 → m ≢ 2 → q / 256 ≡ of_four p q m
last_of_four p q zero a b c = absurd (a refl)
last_of_four p q (suc zero) a b c = absurd (b refl)
last_of_four p q (suc (suc zero)) a b c = absurd (c refl)
last_of_four p q (suc (suc (suc m))) a b c = refl

-- octet m of the four of state z in x
of_halves : (x z m : ℕ) {p q : ℕ} → TwoOctets x (4 * z) p → TwoOctets x (4 * z + 2) q → m < 4 → of_four p q m ≡ octet_at x (4 * z + m)
of_halves x z m {p} {q} low high =
    let last : 4 * z + 2 + 1 ≡ 4 * z + 3 = omega arith in
    by_four (λ m. of_four p q m ≡ octet_at x (4 * z + m)) (low.first ∙ ap (octet_at x) (omega arith)) low.second high.first
    (high.second ∙ ap (octet_at x) last) m

-- the substitutions of the four, from place k on
pub four_by_two : {t : List ℕ} (x z k : ℕ) {p q a b c d r : ℕ} → r ≡ a + b * 256 + (c + d * 256) * 65536
    → TwoOctets x (4 * z) p → TwoOctets x (4 * z + 2) q
    → BySbox t (a ≡ sbox (of_four p q ((k + 0) % 4))) → BySbox t (b ≡ sbox (of_four p q ((k + 1) % 4)))
    → BySbox t (c ≡ sbox (of_four p q ((k + 2) % 4)))
    → BySbox t (d ≡ sbox (of_four p q ((k + 3) % 4))) → a < 256 → b < 256 → c < 256 → d < 256
    → BySbox t (Four (λ j. sbox (octet_at x (4 * z + (k + j) % 4))) r)
four_by_two {t} x z k {p} {q} e low high ea eb ec ed =
    four_substituted e (there 0 ea) (there 1 eb) (there 2 ec) (there 3 ed) where
      there : (j : ℕ) {o : ℕ} → BySbox t (o ≡ sbox (of_four p q ((k + j) % 4))) → BySbox t (o ≡ sbox (octet_at x (4 * z + (k + j) % 4)))
      there j g = record { holds = λ s. g.holds s ∙ ap sbox (of_halves x z ((k + j) % 4) low high (omega arith)) }

-- eight octets, from two fours
pub eight : {f : ℕ → ℕ} {l u r : ℕ} → Four f l → Four (λ j. f (4 + j)) u → Both l u r → Eight f r
eight {f} {l} {u} {r} a b both =
    record {
      octet = λ j h.
          let place : 4 * (j / 4) + j % 4 ≡ j = omega arith in
          rw place at (by_halves (λ p z c. octet_at r p ≡ f p) (λ c i. both.low c i ∙ a.octet c i) (λ c i. both.high c i ∙ b.octet c i)
          (j / 4) (j % 4) (omega arith) (omega arith));
    }

-- two fours
pub both_fours : (f : ℕ → ℕ → ℕ) {l u r : ℕ} → Four (f 0) l → Four (f 1) u → Both l u r → (z c : ℕ) → z < 2 → c < 4
    → octet_at r (4 * z + c) ≡ f z c
both_fours f {l} {u} {r} a b both =
    by_halves (λ p z c. octet_at r p ≡ f z c) (λ c i. both.low c i ∙ a.octet c i) (λ c i. both.high c i ∙ b.octet c i)

---- states

-- the octet of a state in row r and column c
pub state_at : (f : ℕ → ℕ → ℕ) (r c : ℕ) → r < 4 → c < 4 → cell (state_of f) r c ≡ f r c
state_at f r c h l =
    let row : (0 + (r + 4 * c)) % 4 ≡ r = omega arith in
    let column : (0 + (r + 4 * c)) / 4 ≡ c = omega arith in
    tabulate_at 0 16 (λ i. f (i % 4) (i / 4)) (r + 4 * c) 0 (omega arith) ∙ ap₂ f row column

-- two states whose rows agree are the same
pub by_rows : (f g : ℕ → ℕ → ℕ) → ((c : ℕ) → c < 4 → f 0 c ≡ g 0 c) → ((c : ℕ) → c < 4 → f 1 c ≡ g 1 c)
    → ((c : ℕ) → c < 4 → f 2 c ≡ g 2 c) → ((c : ℕ) → c < 4 → f 3 c ≡ g 3 c) → state_of f ≡ state_of g
by_rows f g a b c d =
    tabulate_ext 0 16 (λ i. f (i % 4) (i / 4)) (λ i. g (i % 4) (i / 4))
    (λ i h l. by_four (λ r. (j : ℕ) → j < 4 → f r j ≡ g r j) a b c d (i % 4) (omega arith) (i / 4) (omega arith))

-- 16 octets are the state of their rows
pub state_self : (s : List ℕ) → length s ≡ 16 → state_of (λ r c. cell s r c) ≡ s
state_self s h = rw h at (tabulate_self s 0)

-- state z of the rows t is s, where each row has what s has
rows_state : (s : List ℕ) (t : Rows) (z : ℕ) → length s ≡ 16 → ((c : ℕ) → c < 4 → octet_at t.a (4 * z + c) ≡ cell s 0 c)
    → ((c : ℕ) → c < 4 → octet_at t.b (4 * z + c) ≡ cell s 1 c) → ((c : ℕ) → c < 4 → octet_at t.c (4 * z + c) ≡ cell s 2 c)
    → ((c : ℕ) → c < 4 → octet_at t.d (4 * z + c) ≡ cell s 3 c) → state t z ≡ s
rows_state s t z h a b c d = by_rows (λ r j. octet_at (row_of t r) (4 * z + j)) (λ r j. cell s r j) a b c d ∙ state_self s h

-- a state from its four rows
pub gathered_state : (s : List ℕ) (t : Rows) → length s ≡ 16 → Four (λ j. get_or s (0 + 4 * j) 0) t.a → Four (λ j. get_or s (1 + 4 * j) 0) t.b
    → Four (λ j. get_or s (2 + 4 * j) 0) t.c → Four (λ j. get_or s (3 + 4 * j) 0) t.d → state t 0 ≡ s
gathered_state s t h a b c d = rows_state s t 0 h (row 0 a) (row 1 b) (row 2 c) (row 3 d) where
  row : (r : ℕ) {x : ℕ} → Four (λ j. get_or s (r + 4 * j) 0) x → (j : ℕ) → j < 4 → octet_at x (4 * 0 + j) ≡ cell s r j
  row r f j l = rw zero-add (f.octet j l)

-- both states of the rows of one state, twice
pub twice_state : (s : List ℕ) (r : Rows) → length s ≡ 16 → TwoRows s s 0 r.a → TwoRows s s 1 r.b → TwoRows s s 2 r.c → TwoRows s s 3 r.d
    → (z : ℕ) → z < 2 → state r z ≡ s
twice_state s r h a b c d z i = rows_state s r z h (row 0 a) (row 1 b) (row 2 c) (row 3 d) where
  row : (k : ℕ) {x : ℕ} → TwoRows s s k x → (j : ℕ) → j < 4 → octet_at x (4 * z + j) ≡ cell s k j
  row k {x} f j l = by_halves (λ p z c. octet_at x p ≡ cell s k c) f.first f.second z j i l

-- the second of two states alone
pub upper_state : (s t : Rows) → t.a ≡ s.a / 4294967296 → t.b ≡ s.b / 4294967296 → t.c ≡ s.c / 4294967296 → t.d ≡ s.d / 4294967296
    → state t 0 ≡ state s 1
upper_state s t a b c d =
    by_rows (λ r j. octet_at (row_of t r) (4 * 0 + j)) (λ r j. octet_at (row_of s r) (4 * 1 + j)) (row s.a a) (row s.b b) (row s.c c)
    (row s.d d) where
      row : (x : ℕ) {y : ℕ} → y ≡ x / 4294967296 → (j : ℕ) → j < 4 → octet_at y (4 * 0 + j) ≡ octet_at x (4 * 1 + j)
      row x {y} e j l = rw zero-add (sym (upper_octet x y j (sym e)))

---- SubBytes and ShiftRows

pub shifted_two : {t : List ℕ} {k x l u r : ℕ} → Both l u r → BySbox t (Four (λ j. sbox (octet_at x (4 * 0 + (k + j) % 4))) l)
    → BySbox t (Four (λ j. sbox (octet_at x (4 * 1 + (k + j) % 4))) u) → BySbox t (Shifted k x r)
shifted_two {k = k} {x = x} b f g =
    record {
      holds = λ e.
          let octets = both_fours (λ z j. sbox (octet_at x (4 * z + (k + j) % 4))) (f.holds e) (g.holds e) b in
          record { octet = λ z c h l. rw (add_comm c k) (octets z c h l) };
    }

---- MixColumns and AddRoundKey

-- the sum of two words, doubled
octet_double : (x y : ℕ) {e : ℕ} → e ≡ each_octet x_times 8 (x ⊕ y) → (j : ℕ) → j < 8
    → octet_at e j ≡ x_times (octet_at x j) ⊕ x_times (octet_at y j)
octet_double x y h j l =
    rw (h, octet_doubled (x ⊕ y) j l, octet_xor x y j) (double_sum (octet_at x j) (octet_at y j) (octet_below x j) (octet_below y j))

module _ (s k : Rows) {x y z : ℕ} (ex : x ≡ each_octet x_times 8 (s.a ⊕ s.b)) (ey : y ≡ each_octet x_times 8 (s.b ⊕ s.c))
    (ez : z ≡ each_octet x_times 8 (s.c ⊕ s.d)) where
  pub mixed_rows : Mixed s k record {
    a = x ⊕ s.b ⊕ (s.c ⊕ s.d) ⊕ k.a;
    b = y ⊕ s.a ⊕ (s.c ⊕ s.d) ⊕ k.b;
    c = z ⊕ s.d ⊕ (s.a ⊕ s.b) ⊕ k.c;
    d = x ⊕ y ⊕ z ⊕ s.c ⊕ (s.a ⊕ s.b) ⊕ k.d;
  }
  mixed_rows =
      record {
        first = λ j l. simp octet_xor (rw (octet_double s.a s.b ex j l, first));
        second = λ j l. simp octet_xor (rw (octet_double s.b s.c ey j l, second));
        third = λ j l. simp octet_xor (rw (octet_double s.c s.d ez j l, third));
        fourth = λ j l.
            simp octet_xor (rw (octet_double s.a s.b ex j l, octet_double s.b s.c ey j l, octet_double s.c s.d ez j l, fourth));
      }

---- a round

-- a round of the first n states, f z the octets of state z by row and column, from their rows t after SubBytes and ShiftRows
module _ (n : ℕ) (fits : n ≤ 2) (f : ℕ → ℕ → ℕ → ℕ) (k t r : Rows)
    (sa : (z c : ℕ) → z < n → c < 4 → octet_at t.a (4 * z + c) ≡ sbox (f z 0 ((c + 0) % 4)))
    (sb : (z c : ℕ) → z < n → c < 4 → octet_at t.b (4 * z + c) ≡ sbox (f z 1 ((c + 1) % 4)))
    (sc : (z c : ℕ) → z < n → c < 4 → octet_at t.c (4 * z + c) ≡ sbox (f z 2 ((c + 2) % 4)))
    (sd : (z c : ℕ) → z < n → c < 4 → octet_at t.d (4 * z + c) ≡ sbox (f z 3 ((c + 3) % 4))) (m : Mixed t k r) where
  -- octet c of row i of state z, after SubBytes and ShiftRows
  abbrev moved : ℕ → ℕ → ℕ → ℕ
  moved z i c = sbox (f z i ((c + i) % 4))

  -- the octets of a round, row by row
  abbrev after : ℕ → ℕ → ℕ → ℕ
  after z zero c = (2 • moved z 0 c ⊕ 3 • moved z 1 c ⊕ moved z 2 c ⊕ moved z 3 c) ⊕ octet_at k.a (4 * z + c)
  after z (suc zero) c = (moved z 0 c ⊕ 2 • moved z 1 c ⊕ 3 • moved z 2 c ⊕ moved z 3 c) ⊕ octet_at k.b (4 * z + c)
  after z (suc (suc zero)) c = (moved z 0 c ⊕ moved z 1 c ⊕ 2 • moved z 2 c ⊕ 3 • moved z 3 c) ⊕ octet_at k.c (4 * z + c)
  after z (suc (suc (suc i))) c = (3 • moved z 0 c ⊕ moved z 1 c ⊕ moved z 2 c ⊕ 2 • moved z 3 c) ⊕ octet_at k.d (4 * z + c)

  module _ (z : ℕ) (h : z < n) where
    pub rounded_from : state r z ≡ round (state k z) (state_of (f z))
    unfolding round
    rounded_from =
        by_rows (λ i c. octet_at (row_of r i) (4 * z + c)) (after z) (λ c l. m.first (4 * z + c) (omega arith) ∙ rw (sa, sb, sc, sd))
        (λ c l. m.second (4 * z + c) (omega arith) ∙ rw (sa, sb, sc, sd)) (λ c l. m.third (4 * z + c) (omega arith) ∙ rw (sa, sb, sc, sd))
        (λ c l. m.fourth (4 * z + c) (omega arith) ∙ rw (sa, sb, sc, sd))

-- the same of two states in rows
pub rounded : (k s : Rows) {subs : List ℕ} {t r : Rows} → Mixed t k r → BySbox subs (Shifted 0 s.a t.a) → BySbox subs (Shifted 1 s.b t.b)
    → BySbox subs (Shifted 2 s.c t.c) → BySbox subs (Shifted 3 s.d t.d) → BySbox subs (Rounded k s r)
rounded k s {t = t} {r = r} m sa sb sc sd =
    record {
      holds = λ e.
          record {
            states = rounded_from 2 (omega arith) (λ z i c. octet_at (row_of s i) (4 * z + c)) k t r (sa.holds e).octet (sb.holds e).octet
                (sc.holds e).octet (sd.holds e).octet m;
          };
    }

-- a key of zeros adds nothing
no_key-holds : (k s : List ℕ) → add_round_key k (add_round_key (state no_rows 0) s) ≡ add_round_key k s
unfolding octet_at
no_key-holds k s = simp xor_zero_r

-- row k of one state, its key added before it was substituted and moved
keyed_cells : (key : List ℕ) (s : Rows) (k : ℕ) {x : ℕ} → k < 4
    → Four (λ j. sbox (octet_at (row_of s k) ((k + j) % 4) ⊕ cell key k ((k + j) % 4))) x
    → (z c : ℕ) → z < 1 → c < 4 → octet_at x (4 * z + c) ≡ sbox (cell (state s 0) k ((c + k) % 4) ⊕ cell key k ((c + k) % 4))
keyed_cells key s k h f z c i l =
    let first : z ≡ 0 = omega arith in
    rw (first, zero-add c, add_comm c k, state_at (λ r j. octet_at (row_of s r) (4 * 0 + j)) k ((k + c) % 4) h (omega arith), zero-add)
    (f.octet c l)

-- a round of one state under the key that was added ahead of it
pub keyed_round : (key : List ℕ) (s : Rows) {subs : List ℕ} {t r : Rows} → Mixed t no_rows r
    → BySbox subs (Four (λ j. sbox (octet_at s.a ((0 + j) % 4) ⊕ cell key 0 ((0 + j) % 4))) t.a)
    → BySbox subs (Four (λ j. sbox (octet_at s.b ((1 + j) % 4) ⊕ cell key 1 ((1 + j) % 4))) t.b)
    → BySbox subs (Four (λ j. sbox (octet_at s.c ((2 + j) % 4) ⊕ cell key 2 ((2 + j) % 4))) t.c)
    → BySbox subs (Four (λ j. sbox (octet_at s.d ((3 + j) % 4) ⊕ cell key 3 ((3 + j) % 4))) t.d) → BySbox subs (Keyed key s r)
unfolding round keyed_state
keyed_round key s {t = t} {r = r} m a b c d =
    record {
      holds = λ e.
          let mixed =
          rounded_from 1 (omega arith) (λ z i j. cell (state s 0) i j ⊕ cell key i j) no_rows t r (keyed_cells key s 0 (omega arith) (a.holds e))
          (keyed_cells key s 1 (omega arith) (b.holds e)) (keyed_cells key s 2 (omega arith) (c.holds e))
          (keyed_cells key s 3 (omega arith) (d.holds e)) m 0 (omega arith) in
          record {
            states = λ next. ap (add_round_key next) mixed ∙ no_key-holds next (mix_columns (shift_rows (sub_bytes (add_round_key key (state s 0)))));
          };
    }

---- the nine rounds

-- one more round of one state up to its key
pub onward_one : (w : List ℕ) (n : ℕ) (s : List ℕ) {t u : Rows} {k : List ℕ} → keyed_state (round_key w n) t ≡ rounds w n s
    → k ≡ round_key w n → Keyed k t u → keyed_state (round_key w (n + 1)) u ≡ rounds w (n + 1) s
unfolding rounds
onward_one w n s before key g =
    rw add-one (g.states (round_key w (suc n)) ∙ ap (round (round_key w (suc n))) (rw key before))

-- one more round of two states
pub onward_two : (ks : List Rows) (n : ℕ) {s t u : Rows} → n + 1 < 10 → Reached ks n s t → Rounded (get_or ks (n + 1) no_rows) t u
    → Reached ks (n + 1) s u
unfolding rounds
onward_two ks n {s} {t} {u} l before g =
    record {
      states = λ w keys z e i start.
          g.states z i ∙ ap₂ round (keys.key (n + 1) z l i) (before.states w keys z e i start) ∙ rw add-one;
    }

pub begun : (ks : List Rows) (s : Rows) → Reached ks 1 s s
begun ks s = record { states = λ w keys z e i start. start }

---- the last round

pub last_columns : {k : List ℕ} {p x y a b u v : ℕ} → Both a b u → Both x y v → Four (λ j. get_or k (p + 1 * j) 0) a
    → Four (λ j. get_or k (p + 4 + 1 * j) 0) b → LastColumns k p x y (v ⊕ u)
last_columns {u = u} {v = v} ab xy fa fb =
    record {
      first = λ j l. octet_xor v u j ∙ ap₂ bit_xor (xy.low j l) (ab.low j l ∙ rw one-mul at (fa.octet j l));
      second = λ j l. octet_xor v u (4 + j) ∙ ap₂ bit_xor (xy.high j l) (ab.high j l ∙ rw one-mul at (fb.octet j l));
    }

-- the octets of two columns, f of the first and g of the second, under the key
two_columns : {k : List ℕ} {p x y r : ℕ} {f g : ℕ → ℕ} → Four f x → Four g y → LastColumns k p x y r
    → tabulate 0 8 (octet_at r) ≡ tabulate 0 4 (λ j. f j ⊕ get_or k (p + j) 0) ++ tabulate 0 4 (λ j. g j ⊕ get_or k (p + 4 + j) 0)
two_columns {k = k} {p = p} {r = r} a b e =
    ap₂ (λ (x y : List ℕ). x ++ y)
    (tabulate_ext 0 4 (octet_at r) _ (λ j z l. e.first j l ∙ ap (λ (o : ℕ). o ⊕ get_or k (p + j) 0) (a.octet j l)))
    (tabulate_ext 0 4 (λ j. octet_at r (4 + j)) _ (λ j z l. e.second j l ∙ ap (λ (o : ℕ). o ⊕ get_or k (p + 4 + j) 0) (b.octet j l)))

-- the octets of a block, from its columns by two, f the octets of the state by row and column
module _ (k : List ℕ) (f : ℕ → ℕ → ℕ) {t : List ℕ} {b : Block} {x y u v : ℕ} (l : LastColumns k 0 x y b.low) (h : LastColumns k 8 u v b.high)
    (c₀ : BySbox t (Four (λ j. sbox (f j ((0 + j) % 4))) x)) (c₁ : BySbox t (Four (λ j. sbox (f j ((1 + j) % 4))) y))
    (c₂ : BySbox t (Four (λ j. sbox (f j ((2 + j) % 4))) u)) (c₃ : BySbox t (Four (λ j. sbox (f j ((3 + j) % 4))) v)) where
  pub last_block : BySbox t (block_octets b ≡ last_round k (state_of f))
  unfolding last_round
  last_block =
      record {
        holds = λ e. ap₂ (λ (x y : List ℕ). x ++ y) (two_columns (c₀.holds e) (c₁.holds e) l) (two_columns (c₂.holds e) (c₃.holds e) h);
      }
