-- Laws of round 1 of two counter blocks: what they share, what the index decides, and both together. Assumes nothing.
use mathlib.Core.Path.{◌≡◌, refl, ap, ap₂, sym, ◌∙◌}
use mathlib.Core.Bool.{Bool, true, false}
use mathlib.Core.List.{List}
use Prim.Native.Nat.{ℕ, zero, suc, ◌+◌, ◌*◌, ◌%◌, ◌^◌, ◌<◌}
use native.Mathlib.Nat.{mod-eq_of_lt, zero-add}
use native.Mathlib.Omega.{arith}
use borrow.Author.Tests.{eqb-true, eqb-false}
use lib.Bits.{bit_and, bit_xor, and_mask, and_zero_r, xor_zero_l, xor_zero_r}
use lib.Dec.{eqb}
use lib.ListN.{get_or, take}
use lib.Seq.{get_or-take}
use Rattle.octets.specs.Choice.{pick}
use Rattle.envelope.specs.CounterBlock.{counter_block}
use Rattle.envelope.specs.declared.Nonce.{Nonce}
use Rattle.gf256.specs.Field.{◌⊕◌}
use Rattle.gf256.specs.Lanes.{octet_at}
use Rattle.gf256.specs.Substitution.{sbox}
use Rattle.gf256.proofs.Lanes.{octet_and, octet_below, octet_xor}
use Rattle.cipher.specs.Cipher.{cell, round_key, round}
use Rattle.cipher.specs.FirstRound.{FirstRound, IndexOctets, KeptRow, entered, of_two}
use Rattle.cipher.specs.RowWords.{Both, BySbox, Four, Mixed, row_of, state}
use Rattle.cipher.specs.declared.row_words.Rows.{Rows}
use Rattle.cipher.proofs.RowWords.{both_fours, by_four, by_halves, four_octets, rounded_from, state_at, state_self}

---- counter blocks

-- below the index, counter blocks are the same
fixed_octet : (n : Nonce) (i p : ℕ) → p < 13 → get_or (counter_block n 0) p 0 ≡ get_or (counter_block n i) p 0
unfolding counter_block
fixed_octet n i p h =
    let same : take 13 (counter_block n 0) ≡ take 13 (counter_block n i) = refl in
    sym (get_or-take 13 (counter_block n 0) p 0 h) ∙ ap (λ (l : List ℕ). get_or l p 0) same ∙ get_or-take 13 (counter_block n i) p 0 h

fixed_cell : (w : List ℕ) (n : Nonce) (i r c : ℕ) → r < 4 → c < 4 → r + 4 * c < 13 → cell (entered w n 0) r c ≡ cell (entered w n i) r c
fixed_cell w n i r c h l b =
    state_at (λ r c. cell (counter_block n 0) r c ⊕ cell (round_key w 0) r c) r c h l
    ∙ ap (λ (x : ℕ). x ⊕ cell (round_key w 0) r c) (fixed_octet n i (r + 4 * c) b)
    ∙ sym (state_at (λ r c. cell (counter_block n i) r c ⊕ cell (round_key w 0) r c) r c h l)

-- the index stands in the last column
index_column : (w : List ℕ) (n : Nonce) (i : ℕ) → (cell (entered w n i) 1 3 ≡ octet_at i 2 ⊕ get_or w 13 0)
    × (cell (entered w n i) 2 3 ≡ octet_at i 1 ⊕ get_or w 14 0) × (cell (entered w n i) 3 3 ≡ octet_at i 0 ⊕ get_or w 15 0)
unfolding counter_block round_key octet_at
index_column w n i = (refl, refl, refl)

---- what is kept

-- the mask m clears column k of a row
masked_row : (m k : ℕ) → octet_at m 0 ≡ pick (eqb 0 k) 0 255 → octet_at m 1 ≡ pick (eqb 1 k) 0 255 → octet_at m 2 ≡ pick (eqb 2 k) 0 255
    → octet_at m 3 ≡ pick (eqb 3 k) 0 255
    → (x c : ℕ) → c < 4 → octet_at (bit_and x m) c ≡ pick (eqb c k) 0 (octet_at x c)
unfolding pick
masked_row m k e₀ e₁ e₂ e₃ x c l =
    octet_and x m c ∙ ap (bit_and (octet_at x c)) (by_four (λ c. octet_at m c ≡ pick (eqb c k) 0 255) e₀ e₁ e₂ e₃ c l) ∙ chosen (eqb c k) where
      chosen : (t : Bool) → bit_and (octet_at x c) (pick t 0 255) ≡ pick t 0 (octet_at x c)
      chosen true = and_zero_r (octet_at x c)
      chosen false = and_mask (octet_at x c) 8 ∙ mod-eq_of_lt (octet_below x c)

-- all four columns stay
no_column : (c : ℕ) → c < 4 → eqb c 4 ≡ false
no_column = by_four (λ c. eqb c 4 ≡ false) refl refl refl refl

pub whole_row : (x c : ℕ) → c < 4 → octet_at x c ≡ pick (eqb c 4) 0 (octet_at x c)
unfolding pick
whole_row x c l = rw (no_column c l)

pub without_2 : (x c : ℕ) → c < 4 → octet_at (bit_and x 0xff00ffff) c ≡ pick (eqb c 2) 0 (octet_at x c)
unfolding pick octet_at
without_2 = masked_row 0xff00ffff 2 refl refl refl refl

pub without_1 : (x c : ℕ) → c < 4 → octet_at (bit_and x 0xffff00ff) c ≡ pick (eqb c 1) 0 (octet_at x c)
unfolding pick octet_at
without_1 = masked_row 0xffff00ff 1 refl refl refl refl

pub without_0 : (x c : ℕ) → c < 4 → octet_at (bit_and x 0xffffff00) c ≡ pick (eqb c 0) 0 (octet_at x c)
unfolding pick octet_at
without_0 = masked_row 0xffffff00 0 refl refl refl refl

-- row r of block 0, shifted, with column k cleared and twice, is row r of any two blocks
module _ (w : List ℕ) (n : Nonce) (s : Rows) (first : state s 0 ≡ counter_block n 0) {key : List ℕ} (own : key ≡ round_key w 0) where
  pub kept_row : (r k : ℕ) → r < 4 → ((c : ℕ) → c < 4 → eqb c k ≡ false → r + 4 * ((c + r) % 4) < 13)
      → {x v y : ℕ} → Four (λ j. sbox (octet_at (row_of s r) ((r + j) % 4) ⊕ cell key r ((r + j) % 4))) x
      → ((c : ℕ) → c < 4 → octet_at v c ≡ pick (eqb c k) 0 (octet_at x c))
      → Both v v y → KeptRow w n r k y
  unfolding pick
  kept_row r k h fixed {x} {v} {y} shifted cleared twice = record {
    octet = λ i z c i2 l. place z c i2 l ∙ cleared c l
        ∙ chosen i c l (eqb c k) refl;
  } where
    place : (z c : ℕ) → z < 2 → c < 4 → octet_at y (4 * z + c) ≡ octet_at v c
    place = by_halves (λ p z c. octet_at y p ≡ octet_at v c) twice.low twice.high

    column : (d : ℕ) → d < 4 → octet_at (row_of s r) d ⊕ cell key r d ≡ cell (entered w n 0) r d
    column d l =
        let block = rw (first, zero-add d) at (state_at (λ r c. octet_at (row_of s r) (4 * 0 + c)) r d h l) in
        rw (own, ← block) (sym (state_at (λ r c. cell (counter_block n 0) r c ⊕ cell (round_key w 0) r c) r d h l))

    chosen : (i c : ℕ) → c < 4 → (t : Bool) → eqb c k ≡ t → pick t 0 (octet_at x c) ≡ pick t 0 (sbox (cell (entered w n i) r ((c + r) % 4)))
    chosen i c l true e = refl
    chosen i c l false e =
        let turn : (r + c) % 4 ≡ (c + r) % 4 = omega arith in
        shifted.octet c l
        ∙ ap sbox
        (ap (λ (d : ℕ). octet_at (row_of s r) d ⊕ cell key r d) turn
        ∙ column ((c + r) % 4) (omega arith)
        ∙ fixed_cell w n i r ((c + r) % 4) h (omega arith) (fixed c l e))

-- where column k is the last before ShiftRows, the other columns are fixed
pub fixed_columns : (r k c : ℕ) → r + k ≡ 3 → c < 4 → eqb c k ≡ false → r + 4 * ((c + r) % 4) < 13
fixed_columns r k c e l t = omega (arith, eqb-false c k t)

---- what the index decides

pub placed : (k : ℕ) {a b : ℕ} → k < 3 → a ≡ b → a < 256 → Four (λ c. pick (eqb c k) b 0) (a * 2 ^ (8 * k) % 2 ^ 64)
unfolding pick
placed zero l e h = four_octets (omega arith) e refl refl refl h (omega arith) (omega arith) (omega arith)
placed (suc zero) l e h = four_octets (omega arith) refl e refl refl (omega arith) h (omega arith) (omega arith)
placed (suc (suc zero)) l e h = four_octets (omega arith) refl refl e refl (omega arith) (omega arith) h (omega arith)
placed (suc (suc (suc k))) l e h = absurd (omega arith)

pub index_octets : (key i j k : ℕ) {t : List ℕ} {l u x : ℕ} → Both l u x → BySbox t (Four (λ c. pick (eqb c k) (sbox (octet_at i k ⊕ key)) 0) l)
    → BySbox t (Four (λ c. pick (eqb c k) (sbox (octet_at j k ⊕ key)) 0) u) → BySbox t (IndexOctets key i j k x)
index_octets key i j k both low high =
    record {
      holds = λ e. record {
        octet = both_fours (λ z c. pick (eqb c k) (sbox (octet_at (of_two z i j) k ⊕ key)) 0) (low.holds e) (high.holds e) both;
      };
    }

---- both together

row_of_both : (w : List ℕ) (n : Nonce) (r k key i j : ℕ) {x v : ℕ} → r + k ≡ 3 → ((e : ℕ) → cell (entered w n e) r 3 ≡ octet_at e k ⊕ key)
    → KeptRow w n r k x
    → IndexOctets key i j k v → (z c : ℕ) → z < 2 → c < 4
    → octet_at (x ⊕ v) (4 * z + c) ≡ sbox (cell (entered w n (of_two z i j)) r ((c + r) % 4))
unfolding pick
row_of_both w n r k key i j {x} {v} sum index kept own z c h l =
    octet_xor x v (4 * z + c) ∙ ap₂ bit_xor (kept.octet (of_two z i j) z c h l) (own.octet z c h l) ∙ chosen (eqb c k) refl where
      chosen : (t : Bool) → eqb c k ≡ t
          → bit_xor (pick t 0 (sbox (cell (entered w n (of_two z i j)) r ((c + r) % 4)))) (pick t (sbox (octet_at (of_two z i j) k ⊕ key)) 0)
          ≡ sbox (cell (entered w n (of_two z i j)) r ((c + r) % 4))
      chosen true e =
          let same : c ≡ k = eqb-true c k e in
          let last : (c + r) % 4 ≡ 3 = omega arith in
          xor_zero_l (sbox (octet_at (of_two z i j) k ⊕ key))
          ∙ sym (ap sbox (ap (λ (d : ℕ). cell (entered w n (of_two z i j)) r d) last ∙ index (of_two z i j)))
      chosen false e = xor_zero_r (sbox (cell (entered w n (of_two z i j)) r ((c + r) % 4)))

pub first_round : (w : List ℕ) (k kept : Rows) (i j : ℕ) {t : List ℕ} {b c d : ℕ} {x : Rows}
    → Mixed record { a = kept.a; b = kept.b ⊕ b; c = kept.c ⊕ c; d = kept.d ⊕ d } k x
    → BySbox t (IndexOctets (get_or w 13 0) i j 2 b) → BySbox t (IndexOctets (get_or w 14 0) i j 1 c) → BySbox t (IndexOctets (get_or w 15 0) i j 0 d)
    → BySbox t (FirstRound w k kept i j x)
unfolding pick
first_round w k kept i j {t} {b} {c} {d} {x} m ib ic id =
    record {
      holds = λ s.
          record {
            states = λ n share z h.
                rounded_from 2 (omega arith) (λ z r c. cell (entered w n (of_two z i j)) r c) k
                record { a = kept.a; b = kept.b ⊕ b; c = kept.c ⊕ c; d = kept.d ⊕ d } x
                (λ z e y l. share.first.octet (of_two z i j) z e y l ∙ rw (no_column e l))
                (row_of_both w n 1 2 (get_or w 13 0) i j refl (λ e. (index_column w n e).0) share.second (ib.holds s))
                (row_of_both w n 2 1 (get_or w 14 0) i j refl (λ e. (index_column w n e).1) share.third (ic.holds s))
                (row_of_both w n 3 0 (get_or w 15 0) i j refl (λ e. (index_column w n e).2) share.fourth (id.holds s)) m z h
                ∙ ap (round (state k z)) (state_self (entered w n (of_two z i j)) refl);
          };
    }
