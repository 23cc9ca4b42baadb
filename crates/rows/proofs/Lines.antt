-- Laws of lines that grow by pieces of text. Assumes nothing.
use Rattle.std.specs.Prelude.{Ok, Err}
use mathlib.Core.Path.{◌≡◌, refl, ap, ◌∙◌}
use mathlib.Core.Bool.{Bool, true, false}
use mathlib.Core.List.{List, [], ◌∷◌, ◌++◌, append_assoc}
use Prim.Native.Nat.{ℕ, zero, suc, ◌+◌, ◌/◌, ◌%◌, ◌^◌, ◌≤◌, ◌<◌}
use native.Mathlib.Nat.{pow-suc}
use native.Mathlib.Numerals.{add-one}
use native.Mathlib.Omega.{arith}
use lib.Dec.{ltb, eqb}
use lib.ListN.{length, length-append}
use borrow.Author.Tests.{lt-ltb, le-ltb, ltb-false}
use Rattle.octets.proofs.Choice.{pick_true, pick_false, pick_holds, pick_same}
use Rattle.refusal.specs.Number.{number_of, pair_number}
use Rattle.refusal.specs.declared.Refusal.{Refusal}
use Rattle.records.specs.declared.header.Header.{Header}
use Rattle.rows.specs.declared.Line.{Line}
use Rattle.rows.specs.Text.{glyph_of, digits, most_digits, digits_within, digit_count, decimal_of, refused_text, pair_text, result_text, row_head, row_middle, row_tail, row_of, seen_row, hidden_row, refused_row, text_of, row_octets, Holds}
use Rattle.rows.specs.Duties.{Grown}
use Rattle.records.specs.Verdict.{RecordVerdict}
use Rattle.records.specs.declared.header.Access.TheVariants.{Clear, Sealed}

-- one piece after the other
pub both_grown : {l m n : Line} {p q : List ℕ} → Grown l m p → Grown m n q → Grown l n (p ++ q)
both_grown {l} {m} {n} {p} {q} a b =
    record { text = b.text ∙ rw a.text (append_assoc (text_of l) p q); used = omega (arith, a.used, b.used, length-append p q) }

-- on an empty line, a piece that fits is all
pub held : {l m : Line} {p : List ℕ} → Holds l [] → Grown l m p → m.used ≤ row_octets → Holds m p
held e g fits = record { octets = g.text ∙ rw e.octets; used = omega (arith, g.used, e.used); inside = fits }

-- one digit more of those that are left
pub one_digit : (t : List ℕ) (b k n x : ℕ) → x ≡ glyph_of (n / b ^ k % b) → (t ++ (x ∷ [])) ++ digits b k n ≡ t ++ digits b (k + 1) n
one_digit t b k n x e = rw (e, add-one) (append_assoc t _ (digits b k n))

pub digits_length : (b k n : ℕ) → length (digits b k n) ≡ k
digits_length b zero n = refl
digits_length b (suc k) n = ap suc (digits_length b k n)

-- one digit more behind a number of several
pub more_digits : (m n : ℕ) → 10 ≤ n → digits_within (suc m) n ≡ suc (digits_within m (n / 10))
unfolding digits_within
more_digits m n h = pick_false _ _ (le-ltb n 10 h)

pub one_digit_only : (m n : ℕ) → n < 10 → digits_within (suc m) n ≡ 1
unfolding digits_within
one_digit_only m n h = pick_true _ _ (lt-ltb n 10 h)

pub last_digit : (n : ℕ) → digits_within 1 n ≡ 1
unfolding digits_within
last_digit n = pick_same (ltb n 10) 1

-- how long the pieces of a row can be
few_by : (b : Bool) (m d n : ℕ) → ltb n 10 ≡ b → n < 10 ^ suc d → digits_within m n ≤ suc d
unfolding digits_within
few_by true zero d n e h = omega arith
few_by true (suc m) d n e h = rw (pick_true _ _ e) (omega arith)
few_by false zero d n e h = omega arith
few_by false (suc m) zero n e h = absurd (omega (arith, ltb-false n 10 e))
few_by false (suc m) (suc d) n e h = rw (pick_false _ _ e) (omega (arith, few_by (ltb (n / 10) 10) m d (n / 10) refl (omega (arith, pow-suc 10 (suc d)))))

pub decimal_below : (d n : ℕ) → n < 10 ^ suc d → length (decimal_of n) ≤ suc d
unfolding decimal_of digit_count
decimal_below d n h = rw digits_length (few_by (ltb n 10) most_digits d n refl h)

within_few : (m n : ℕ) → digits_within m n ≤ m
unfolding digits_within
within_few zero n = omega arith
within_few (suc m) n = pick_holds (λ k. k ≤ suc m) (ltb n 10) 1 _ (λ e. omega arith) (λ e. omega (arith, within_few m (n / 10)))

pub decimal_few : (n : ℕ) → length (decimal_of n) ≤ most_digits
unfolding decimal_of digit_count
decimal_few n = rw digits_length (within_few most_digits n)

number_few : (r : Refusal) → number_of r < 100
number_few r = grind arith

pub number_digits : (r : Refusal) → length (decimal_of (number_of r)) ≤ 2
number_digits r = decimal_below 1 (number_of r) (number_few r)

pub refused_few : (r : Refusal) → length (refused_text r) ≤ 10
unfolding refused_text
refused_few r = omega (arith, number_digits r)

pub pair_few : (r : Refusal) → length (pair_text r) ≤ 21
unfolding pair_text
pair_few r = pick_holds (λ t. length t ≤ 21) (eqb (pair_number r) 0) [] _ (λ e. omega arith) (λ e. omega (arith, decimal_few (pair_number r)))

pub refused_row_few : (r : Refusal) → length (refused_row r) ≤ 32
unfolding refused_row
refused_row_few r = simp length-append (omega (arith, refused_few r, pair_few r))

pub result_few : (v : RecordVerdict) → length (result_text v) ≤ 10
unfolding result_text
result_few (Ok Clear) = omega arith
result_few (Ok (Sealed i t)) = omega arith
result_few (Err r) = refused_few r

pub head_few : (k : ℕ) (h : Header) → length (row_head k h) ≤ length (decimal_of k) + 9
unfolding row_head
head_few k h = simp length-append (omega arith)

pub middle_few : (h : Header) → length (row_middle h) ≤ length (decimal_of h.eqs) + 3
unfolding row_middle
middle_few h = simp length-append (omega arith)

pub tail_few : (h : Header) (v : RecordVerdict) → length (row_tail h v) ≤ length (decimal_of h.eqs) + 14
unfolding row_tail
tail_few h v = simp length-append (omega (arith, middle_few h, result_few v))

pub row_few : (k : ℕ) (h : Header) (v : RecordVerdict) → length (row_of k h v) ≤ length (decimal_of k) + length (decimal_of h.eqs) + 23
unfolding row_of
row_few k h v = simp length-append (omega (arith, head_few k h, tail_few h v))

pub seen_few : (k : ℕ) (h : Header) → length (seen_row k h) ≤ length (decimal_of k) + length (decimal_of h.eqs) + 17
unfolding seen_row
seen_few k h = simp length-append (omega (arith, head_few k h, middle_few h))

pub hidden_few : (k : ℕ) → length (hidden_row k) ≤ length (decimal_of k) + 3
unfolding hidden_row
hidden_few k = simp length-append (omega arith)
