-- Laws of sameness: a record is the same as itself, and two records are the same in either order. Assumes nothing.
use mathlib.Core.Path.{◌≡◌, refl, sym}
use mathlib.Core.Bool.{true, false}
use mathlib.Core.List.{List}
use Prim.Native.Nat.{ℕ}
use native.Mathlib.Omega.{arith}
use lib.Dec.{eqb}
use borrow.Author.Tests.{eqb-true, eq-eqb, ne_eqb}
use Rattle.octets.specs.Choice.{both}
use Rattle.octets.proofs.Choice.{both_left, both_right, both_true, both_false_left, both_false_right}
use Rattle.records.specs.declared.header.Header.{Header}
use Rattle.octets.specs.Each.{each}
use Rattle.envelope.specs.ControlMask.{control_octet, data_octet}
use Rattle.records.specs.Record.{record_header, payload_of}
use Rattle.records.specs.Verdict.{enc_key}
use Rattle.sameness.specs.Sameness.{data_octets, same_eq, same_data, same_control, same}
use Rattle.octets.proofs.Each.{each_at, each_true}

same_eq_self : (p : List ℕ) (e : ℕ) → same_eq p p e ≡ true
unfolding same_eq
same_eq_self p e = each_true 0 data_octets (λ j. eqb (data_octet p e j) (data_octet p e j)) (λ j l h. eq-eqb (data_octet p e j) _ refl)

same_eq_back : (p q : List ℕ) (e : ℕ) → same_eq p q e ≡ true → same_eq q p e ≡ true
unfolding same_eq
same_eq_back p q e t =
    each_true 0 data_octets (λ j. eqb (data_octet q e j) (data_octet p e j))
    (λ j l h.
    let at = each_at 0 data_octets (λ j. eqb (data_octet p e j) (data_octet q e j)) j t l h in
    eq-eqb _ _ (sym (eqb-true (data_octet p e j) (data_octet q e j) at)))

data_self : (r : List ℕ) → same_data r r ≡ true
unfolding same_data
data_self r =
    both_true (eq-eqb (record_header r).eqs _ refl)
    (each_true 0 (record_header r).eqs (same_eq (payload_of r) (payload_of r)) (λ e l h. same_eq_self (payload_of r) e))

-- records that were the same have as many EQs
data_eqs : (r s : List ℕ) → same_data r s ≡ true → (record_header r).eqs ≡ (record_header s).eqs
unfolding same_data
data_eqs r s t = eqb-true _ _ (both_left _ _ t)

data_back : (r s : List ℕ) → same_data r s ≡ true → same_data s r ≡ true
unfolding same_data
data_back r s t =
    let n = data_eqs r s t in
    let at = each_at 0 (record_header r).eqs (same_eq (payload_of r) (payload_of s)) in
    both_true (eq-eqb _ _ (sym n))
    (each_true 0 (record_header s).eqs (same_eq (payload_of s) (payload_of r))
    (λ e l h. same_eq_back (payload_of r) (payload_of s) e (at e (both_right _ _ t) l (omega arith))))

---- by what a call finds

module _ (g h : Header) (r s : List ℕ) (x : g ≡ record_header r) (y : h ≡ record_header s) where
  pub same_by_controls : (p q : List ℕ) → p ≡ payload_of r → q ≡ payload_of s → same_data r s ≡ true → enc_key g.flags ≡ enc_key h.flags
      → same r s ≡ each 0 g.eqs (same_control p q)
  unfolding same both
  same_by_controls p q u v d k = rw (d, ← x, ← y, ← u, ← v, eq-eqb (enc_key g.flags) (enc_key h.flags) k)

  pub same_by_key : (enc_key g.flags ≡ enc_key h.flags → ⊥) → same r s ≡ false
  unfolding same
  same_by_key f = rw (← x, ← y) (both_false_right _ (both_false_left _ (ne_eqb (enc_key g.flags) (enc_key h.flags) f)))

pub same_by_data : (r s : List ℕ) → same_data r s ≡ false → same r s ≡ false
unfolding same
same_by_data r s e = both_false_left _ e

---- in either order

pub same_self : (r : List ℕ) → same r r ≡ true
unfolding same
same_self r =
    both_true (data_self r)
    (both_true (eq-eqb (enc_key (record_header r).flags) _ refl)
    (each_true 0 (record_header r).eqs (same_control (payload_of r) (payload_of r)) (λ e l h. eq-eqb (control_octet (payload_of r) e) _ refl)))

-- what is the same was the same before (02, C-20)
pub same_finer : (r s : List ℕ) → same r s ≡ true → same_data r s ≡ true
unfolding same
same_finer r s t = both_left _ _ t

same_back : (r s : List ℕ) → same r s ≡ true → same s r ≡ true
unfolding same
same_back r s t =
    let before = both_left _ _ t in
    let rest = both_right _ _ t in
    let n : (record_header r).eqs ≡ (record_header s).eqs = data_eqs r s before in
    let p = payload_of r in
    let q = payload_of s in
    let at = each_at 0 (record_header r).eqs (same_control p q) in
    both_true (data_back r s before)
    (both_true (eq-eqb _ _ (sym (eqb-true (enc_key (record_header r).flags) (enc_key (record_header s).flags) (both_left _ _ rest))))
    (each_true 0 (record_header s).eqs (same_control q p)
    (λ e l h. eq-eqb _ _ (sym (eqb-true (control_octet p e) (control_octet q e) (at e (both_right _ _ rest) l (omega arith)))))))

pub same_either_way : (r s : List ℕ) → same r s ≡ same s r
same_either_way r s = grind (arith, same_back r s, same_back s r)
