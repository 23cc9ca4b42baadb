-- Which key an envelope of a group is opened under at a unit that joined it: that of its number, where the unit has it; and what a receipt
-- makes of the unit's keys. Assumes nothing.
use mathlib.Core.Path.{◌≡◌, refl, sym, ◌∙◌, ap, subst}
use mathlib.Core.Bool.{Bool, true, false}
use mathlib.Core.List.{List}
use mathlib.Core.Logic.{⊎_elim}
use Prim.Native.Nat.{ℕ, ◌+◌, ◌%◌, ◌≤◌}
use native.Mathlib.Omega.{arith}
use lib.Dec.{eqb, leb, ltb}
use borrow.Author.Tests.{eqb-true, eq-eqb, ne_eqb, le-leb, lt-ltb, ltb-true}
use Rattle.octets.specs.Choice.{both, either, pick}
use Rattle.octets.proofs.Choice.{both_left, both_right, both_true, both_false_right, either_left, either_right, either_cases, pick_true, pick_false, true_false}
use Rattle.refusal.specs.declared.Refusal.TheVariants.{NoKey, ClearEnvelope}
use Rattle.ends.specs.Flags.{is_up}
use Rattle.ends.proofs.Keys.{only_kept}
use Rattle.protocol.specs.Headers.{choice_enciphered, choice_number, choice_verdict}
use Rattle.protocol.specs.declared.Header.{Header}
use Rattle.protocol.specs.declared.KeyChoice.{KeyChoice}
use Rattle.protocol.specs.declared.KeyChoice.TheVariants.{Clear, Current, Next, Barred}
use Rattle.group_protocol.specs.JoinedCalls.{holds, joined_choice, joined_moved, joined_after_receipt}
use Rattle.group_protocol.specs.declared.Joined.{Joined}
use Rattle.group_protocol.proofs.JoinedCalls.{next_held}
use Rattle.unicast.specs.History.{InFlight}
use Rattle.line.specs.History.{GroupLane, Membership}
use Rattle.line.proofs.Invariant.{Under, Follows}
use Rattle.line.proofs.Queues.{under_lower}
use Rattle.refusal.specs.Verdict.{no_refusal}

---- the choice

-- a key comes into use by its index
next_index : (j : Joined) (h : Header) (n : ℕ) → joined_choice j h ≡ Next n → h.enckey ≡ (j.keys.active + 1) % 2
unfolding joined_choice pick
next_index j h n e = by_tests (eqb h.encenabled 0) (eqb j.keys.active 0) (both (is_up j.kept) (eqb h.enckey (j.keys.active % 2))) _ refl e where
  by_tests : (clear none current next : Bool) → both (is_up j.keys.held) (eqb h.enckey ((j.keys.active + 1) % 2)) ≡ next
      → pick clear (pick none Clear (Barred ClearEnvelope))
      (pick current (Current j.keys.active) (pick next (Next (j.keys.active + 1)) (Barred NoKey)))
      ≡ Next n
      → h.enckey ≡ (j.keys.active + 1) % 2
  by_tests true true current next p f = let z : ◌≡◌ {A = ℕ} 0 1 = cc in absurd (omega arith)
  by_tests true false current next p f = let z : ◌≡◌ {A = ℕ} 0 1 = cc in absurd (omega arith)
  by_tests false none true next p f = let z : ◌≡◌ {A = ℕ} 0 1 = cc in absurd (omega arith)
  by_tests false none false false p f = let z : ◌≡◌ {A = ℕ} 0 1 = cc in absurd (omega arith)
  by_tests false none false true p f = eqb-true _ _ (both_right _ _ p)

-- the choice for an envelope numbered n is that number's
pub record ChosenAt (choice : KeyChoice) (n : ℕ) : Type 0 where
  pub accepts : choice_verdict choice ≡ no_refusal
  pub chosen : choice_number choice ≡ n
  pub enciphered : choice_enciphered choice ≡ leb 1 n

pub chosen_clear : (j : Joined) (h : Header) (n : ℕ) → n ≡ 0 → h.encenabled ≡ 0 → j.keys.active ≡ 0 → ChosenAt (joined_choice j h) n
unfolding joined_choice choice_verdict choice_number choice_enciphered
chosen_clear j h n z e a =
    let is : joined_choice j h ≡ Clear = pick_true _ _ (eq-eqb h.encenabled 0 e) ∙ pick_true _ _ (eq-eqb j.keys.active 0 a) in
    subst (λ (c : KeyChoice). ChosenAt c n) (sym is) (record { accepts = refl; chosen = sym z; enciphered = sym (ap (leb 1) z) })

pub chosen_sealed : (j : Joined) (h : Header) (n : ℕ) → 1 ≤ n → h.encenabled ≡ 1 → h.enckey ≡ n % 2 → holds j n ≡ true
    → ChosenAt (joined_choice j h) n
unfolding joined_choice choice_verdict choice_number choice_enciphered holds
chosen_sealed j h n some e index held = ⊎_elim next current (either_cases _ _ held) where
  sealed : eqb h.encenabled 0 ≡ false
  sealed = ne_eqb h.encenabled 0 (λ z. omega (arith, e, z))

  current : both (is_up j.kept) (eqb n j.keys.active) ≡ true → ChosenAt (joined_choice j h) n
  current p =
      let same = eqb-true n j.keys.active (both_right _ _ p) in
      let is : joined_choice j h ≡ Current j.keys.active =
      pick_false _ _ sealed ∙ pick_true _ _ (both_true (both_left _ _ p) (eq-eqb h.enckey (j.keys.active % 2) (omega (arith, index, same)))) in
      subst (λ (c : KeyChoice). ChosenAt c n) (sym is) (record { accepts = refl; chosen = sym same; enciphered = sym (le-leb 1 n some) })

  next : both (is_up j.keys.held) (eqb n (j.keys.active + 1)) ≡ true → ChosenAt (joined_choice j h) n
  next p =
      let same = eqb-true n (j.keys.active + 1) (both_right _ _ p) in
      let is : joined_choice j h ≡ Next (j.keys.active + 1) =
      pick_false _ _ sealed
      ∙ pick_false _ _ (both_false_right (is_up j.kept) (ne_eqb h.enckey (j.keys.active % 2) (λ z. omega (arith, index, same, z))))
      ∙ pick_true _ _ (both_true (both_left _ _ p) (eq-eqb h.enckey ((j.keys.active + 1) % 2) (omega (arith, index, same)))) in
      subst (λ (c : KeyChoice). ChosenAt c n) (sym is) (record { accepts = refl; chosen = sym same; enciphered = sym (le-leb 1 n some) })

---- what a receipt leaves

module _ (l : GroupLane) (active offered : ℕ) (member : Bool) (ms : List Membership) (j : Joined) (xs rest : List InFlight) (n : ℕ)
    (f : Follows l active offered member ms j xs) (low : j.keys.active ≤ n) (most : n ≤ active)
    (after : Under l n active offered rest) (is : member ≡ true) where
  same_follows : Follows l active offered member ms j rest
  same_follows =
      record {
        low = f.low;
        kept = f.kept;
        held = f.held;
        took = f.took;
        queue = under_lower l n j.keys.active active offered rest low after;
        stranger = λ e. true_false (sym is ∙ e);
      }

  -- what was taken is held still, or below
  took_moved : j.keys.held ≡ 1 → (k : ℕ) → either (ltb k j.keys.active) (holds j k) ≡ true
      → either (ltb k (j.keys.active + 1)) (holds (joined_moved j) k) ≡ true
  unfolding holds joined_moved
  took_moved up k e =
      ⊎_elim (λ h. either_left _ (lt-ltb k (j.keys.active + 1) (omega (arith, ltb-true k j.keys.active h))))
      (λ h.
      ⊎_elim (λ p. either_right _ (either_right _ (both_true refl (both_right _ _ p))))
      (λ p. either_left _ (lt-ltb k (j.keys.active + 1) (omega (arith, eqb-true k j.keys.active (both_right _ _ p))))) (either_cases _ _ h))
      (either_cases _ _ e)

  moved_follows : j.keys.held ≡ 1 → j.keys.active + 1 ≤ n → Follows l active offered member ms (joined_moved j) rest
  unfolding joined_moved
  moved_follows up above =
      let key = f.held up in
      record {
        low = omega (arith, above, most);
        kept = λ e. record { some = key.some; most = key.most; key = only_kept j.keys.slots (j.keys.active + 1) ∙ key.key };
        held = λ e. absurd (omega (arith, e));
        took = λ k t. took_moved up k (f.took k t);
        queue = under_lower l n (j.keys.active + 1) active offered rest above after;
        stranger = λ e. true_false (sym is ∙ e);
      }

  pub receipt_follows : (h : Header) → h.enckey ≡ n % 2 → Follows l active offered member ms (joined_after_receipt (joined_choice j h) j) rest
  unfolding joined_after_receipt
  receipt_follows h index = by_choice (joined_choice j h) refl where
    by_choice : (c : KeyChoice) → joined_choice j h ≡ c → Follows l active offered member ms (joined_after_receipt c j) rest
    by_choice Clear e = same_follows
    by_choice (Current m) e = same_follows
    by_choice (Barred r) e = same_follows
    by_choice (Next m) e = moved_follows (next_held j h m e).0 (omega (arith, low, index, next_index j h m e))
