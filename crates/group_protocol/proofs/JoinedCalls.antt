-- Laws of a unit's calls on one group that it joined: a valid group stays valid, and keeps its LLID. Assumes nothing.
use mathlib.Core.Path.{◌≡◌, refl}
use mathlib.Core.Bool.{Bool, true, false}
use mathlib.Core.Logic.{⊎_elim}
use Prim.Native.Nat.{ℕ, ◌+◌, ◌-◌, ◌%◌, ◌≤◌, ◌<◌}
use native.Mathlib.Omega.{arith}
use lib.Dec.{leb, eqb}
use borrow.Author.Tests.{eqb-true, leb-true, le-leb, ltb-true, lt-ltb}
use Rattle.octets.specs.Choice.{both, either, pick}
use Rattle.octets.proofs.Choice.{both_left, both_right, both_true, either_cases, either_left, either_right, pick_holds}
use Rattle.refusal.specs.declared.Refusal.TheVariants.{ClearEnvelope, NoKey}
use Rattle.ends.specs.Flags.{is_up}
use Rattle.ends.specs.Limits.{max_key_number}
use Rattle.ends.specs.Validity.{valid_onu_keys}
use Rattle.ends.proofs.Validity.{onu_keys_in_range}
use Rattle.protocol.specs.declared.Header.{Header}
use Rattle.protocol.specs.declared.KeyMessage.{KeyMessage}
use Rattle.protocol.specs.declared.KeyChoice.{KeyChoice}
use Rattle.protocol.specs.declared.KeyChoice.TheVariants.{Clear, Current, Next, Barred}
use Rattle.group_protocol.specs.Subscriber.{valid_joined}
use Rattle.group_protocol.specs.JoinedCalls.{highest_held, holds, new_number, joined_taken, joined_after_message, joined_choice, joined_moved, joined_after_receipt}
use Rattle.group_protocol.specs.declared.Joined.{Joined}

---- a key that comes into use

-- a key that comes into use is held
pub next_held : (j : Joined) (h : Header) (n : ℕ) → joined_choice j h ≡ Next n → (j.keys.held ≡ 1) × (n ≡ j.keys.active + 1)
unfolding joined_choice pick
next_held j h n e = by_tests (eqb h.encenabled 0) (eqb j.keys.active 0) (both (is_up j.kept) (eqb h.enckey (j.keys.active % 2))) _ refl e where
  by_tests : (clear none current next : Bool) → both (is_up j.keys.held) (eqb h.enckey ((j.keys.active + 1) % 2)) ≡ next
      → pick clear (pick none Clear (Barred ClearEnvelope))
      (pick current (Current j.keys.active) (pick next (Next (j.keys.active + 1)) (Barred NoKey)))
      ≡ Next n
      → (j.keys.held ≡ 1) × (n ≡ j.keys.active + 1)
  by_tests true true current next p f = (cc, cc)
  by_tests true false current next p f = (cc, cc)
  by_tests false none true next p f = (cc, cc)
  by_tests false none false false p f = (cc, cc)
  by_tests false none false true p f = (eqb-true _ _ (both_left _ _ p), cc)

-- so that its number is one
pub next_below : (j : Joined) (h : Header) (n : ℕ) → valid_joined j ≡ true → joined_choice j h ≡ Next n → j.keys.active < max_key_number
unfolding valid_joined
next_below j h n v e = (onu_keys_in_range j.keys (both_left _ _ v)).below (next_held j h n e).0

---- a valid group stays valid

module _ (j : Joined) (valid : valid_joined j ≡ true) where
  -- key a is held only with a ≥ 1
  kept_one : j.kept ≡ 1 → 1 ≤ j.keys.active
  unfolding valid_joined
  kept_one h =
      ⊎_elim (λ z. absurd (omega (arith, eqb-true j.kept 0 z))) (λ l. leb-true 1 j.keys.active l)
      (either_cases _ _ (both_right _ _ (both_right _ _ valid)))

  -- a key that is held has a number
  pub holds_one : (n : ℕ) → holds j n ≡ true → 1 ≤ n
  unfolding holds
  holds_one n e =
      ⊎_elim (λ h. omega (arith, eqb-true n (j.keys.active + 1) (both_right _ _ h)))
      (λ h. omega (arith, eqb-true n j.keys.active (both_right _ _ h), kept_one (eqb-true j.kept 1 (both_left _ _ h)))) (either_cases _ _ e)

  taken_valid : (m : KeyMessage) → new_number j m ≡ true → valid_joined (joined_taken j m) ≡ true
  unfolding new_number joined_taken valid_joined valid_onu_keys pick
  taken_valid m e =
      let low : m.number ≤ max_key_number = leb-true m.number max_key_number (both_left _ _ e) in
      let high : highest_held j < m.number = ltb-true (highest_held j) m.number (both_right _ _ e) in
      let below : m.number - 1 < max_key_number = omega arith in
      both_true (both_true refl (either_right _ (lt-ltb (m.number - 1) max_key_number below)))
      (by_held (holds j (m.number - 1)) refl) where
        by_held : (t : Bool) → holds j (m.number - 1) ≡ t
            → both (leb (pick t 1 0) 1) (either (eqb (pick t 1 0) 0) (leb 1 (m.number - 1))) ≡ true
        by_held true h = both_true refl (either_right _ (le-leb 1 (m.number - 1) (holds_one (m.number - 1) h)))
        by_held false h = both_true refl (either_left _ refl)

  pub message_valid : (m : KeyMessage) → valid_joined (joined_after_message j m) ≡ true
  unfolding joined_after_message
  message_valid m = pick_holds (λ (k : Joined). valid_joined k ≡ true) (new_number j m) _ _ (taken_valid m) (λ _. valid)

  moved_valid : valid_joined (joined_moved j) ≡ true
  unfolding joined_moved valid_joined valid_onu_keys both either
  moved_valid = le-leb 1 (j.keys.active + 1) (omega arith)

  pub receipt_valid : (k : KeyChoice) → valid_joined (joined_after_receipt k j) ≡ true
  unfolding joined_after_receipt
  receipt_valid Clear = valid
  receipt_valid (Current n) = valid
  receipt_valid (Next n) = moved_valid
  receipt_valid (Barred r) = valid

---- and keeps its LLID

pub message_llid : (j : Joined) (m : KeyMessage) → (joined_after_message j m).llid ≡ j.llid
unfolding joined_after_message joined_taken
message_llid j m = pick_holds (λ (k : Joined). k.llid ≡ j.llid) (new_number j m) _ _ (λ _. refl) (λ _. refl)

pub receipt_llid : (k : KeyChoice) (j : Joined) → (joined_after_receipt k j).llid ≡ j.llid
unfolding joined_after_receipt joined_moved
receipt_llid Clear j = refl
receipt_llid (Current n) j = refl
receipt_llid (Next n) j = refl
receipt_llid (Barred r) j = refl
