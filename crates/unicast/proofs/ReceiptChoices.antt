-- Which key a receipt is opened with, at a unit and at the OLT: that of the number that it was sent under; and what it makes of the
-- keys there. Assumes nothing.
use mathlib.Core.Path.{◌≡◌, refl, sym, ◌∙◌, ap}
use mathlib.Core.Logic.{◌⊎◌, inl, inr, ⊎_elim}
use Prim.Native.Nat.{ℕ, ◌+◌, ◌%◌, ◌≤◌}
use native.Mathlib.Omega.{arith}
use lib.Dec.{leb}
use borrow.Author.Tests.{le-leb}
use Rattle.protocol.specs.Headers.{choice_enciphered, choice_number, choice_verdict, envelope_header}
use Rattle.ends.specs.Keys.{key_in, only_key, not_noted}
use Rattle.protocol.specs.OnuTraffic.{onu_receive_choice, onu_moved, onu_after_receipt}
use Rattle.ends.specs.Records.{with_keys, with_confirmation, with_slots, with_onu_keys, with_onu_first}
use Rattle.protocol.specs.UnitTraffic.{unit_receive_choice, unit_confirmed, unit_after_receipt}
use Rattle.ends.specs.declared.FirstSend.{FirstSend}
use Rattle.protocol.specs.declared.Header.{Header}
use Rattle.protocol.specs.declared.KeyChoice.{KeyChoice}
use Rattle.protocol.specs.declared.KeyChoice.TheVariants.{Clear, Current, Next}
use Rattle.ends.specs.declared.Onu.{Onu}
use Rattle.ends.specs.declared.OnuKeys.{OnuKeys}
use Rattle.ends.specs.declared.Slots.{Slots}
use Rattle.ends.specs.declared.UnitRecord.{UnitRecord}
use Rattle.protocol.proofs.Headers.{header_clear, header_sealed}
use Rattle.ends.proofs.Keys.{only_kept}
use Rattle.protocol.proofs.OnuChoices.{onu_receive_clear, onu_receive_current, onu_receive_next}
use Rattle.protocol.proofs.UnitChoices.{receive_clear, receive_current, receive_next}
use Rattle.unicast.proofs.Cases.{same_or_not}
use Rattle.unicast.proofs.Invariant.{reach_of}
use Rattle.refusal.specs.Verdict.{no_refusal}

---- the choice

-- a choice that is accepted and is that of number n
pub record Takes (choice : KeyChoice) (n : ℕ) : Type 0 where
  pub accepts : choice_verdict choice ≡ no_refusal
  pub chosen : choice_number choice ≡ n
  pub enciphered : choice_enciphered choice ≡ leb 1 n

takes_clear : (n : ℕ) → n ≡ 0 → Takes Clear n
unfolding choice_verdict choice_number choice_enciphered
takes_clear n z = record { accepts = refl; chosen = sym z; enciphered = sym (ap (leb 1) z) }

takes_current : (n : ℕ) → 1 ≤ n → Takes (Current n) n
unfolding choice_verdict choice_number choice_enciphered
takes_current n h = record { accepts = refl; chosen = refl; enciphered = sym (le-leb 1 n h) }

takes_next : (n : ℕ) → 1 ≤ n → Takes (Next n) n
unfolding choice_verdict choice_number choice_enciphered
takes_next n h = record { accepts = refl; chosen = refl; enciphered = sym (le-leb 1 n h) }

-- a header says whether its number is 0, and else which of two keys it is
header_number : (h : Header) (n channel llid clock : ℕ) → h ≡ envelope_header n channel llid clock
    → ((n ≡ 0) × (h.encenabled ≡ 0)) ⊎ ((1 ≤ n) × (h.encenabled ≡ 1) × (h.enckey ≡ n % 2))
unfolding envelope_header
header_number h n channel llid clock e =
    let enabled = ap (λ (x : Header). x.encenabled) e in
    same_or_not n 0 (λ none. inl (none, enabled ∙ header_clear n channel llid clock none))
    (λ other.
    let some : 1 ≤ n = omega arith in
    inr (some, enabled ∙ header_sealed n channel llid clock some, ap (λ (x : Header). x.enckey) e))

---- at a unit

-- what a receipt under number n makes of the unit
pub record TakenDown (o : Onu) (choice : KeyChoice) (n : ℕ) : Type 0 where
  pub takes : Takes choice n
  pub keys : OnuKeys
  pub first : FirstSend
  pub after : onu_after_receipt choice o ≡ with_onu_first (with_onu_keys o keys) first
  pub active : keys.active ≡ n
  pub flag : keys.held ≤ 1
  pub reach : reach_of keys ≡ reach_of o.keys
  pub slots : (m : ℕ) → n ≤ m → m ≤ reach_of o.keys → key_in keys.slots m ≡ key_in o.keys.slots m
  pub stays : n ≡ o.keys.active → first ≡ o.first
  pub unsent : (n ≡ o.keys.active → ⊥) → first.noted ≡ 0

-- number 0, or that in use
taken_same : (o : Onu) (choice : KeyChoice) (n : ℕ) → Takes choice n → onu_after_receipt choice o ≡ o → n ≡ o.keys.active → o.keys.held ≤ 1
    → TakenDown o choice n
unfolding with_onu_first with_onu_keys
taken_same o choice n takes after e f =
    record {
      takes = takes;
      keys = o.keys;
      first = o.first;
      after = after;
      active = sym e;
      flag = f;
      reach = refl;
      slots = λ m p q. refl;
      stays = λ q. refl;
      unsent = λ q. absurd (q e);
    }

-- the key that was held comes into use
taken_next : (o : Onu) (n : ℕ) → n ≡ o.keys.active + 1 → o.keys.held ≡ 1 → TakenDown o (Next n) n
unfolding onu_after_receipt onu_moved
taken_next o n e f =
    record {
      takes = takes_next n (omega arith);
      keys = record { active = o.keys.active + 1; held = 0; slots = only_key o.keys.slots (o.keys.active + 1) };
      first = not_noted;
      after = refl;
      active = sym e;
      flag = omega arith;
      reach = omega arith;
      slots = λ m p q.
          let same : m ≡ o.keys.active + 1 = omega arith in
          rw same (only_kept o.keys.slots (o.keys.active + 1));
      stays = λ q. absurd (omega arith);
      unsent = λ q. refl;
    }

pub taken_down : (o : Onu) (h : Header) (n channel llid clock : ℕ) → h ≡ envelope_header n channel llid clock → o.keys.active ≤ n
    → n ≤ reach_of o.keys
    → o.keys.held ≤ 1 → TakenDown o (onu_receive_choice o.keys h) n
unfolding onu_after_receipt
taken_down o h n channel llid clock e low high flag =
    ⊎_elim
    (λ a.
    let first : o.keys.active ≡ 0 = omega (arith, a.0) in
    rw (onu_receive_clear o.keys h a.1 first) (taken_same o Clear n (takes_clear n a.0) refl (a.0 ∙ sym first) flag))
    (λ a.
    same_or_not n o.keys.active
    (λ same.
    rw (onu_receive_current o.keys h n a.1 a.2 a.0 same) (taken_same o (Current n) n (takes_current n a.0) refl same flag))
    (λ more.
    let held : o.keys.held ≡ 1 = omega arith in
    let next : n ≡ o.keys.active + 1 = omega arith in
    rw (onu_receive_next o.keys h n a.1 a.2 held next) (taken_next o n next held)))
    (header_number h n channel llid clock e)

---- at the OLT

-- a unit of which C is n, and whose keys are those slots
abbrev pub confirmed_at : UnitRecord → Slots → ℕ → UnitRecord
confirmed_at u slots n =
    with_confirmation (with_keys u (with_slots u.keys slots)) (record { confirmed = n; acknowledged = u.confirmation.acknowledged })

-- what a receipt under number n makes of the OLT's record of the unit
pub record TakenUp (u : UnitRecord) (choice : KeyChoice) (n : ℕ) : Type 0 where
  pub takes : Takes choice n
  pub slots : Slots
  pub after : unit_after_receipt choice u ≡ confirmed_at u slots n
  pub stored : (m : ℕ) → n ≤ m → m ≤ u.keys.offered → key_in slots m ≡ key_in u.keys.slots m

-- number 0, or C
confirmed_same : (u : UnitRecord) (choice : KeyChoice) (n : ℕ) → Takes choice n → unit_after_receipt choice u ≡ u → n ≡ u.confirmation.confirmed
    → TakenUp u choice n
unfolding with_confirmation with_keys with_slots
confirmed_same u choice n takes after e =
    record {
      takes = takes;
      slots = u.keys.slots;
      after = after ∙ sym (ap (confirmed_at u u.keys.slots) e);
      stored = λ m p q. refl;
    }

-- A is confirmed
confirmed_next : (u : UnitRecord) (n : ℕ) → 1 ≤ n → n ≡ u.keys.active → u.keys.offered ≤ n → TakenUp u (Next n) n
unfolding unit_after_receipt unit_confirmed
confirmed_next u n h e f =
    record {
      takes = takes_next n h;
      slots = only_key u.keys.slots u.keys.active;
      after = sym (ap (confirmed_at u (only_key u.keys.slots u.keys.active)) e);
      stored = λ m p q.
          let same : m ≡ u.keys.active = omega arith in
          rw same (only_kept u.keys.slots u.keys.active);
    }

pub taken_up : (u : UnitRecord) (h : Header) (n channel llid clock : ℕ) → h ≡ envelope_header n channel llid clock
    → u.confirmation.confirmed ≤ n → n ≤ u.keys.active
    → u.keys.active ≤ u.keys.offered → u.keys.offered ≤ u.confirmation.confirmed + 1 → TakenUp u (unit_receive_choice u h) n
unfolding unit_after_receipt
taken_up u h n channel llid clock e low high mid top =
    ⊎_elim
    (λ a.
    let first : u.confirmation.confirmed ≡ 0 = omega (arith, a.0) in
    rw (receive_clear u h a.1 first) (confirmed_same u Clear n (takes_clear n a.0) refl (a.0 ∙ sym first)))
    (λ a.
    same_or_not n u.confirmation.confirmed
    (λ same. rw (receive_current u h n a.1 a.2 a.0 same) (confirmed_same u (Current n) n (takes_current n a.0) refl same))
    (λ more.
    let next : n ≡ u.confirmation.confirmed + 1 = omega arith in
    let active : n ≡ u.keys.active = omega arith in
    rw (receive_next u h n a.1 a.2 active next) (confirmed_next u n a.0 active (omega arith))))
    (header_number h n channel llid clock e)
