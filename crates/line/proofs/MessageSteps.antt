-- The message of a group's key that arrives at a member keeps what holds of that unit and group. Assumes nothing.
use mathlib.Core.Path.{◌≡◌, refl, sym, ◌∙◌, ap, subst}
use mathlib.Core.Bool.{Bool, true, false}
use mathlib.Core.List.{List}
use mathlib.Core.Logic.{⊎_elim}
use Prim.Native.Nat.{ℕ, ◌+◌, ◌-◌, ◌<◌, ◌≤◌}
use native.Mathlib.Omega.{arith}
use lib.Dec.{eqb, ltb}
use borrow.Author.Tests.{eqb-true, eqb-false, eq-eqb, lt-ltb, ltb-true}
use Rattle.octets.specs.Choice.{either, pick}
use Rattle.octets.proofs.Choice.{both_left, both_right, both_true, either_left, either_right, either_cases, pick_true, pick_false, true_false}
use Rattle.ends.specs.Flags.{is_up}
use Rattle.ends.specs.Keys.{no_slots, key_in, with_key}
use Rattle.ends.specs.declared.Slots.{Slots}
use Rattle.ends.proofs.Keys.{key_stored, key_beside}
use Rattle.protocol.specs.declared.KeyMessage.{KeyMessage}
use Rattle.group_protocol.specs.Subscriber.{valid_joined}
use Rattle.group_protocol.specs.JoinedCalls.{highest_held, holds, held_again, new_number, joined_taken, joined_after_message}
use Rattle.group_protocol.specs.declared.Joined.{Joined}
use Rattle.unicast.specs.History.{InFlight}
use Rattle.line.specs.History.{GroupLane, Membership, taking}
use Rattle.line.proofs.Invariant.{KeyUnder, Under, KeyHeld, Follows}
use Rattle.line.proofs.Queues.{under_lower}
use Rattle.line.proofs.Taken.{taking_cases}

---- which keys are held

-- the key of a number that is held is the one that was offered
pub held_key-holds : (l : GroupLane) (active offered : ℕ) (member : Bool) (ms : List Membership) (j : Joined) (xs : List InFlight) (n : ℕ)
    → Follows l active offered member ms j xs → holds j n ≡ true → KeyHeld l offered j n
unfolding holds
held_key-holds l active offered member ms j xs n f e =
    ⊎_elim
    (λ h. subst (KeyHeld l offered j) (sym (eqb-true n (j.keys.active + 1) (both_right _ _ h))) (f.held (eqb-true j.keys.held 1 (both_left _ _ h))))
    (λ h. subst (KeyHeld l offered j) (sym (eqb-true n j.keys.active (both_right _ _ h))) (f.kept (eqb-true j.kept 1 (both_left _ _ h))))
    (either_cases _ _ e)

pick_low : (t : Bool) (n a : ℕ) → n ≡ a → n ≤ pick t (a + 1) a
unfolding pick
pick_low true n a e = omega arith
pick_low false n a e = omega arith

-- it is no higher than the highest, and no lower than a
pub held_low : (j : Joined) (n : ℕ) → holds j n ≡ true → (n ≤ highest_held j) × (j.keys.active ≤ n)
unfolding holds highest_held
held_low j n e =
    ⊎_elim
    (λ h.
    let same = eqb-true n (j.keys.active + 1) (both_right _ _ h) in
    let top = pick_true (j.keys.active + 1) (pick (is_up j.kept) j.keys.active 0) (both_left _ _ h) in
    (omega (arith, same, top), omega (arith, same)))
    (λ h.
    let same = eqb-true n j.keys.active (both_right _ _ h) in (
      subst (λ (x : ℕ). n ≤ x) (sym (ap (pick (is_up j.keys.held) (j.keys.active + 1)) (pick_true j.keys.active 0 (both_left _ _ h))))
          (pick_low (is_up j.keys.held) n j.keys.active same),
      omega (arith, same),
    ))
    (either_cases _ _ e)

---- a key that is taken

module _ (l : GroupLane) (active offered : ℕ) (member : Bool) (ms : List Membership) (j : Joined) (xs rest : List InFlight) (m : KeyMessage)
    (f : Follows l active offered member ms j xs) (valid : valid_joined j ≡ true) (r : KeyUnder l j.keys.active active offered m)
    (after : Under l (m.number - 1) active offered rest) (is : member ≡ true) where
  -- key n - 1 stays if it was held
  kept_before : highest_held j < m.number → (t : Bool) → holds j (m.number - 1) ≡ t → ◌≡◌ {A = ℕ} (pick t 1 0) 1
      → KeyHeld l offered (joined_taken j m) (m.number - 1)
  unfolding joined_taken pick
  kept_before above false e z = absurd (omega arith)
  kept_before above true e z =
      let h = held_key-holds l active offered member ms j xs (m.number - 1) f e in
      record {
        some = h.some;
        most = h.most;
        key =
            ap (λ (x : Slots). key_in (with_key x m.number m.key) (m.number - 1)) (pick_true j.keys.slots no_slots e)
            ∙ key_beside j.keys.slots (m.number - 1) m.number m.key (λ p. omega (arith, p, r.above))
            ∙ h.key;
      }

  -- what was taken before is held still, or is below n - 1
  took_before : highest_held j < m.number → (n : ℕ) → either (ltb n j.keys.active) (holds j n) ≡ true
      → either (ltb n (m.number - 1)) (holds (joined_taken j m) n) ≡ true
  unfolding holds joined_taken pick
  took_before above n e =
      ⊎_elim (λ h. either_left _ (lt-ltb n (m.number - 1) (omega (arith, ltb-true n j.keys.active h, r.above)))) by_number (either_cases _ _ e) where
        by_number : holds j n ≡ true → either (ltb n (m.number - 1)) (holds (joined_taken j m) n) ≡ true
        by_number h = by_test (eqb n (m.number - 1)) refl where
          low : n ≤ highest_held j
          low = (held_low j n h).0

          by_test : (t : Bool) → eqb n (m.number - 1) ≡ t → either (ltb n (m.number - 1)) (holds (joined_taken j m) n) ≡ true
          by_test true q =
              let same = eqb-true n (m.number - 1) q in
              let kept : holds j (m.number - 1) ≡ true = rw same at h in
              either_right _ (either_right _ (both_true (ap (λ (b : Bool). is_up (pick b 1 0)) kept) q))
          by_test false q =
              either_left _ (lt-ltb n (m.number - 1) (omega (arith, eqb-false n (m.number - 1) q, low, above)))

  took_now : (n : ℕ) → n ≡ m.number → either (ltb n (m.number - 1)) (holds (joined_taken j m) n) ≡ true
  unfolding holds joined_taken
  took_now n e = either_right _ (either_left _ (both_true refl (eq-eqb n (m.number - 1 + 1) (omega (arith, r.above)))))

  -- of a number above those that are held
  new_follows : highest_held j < m.number → Follows l active offered member (taking l.llid m.number ms) (joined_taken j m) rest
  unfolding joined_taken
  new_follows above =
      let next : m.number - 1 + 1 ≡ m.number = omega (arith, r.above) in
      record {
        low = omega (arith, r.level);
        kept = λ e. kept_before above (holds j (m.number - 1)) refl e;
        held = λ e.
            record {
              some = omega arith;
              most = omega (arith, r.most);
              key = rw next (key_stored (pick (holds j (m.number - 1)) j.keys.slots no_slots) m.number m.key ∙ r.key);
            };
        took = λ n t. ⊎_elim (λ h. took_before above n (f.took n h)) (took_now n) (taking_cases l.llid m.number l.llid n ms t);
        queue = after;
        stranger = λ e. true_false (sym is ∙ e);
      }

  -- of one that is held: nothing changes
  again_follows : holds j m.number ≡ true → Follows l active offered member (taking l.llid m.number ms) j rest
  again_follows again =
      record {
        low = f.low;
        kept = f.kept;
        held = f.held;
        took = λ n t. ⊎_elim (λ h. f.took n h) (λ h. either_right _ (ap (holds j) h ∙ again)) (taking_cases l.llid m.number l.llid n ms t);
        queue = under_lower l (m.number - 1) j.keys.active active offered rest (omega (arith, r.above)) after;
        stranger = λ e. true_false (sym is ∙ e);
      }

  pub message_follows : either (new_number j m) (held_again j m) ≡ true
      → Follows l active offered member (taking l.llid m.number ms) (joined_after_message j m) rest
  unfolding joined_after_message new_number held_again
  message_follows fits = by_test (new_number j m) refl where
    by_test : (t : Bool) → new_number j m ≡ t → Follows l active offered member (taking l.llid m.number ms) (joined_after_message j m) rest
    by_test true e = rw (pick_true (joined_taken j m) j e) (new_follows (ltb-true (highest_held j) m.number (both_right _ _ e)))
    by_test false e =
        rw (pick_false (joined_taken j m) j e)
        (again_follows (⊎_elim (λ h. true_false (sym h ∙ e)) (λ h. both_left _ _ h) (either_cases _ _ fits)))
