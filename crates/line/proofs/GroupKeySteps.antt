-- Offers to a group and their retries keep the invariant. Assumes nothing.
use Rattle.std.specs.Prelude.{Err, Some}
use mathlib.Core.Path.{◌≡◌, refl, sym, ◌∙◌, ap, subst}
use mathlib.Core.Bool.{true}
use mathlib.Core.List.{List, [], ◌∷◌}
use Prim.Native.Nat.{ℕ, ◌+◌, ◌<◌, ◌≤◌}
use native.Mathlib.Omega.{arith}
use lib.ListN.{length, get_or, length-append}
use borrow.Author.Tests.{ltb-false, eqb-false}
use Rattle.octets.proofs.Tests.{all_one}
use Rattle.refusal.specs.Number.{number_of}
use Rattle.refusal.specs.declared.Refusal.{Refusal}
use Rattle.refusal.proofs.Numbers.{number_accepted}
use Rattle.refusal.proofs.Order.{refuse_accepted, refused_accepts}
use Rattle.ends.specs.Keys.{key_in, with_key}
use Rattle.ends.specs.Occupancy.{valid_channels}
use Rattle.ends.proofs.Validity.{olt_in_range, shared_in_range}
use Rattle.protocol.specs.Messages.{no_key_message}
use Rattle.protocol.specs.UnitCalls.{keys_offered, key_message_of, retry_verdict}
use Rattle.protocol.specs.declared.KeyMessage.{KeyMessage}
use Rattle.group_protocol.specs.GroupCalls as calls
use Rattle.group_protocol.specs.GroupCalls.{group_outcome, members_set, group_offer_verdict, offer_group, retry_group}
use Rattle.group_protocol.specs.Head.{find_group, group_at, past_group, with_group_keys, with_members, valid_group}
use Rattle.group_protocol.specs.declared.GroupRecord.{GroupRecord}
use Rattle.group_protocol.proofs.GroupSteps.{group_offered_valid}
use Rattle.group_protocol.proofs.HeadValidity.{groups_in_range}
use Rattle.group_protocol.specs.Naming.{by_llid}
use Rattle.headend.specs.HeadCalls.{head_key_sent, head_offer_of, head_retry_of}
use Rattle.unicast.specs.Setting.{Setting}
use Rattle.unicast.specs.History.{key_message, key_of}
use Rattle.unicast.specs.Run.{lane_at, offering, retrying}
use Rattle.unicast.proofs.KeySteps.{keys_before, key_last, next_stored}
use Rattle.unicast.proofs.SendChoices.{timing_stayed}
use Rattle.line.specs.History.{GroupLane, is_member, group_with, group_offered, group_leaving}
use Rattle.line.specs.Events.{offer, retry}
use Rattle.line.specs.Run.{State, alone, subscriber_at, joined_by, group_lane_at, now, lanes, key_sent_alone, offering_to, retrying_to, step}
use Rattle.line.specs.Premises.{NewKey, Fits}
use Rattle.line.proofs.Invariant.{Recorded, joined_for, Follows, Invariant}
use Rattle.line.proofs.Frames.{send_moved, arrived_moved}
use Rattle.line.proofs.GroupCalls.{Ends, accepted, refused, lift_ends, call_refused, call_accepted, leaving_length, leaving_at, leaving_follows}
use Rattle.line.proofs.GroupSteps.{same, more, Replaced, member_same, replaced_right}
use Rattle.line.proofs.Lines.{group_stands, found_line}
use Rattle.line.proofs.Queues.{Grown, under_key}
use Rattle.refusal.specs.Verdict.{no_refusal}

-- a group of a valid head end is valid
pub group_valid : (w : Setting) (s : State) (g : ℕ) → Invariant w s → g < length s.history.groups
    → valid_group s.head.olt.shared.tick s.head.olt.count (group_at s.head g) ≡ true
group_valid w s g i h =
    let r = group_stands w s i g h in
    all_one _ s.head.groups.count s.head.groups.table past_group (groups_in_range s.head i.valid).each g r.used r.place

pub channels_right : (w : Setting) (s : State) → Invariant w s → valid_channels s.head.olt.shared.channels ≡ true
unfolding alone
channels_right w s i = (shared_in_range s.head.olt.shared (olt_in_range s.head.olt i.units.valid).shared).channels

-- a thing leaves for each member, of keys that are one more or the same
module _ (w : Setting) (s : State) (g : ℕ) (i : Invariant w s) (known : g < length s.history.groups) where
  abbrev record_of-holds : GroupRecord
  record_of-holds = group_at s.head g

  abbrev line_of : GroupLane
  line_of = group_lane_at s g

  ---- an offer

  module _ (key : List ℕ) (m : KeyMessage) (level : record_of-holds.keys.offered ≡ record_of-holds.keys.active) (new : NewKey s key)
      (message : m ≡ key_message_of line_of.llid (keys_offered record_of-holds.keys key)) where
    abbrev after : GroupLane
    after = group_leaving (lanes s) (key_message m (now s)) (group_offered key line_of)

    offer_grown : Grown line_of after record_of-holds.keys.offered
    unfolding group_leaving group_offered group_with
    offer_grown =
        record {
          llid = refl;
          sent = λ e q. q;
          keys = λ n p q. keys_before line_of.keys.offers key n p (omega (arith, (i.group g known).listed));
        }

    offer_stored : (n : ℕ) → 1 ≤ n → record_of-holds.keys.active ≤ n → n ≤ record_of-holds.keys.active + 1
        → key_in (with_key record_of-holds.keys.slots (record_of-holds.keys.active + 1) key) n ≡ key_of after.keys n
    unfolding group_leaving group_offered group_with
    offer_stored =
        let r = i.group g known in
        let active = record_of-holds.keys.active in
        next_stored record_of-holds.keys.slots active key (key_of after.keys) (sym (key_last line_of.keys.offers key active (omega (arith, r.listed))))
        (λ h. r.stored active h (omega arith) r.mid ∙ offer_grown.keys active h r.mid)

    offer_recorded : Recorded w s.head.olt.shared.channels (now s) after (calls.group_offered record_of-holds key)
    unfolding group_leaving group_offered group_with calls.group_offered with_members with_group_keys keys_offered
    offer_recorded =
        let r = i.group g known in
        record {
          llid = r.llid;
          counted = r.counted;
          listed = omega (arith, r.listed, length-append line_of.keys.offers (key ∷ []));
          mid = omega arith;
          next = omega arith;
          stored = offer_stored;
          timing = timing_stayed line_of.entry line_of.keys after.keys (now s) record_of-holds.keys.timer refl r.timing;
          sends = λ e q.
              send_moved w _ _ record_of-holds.keys.first record_of-holds.keys.active line_of after e record_of-holds.keys.offered offer_grown r.mid
              (λ k. omega arith) (r.sends e q);
          spaced = r.spaced;
          arrived = λ a q.
              let was = r.arrived a q in
              arrived_moved w line_of after a record_of-holds.keys.offered offer_grown
              (omega (arith, (r.sends a.envelope was.sent).spent.most, r.mid)) was;
        }

    offer_follows : (u : ℕ) → u < length (lanes s)
        → Follows after record_of-holds.keys.active (record_of-holds.keys.active + 1) (is_member after (lane_at (alone s) u)) (joined_by s u)
        (joined_for (subscriber_at s u) after.llid) (get_or after.towards u [])
    unfolding alone group_leaving group_offered group_with key_message_of keys_offered
    offer_follows u h =
        let r = i.group g known in
        let active = record_of-holds.keys.active in
        rw (
          leaving_at (group_offered key line_of) (lanes s) (key_message m (now s)) u h,
          member_same line_of after (lane_at (alone s) u) refl,
          member_same line_of (group_offered key line_of) (lane_at (alone s) u) refl,
        )
        (leaving_follows line_of after active active record_of-holds.keys.offered (active + 1) (is_member line_of (lane_at (alone s) u)) (joined_by s u) _ _
        (key_message m (now s)) offer_grown (omega arith) (omega (arith, r.next))
        (λ q low.
        under_key after _ active (active + 1) (get_or line_of.towards u []) m (now s) low
        (rw message
        (record {
          above = omega arith;
          level = omega arith;
          most = omega arith;
          key = offer_stored (active + 1) (omega arith) (omega arith) (omega arith);
          llid = refl;
        })) q)
        (i.follows u g h known))

    pub offer_replaced : Replaced w s g s.head.olt.shared.channels (calls.group_offered record_of-holds key) after
    unfolding group_leaving group_offered group_with calls.group_offered with_members with_group_keys keys_offered alone
    offer_replaced =
        record {
          known = known;
          rises = λ k. omega arith;
          frees = i.units.shared.free;
          channels = channels_right w s i;
          valid = group_offered_valid s.head.olt.shared.tick s.head.olt.count record_of-holds (group_valid w s g i known) key;
          grown = offer_grown;
          roster = refl;
          queues = leaving_length (group_offered key line_of) (lanes s) (key_message m (now s));
          answered = refl;
          recorded = offer_recorded;
          follows = offer_follows;
          offers = more key new refl;
        }

  ---- a retry

  module _ (m : KeyMessage) (level : record_of-holds.keys.active < record_of-holds.keys.offered)
      (message : m ≡ key_message_of line_of.llid record_of-holds.keys) where
    abbrev again : GroupLane
    again = group_leaving (lanes s) (key_message m (now s)) line_of

    retry_follows : (u : ℕ) → u < length (lanes s)
        → Follows again record_of-holds.keys.active record_of-holds.keys.offered (is_member again (lane_at (alone s) u)) (joined_by s u)
        (joined_for (subscriber_at s u) again.llid) (get_or again.towards u [])
    unfolding alone group_leaving group_with key_message_of
    retry_follows u h =
        let r = i.group g known in
        let active = record_of-holds.keys.active in
        let offered = record_of-holds.keys.offered in
        rw (leaving_at line_of (lanes s) (key_message m (now s)) u h, member_same line_of again (lane_at (alone s) u) refl)
        (leaving_follows line_of again active active offered offered (is_member line_of (lane_at (alone s) u)) (joined_by s u) _ _
        (key_message m (now s)) (record { llid = refl; sent = λ e q. q; keys = λ n p q. refl }) (omega arith) (omega arith)
        (λ q low.
        under_key again _ active offered (get_or line_of.towards u []) m (now s) low
        (rw message
        (record {
          above = level;
          level = r.next;
          most = omega arith;
          key = r.stored offered (omega arith) (omega arith) (omega arith);
          llid = refl;
        })) q)
        (i.follows u g h known))

    pub retry_replaced : Replaced w s g s.head.olt.shared.channels record_of-holds again
    unfolding group_leaving group_with alone
    retry_replaced =
        let r = i.group g known in
        record {
          known = known;
          rises = λ k. omega arith;
          frees = i.units.shared.free;
          channels = channels_right w s i;
          valid = group_valid w s g i known;
          grown = record { llid = refl; sent = λ e q. q; keys = λ n p q. refl };
          roster = refl;
          queues = leaving_length line_of (lanes s) (key_message m (now s));
          answered = refl;
          recorded =
              record {
                llid = r.llid;
                counted = r.counted;
                listed = r.listed;
                mid = r.mid;
                next = r.next;
                stored = r.stored;
                timing = r.timing;
                sends = λ e q.
                    send_moved w _ _ record_of-holds.keys.first record_of-holds.keys.active line_of again e record_of-holds.keys.active
                    (record { llid = refl; sent = λ x y. y; keys = λ n a b. refl }) (omega arith) (λ k. omega arith) (r.sends e q);
                spaced = r.spaced;
                arrived = λ a q.
                    let was = r.arrived a q in
                    arrived_moved w line_of again a a.envelope.number (record { llid = refl; sent = λ x y. y; keys = λ n c d. refl }) (omega arith) was;
              };
          follows = retry_follows;
          offers = same refl;
        }

---- the calls

pub refused_number : (r : Refusal) → number_of r ≡ 0 → ⊥
refused_number r e = refused_accepts r (number_accepted (Err r) e)

pub group_offer_right : (w : Setting) (s : State) (llid g : ℕ) (key : List ℕ) → Invariant w s → find_group s.head llid ≡ Some g
    → Fits w s (offer llid key) → Invariant w (step s (offer llid key))
unfolding step offering_to offering key_sent_alone head_offer_of by_llid head_key_sent offer_group group_outcome group_offer_verdict
group_offer_right w s llid g key i found fits =
    by_end (lift_ends s.head no_key_message no_refusal (λ o x. offer_group llid key (members_set o x.members) o.shared x) g) where
      by_end : Ends s.head no_key_message no_refusal (λ o x. offer_group llid key (members_set o x.members) o.shared x) g
          → Invariant w (step s (offer llid key))
      by_end (refused r e) =
          rw (found, e) (subst (Invariant w) (sym (call_refused w s llid g i found _ (number_of r) _ _ (refused_number r))) i)
      by_end (accepted l) =
          let line = found_line w s i llid g found in
          let a = refuse_accepted _ _ _ (refuse_accepted _ _ _ l.accepts).1 in
          let r = i.group g line.0 in
          let level : (group_at s.head g).keys.offered ≡ (group_at s.head g).keys.active =
          omega (arith, ltb-false (group_at s.head g).keys.active (group_at s.head g).keys.offered a.0, r.mid) in
          rw (found, l.is)
          (subst (Invariant w) (sym (call_accepted w s llid g i found _ _ 0 _ _ refl))
          (replaced_right w s g _ _ _ i
          (offer_replaced w s g i line.0 key _ level (fits (rw (found, l.is)))
          (ap (λ (x : ℕ). key_message_of x (keys_offered (group_at s.head g).keys key)) (sym line.1)))))

pub group_retry_right : (w : Setting) (s : State) (llid g : ℕ) → Invariant w s → find_group s.head llid ≡ Some g → Invariant w (step s (retry llid))
unfolding step retrying_to retrying key_sent_alone head_retry_of by_llid head_key_sent retry_group group_outcome retry_verdict
group_retry_right w s llid g i found = by_end (lift_ends s.head no_key_message no_refusal (λ o x. retry_group llid o.shared x) g) where
  by_end : Ends s.head no_key_message no_refusal (λ o x. retry_group llid o.shared x) g → Invariant w (step s (retry llid))
  by_end (refused r e) =
      rw (found, e) (subst (Invariant w) (sym (call_refused w s llid g i found _ (number_of r) _ _ (refused_number r))) i)
  by_end (accepted l) =
      let line = found_line w s i llid g found in
      let r = i.group g line.0 in
      let other = eqb-false (group_at s.head g).keys.offered (group_at s.head g).keys.active (refuse_accepted _ _ _ l.accepts).0 in
      let level : (group_at s.head g).keys.active < (group_at s.head g).keys.offered = omega (arith, other, r.mid) in
      rw (found, l.is)
      (subst (Invariant w) (sym (call_accepted w s llid g i found _ _ 0 _ _ refl))
      (replaced_right w s g _ _ _ i
      (retry_replaced w s g i line.0 _ level (ap (λ (x : ℕ). key_message_of x (group_at s.head g).keys) (sym line.1)))))
