-- What an accepted call of the OLT on a group makes of the group's line: offer, retry, and the send that switches. Assumes nothing.
use Rattle.std.specs.Prelude.{Some}
use mathlib.Core.Path.{◌≡◌, refl, sym, ◌∙◌, ap, subst}
use mathlib.Core.Bool.{Bool, true, false}
use mathlib.Core.List.{List, [], ◌∷◌, ◌++◌}
use Prim.Native.Nat.{ℕ, ◌+◌, ◌-◌, ◌<◌, ◌≤◌}
use native.Mathlib.Omega.{arith}
use lib.Dec.{leb}
use lib.ListN.{length, get_or, set, length-set, length-append}
use lib.Seq.{get_or-set_same}
use borrow.Author.Tests.{leb-true, le-ltb, lt-leb, ne_eqb}
use Rattle.octets.specs.Choice.{both, pick}
use Rattle.octets.specs.Lists.{same}
use Rattle.octets.proofs.Choice.{both_true, both_false_left, not_of_true, then_both_false, pick_true}
use Rattle.octets.proofs.Lists.{same_true}
use Rattle.refusal.specs.declared.Refusal.TheVariants.{ClockNotSet, OfferPending, SameKey, NothingOutstanding, AtEnd, ChannelTaken, KeyTooOld}
use Rattle.refusal.specs.Order.{refuse_if}
use Rattle.refusal.proofs.Order.{refuse_passed}
use Rattle.envelope.specs.Acceptance.{lengths_fit}
use Rattle.envelope.specs.Channels.{downstream}
use Rattle.envelope.specs.ControlMask.{eqs_of}
use Rattle.ends.specs.Keys.{key_in}
use Rattle.ends.specs.Limits.{max_key_number}
use Rattle.ends.specs.Occupancy.{free_from, taken}
use Rattle.protocol.specs.Headers.{choice_aged, clock_channel_key, no_sending}
use Rattle.protocol.specs.Messages.{no_key_message}
use Rattle.protocol.specs.declared.KeyMessage.{KeyMessage}
use Rattle.protocol.specs.UnitCalls.{keys_offered, key_message_of, retry_verdict}
use Rattle.traffic.specs.Passages.{misfit}
use Rattle.group_protocol.specs.GroupCalls.{group_outcome, members_set, group_offer_verdict, offer_group, retry_group, group_send_choice, send_group}
use Rattle.group_protocol.specs.Head.{find_group, group_at, valid_head}
use Rattle.group_protocol.specs.declared.GroupRecord.{GroupRecord}
use Rattle.group_protocol.specs.declared.HeadEnd.{HeadEnd}
use Rattle.group_protocol.specs.Naming.{by_llid}
use Rattle.headend.specs.HeadCalls.{head_key_sent, head_offer_of, head_retry_of}
use Rattle.headend.specs.HeadTraffic.{send_ahead, head_sent, head_send_of}
use Rattle.unicast.specs.Setting.{Setting}
use Rattle.unicast.specs.History.{Envelope, InFlight, key_message, envelope}
use Rattle.unicast.specs.Run.{lane_at, offering, retrying}
use Rattle.line.specs.History.{GroupLane, no_path, is_member, group_switching, group_number, leaving_for, group_with, group_offered, group_leaving, group_sent}
use Rattle.line.specs.Events.{offer, retry, send_down}
use Rattle.line.specs.Run.{State, alone, no_group_lane, group_lane_at, now, lanes, key_sent_alone, offering_to, retrying_to, envelope_down, sending_down, at_head, step}
use Rattle.line.specs.Premises.{NewKey}
use Rattle.line.proofs.GroupCalls.{lift_accepts, call_accepted, leaving_at}
use Rattle.line.proofs.GroupChoices.{switches_listed}
use Rattle.line.proofs.GroupSteps.{member_same}
use Rattle.line.proofs.Invariant.{Invariant}
use Rattle.line.proofs.Lines.{group_finds}
use Rattle.refusal.specs.Verdict.{no_refusal}

-- the group's line is l, and nothing else of the history has changed but that
pub record Left (g : ℕ) (l : GroupLane) (s t : State) : Type 0 where
  pub line : group_lane_at t g ≡ l
  pub units : lanes t ≡ lanes s
  pub tick : now t ≡ now s
  pub joined : t.history.joined ≡ s.history.joined
  pub count : length t.history.groups ≡ length s.history.groups

left_at : (s : State) (g : ℕ) (l : GroupLane) (h : HeadEnd) → g < length s.history.groups
    → Left g l s (at_head s h s.history.units (set s.history.groups g l))
unfolding at_head
left_at s g l h known =
    record {
      line = get_or-set_same s.history.groups g l no_group_lane known;
      units = refl;
      tick = refl;
      joined = refl;
      count = length-set s.history.groups g l;
    }

-- x has left for each member
pub record Leaves (g : ℕ) (x : InFlight) (s t : State) : Type 0 where
  pub units : lanes t ≡ lanes s
  pub tick : now t ≡ now s
  pub joined : t.history.joined ≡ s.history.joined
  pub count : length t.history.groups ≡ length s.history.groups
  pub llid : (group_lane_at t g).llid ≡ (group_lane_at s g).llid
  pub entry : (group_lane_at t g).entry ≡ (group_lane_at s g).entry
  pub roster : (group_lane_at t g).roster ≡ (group_lane_at s g).roster
  pub arrived : (group_lane_at t g).arrived ≡ (group_lane_at s g).arrived
  pub queue : (u : ℕ) → u < length (lanes s) → is_member (group_lane_at s g) (lane_at (alone s) u) ≡ true
      → get_or (group_lane_at t g).towards u [] ≡ get_or (group_lane_at s g).towards u [] ++ (x ∷ [])

leaves_of : (s t : State) (g : ℕ) (x : InFlight) (l from : GroupLane) → Left g l s t → l.towards ≡ leaving_for from (lanes s) x
    → from.roster ≡ (group_lane_at s g).roster → from.towards ≡ (group_lane_at s g).towards → l.llid ≡ (group_lane_at s g).llid
    → l.entry ≡ (group_lane_at s g).entry → l.roster ≡ (group_lane_at s g).roster → l.arrived ≡ (group_lane_at s g).arrived
    → Leaves g x s t
unfolding alone
leaves_of s t g x l from left towards roster' towards' llid entry roster arrived =
    record {
      units = left.units;
      tick = left.tick;
      joined = left.joined;
      count = left.count;
      llid = ap (λ (y : GroupLane). y.llid) left.line ∙ llid;
      entry = ap (λ (y : GroupLane). y.entry) left.line ∙ entry;
      roster = ap (λ (y : GroupLane). y.roster) left.line ∙ roster;
      arrived = ap (λ (y : GroupLane). y.arrived) left.line ∙ arrived;
      queue = λ u h member.
          ap (λ (y : GroupLane). get_or y.towards u []) left.line
          ∙ ap (λ (q : List (List InFlight)). get_or q u []) towards
          ∙ leaving_at from (lanes s) x u h
          ∙ pick_true _ _ (member_same (group_lane_at s g) from (lane_at (alone s) u) roster' ∙ member)
          ∙ ap (λ (q : List (List InFlight)). get_or q u [] ++ (x ∷ [])) towards';
    }

-- the message of the group's next key has left for each member
pub record KeyLeaves (g : ℕ) (m : KeyMessage) (s t : State) : Type 0 where
  pub leaves : Leaves g (key_message m (now s)) s t
  pub number : m.number ≡ (group_lane_at s g).keys.switches + 1
  pub switches : (group_lane_at t g).keys.switches ≡ (group_lane_at s g).keys.switches
  pub offers : length (group_lane_at t g).keys.offers ≡ (group_lane_at s g).keys.switches + 1
  pub sent : (group_lane_at t g).sent ≡ (group_lane_at s g).sent

-- an empty envelope under that key has
pub record EnvelopeLeaves (g : ℕ) (e : Envelope) (s t : State) : Type 0 where
  pub leaves : Leaves g (envelope e) s t
  pub number : e.number ≡ (group_lane_at s g).keys.switches + 1
  pub left : e.left ≡ now s
  pub llid : e.llid ≡ (group_lane_at s g).llid
  pub payload : e.payload ≡ []
  pub switches : (group_lane_at t g).keys.switches ≡ (group_lane_at s g).keys.switches + 1
  pub sent : (group_lane_at t g).sent ≡ (group_lane_at s g).sent ++ (e ∷ [])

module _ (w : Setting) (s : State) (g : ℕ) (i : Invariant w s) (known : g < length s.history.groups) where
  abbrev l : GroupLane
  l = group_lane_at s g

  abbrev r : GroupRecord
  r = group_at s.head g

  found : find_group s.head l.llid ≡ Some g
  found = group_finds w s i g known

  valid : valid_head s.head ≡ true
  unfolding valid_head alone
  valid = both_true i.units.valid i.valid

  ---- a key message leaves

  -- a new key is not the one in use
  other_key-holds : (key : List ℕ) → NewKey s key → both (leb 1 r.keys.active) (same key (key_in r.keys.slots r.keys.active)) ≡ false
  other_key-holds key new =
      then_both_false _ _ (λ some. by_test (same key (key_in r.keys.slots r.keys.active)) refl (leb-true 1 r.keys.active some)) where
        by_test : (t : Bool) → same key (key_in r.keys.slots r.keys.active) ≡ t → 1 ≤ r.keys.active
            → same key (key_in r.keys.slots r.keys.active) ≡ false
        by_test false e some = e
        by_test true e some =
            let j = i.group g known in
            let stored = j.stored r.keys.active some (omega arith) j.mid in
            absurd (new.groups g (r.keys.active - 1) (omega (arith, some, j.mid, j.listed)) (sym (same_true _ _ e ∙ stored)))

  offer_left : (key : List ℕ) → members_set s.head.olt r.members ≡ true → NewKey s key → length l.keys.offers ≤ l.keys.switches
      → l.keys.switches < max_key_number
      → Left g (group_leaving (lanes s) (key_message (key_message_of l.llid (keys_offered r.keys key)) (now s)) (group_offered key l)) s
      (step s (offer l.llid key))
  unfolding step offering_to offering key_sent_alone head_offer_of by_llid head_key_sent offer_group group_outcome group_offer_verdict
  offer_left key set new none below =
      let j = i.group g known in
      let accepts : group_offer_verdict (members_set s.head.olt r.members) r.keys key ≡ no_refusal =
      refuse_passed _ ClockNotSet _ (not_of_true set)
      ∙ refuse_passed _ OfferPending _ (le-ltb r.keys.active r.keys.offered (omega (arith, j.counted, j.listed, none)))
      ∙ refuse_passed _ SameKey _ (other_key-holds key new)
      ∙ refuse_passed _ AtEnd _ (lt-leb max_key_number r.keys.active (omega (arith, j.counted, below))) in
      let is = (lift_accepts s.head no_key_message no_refusal (λ o x. offer_group l.llid key (members_set o x.members) o.shared x) g valid refl
      accepts).is in
      rw (found, is)
      (subst (Left g _ s) (sym (call_accepted w s l.llid g i found _ _ 0 _ _ refl)) (left_at s g _ _ known))

  pub offer_goes : (key : List ℕ) → members_set s.head.olt r.members ≡ true → NewKey s key → length l.keys.offers ≤ l.keys.switches
      → l.keys.switches < max_key_number → KeyLeaves g (key_message_of l.llid (keys_offered r.keys key)) s (step s (offer l.llid key))
  unfolding group_leaving group_offered group_with key_message_of keys_offered
  offer_goes key set new none below =
      let j = i.group g known in
      let left = offer_left key set new none below in
      record {
        leaves = leaves_of s _ g _ _ (group_offered key l) left refl refl refl refl refl refl refl;
        number = omega (arith, j.counted);
        switches = ap (λ (y : GroupLane). y.keys.switches) left.line;
        offers =
            omega (
              arith,
              ap (λ (y : GroupLane). length y.keys.offers) left.line,
              length-append l.keys.offers (key ∷ []),
              none,
              j.counted,
              j.listed,
              j.mid,
            );
        sent = ap (λ (y : GroupLane). y.sent) left.line;
      }

  retry_left : l.keys.switches < length l.keys.offers
      → Left g (group_leaving (lanes s) (key_message (key_message_of l.llid r.keys) (now s)) l) s (step s (retry l.llid))
  unfolding step retrying_to retrying key_sent_alone head_retry_of by_llid head_key_sent retry_group group_outcome retry_verdict
  retry_left more =
      let j = i.group g known in
      let accepts : retry_verdict r.keys ≡ no_refusal =
      refuse_passed _ NothingOutstanding _ (ne_eqb r.keys.offered r.keys.active (λ e. omega (arith, e, j.counted, j.listed, more))) in
      let is = (lift_accepts s.head no_key_message no_refusal (λ o x. retry_group l.llid o.shared x) g valid refl accepts).is in
      rw (found, is)
      (subst (Left g _ s) (sym (call_accepted w s l.llid g i found _ _ 0 _ _ refl)) (left_at s g _ _ known))

  pub retry_goes : l.keys.switches < length l.keys.offers → KeyLeaves g (key_message_of l.llid r.keys) s (step s (retry l.llid))
  unfolding group_leaving group_with key_message_of
  retry_goes more =
      let j = i.group g known in
      let left = retry_left more in
      record {
        leaves = leaves_of s _ g _ _ l left refl refl refl refl refl refl refl;
        number = omega (arith, j.counted, j.listed, j.next, more);
        switches = ap (λ (y : GroupLane). y.keys.switches) left.line;
        offers = omega (arith, ap (λ (y : GroupLane). length y.keys.offers) left.line, j.counted, j.listed, j.next, more);
        sent = ap (λ (y : GroupLane). y.sent) left.line;
      }

  ---- an envelope leaves that switches

  abbrev pub next : Envelope
  next = envelope_down (now s) no_path s.head l.llid 0x00 [] [] (group_number l (now s))

  ahead : send_ahead [] [] 0x00 ≡ no_refusal
  unfolding misfit lengths_fit downstream refuse_if both
  ahead = refl

  young : group_switching l (now s) ≡ true → choice_aged (group_send_choice r.keys) r.keys.first s.head.olt.shared.tick ≡ false
  unfolding group_send_choice pick choice_aged
  young due = rw (switches_listed w _ (now s) l r (i.group g known), due)

  send_left : group_switching l (now s) ≡ true → free_from s.head.olt.shared.channels 0x00 ≤ now s
      → Left g (group_sent (now s) (lanes s) next l) s (step s (send_down l.llid 0x00 [] []))
  unfolding step sending_down head_send_of by_llid head_sent send_group taken alone
  send_left due free =
      let tick = i.units.shared.tick in
      let accepts : clock_channel_key true (taken s.head.olt.shared.channels 0x00 s.head.olt.shared.tick) (group_send_choice r.keys)
      r.keys.first s.head.olt.shared.tick ≡ no_refusal =
      refuse_passed _ ClockNotSet _ (both_false_left _ refl)
      ∙ refuse_passed _ ChannelTaken _ (le-ltb s.head.olt.shared.tick (free_from s.head.olt.shared.channels 0x00) (omega (arith, free, tick)))
      ∙ refuse_passed _ KeyTooOld _ (young due) in
      let is = (lift_accepts s.head no_sending (send_ahead [] [] 0x00) (λ o x. send_group l.llid 0x00 (eqs_of []) o.shared x) g valid ahead accepts
      ).is in
      rw (found, is)
      (subst (Left g _ s) (sym (call_accepted w s l.llid g i found _ _ 0 _ _ refl)) (left_at s g _ _ known))

  pub send_goes : group_switching l (now s) ≡ true → free_from s.head.olt.shared.channels 0x00 ≤ now s
      → EnvelopeLeaves g next s (step s (send_down l.llid 0x00 [] []))
  unfolding group_sent group_with envelope_down group_number
  send_goes due free =
      let left = send_left due free in
      let number : next.number ≡ l.keys.switches + 1 = pick_true (l.keys.switches + 1) l.keys.switches due in
      record {
        leaves = leaves_of s _ g _ _ l left refl refl refl refl refl refl refl;
        number = number;
        left = refl;
        llid = refl;
        payload = refl;
        switches = ap (λ (y : GroupLane). y.keys.switches) left.line ∙ number;
        sent = ap (λ (y : GroupLane). y.sent) left.line;
      }
