-- An envelope of a group that arrives at a unit keeps the invariant; where the unit is synced and has its key, or it is clear, it gives back
-- what was sent; a sealed one is refused 5 by a unit that is not synced. Assumes nothing.
use Rattle.std.specs.Prelude.{Err, Option, Some, None}
use mathlib.Core.Path.{◌≡◌, refl, sym, ◌∙◌, ap, ap₂, subst}
use mathlib.Core.Bool.{Bool, true, false, not}
use mathlib.Core.List.{List, []}
use mathlib.Core.Logic.{⊎_elim}
use Prim.Native.Nat.{ℕ, suc, ◌+◌, ◌%◌, ◌≤◌}
use native.Mathlib.Omega.{arith}
use lib.Dec.{eqb}
use lib.ListN.{get_or, set, drop}
use lib.Seq.{set-get_or}
use borrow.Author.Tests.{eqb-true, eqb-false, eq-eqb, ne_eqb, ltb-true}
use Rattle.octets.specs.Choice.{both, pick}
use Rattle.octets.specs.Output.{WithOutput}
use Rattle.octets.proofs.Choice.{both_true, both_false_left, either_cases, not_of_true, not_of_false, then_both_false, true_false}
use Rattle.octets.proofs.Members.{each_more}
use Rattle.refusal.specs.declared.Refusal.TheVariants.{BadLength, OutOfRange, EpamDiffers, ClockNotSet}
use Rattle.refusal.proofs.Numbers.{number_accepted}
use Rattle.refusal.proofs.Order.{refuse_passed, refuse_stopped}
use Rattle.clock.specs.Ticks.{epam_of}
use Rattle.envelope.specs.Channels.{downstream}
use Rattle.sealing.specs.Seal.{count_carried, runs_carried}
use Rattle.ends.specs.Identities.{has}
use Rattle.ends.specs.Keys.{key_in}
use Rattle.ends.specs.declared.Onu.{Onu}
use Rattle.protocol.specs.Headers.{choice_enciphered, valid_header, envelope_header, key_for, passage_of, no_passage}
use Rattle.protocol.specs.OnuTraffic.{receiving_onu}
use Rattle.protocol.specs.Replies.{Reply}
use Rattle.protocol.specs.declared.Header.{Header}
use Rattle.protocol.specs.declared.Passage.{Passage}
use Rattle.protocol.proofs.Headers.{header_clear, header_sealed, header_valid, key_for-holds}
use Rattle.protocol.proofs.OnuCalls.{onu_accepted}
use Rattle.protocol.proofs.OnuChoices.{onu_receive_accepted}
use Rattle.protocol.proofs.Replies.{reply_accepted, reply_refused}
use Rattle.traffic.specs.Passages.{misfit, passed_count, passed_runs, output_after}
use Rattle.traffic.specs.Receipts.{onu_received, onu_receive_of}
use Rattle.group_protocol.specs.Head.{group_at}
use Rattle.group_protocol.specs.JoinedCalls.{holds, joined_choice, joined_receive_verdict, joined_after_receipt, receive_joined}
use Rattle.group_protocol.specs.Subscriber.{has_joined, find_joined, joined_at, with_joined, with_onu, valid_subscriber}
use Rattle.group_protocol.specs.declared.Joined.{Joined}
use Rattle.group_protocol.specs.declared.Subscriber.{Subscriber}
use Rattle.group_protocol.proofs.JoinedCalls.{receipt_valid, receipt_llid}
use Rattle.group_protocol.proofs.Subscribers.{found_place, found_valid}
use Rattle.group_protocol.specs.Naming.{by_llid}
use Rattle.subscriber.specs.SubscriberCalls.{put_joined, joined_lift}
use Rattle.subscriber.specs.SubscriberTraffic.{subscriber_received, group_receive_of, subscriber_receive_of}
use Rattle.subscriber.specs.declared.SubscriberReceived.{SubscriberReceived}
use Rattle.unicast.specs.Setting.{Setting, clock_down}
use Rattle.unicast.specs.History.{Envelope, InFlight, envelope, left_at, key_of, is_synced}
use Rattle.unicast.specs.Run.{lane_at}
use Rattle.unicast.specs.Premises.{FittingBuffer}
use Rattle.unicast.specs.Claim.{PassageRight, ArrivedRight}
use Rattle.unicast.proofs.Envelopes.{arrival_of, opens_right, octets_fit}
use Rattle.unicast.proofs.OnuSteps.{receive_refused}
use Rattle.unicast.proofs.ReceiptDownSteps.{rx_at}
use Rattle.line.specs.History.{GroupLane, is_member, is_joined, has_taken, group_with, group_taken, group_arrived}
use Rattle.line.specs.Run.{State, alone, subscriber_at, joined_by, group_lane_at, group_in_flight_at, now, at_unit, receiving, group_passage, group_receipt, group_in_flight_arriving}
use Rattle.line.specs.Premises.{DueOfGroup}
use Rattle.line.specs.Claim.{not_received, RefusedFor}
use Rattle.line.proofs.Alone.{onu_alone}
use Rattle.line.proofs.AloneUnit.{receive_onu}
use Rattle.line.proofs.Arriving.{joined_listed, known, unit_known, follows, member, alive, valid_onu-holds, synced_up, strange, taken, taken_own, taken_others, taken_length}
use Rattle.line.proofs.EnvelopeChoices.{ChosenAt, chosen_clear, chosen_sealed, receipt_follows}
use Rattle.line.proofs.Finding.{joined_nowhere}
use Rattle.line.proofs.Frames.{follows_moved, arrived_moved}
use Rattle.line.proofs.GroupMessageSteps.{joins_with, left_follows, in_queue}
use Rattle.line.proofs.GroupSteps.{member_same}
use Rattle.line.proofs.Invariant.{lane_of, arrival_in, GroupSend, GroupArrived, EnvelopeUnder, Under, joined_for, Follows, Joins, Invariant}
use Rattle.line.proofs.JoinedLift.{Ends, accepted, refused, lift_ends}
use Rattle.line.proofs.Lines.{memberships_right}
use Rattle.line.proofs.MemberSteps.{moved_right}
use Rattle.line.proofs.MessageSteps.{held_key-holds}
use Rattle.line.proofs.Queues.{Grown}
use Rattle.line.proofs.Taken.{taken_joined, with_own, with_other, joined_for_at}
use Rattle.refusal.specs.Verdict.{Verdict, no_refusal}

-- what a unit accepts has one of its LLIDs
onu_received_has : (o : Onu) (h : Header) (p out : List ℕ) → (onu_receive_of o h p out).answer.number ≡ 0 → has o.identity h.llid ≡ true
unfolding onu_receive_of onu_received receiving_onu
onu_received_has o h p out z = (onu_receive_accepted o (misfit p out) h (onu_accepted o no_passage _ _ _ (number_accepted _ z)).1).has

module _ (w : Setting) (s : State) (u g k : ℕ) (out : List ℕ) (i : Invariant w s) (d : DueOfGroup s u g k out) (e : Envelope)
    (is : group_in_flight_at s u g k ≡ envelope e) where
  abbrev x : Subscriber
  x = subscriber_at s u

  abbrev lane : GroupLane
  lane = group_lane_at s g

  ---- what arrives

  under : EnvelopeUnder lane (joined_for x lane.llid).keys.active (group_at s.head g).keys.active e
      × Under lane e.number (group_at s.head g).keys.active (group_at s.head g).keys.offered (drop (suc k) (get_or lane.towards u []))
  under = rw is at (taken w s u g k out i d)

  pub send : GroupSend w s.head.olt.shared.channels (group_at s.head g).keys.first (group_at s.head g).keys.active lane e
  send = (i.group g (known w s u g k out i d)).sends e under.0.sent

  header : e.header ≡ envelope_header e.number e.channel e.llid (clock_down w.first e.left)
  header = rw send.direction at send.right.header

  header_llid : e.header.llid ≡ lane.llid
  unfolding envelope_header
  header_llid = ap (λ (h : Header). h.llid) header ∙ send.llid

  index : e.header.enckey ≡ e.number % 2
  unfolding envelope_header
  index = ap (λ (h : Header). h.enckey) header

  fits : misfit e.octets out ≡ false
  fits = octets_fit w (lane_of lane) e out send.right send.fits (subst (λ (y : InFlight). FittingBuffer y out) is d.buffer)

  -- the Rx clock of a synced unit is the OLT's when the envelope left
  rx : x.onu.clock.synced ≡ 1 → x.onu.clock.rx ≡ clock_down w.first e.left
  unfolding alone
  rx up =
      let a = alive w s u g k out i d in
      let due : e.left + (lane_at (alone s) u).path.down ≡ now s = ap (λ (y : InFlight). left_at y + (lane_at (alone s) u).path.down) (sym is) ∙ d.at in
      let o = onu_alone s u in
      ap (λ (y : Onu). y.clock.rx) (sym o)
      ∙ rx_at w.first (now s) e.left (lane_at (alone s) u).path.up (lane_at (alone s) u).path.down _
      (a.joined.clocks.synced (ap (λ (y : Onu). y.clock.synced) o ∙ up)) due

  synced_down : is_synced (lane_at (alone s) u) ≡ false → x.onu.clock.synced ≡ 1 → ⊥
  synced_down f up =
      true_false (sym ((alive w s u g k out i d).joined.answers.set (ap (λ (y : Onu). y.clock.synced) (onu_alone s u) ∙ up)) ∙ f)

  -- only what is sealed says so
  sealed_some : e.header.encenabled ≡ 1 → 1 ≤ e.number
  unfolding envelope_header
  sealed_some h = by_test (eqb e.number 0) refl where
    by_test : (t : Bool) → eqb e.number 0 ≡ t → 1 ≤ e.number
    by_test false z = omega (arith, eqb-false e.number 0 z)
    by_test true z =
        let clear : e.header.encenabled ≡ 0 =
        ap (λ (y : Header). y.encenabled) header
        ∙ header_clear e.number e.channel e.llid (clock_down w.first e.left) (eqb-true e.number 0 z) in
        absurd (omega (arith, h, clear))

  sealed_header : 1 ≤ e.number → e.header.encenabled ≡ 1
  sealed_header some =
      ap (λ (h : Header). h.encenabled) header ∙ header_sealed e.number e.channel e.llid (clock_down w.first e.left) some

  in_range-holds : not (both (downstream e.header.channel) (valid_header e.header)) ≡ false
  unfolding envelope_header
  in_range-holds =
      not_of_true
      (both_true (ap (λ (h : Header). downstream h.channel) header ∙ send.down)
      (ap valid_header header ∙ header_valid e.number e.channel e.llid (clock_down w.first e.left)))

  olt_mac-holds : x.onu.oltmac ≡ w.mac
  olt_mac-holds =
      let a = alive w s u g k out i d in
      ap (λ (y : Onu). y.oltmac) (sym (onu_alone s u)) ∙ a.common.oltmac ∙ a.joined.oltmac

  ---- at a unit that joined the group

  module _ (j : ℕ) (found : find_joined x lane.llid ≡ Some j) where
    abbrev y : Joined
    y = joined_at x j

    abbrev q : Passage
    q = passage_of (joined_choice y e.header) y.keys.slots x.onu.oltmac x.onu.clock.rx

    here : find_joined x e.header.llid ≡ Some j
    here = ap (find_joined x) header_llid ∙ found

    receiving_is : receiving s u e out ≡ group_receive_of x j e.header e.octets out
    unfolding subscriber_receive_of by_llid
    receiving_is = rw here

    passage_is : group_passage x e out ≡ (joined_lift x no_passage (receive_joined (misfit e.octets out) e.header) j).handed
    unfolding group_passage by_llid
    passage_is =
        ap (λ (f : Option ℕ). by_llid f (receiving_onu x.onu (misfit e.octets out) e.header).handed
        (λ n. (joined_lift x no_passage (receive_joined (misfit e.octets out) e.header) n).handed)) here

    old : Follows lane (group_at s.head g).keys.active (group_at s.head g).keys.offered (is_member lane (lane_at (alone s) u)) (joined_by s u)
        y (get_or lane.towards u [])
    old = rw (joined_for_at x lane.llid j found) at (follows w s u g k out i d)

    low : y.keys.active ≤ e.number
    low = rw (joined_for_at x lane.llid j found) at under.0.above

    module _ (c : ChosenAt (joined_choice y e.header) e.number) (synced : 1 ≤ e.number → x.onu.clock.synced ≡ 1)
        (key : 1 ≤ e.number → key_in y.keys.slots e.number ≡ key_of lane.keys e.number) where
      accepts : joined_receive_verdict (misfit e.octets out) x.onu.clock y e.header ≡ no_refusal
      unfolding joined_receive_verdict envelope_header
      accepts =
          refuse_passed _ BadLength _ fits
          ∙ refuse_passed _ OutOfRange _ in_range-holds
          ∙ refuse_passed _ EpamDiffers _
          (then_both_false _ _
          (λ t. not_of_true (eq-eqb _ _ (ap (λ (h : Header). h.epam) header ∙ ap epam_of (sym (rx (eqb-true x.onu.clock.synced 1 t)))))))
          ∙ refuse_passed _ ClockNotSet _
          (then_both_false _ _ (λ t. not_of_true (eq-eqb _ _ (synced (sealed_some (eqb-true e.header.encenabled 1 t))))))
          ∙ c.accepts

      lifted : joined_lift x no_passage (receive_joined (misfit e.octets out) e.header) j
          ≡ record { verdict = no_refusal; end = with_joined x j (joined_after_receipt (joined_choice y e.header) y); handed = q }
      unfolding joined_lift put_joined receive_joined valid_subscriber
      lifted =
          reply_accepted _ x no_passage _ _
          (refuse_passed _ OutOfRange _ (not_of_true (both_true (valid_onu-holds w s u g k out i d) (memberships_right w s i u))) ∙ accepts)

      passage_right : PassageRight w (lane_of lane) e e.header.channel q
      unfolding passage_of envelope_header
      passage_right =
          record {
            enciphered = c.enciphered;
            key = λ h. ap (λ (n : ℕ). key_for n y.keys.slots) c.chosen ∙ key_for-holds e.number y.keys.slots h ∙ key h;
            nonce = λ h.
                let channel : e.header.channel ≡ e.channel = ap (λ (z : Header). z.channel) header in
                rw (channel, olt_mac-holds, rx (synced h), send.direction);
          }

      arrival_is : arrival_in (group_receipt s u e out) ≡ arrival_of e q
      unfolding group_receipt group_receive_of subscriber_received output_after
      arrival_is =
          ap₂ (λ (r : WithOutput SubscriberReceived) (p : Passage).
          record { envelope = e; number = r.answer.number; count = r.answer.count; runs = r.answer.runs; output = r.output; passage = p })
          (receiving_is ∙ ap (λ (r : Reply Subscriber Passage). subscriber_received r e.header.channel e.octets out) lifted)
          (passage_is ∙ ap (λ (r : Reply Subscriber Passage). r.handed) lifted)

      opened : ArrivedRight w (lane_of lane) (arrival_in (group_receipt s u e out))
      opened = rw arrival_is (opens_right w (lane_of lane) e q under.0.sent send.right passage_right)

    -- a clear envelope finds a = 0
    opens_clear : e.number ≡ 0 → ArrivedRight w (lane_of lane) (arrival_in (group_receipt s u e out))
    unfolding envelope_header
    opens_clear z =
        let clear : e.header.encenabled ≡ 0 =
        ap (λ (h : Header). h.encenabled) header ∙ header_clear e.number e.channel e.llid (clock_down w.first e.left) z in
        opened (chosen_clear y e.header e.number z clear (omega (arith, low, z))) (λ h. absurd (omega (arith, h, z)))
        (λ h. absurd (omega (arith, h, z)))

    -- a key that was taken is held, for a is no higher than the envelope's number
    opens_sealed : has_taken (joined_by s u) lane.llid e.number ≡ true → x.onu.clock.synced ≡ 1 → 1 ≤ e.number
        → ArrivedRight w (lane_of lane) (arrival_in (group_receipt s u e out))
    opens_sealed t up some =
        let held : holds y e.number ≡ true =
        ⊎_elim (λ h. absurd (omega (arith, low, ltb-true e.number y.keys.active h))) (λ h. h) (either_cases _ _ (old.took e.number t)) in
        opened (chosen_sealed y e.header e.number some (sealed_header some) index held) (λ h. up)
        (λ h. (held_key-holds lane _ _ _ (joined_by s u) y _ e.number old held).key)

    -- one that is sealed finds no clock at a unit that is not synced
    refuses : (x.onu.clock.synced ≡ 1 → ⊥) → 1 ≤ e.number
        → joined_receive_verdict (misfit e.octets out) x.onu.clock y e.header ≡ Err ClockNotSet
    unfolding joined_receive_verdict
    refuses down some =
        refuse_passed _ BadLength _ fits
        ∙ refuse_passed _ OutOfRange _ in_range-holds
        ∙ refuse_passed _ EpamDiffers _ (both_false_left _ (ne_eqb x.onu.clock.synced 1 down))
        ∙ refuse_stopped _ ClockNotSet _
        (both_true (eq-eqb e.header.encenabled 1 (sealed_header some)) (not_of_false (ne_eqb x.onu.clock.synced 1 down)))

    not_opened : (x.onu.clock.synced ≡ 1 → ⊥) → 1 ≤ e.number → RefusedFor ClockNotSet s u e out
    unfolding joined_lift put_joined receive_joined valid_subscriber group_receive_of subscriber_received output_after not_received
        passed_count passed_runs
        count_carried runs_carried choice_enciphered pick
    not_opened down some =
        receiving_is
        ∙ ap (λ (r : Reply Subscriber Passage). subscriber_received r e.header.channel e.octets out)
        (reply_refused _ x no_passage _ _ ClockNotSet
        (refuse_passed _ OutOfRange _ (not_of_true (both_true (valid_onu-holds w s u g k out i d) (memberships_right w s i u))) ∙ refuses down some))

  ---- the event

  abbrev after : GroupLane
  after = group_arrived (group_receipt s u e out) (group_taken u k lane)

  grown : (top : ℕ) → Grown lane after top
  unfolding group_arrived group_taken group_with
  grown top = record { llid = refl; sent = λ z m. m; keys = λ n a b. refl }

  joins : is_joined (joined_by s u) e.llid ≡ has_joined x lane.llid
  joins = ap (is_joined (joined_by s u)) send.llid ∙ joined_listed _ _ x (joined_by s u) lane.llid (i.joins u (unit_known w s u g k out i d))

  pub arrived_right : GroupArrived w lane (group_receipt s u e out)
  unfolding group_receipt not_received
  arrived_right = by_found (find_joined x lane.llid) refl where
    by_found : (f : Option ℕ) → find_joined x lane.llid ≡ f → GroupArrived w lane (group_receipt s u e out)
    by_found None none =
        let out_of : is_joined (joined_by s u) e.llid ≡ false = joins ∙ joined_nowhere x lane.llid none in
        record {
          sent = under.0.sent;
          clear = λ t z. true_false (sym t ∙ out_of);
          sealed = λ t up z. true_false (sym (taken_joined (joined_by s u) e.llid e.number t) ∙ out_of);
          unsynced = λ t down z. true_false (sym t ∙ out_of);
        }
    by_found (Some j) found =
        record {
          sent = under.0.sent;
          clear = λ t z. opens_clear j found z;
          sealed = λ t up z.
              opens_sealed j found (ap (λ (n : ℕ). has_taken (joined_by s u) n e.number) (sym send.llid) ∙ t) (synced_up w s u g k out i d up) z;
          unsynced = λ t down z. ap (λ (r : WithOutput SubscriberReceived). r.answer.number) (not_opened j found (synced_down down) z);
        }

  -- at a unit that joined the group and is not synced
  pub unsynced_refused : is_joined (joined_by s u) e.llid ≡ true → is_synced (lane_at (alone s) u) ≡ false → 1 ≤ e.number
      → RefusedFor ClockNotSet s u e out
  unsynced_refused t down some = by_found (find_joined x lane.llid) refl where
    by_found : (f : Option ℕ) → find_joined x lane.llid ≡ f → RefusedFor ClockNotSet s u e out
    by_found None none = true_false (sym t ∙ joins ∙ joined_nowhere x lane.llid none)
    by_found (Some j) found = not_opened j found (synced_down down) some

  receipt_most : (group_receipt s u e out).envelope.number ≤ e.number
  unfolding group_receipt
  receipt_most = omega arith

  -- the unit after it
  record Leaves (z : Subscriber) : Type 0 where
    onu : z.onu ≡ x.onu
    joins : Joins s.history.groups (lane_at (alone s) u) z (joined_by s u)
    apart : (llid : ℕ) → (llid ≡ lane.llid → ⊥) → joined_for z llid ≡ joined_for x llid
    follows : Follows after (group_at s.head g).keys.active (group_at s.head g).keys.offered (is_member after (lane_at (alone s) u)) (joined_by s u)
        (joined_for z after.llid) (get_or after.towards u [])

  leaves_right : (z : Subscriber) → Leaves z → Invariant w (at_unit s u z s.history.units s.history.joined (set s.history.groups g after))
  unfolding group_arrived group_taken group_with
  leaves_right z p =
      let here = known w s u g k out i d in
      let r = i.group g here in
      rw (set-get_or s.history.joined u [])
      at
      (moved_right w s u g z (joined_by s u) after i
      (record {
        unit = unit_known w s u g k out i d;
        known = here;
        onu = p.onu;
        llid = refl;
        entry = refl;
        roster = refl;
        keys = refl;
        sent = refl;
        queues = taken_length s u g k ∙ i.queues g here;
        others = taken_others s u g k;
        arrived =
            each_more (GroupArrived w after) lane.arrived (group_receipt s u e out)
            (λ a m. arrived_moved w lane after a a.envelope.number (grown a.envelope.number) (omega arith) (r.arrived a m))
            (arrived_moved w lane after (group_receipt s u e out) e.number (grown e.number) receipt_most arrived_right);
        joins = p.joins;
        apart = p.apart;
        untouched = λ llid n z. refl;
        stays = λ llid n z. z;
        follows = p.follows;
        answered = λ a m. rw (set-get_or s.history.joined u []) (i.answered g a here m);
      }))

  same_leaves : Leaves x
  unfolding group_arrived
  same_leaves =
      let f = left_follows w s u g k out i d in
      record {
        onu = refl;
        joins = i.joins u (unit_known w s u g k out i d);
        apart = λ llid n. refl;
        follows =
            rw (member_same (group_taken u k lane) after (lane_at (alone s) u) refl)
            (follows_moved (group_taken u k lane) after _ _ _ _ _ _ (joined_by s u) _ _ (record { llid = refl; sent = λ z m. m; keys = λ n a b. refl })
            (omega arith) (omega arith) (λ z. z) f);
      }

  module _ (j : ℕ) (found : find_joined x lane.llid ≡ Some j) where
    abbrev moved : Joined
    moved = joined_after_receipt (joined_choice (joined_at x j) e.header) (joined_at x j)

    named : moved.llid ≡ lane.llid
    named = receipt_llid (joined_choice (joined_at x j) e.header) (joined_at x j) ∙ (found_place x lane.llid j found).has

    moved_leaves : Leaves (with_joined x j moved)
    unfolding group_arrived group_taken group_with with_joined
    moved_leaves =
        record {
          onu = refl;
          joins =
              joins_with w s u g k out i d j moved (joined_by s u) found named
              (receipt_valid (joined_at x j) (found_valid x lane.llid j (memberships_right w s i u) found) (joined_choice (joined_at x j) e.header))
              refl (λ llid n z. refl);
          apart = with_other x lane.llid j moved found named;
          follows =
              rw (taken_own s u g k (in_queue w s u g k out i d), with_own x lane.llid j moved found named, member_same lane after (lane_at (alone s) u) refl)
              (follows_moved lane after _ _ _ _ _ _ (joined_by s u) _ _ (grown _) (omega arith) (omega arith) (λ z. z)
              (receipt_follows lane _ _ _ (joined_by s u) (joined_at x j) _ _ e.number (old j found) (low j found) under.0.most under.1
              (member w s u g k out i d) e.header index));
        }

    leaves_by : (v : Verdict) (z : Subscriber) (p : Passage)
        → joined_lift x no_passage (receive_joined (misfit e.octets out) e.header) j ≡ record { verdict = v; end = z; handed = p }
        → (receiving s u e out).answer.subscriber ≡ z
    unfolding group_receive_of subscriber_received
    leaves_by v z p h =
        ap (λ (r : WithOutput SubscriberReceived). r.answer.subscriber)
        (receiving_is j found ∙ ap (λ (r : Reply Subscriber Passage). subscriber_received r e.header.channel e.octets out) h)

    joined_leaves : Leaves (receiving s u e out).answer.subscriber
    unfolding receive_joined
    joined_leaves = by_end (lift_ends x no_passage (receive_joined (misfit e.octets out) e.header) j) where
      by_end : Ends x no_passage (receive_joined (misfit e.octets out) e.header) j → Leaves (receiving s u e out).answer.subscriber
      by_end (refused r z) = rw (leaves_by (Err r) x no_passage z) same_leaves
      by_end (accepted l) = rw (leaves_by no_refusal _ _ l.is) moved_leaves

  -- at a unit that has not joined the group its LLID is unknown
  own_leaves : find_joined x lane.llid ≡ None → (receiving s u e out).answer.subscriber ≡ x
  unfolding with_onu
  own_leaves none =
      let received = receive_onu x (memberships_right w s i u) e.header e.octets out (ap (find_joined x) header_llid ∙ none) in
      ap (λ (r : WithOutput SubscriberReceived). r.answer.subscriber) received
      ∙ ap (with_onu x)
      (receive_refused x.onu e.header e.octets out
      (λ z. true_false (sym (ap (has x.onu.identity) (sym header_llid) ∙ onu_received_has x.onu e.header
      e.octets out z) ∙ strange w s u g k out i d)))

  leaves : Leaves (receiving s u e out).answer.subscriber
  leaves = by_found (find_joined x lane.llid) refl where
    by_found : (f : Option ℕ) → find_joined x lane.llid ≡ f → Leaves (receiving s u e out).answer.subscriber
    by_found None none = rw (own_leaves none) same_leaves
    by_found (Some j) found = joined_leaves j found

  pub envelope_right : Invariant w (group_in_flight_arriving s u g k out (envelope e))
  unfolding group_in_flight_arriving
  envelope_right = leaves_right (receiving s u e out).answer.subscriber leaves

  pub envelope_onu : (receiving s u e out).answer.subscriber.onu ≡ x.onu
  envelope_onu = leaves.onu
