-- The message of a group's key that arrives at a unit keeps the invariant, taken or refused. Assumes nothing.
use Rattle.std.specs.Prelude.{Option, Some, None}
use mathlib.Core.Path.{◌≡◌, refl, sym, ◌∙◌, ap, subst}
use mathlib.Core.Bool.{Bool, true}
use mathlib.Core.List.{List, [], ◌∷◌, map}
use Prim.Native.Nat.{ℕ, ◌<◌}
use native.Mathlib.Omega.{arith}
use lib.ListN.{length, get_or, set, length-set}
use lib.Seq.{set-get_or, get_or-set_same}
use borrow.Author.Tests.{ne_eqb, not-false}
use Rattle.octets.specs.Choice.{pick, either}
use Rattle.octets.proofs.Choice.{true_false}
use Rattle.octets.proofs.Members.{each_more}
use Rattle.refusal.proofs.Numbers.{number_accepted}
use Rattle.refusal.proofs.Order.{refuse_accepted}
use Rattle.ends.specs.Identities.{has}
use Rattle.protocol.specs.OnuCalls.{onu_acknowledged, key_message_at}
use Rattle.protocol.specs.declared.KeyMessage.{KeyMessage}
use Rattle.protocol.proofs.KeyMessages.{key_message_met}
use Rattle.protocol.proofs.OnuCalls.{key_message_refused}
use Rattle.group_protocol.specs.Head.{group_at}
use Rattle.group_protocol.specs.JoinedCalls.{no_answer, group_answer, joined_message_verdict, message_joined, new_number, held_again, joined_after_message}
use Rattle.group_protocol.specs.Subscriber.{find_joined, joined_at, with_joined, with_onu, valid_joined}
use Rattle.group_protocol.specs.declared.Answer.{Answer}
use Rattle.group_protocol.specs.declared.Joined.{Joined}
use Rattle.group_protocol.specs.declared.Subscriber.{Subscriber}
use Rattle.group_protocol.proofs.JoinedCalls.{message_valid, message_llid}
use Rattle.group_protocol.proofs.Subscribers.{found_place, found_valid, with_joined_valid}
use Rattle.group_protocol.specs.Naming.{by_llid}
use Rattle.subscriber.specs.SubscriberCalls.{subscriber_acknowledged, subscriber_key_message_of}
use Rattle.subscriber.specs.declared.SubscriberAcknowledged.{SubscriberAcknowledged}
use Rattle.unicast.specs.Setting.{Setting}
use Rattle.unicast.specs.History.{InFlight, key_message}
use Rattle.unicast.specs.Run.{lane_at}
use Rattle.line.specs.History.{GroupAnswered, GroupLane, Membership, is_member, is_joined, has_taken, taking, group_with, group_taken, group_answered}
use Rattle.line.specs.Run.{State, alone, subscriber_at, joined_by, group_lane_at, group_in_flight_at, now, at_unit, group_message_arriving}
use Rattle.line.specs.Premises.{DueOfGroup}
use Rattle.line.proofs.AloneUnit.{key_message_onu}
use Rattle.line.proofs.Arriving.{joined_listed, known, unit_known, follows, member, strange, taken, taken_own, taken_others, taken_length}
use Rattle.line.proofs.Finding.{joined_among}
use Rattle.line.proofs.Frames.{follows_moved, arrived_moved}
use Rattle.line.proofs.GroupKeySteps.{refused_number}
use Rattle.line.proofs.GroupSteps.{member_same}
use Rattle.line.proofs.Invariant.{Under, joined_for, Follows, Stranger, Joins, Invariant}
use Rattle.line.proofs.JoinedLift.{Ends, accepted, refused, lift_ends}
use Rattle.line.proofs.Lines.{memberships_right}
use Rattle.line.proofs.MemberSteps.{Moved, moved_right}
use Rattle.line.proofs.MessageSteps.{message_follows}
use Rattle.line.proofs.Places.{set_holds}
use Rattle.line.proofs.Queues.{Grown, under_tail}
use Rattle.line.proofs.Taken.{taking_llids, taking_other, taking_stays, taking_new, with_llids, with_own, with_other, joined_for_at}

---- nothing is taken

-- the unit and what it has taken stay
pub dropped_follows : (l : GroupLane) (active offered : ℕ) (is : Bool) (ms : List Membership) (j : Joined) (xs rest : List InFlight) (x : InFlight)
    → is ≡ true → Under l j.keys.active active offered (x ∷ rest) → Follows l active offered is ms j xs
    → Follows l active offered is ms j rest
dropped_follows l active offered is ms j xs rest x e q f =
    record {
      low = f.low;
      kept = f.kept;
      held = f.held;
      took = f.took;
      queue = under_tail l j.keys.active active offered x rest q;
      stranger = λ z. true_false (sym e ∙ z);
    }

module _ (x : Subscriber) (m : KeyMessage) (j : ℕ) (found : find_joined x m.llid ≡ Some j) where
  joined_onu : (subscriber_key_message_of x m).subscriber.onu ≡ x.onu
  unfolding subscriber_key_message_of by_llid subscriber_acknowledged with_joined
  joined_onu = by_end (lift_ends x no_answer (message_joined m) j) where
    by_end : Ends x no_answer (message_joined m) j → (subscriber_key_message_of x m).subscriber.onu ≡ x.onu
    by_end (refused r e) = rw (found, e)
    by_end (accepted l) = rw (found, l.is)

module _ (w : Setting) (s : State) (u g k : ℕ) (out : List ℕ) (i : Invariant w s) (d : DueOfGroup s u g k out) where
  abbrev x : Subscriber
  x = subscriber_at s u

  abbrev lane : GroupLane
  lane = group_lane_at s g

  abbrev left : GroupLane
  left = group_taken u k lane

  pub taken_grown : (top : ℕ) → Grown lane left top
  unfolding group_taken group_with
  taken_grown top = record { llid = refl; sent = λ e m. m; keys = λ n a b. refl }

  pub in_queue : u < length lane.towards
  in_queue = omega (arith, unit_known w s u g k out i d, i.queues g (known w s u g k out i d))

  -- the rest of what is under way
  pub left_follows : Follows left (group_at s.head g).keys.active (group_at s.head g).keys.offered (is_member left (lane_at (alone s) u)) (joined_by s u)
      (joined_for x left.llid) (get_or left.towards u [])
  unfolding group_taken group_with
  left_follows =
      rw (taken_own s u g k in_queue, member_same lane left (lane_at (alone s) u) refl)
      (follows_moved lane left _ _ _ _ _ _ (joined_by s u) _ _ (taken_grown _) (omega arith) (omega arith) (λ e. e)
      (dropped_follows lane _ _ _ (joined_by s u) _ _ _ (group_in_flight_at s u g k) (member w s u g k out i d) (taken w s u g k out i d)
      (follows w s u g k out i d)))

  left_moved : Moved w s u g x (joined_by s u) left
  unfolding group_taken group_with
  left_moved =
      let r = i.group g (known w s u g k out i d) in
      record {
        unit = unit_known w s u g k out i d;
        known = known w s u g k out i d;
        onu = refl;
        llid = refl;
        entry = refl;
        roster = refl;
        keys = refl;
        sent = refl;
        queues = taken_length s u g k ∙ i.queues g (known w s u g k out i d);
        others = taken_others s u g k;
        arrived = λ a m. arrived_moved w lane left a a.envelope.number (taken_grown a.envelope.number) (omega arith) (r.arrived a m);
        joins = i.joins u (unit_known w s u g k out i d);
        apart = λ llid n. refl;
        untouched = λ llid n e. refl;
        stays = λ llid n e. e;
        follows = left_follows;
        answered = λ a m. rw (set-get_or s.history.joined u []) (i.answered g a (known w s u g k out i d) m);
      }

  pub left_right : Invariant w (at_unit s u x s.history.units s.history.joined (set s.history.groups g left))
  left_right = rw (set-get_or s.history.joined u []) at (moved_right w s u g x (joined_by s u) left i left_moved)

  ---- the message is taken

  -- what holds of the unit's groups, one of them replaced
  pub joins_with : (j : ℕ) (y : Joined) (ms : List Membership) → find_joined x lane.llid ≡ Some j → y.llid ≡ lane.llid → valid_joined y ≡ true
      → map (λ (m : Membership). m.llid) ms ≡ map (λ (m : Membership). m.llid) (joined_by s u)
      → ((llid n : ℕ) → (llid ≡ lane.llid → ⊥) → has_taken ms llid n ≡ has_taken (joined_by s u) llid n)
      → Joins s.history.groups (lane_at (alone s) u) (with_joined x j y) ms
  unfolding with_joined
  joins_with j y ms found named valid llids other =
      let old = i.joins u (unit_known w s u g k out i d) in
      let stands = found_place x lane.llid j found in
      let apart : (llid : ℕ) → Stranger s.history.groups (lane_at (alone s) u) llid → llid ≡ lane.llid → ⊥ =
      λ llid n e. true_false (sym (member w s u g k out i d) ∙ n g (known w s u g k out i d) (sym e)) in
      record {
        valid = with_joined_valid x j y stands.used (named ∙ sym stands.has) valid old.valid;
        places = length-set x.memberships.table j y ∙ old.places;
        llids = llids ∙ old.llids ∙ sym (with_llids x lane.llid j y found named);
        stranger = λ llid n. rw (with_other x lane.llid j y found named llid (apart llid n)) (old.stranger llid n);
        untaken = λ llid n m. other llid m (apart llid n) ∙ old.untaken llid n m;
      }

  module _ (j : ℕ) (m : KeyMessage) (t : ℕ) (answer : Answer) (found : find_joined x lane.llid ≡ Some j)
      (is : group_in_flight_at s u g k ≡ key_message m t)
      (fits : either (new_number (joined_at x j) m) (held_again (joined_at x j) m) ≡ true)
      (same : answer.number ≡ m.number) where
    abbrev after : GroupLane
    after = group_answered (record { unit = u; answer = answer; tick = now s }) left

    abbrev now_joined : Joined
    now_joined = joined_after_message (joined_at x j) m

    abbrev now_taken : List Membership
    now_taken = taking lane.llid m.number (joined_by s u)

    named : now_joined.llid ≡ lane.llid
    named = message_llid (joined_at x j) m ∙ (found_place x lane.llid j found).has

    taken_follows : Follows after (group_at s.head g).keys.active (group_at s.head g).keys.offered (is_member after (lane_at (alone s) u)) now_taken
        (joined_for (with_joined x j now_joined) after.llid) (get_or after.towards u [])
    unfolding group_answered group_taken group_with
    taken_follows =
        let old = rw (joined_for_at x lane.llid j found) at (follows w s u g k out i d) in
        let under = rw (is, joined_for_at x lane.llid j found) at (taken w s u g k out i d) in
        rw (taken_own s u g k in_queue, with_own x lane.llid j now_joined found named, member_same lane after (lane_at (alone s) u) refl)
        (follows_moved lane after _ _ _ _ _ _ now_taken _ _ (record { llid = refl; sent = λ e q. q; keys = λ n a b. refl }) (omega arith) (omega arith)
        (λ e. e)
        (message_follows lane _ _ _ (joined_by s u) (joined_at x j) _ _ m old
        (found_valid x lane.llid j (memberships_right w s i u) found) under.0 under.1 (member w s u g k out i d) fits))

    taken_moved : Moved w s u g (with_joined x j now_joined) now_taken after
    unfolding group_answered group_taken group_with with_joined
    taken_moved =
        let here = known w s u g k out i d in
        let r = i.group g here in
        let at = unit_known w s u g k out i d in
        let joined : is_joined (joined_by s u) lane.llid ≡ true =
        joined_listed _ _ x (joined_by s u) lane.llid (i.joins u at) ∙ joined_among x lane.llid j found in
        record {
          unit = at;
          known = here;
          onu = refl;
          llid = refl;
          entry = refl;
          roster = refl;
          keys = refl;
          sent = refl;
          queues = taken_length s u g k ∙ i.queues g here;
          others = taken_others s u g k;
          arrived = λ a q.
              arrived_moved w lane after a a.envelope.number (record { llid = refl; sent = λ e p. p; keys = λ n b c. refl }) (omega arith)
              (r.arrived a q);
          joins =
              joins_with j now_joined now_taken found named (message_valid (joined_at x j) (found_valid x lane.llid j (memberships_right w s i u) found) m)
              (taking_llids lane.llid m.number (joined_by s u)) (λ llid n e. taking_other lane.llid m.number llid n (joined_by s u) e);
          apart = with_other x lane.llid j now_joined found named;
          untouched = λ llid n e. taking_other lane.llid m.number llid n (joined_by s u) e;
          stays = λ llid n e. taking_stays lane.llid m.number llid n (joined_by s u) e;
          follows = taken_follows;
          answered =
              each_more (λ (a : GroupAnswered). has_taken (get_or (set s.history.joined u now_taken) a.unit []) lane.llid a.answer.number ≡ true)
              lane.answered (record { unit = u; answer = answer; tick = now s })
              (λ a q.
              set_holds (λ (v : ℕ) (js : List Membership).
              has_taken (joined_by s v) lane.llid a.answer.number ≡ true → has_taken js lane.llid a.answer.number ≡ true)
              s.history.joined u now_taken [] (λ v e. e) (λ e. taking_stays lane.llid m.number lane.llid a.answer.number (joined_by s u) e)
              a.unit (i.answered g a here q))
              (rw (get_or-set_same s.history.joined u now_taken [] (omega (arith, at, i.paired)), same)
              (taking_new lane.llid m.number (joined_by s u) joined));
        }

  ---- the event

  -- the unit has not joined the group: its LLID is unknown
  own_refused : (m : KeyMessage) → m.llid ≡ lane.llid → find_joined x lane.llid ≡ None
      → ((subscriber_key_message_of x m).number ≡ 0 → ⊥) × ((subscriber_key_message_of x m).subscriber ≡ x)
  unfolding key_message_at onu_acknowledged with_onu
  own_refused m e none =
      let is = key_message_onu x (memberships_right w s i u) m (ap (find_joined x) e ∙ none) in
      let refuses : (key_message_at x.onu m).number ≡ 0 → ⊥ =
      λ z. true_false (sym (ap (has x.onu.identity) (sym e) ∙ (key_message_met x.onu m (number_accepted _ z)).1.has)
      ∙ strange w s u g k out i d) in (
        λ z. refuses (sym (ap (λ (r : SubscriberAcknowledged). r.number) is) ∙ z),
        ap (λ (r : SubscriberAcknowledged). r.subscriber) is ∙ ap (with_onu x) (key_message_refused x.onu m refuses).0,
      )

  message_left : (m : KeyMessage) (r : SubscriberAcknowledged) → (r.number ≡ 0 → ⊥) → r.subscriber ≡ x
      → Invariant w (group_message_arriving s u g k m r)
  unfolding group_message_arriving pick
  message_left m r n same = rw (same, ne_eqb r.number 0 n) left_right

  joined_right : (m : KeyMessage) (t : ℕ) → group_in_flight_at s u g k ≡ key_message m t → (j : ℕ) → m.llid ≡ lane.llid
      → find_joined x lane.llid ≡ Some j
      → Invariant w (group_message_arriving s u g k m (subscriber_key_message_of x m))
  unfolding group_message_arriving subscriber_key_message_of by_llid subscriber_acknowledged message_joined joined_message_verdict group_answer pick
  joined_right m t is j llid found = by_end (lift_ends x no_answer (message_joined m) j) where
    here : find_joined x m.llid ≡ Some j
    here = ap (find_joined x) llid ∙ found

    by_end : Ends x no_answer (message_joined m) j → Invariant w (group_message_arriving s u g k m (subscriber_key_message_of x m))
    by_end (refused r e) = rw (here, e) (message_left m _ (refused_number r) refl)
    by_end (accepted l) =
        let a = refuse_accepted _ _ _ l.accepts in
        let answer = (message_joined m x.onu (joined_at x j)).handed in
        let after = group_answered (record { unit = u; answer = answer; tick = now s }) left in
        rw (here, l.is)
        (subst (λ (y : ℕ).
        Invariant w (at_unit s u (with_joined x j (joined_after_message (joined_at x j) m)) s.history.units
        (set s.history.joined u (taking y m.number (joined_by s u))) (set s.history.groups g after)))
        (sym llid)
        (moved_right w s u g _ _ after i
        (taken_moved j m t answer found is (not-false _ (refuse_accepted _ _ _ a.1).0) refl)))

  -- the unit's own part stays
  pub message_onu : (m : KeyMessage) (t : ℕ) → group_in_flight_at s u g k ≡ key_message m t → (subscriber_key_message_of x m).subscriber.onu ≡ x.onu
  message_onu m t is = by_found (find_joined x lane.llid) refl where
    llid : m.llid ≡ lane.llid
    llid = (rw is at (taken w s u g k out i d)).0.llid

    by_found : (f : Option ℕ) → find_joined x lane.llid ≡ f → (subscriber_key_message_of x m).subscriber.onu ≡ x.onu
    by_found None none = ap (λ (y : Subscriber). y.onu) (own_refused m llid none).1
    by_found (Some j) found = joined_onu x m j (ap (find_joined x) llid ∙ found)

  pub message_right : (m : KeyMessage) (t : ℕ) → group_in_flight_at s u g k ≡ key_message m t
      → Invariant w (group_message_arriving s u g k m (subscriber_key_message_of x m))
  message_right m t is = by_found (find_joined x lane.llid) refl where
    llid : m.llid ≡ lane.llid
    llid = (rw is at (taken w s u g k out i d)).0.llid

    by_found : (f : Option ℕ) → find_joined x lane.llid ≡ f → Invariant w (group_message_arriving s u g k m (subscriber_key_message_of x m))
    by_found None none = let r = own_refused m llid none in message_left m (subscriber_key_message_of x m) r.0 r.1
    by_found (Some j) found = joined_right m t is j llid found
