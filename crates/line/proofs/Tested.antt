-- The premises as a test that computes: a list that passes it meets them. Of the units' own lines it is the test of unicast. Assumes nothing.
use mathlib.Core.Path.{◌≡◌, refl}
use mathlib.Core.Bool.{Bool, true, not}
use mathlib.Core.List.{List, [], ◌∷◌, ◌++◌}
use Prim.Native.Nat.{ℕ, ◌+◌, ◌%◌}
use lib.Dec.{eqb, leb, ltb}
use lib.ListN.{length, get_or}
use borrow.Author.Tests.{ltb-true, leb-true, eqb-true, not-true}
use Rattle.octets.specs.Choice.{both}
use Rattle.octets.proofs.Choice.{both_left, both_right}
use Rattle.clock.specs.Ticks.{local_turn}
use Rattle.ends.specs.Identities.{has}
use Rattle.headend.specs.HeadCalls.{head_register_of, head_measure_of, head_offer_of, head_acknowledge_of}
use Rattle.headend.specs.HeadTraffic.{head_receive_of}
use Rattle.subscriber.specs.SubscriberCalls.{subscriber_new_time_of, subscriber_clock_message_of, subscriber_key_message_of}
use Rattle.subscriber.specs.SubscriberTraffic.{subscriber_send_of, subscriber_receive_of}
use Rattle.unicast.specs.Setting.{Delays, Setting}
use Rattle.unicast.specs.History.{left_at}
use Rattle.unicast.specs.Run.{lane_at}
use Rattle.unicast.proofs.Tested.{if_accepted, if_accepted-holds, not_accepted, agrees, agrees_true, unused, unused_at, lane_offers, new_key-holds, fitting, fitting_true, due_down, due_down_true, due_up, due_up_true, due_answer, due_answer_true, overhears, overhears_true}
use Rattle.unicast.proofs.Tested as units
use Rattle.line.specs.History.{GroupLane, is_member}
use Rattle.line.specs.Events.{Event, advance, register, register_group, capture, clock_send, offer, retry, send_down, join, send_up, arrive_down, arrive_group, arrive_up, arrive_answer, arrive_group_answer, overhear, overhear_group, change_path, measure, new_time, stray_clock, stray_key, stray_answer, stray_down, stray_up}
use Rattle.line.specs.Run.{State, alone, subscriber_at, group_lane_at, no_group_lane, group_in_flight_at, group_answer_at, now, step}
use Rattle.line.specs.Premises.{NewKey, DueOfGroup, DueGroupAnswer, Changes, OverhearsGroup, Fits, Meets}

---- each premise of groups

abbrev group_offers : GroupLane → List (List ℕ)
group_offers g = g.keys.offers

unfoldable pub new_to : State → List ℕ → Bool
new_to s key = both (unused lane_offers key (alone s).history.lanes) (unused group_offers key s.history.groups)

pub new_true : (s : State) (key : List ℕ) → new_to s key ≡ true → NewKey s key
unfolding new_to no_group_lane
new_true s key e =
    record {
      units = new_key-holds (alone s) key (both_left _ _ e);
      groups = unused_at group_offers no_group_lane refl key s.history.groups (both_right _ _ e);
    }

unfoldable pub due_of_group : State → ℕ → ℕ → ℕ → List ℕ → Bool
due_of_group s u g k out =
    both (ltb k (length (get_or (group_lane_at s g).towards u [])))
    (both (eqb (left_at (group_in_flight_at s u g k) + (lane_at (alone s) u).path.down) (now s)) (fitting (group_in_flight_at s u g k) out))

pub due_of_group_true : (s : State) (u g k : ℕ) (out : List ℕ) → due_of_group s u g k out ≡ true → DueOfGroup s u g k out
unfolding due_of_group
due_of_group_true s u g k out e =
    let a = both_right _ _ e in
    record { some = ltb-true _ _ (both_left _ _ e); at = eqb-true _ _ (both_left _ _ a); buffer = fitting_true _ _ (both_right _ _ a) }

unfoldable pub due_group_answer : State → ℕ → ℕ → Bool
due_group_answer s g k =
    both (ltb k (length (group_lane_at s g).answered))
    (leb ((group_answer_at s g k).tick + (lane_at (alone s) (group_answer_at s g k).unit).path.up) (now s))

due_group_answer_true : (s : State) (g k : ℕ) → due_group_answer s g k ≡ true → DueGroupAnswer s g k
unfolding due_group_answer
due_group_answer_true s g k e = record { some = ltb-true _ _ (both_left _ _ e); left = leb-true _ _ (both_right _ _ e) }

unfoldable pub overhears_group : State → ℕ → ℕ → ℕ → Bool
overhears_group s u g k =
    both (lane_at (alone s) u).entry.registered
    (both (not (is_member (group_lane_at s g) (lane_at (alone s) u))) (ltb k (length (group_lane_at s g).sent)))

pub overhears_group_true : (s : State) (u g k : ℕ) → overhears_group s u g k ≡ true → OverhearsGroup s u g k
unfolding overhears_group
overhears_group_true s u g k e =
    let a = both_right _ _ e in
    record { registered = both_left _ _ e; stranger = not-true _ (both_left _ _ a); some = ltb-true _ _ (both_right _ _ a) }

unfoldable pub changes : Setting → State → ℕ → ℕ → ℕ → Delays → Bool
changes w s u llid time p =
    both (lane_at (alone s) u).entry.registered
    (both (has (lane_at (alone s) u).site.identity llid)
    (both (eqb (head_measure_of s.head llid (p.up + p.down)).number 0)
    (both (eqb (subscriber_new_time_of (subscriber_at s u) time).number 0) (eqb time ((w.first + now s + p.up) % local_turn)))))

changes_true : (w : Setting) (s : State) (u llid time : ℕ) (p : Delays) → changes w s u llid time p ≡ true → Changes w s u llid time p
unfolding changes
changes_true w s u llid time p e =
    let a = both_right _ _ e in
    let b = both_right _ _ a in
    let c = both_right _ _ b in
    record {
      registered = both_left _ _ e;
      named = both_left _ _ a;
      measured = eqb-true _ _ (both_left _ _ b);
      retimed = eqb-true _ _ (both_left _ _ c);
      follows = eqb-true _ _ (both_right _ _ c);
    }

---- an event, and a list

unfoldable pub fits : Setting → State → Event → Bool
fits w s (advance n) = true
fits w s (register u i trip interval) = if_accepted (head_register_of s.head i trip interval).number (agrees w (alone s) u i trip)
fits w s (register_group llid interval r) = true
fits w s (capture llid) = true
fits w s (clock_send llid) = true
fits w s (offer llid key) = if_accepted (head_offer_of s.head llid key).number (new_to s key)
fits w s (retry llid) = true
fits w s (send_down llid channel p out) = true
fits w s (join u llid) = true
fits w s (send_up u llid channel p out) =
    if_accepted (subscriber_send_of (subscriber_at s u) llid channel p out).answer.number (lane_at (alone s) u).entry.registered
fits w s (arrive_down u k out) = due_down (alone s) u k out
fits w s (arrive_group u g k out) = due_of_group s u g k out
fits w s (arrive_up u k out) = due_up (alone s) u k out
fits w s (arrive_answer u k llid) = due_answer (alone s) u k llid
fits w s (arrive_group_answer g k) = due_group_answer s g k
fits w s (overhear u other k out) = overhears (alone s) u other k
fits w s (overhear_group u g k out) = overhears_group s u g k
fits w s (change_path u llid time p) = changes w s u llid time p
fits w s (measure llid trip) = not (eqb (head_measure_of s.head llid trip).number 0)
fits w s (new_time u time) = not (eqb (subscriber_new_time_of (subscriber_at s u) time).number 0)
fits w s (stray_clock u m) = not (eqb (subscriber_clock_message_of (subscriber_at s u) m).number 0)
fits w s (stray_key u m) = not (eqb (subscriber_key_message_of (subscriber_at s u) m).number 0)
fits w s (stray_answer llid a) = not (eqb (head_acknowledge_of s.head llid a).number 0)
fits w s (stray_down u h p out) = not (eqb (subscriber_receive_of (subscriber_at s u) h p out).answer.number 0)
fits w s (stray_up h p out) = not (eqb (head_receive_of s.head h p out).answer.number 0)

fits_true : (w : Setting) (s : State) (e : Event) → fits w s e ≡ true → Fits w s e
unfolding fits
fits_true w s (advance n) h = tt
fits_true w s (register u i trip interval) h = λ a. agrees_true w (alone s) u i trip (if_accepted-holds _ _ h a)
fits_true w s (register_group llid interval r) h = tt
fits_true w s (capture llid) h = tt
fits_true w s (clock_send llid) h = tt
fits_true w s (offer llid key) h = λ a. new_true s key (if_accepted-holds _ _ h a)
fits_true w s (retry llid) h = tt
fits_true w s (send_down llid channel p out) h = tt
fits_true w s (join u llid) h = tt
fits_true w s (send_up u llid channel p out) h = if_accepted-holds _ _ h
fits_true w s (arrive_down u k out) h = due_down_true (alone s) u k out h
fits_true w s (arrive_group u g k out) h = due_of_group_true s u g k out h
fits_true w s (arrive_up u k out) h = due_up_true (alone s) u k out h
fits_true w s (arrive_answer u k llid) h = due_answer_true (alone s) u k llid h
fits_true w s (arrive_group_answer g k) h = due_group_answer_true s g k h
fits_true w s (overhear u other k out) h = overhears_true (alone s) u other k h
fits_true w s (overhear_group u g k out) h = overhears_group_true s u g k h
fits_true w s (change_path u llid time p) h = changes_true w s u llid time p h
fits_true w s (measure llid trip) h = not_accepted _ h
fits_true w s (new_time u time) h = not_accepted _ h
fits_true w s (stray_clock u m) h = not_accepted _ h
fits_true w s (stray_key u m) h = not_accepted _ h
fits_true w s (stray_answer llid a) h = not_accepted _ h
fits_true w s (stray_down u x p out) h = not_accepted _ h
fits_true w s (stray_up x p out) h = not_accepted _ h

unfoldable pub meets : Setting → State → List Event → Bool
meets w s [] = true
meets w s (e ∷ es) = both (fits w s e) (meets w (step s e) es)

pub meets_true : (w : Setting) (s : State) (es : List Event) → meets w s es ≡ true → Meets w s es
unfolding meets
meets_true w s [] h = tt
meets_true w s (e ∷ es) h = (fits_true w s e (both_left _ _ h), meets_true w (step s e) es (both_right _ _ h))

-- what a list meets, each start of it does
pub meets_start : (w : Setting) (s : State) (es rest : List Event) → Meets w s (es ++ rest) → Meets w s es
meets_start w s [] rest m = tt
meets_start w s (e ∷ es) rest m = (m.0, meets_start w (step s e) es rest m.1)

-- to compute the test
unfoldable pub tested : Unit {0}
unfolding units.tested new_to due_of_group due_group_answer overhears_group changes fits meets
tested = tt
