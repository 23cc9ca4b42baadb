-- A list without path changes, groups included: every unit keeps the delays that it started with, and its envelopes go by them (02, C-16).
-- Assumes nothing.
use mathlib.Core.Path.{refl}
use mathlib.Core.List.{List, [], ◌∷◌}
use Prim.Native.Nat.{ℕ}
use Rattle.unicast.specs.History.{InFlight, clock_message, key_message, envelope, sending, lane_with, lane_registered, lane_captured, lane_leaving, lane_offered, lane_acknowledged, lane_sent_down, lane_sent_up, lane_taken, lane_answered, arriving, lane_arrived_down, lane_arrived_up}
use Rattle.unicast.specs.Run as run
use Rattle.unicast.specs.Run.{lane_at, with_lanes, at_olt, at_onu, at_olt_for, entering, clock_sending, offering, retrying, in_flight_at}
use Rattle.unicast.specs.Demand.{AsStarted}
use Rattle.unicast.proofs.StartSteps.{lane_fresh}
use Rattle.unicast.proofs.Unchanged.{fresh_as, more_as, each_mapped, each_set, noted_as, named_as}
use Rattle.line.specs.Events.{Event, advance, register, register_group, capture, clock_send, offer, retry, send_down, join, send_up, arrive_down, arrive_group, arrive_up, arrive_answer, arrive_group_answer, overhear, overhear_group, change_path, measure, new_time, stray_clock, stray_key, stray_answer, stray_down, stray_up}
use Rattle.line.specs.Run.{State, alone, lanes, start, at_head, at_unit, at_unit_alone, advancing, registering, registering_group, clock_sending_to, offering_to, retrying_to, envelope_down, sending_down, joining_at, envelope_up, sending_up, message_arriving, in_flight_arriving, group_message_arriving, group_in_flight_arriving, group_in_flight_at, arriving_up, answering, subscriber_after, head_after, step, runs}
use Rattle.line.specs.Without.{NoChange, NoChanges, Unchanged}

module _ (s : State) (e : (u : ℕ) → AsStarted (lane_at (alone s) u)) where
  in_flight_as : (u k : ℕ) (out : List ℕ) (x : InFlight) (v : ℕ) → AsStarted (lane_at (alone (in_flight_arriving s u k out x)) v)
  unfolding alone in_flight_arriving message_arriving at_unit_alone at_unit at_onu with_lanes lane_answered lane_arrived_down lane_taken
      lane_with arriving
  in_flight_as u k out (clock_message m c t) v = each_set (lanes s) u _ (noted_as _ _ _ (e u) (e u)) e v
  in_flight_as u k out (key_message m t) v = each_set (lanes s) u _ (noted_as _ _ _ (e u) (e u)) e v
  in_flight_as u k out (envelope x) v = each_set (lanes s) u _ (e u) e v

  group_in_flight_as : (u g k : ℕ) (out : List ℕ) (x : InFlight) (v : ℕ) → AsStarted (lane_at (alone (group_in_flight_arriving s u g k out x)) v)
  unfolding alone group_in_flight_arriving group_message_arriving at_unit
  group_in_flight_as u g k out (clock_message m c t) v = e v
  group_in_flight_as u g k out (key_message m t) v = e v
  group_in_flight_as u g k out (envelope x) v = e v

  step_as : (x : Event) → NoChange x → (v : ℕ) → AsStarted (lane_at (alone (step s x)) v)
  unfolding alone step advancing registering registering_group entering at_head at_unit_alone at_unit at_olt at_onu at_olt_for with_lanes
      clock_sending_to clock_sending
      offering_to offering retrying_to retrying sending_down joining_at sending_up arriving_up answering subscriber_after head_after
      lane_registered lane_captured lane_leaving lane_offered lane_acknowledged lane_sent_down lane_sent_up lane_arrived_up lane_with
      sending arriving envelope_down envelope_up
  step_as (advance n) c v = e v
  step_as (register u i trip interval) c v = each_set (lanes s) u _ (noted_as _ _ _ (e u) (e u)) e v
  step_as (register_group llid interval r) c v = e v
  step_as (capture llid) c v = each_mapped _ (lanes s) (λ l p. noted_as _ _ l (named_as _ _ l p p) p) e v
  step_as (clock_send llid) c v = each_mapped _ (lanes s) (λ l p. noted_as _ _ l (named_as _ _ l p p) p) e v
  step_as (offer llid key) c v = each_mapped _ (lanes s) (λ l p. noted_as _ _ l (named_as _ _ l p p) p) e v
  step_as (retry llid) c v = each_mapped _ (lanes s) (λ l p. noted_as _ _ l (named_as _ _ l p p) p) e v
  step_as (send_down llid channel q out) c v =
      each_mapped _ (lanes s) (λ l p. noted_as _ _ l (named_as _ _ l (p.0, more_as l _ p refl) p) p) e v
  step_as (join u llid) c v = e v
  step_as (send_up u llid channel q out) c v =
      each_set (lanes s) u _ (noted_as _ _ _ ((e u).0, more_as (lane_at (alone s) u) _ (e u) refl) (e u)) e v
  step_as (arrive_down u k out) c v = in_flight_as u k out (in_flight_at (alone s) u k) v
  step_as (arrive_group u g k out) c v = group_in_flight_as u g k out (group_in_flight_at s u g k) v
  step_as (arrive_up u k out) c v = each_set (lanes s) u _ (e u) e v
  step_as (arrive_answer u k llid) c v = each_mapped _ (lanes s) (λ l p. noted_as _ _ l (named_as _ _ l p p) p) e v
  step_as (arrive_group_answer g k) c v = e v
  step_as (overhear u other k out) c v = e v
  step_as (overhear_group u g k out) c v = e v
  step_as (change_path u llid time p) c v = absurd c
  step_as (measure llid trip) c v = e v
  step_as (new_time u time) c v = e v
  step_as (stray_clock u m) c v = e v
  step_as (stray_key u m) c v = e v
  step_as (stray_answer llid a) c v = e v
  step_as (stray_down u h q out) c v = e v
  step_as (stray_up h q out) c v = e v

run_as : (s : State) (es : List Event) → ((u : ℕ) → AsStarted (lane_at (alone s) u)) → NoChanges es → (u : ℕ)
    → AsStarted (lane_at (alone (runs s es)) u)
unfolding runs
run_as s [] e c = e
run_as s (x ∷ es) e c = run_as (step s x) es (step_as s e x c.0) c.1

pub unchanged : Unchanged
unfolding alone start run.start
unchanged w es c = run_as (start w) es (λ u. lane_fresh AsStarted w.sites u fresh_as) c
