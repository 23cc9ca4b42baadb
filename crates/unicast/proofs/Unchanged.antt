-- A list without path changes: every unit keeps the delays that it started with, and its envelopes go by them (02, C-16). Assumes nothing.
use mathlib.Core.Path.{◌≡◌, refl, ◌∙◌, ap}
use mathlib.Core.List.Memᴰ
use mathlib.Core.List.{List, Memᴰ, [], ◌∷◌, ◌++◌, map}
use mathlib.Core.Logic.{⊎_elim}
use Prim.Native.Nat.{ℕ, zero, suc}
use lib.ListN.{get_or, set}
use Rattle.octets.specs.Choice.{both}
use Rattle.octets.proofs.Choice.{pick_holds}
use Rattle.ends.specs.Identities.{has}
use Rattle.unicast.specs.Setting.{Delays, Site, Setting}
use Rattle.unicast.specs.History.{Envelope, InFlight, clock_message, key_message, envelope, Lane, sending, lane_with, lane_registered, lane_captured, lane_leaving, lane_offered, lane_acknowledged, lane_sent_down, lane_sent_up, lane_taken, lane_answered, arriving, lane_arrived_down, lane_arrived_up}
use Rattle.unicast.specs.Events.{Event, advance, register, capture, clock_send, offer, retry, send_down, send_up, arrive_down, arrive_up, arrive_answer, overhear, change_path, measure, new_time, stray_clock, stray_key, stray_answer, stray_down, stray_up}
use Rattle.unicast.specs.Run.{State, no_site, fresh_lane, start, lane_at, accepted, noted, named, with_lanes, at_olt, at_onu, at_olt_for, advancing, entering, clock_sending, offering, retrying, envelope_down, sending_down, envelope_up, sending_up, message_arriving, envelope_arriving, in_flight_arriving, in_flight_at, arriving_up, answering, unit_after, olt_after, step, run}
use Rattle.unicast.specs.Demand.{AsStarted, NoChange, NoChanges}
use Rattle.unicast.proofs.StartSteps.{lane_fresh}

pub fresh_as : (s : Site) → AsStarted (fresh_lane s)
unfolding fresh_lane
fresh_as s = (refl, λ e m. absurd (Memᴰ.not-nil m))

fresh : AsStarted (fresh_lane no_site)
fresh = fresh_as no_site

-- one envelope more, by the present path
pub more_as : (l : Lane) (e : Envelope) → AsStarted l → e.up ≡ l.path.up → (x : Envelope) → Memᴰ x (l.past.sent ++ (e ∷ []))
    → x.up ≡ l.site.up
more_as l e p by x m =
    ⊎_elim (p.1 x) (λ last. ap (λ (y : Envelope). y.up) (Memᴰ.eq_of_singleton last) ∙ by ∙ ap (λ (d : Delays). d.up) p.0)
    (Memᴰ.append_cases l.past.sent m)

---- lists of lanes

pub each_mapped : (g : Lane → Lane) (ls : List Lane) → ((l : Lane) → AsStarted l → AsStarted (g l))
    → ((u : ℕ) → AsStarted (get_or ls u (fresh_lane no_site)))
    → (u : ℕ) → AsStarted (get_or (map g ls) u (fresh_lane no_site))
each_mapped g [] h e u = fresh
each_mapped g (l ∷ ls) h e zero = h l (e zero)
each_mapped g (l ∷ ls) h e (suc u) = each_mapped g ls h (λ v. e (suc v)) u

pub each_set : (ls : List Lane) (k : ℕ) (m : Lane) → AsStarted m → ((u : ℕ) → AsStarted (get_or ls u (fresh_lane no_site)))
    → (u : ℕ) → AsStarted (get_or (set ls k m) u (fresh_lane no_site))
each_set [] zero m p e u = fresh
each_set [] (suc k) m p e u = fresh
each_set (l ∷ ls) zero m p e zero = p
each_set (l ∷ ls) zero m p e (suc u) = e (suc u)
each_set (l ∷ ls) (suc k) m p e zero = e zero
each_set (l ∷ ls) (suc k) m p e (suc u) = each_set ls k m p (λ v. e (suc v)) u

pub noted_as : (number : ℕ) (f : Lane → Lane) (l : Lane) → AsStarted (f l) → AsStarted l → AsStarted (noted number f l)
unfolding noted
noted_as number f l p q = pick_holds AsStarted (accepted number) (f l) l (λ t. p) (λ t. q)

pub named_as : (llid : ℕ) (f : Lane → Lane) (l : Lane) → AsStarted (f l) → AsStarted l → AsStarted (named llid f l)
unfolding named
named_as llid f l p q = pick_holds AsStarted (both l.entry.registered (has l.site.identity llid)) (f l) l (λ t. p) (λ t. q)

---- events

module _ (s : State) (e : (u : ℕ) → AsStarted (lane_at s u)) where
  in_flight_as : (u k : ℕ) (out : List ℕ) (x : InFlight) (v : ℕ) → AsStarted (lane_at (in_flight_arriving s u k out x) v)
  unfolding in_flight_arriving message_arriving envelope_arriving at_onu with_lanes lane_answered lane_arrived_down lane_taken lane_with arriving
  in_flight_as u k out (clock_message m c t) v = each_set s.history.lanes u _ (noted_as _ _ _ (e u) (e u)) e v
  in_flight_as u k out (key_message m t) v = each_set s.history.lanes u _ (noted_as _ _ _ (e u) (e u)) e v
  in_flight_as u k out (envelope x) v = each_set s.history.lanes u _ (e u) e v

  step_as : (x : Event) → NoChange x → (v : ℕ) → AsStarted (lane_at (step s x) v)
  unfolding step advancing entering at_olt at_onu at_olt_for with_lanes clock_sending offering retrying sending_down sending_up arriving_up
      answering unit_after olt_after
      lane_registered lane_captured lane_leaving lane_offered lane_acknowledged lane_sent_down lane_sent_up lane_arrived_up lane_with
      sending arriving envelope_down envelope_up
  step_as (advance n) c v = e v
  step_as (register u i trip interval) c v = each_set s.history.lanes u _ (noted_as _ _ _ (e u) (e u)) e v
  step_as (capture llid) c v = each_mapped _ s.history.lanes (λ l p. noted_as _ _ l (named_as _ _ l p p) p) e v
  step_as (clock_send llid) c v = each_mapped _ s.history.lanes (λ l p. noted_as _ _ l (named_as _ _ l p p) p) e v
  step_as (offer llid key) c v = each_mapped _ s.history.lanes (λ l p. noted_as _ _ l (named_as _ _ l p p) p) e v
  step_as (retry llid) c v = each_mapped _ s.history.lanes (λ l p. noted_as _ _ l (named_as _ _ l p p) p) e v
  step_as (send_down llid channel q out) c v =
      each_mapped _ s.history.lanes (λ l p. noted_as _ _ l (named_as _ _ l (p.0, more_as l _ p refl) p) p) e v
  step_as (send_up u llid channel q out) c v =
      each_set s.history.lanes u _ (noted_as _ _ _ ((e u).0, more_as (lane_at s u) _ (e u) refl) (e u)) e v
  step_as (arrive_down u k out) c v = in_flight_as u k out (in_flight_at s u k) v
  step_as (arrive_up u k out) c v = each_set s.history.lanes u _ (e u) e v
  step_as (arrive_answer u k llid) c v = each_mapped _ s.history.lanes (λ l p. noted_as _ _ l (named_as _ _ l p p) p) e v
  step_as (overhear u other k out) c v = e v
  step_as (change_path u llid time p) c v = absurd c
  step_as (measure llid trip) c v = e v
  step_as (new_time u time) c v = e v
  step_as (stray_clock u m) c v = e v
  step_as (stray_key u m) c v = e v
  step_as (stray_answer llid a) c v = e v
  step_as (stray_down u h q out) c v = e v
  step_as (stray_up h q out) c v = e v

run_as : (s : State) (es : List Event) → ((u : ℕ) → AsStarted (lane_at s u)) → NoChanges es → (u : ℕ) → AsStarted (lane_at (run s es) u)
unfolding run
run_as s [] e c = e
run_as s (x ∷ es) e c = run_as (step s x) es (step_as s e x c.0) c.1

pub unchanged : (w : Setting) (es : List Event) → NoChanges es → (u : ℕ) → AsStarted (lane_at (run (start w) es) u)
unfolding start
unchanged w es c = run_as (start w) es (λ u. lane_fresh AsStarted w.sites u fresh_as) c
