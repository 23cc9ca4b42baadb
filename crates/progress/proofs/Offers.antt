-- Events that offer no key: no accepted offer is more. Assumes nothing.
use mathlib.Core.Path.{◌≡◌, refl, ◌∙◌}
use mathlib.Core.List.{List, [], ◌∷◌}
use Prim.Native.Nat.{ℕ}
use Rattle.unicast.specs.History.{InFlight, clock_message, key_message, envelope, Lane, lane_with, lane_captured, lane_leaving, lane_acknowledged, lane_taken, lane_answered, lane_arrived_down, lane_arrived_up}
use Rattle.unicast.specs.Events.{Event, advance, register, capture, clock_send, offer, retry, send_down, send_up, arrive_down, arrive_up, arrive_answer, overhear, change_path, measure, new_time, stray_clock, stray_key, stray_answer, stray_down, stray_up}
use Rattle.unicast.specs.Run.{State, lane_at, with_lanes, at_onu, at_olt_for, advancing, clock_sending, answering, message_arriving, envelope_arriving, in_flight_arriving, in_flight_at, arriving_up, step, run}
use Rattle.unicast.specs.Premises.{NewKey}
use Rattle.unicast.proofs.Stays.{at_olt_keeps, set_stays, noted_keeps}

abbrev pub Unoffering : Event → Type 0
Unoffering (advance n) = Unit {0}
Unoffering (register u i trip interval) = ⊥
Unoffering (capture llid) = Unit {0}
Unoffering (clock_send llid) = Unit {0}
Unoffering (offer llid key) = ⊥
Unoffering (retry llid) = ⊥
Unoffering (send_down llid channel p out) = ⊥
Unoffering (send_up u llid channel p out) = ⊥
Unoffering (arrive_down u k out) = Unit {0}
Unoffering (arrive_up u k out) = Unit {0}
Unoffering (arrive_answer u k llid) = Unit {0}
Unoffering (overhear u other k out) = ⊥
Unoffering (change_path u llid time p) = ⊥
Unoffering (measure llid trip) = ⊥
Unoffering (new_time u time) = ⊥
Unoffering (stray_clock u m) = ⊥
Unoffering (stray_key u m) = ⊥
Unoffering (stray_answer llid a) = ⊥
Unoffering (stray_down u h p out) = ⊥
Unoffering (stray_up h p out) = ⊥

abbrev pub Unofferings : List Event → Type 0
Unofferings [] = Unit {0}
Unofferings (e ∷ es) = Unoffering e × Unofferings es

-- every unit's accepted offers are as they were
abbrev pub SameOffers : State → State → Type 0
SameOffers s t = (v : ℕ) → (lane_at t v).keys.offers ≡ (lane_at s v).keys.offers

abbrev offers_of : Lane → List (List ℕ)
offers_of l = l.keys.offers

in_flight_offers : (s : State) (u k : ℕ) (out : List ℕ) (x : InFlight) → SameOffers s (in_flight_arriving s u k out x)
unfolding in_flight_arriving message_arriving envelope_arriving at_onu with_lanes lane_answered lane_taken lane_arrived_down lane_with
in_flight_offers s u k out (clock_message m c t) = set_stays offers_of s u _ (noted_keeps offers_of _ _ (lane_taken k (lane_at s u)) refl)
in_flight_offers s u k out (key_message m t) = set_stays offers_of s u _ (noted_keeps offers_of _ _ (lane_taken k (lane_at s u)) refl)
in_flight_offers s u k out (envelope e) = set_stays offers_of s u _ refl

offers_step : (s : State) (e : Event) → Unoffering e → SameOffers s (step s e)
unfolding step advancing clock_sending answering arriving_up at_olt_for with_lanes lane_captured lane_leaving lane_acknowledged
    lane_arrived_up lane_with
offers_step s (advance n) c v = refl
offers_step s (capture llid) c v = at_olt_keeps offers_of s _ _ llid _ (λ l. refl) v
offers_step s (clock_send llid) c v = at_olt_keeps offers_of s _ _ llid _ (λ l. refl) v
offers_step s (arrive_down u k out) c v = in_flight_offers s u k out (in_flight_at s u k) v
offers_step s (arrive_up u k out) c v = set_stays offers_of s u _ refl v
offers_step s (arrive_answer u k llid) c v = at_olt_keeps offers_of s _ _ llid _ (λ l. refl) v
offers_step s (register u x trip interval) c v = absurd c
offers_step s (offer llid key) c v = absurd c
offers_step s (retry llid) c v = absurd c
offers_step s (send_down llid channel p out) c v = absurd c
offers_step s (send_up u llid channel p out) c v = absurd c
offers_step s (overhear u other k out) c v = absurd c
offers_step s (change_path u llid time p) c v = absurd c
offers_step s (measure llid trip) c v = absurd c
offers_step s (new_time u time) c v = absurd c
offers_step s (stray_clock u m) c v = absurd c
offers_step s (stray_key u m) c v = absurd c
offers_step s (stray_answer llid a) c v = absurd c
offers_step s (stray_down u x p out) c v = absurd c
offers_step s (stray_up x p out) c v = absurd c

offers_run : (s : State) (es : List Event) → Unofferings es → SameOffers s (run s es)
unfolding run
offers_run s [] c v = refl
offers_run s (e ∷ es) c v = offers_run (step s e) es c.1 v ∙ offers_step s e c.0 v

-- a key that is new stays so
pub new_after : (s : State) (es : List Event) (key : List ℕ) → Unofferings es → NewKey s key → NewKey (run s es) key
new_after s es key c n =
    let same = offers_run s es c in
    record { unused = λ v k h e. n.unused v k (rw (same v) at h) (rw (same v) at e) }
