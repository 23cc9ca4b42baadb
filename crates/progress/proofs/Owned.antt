-- The events of the continuation are the unit's own: they name it, by that LLID, offer that key, and leave its registration and its site. Assumes nothing.
use mathlib.Core.Path.{◌≡◌, refl}
use mathlib.Core.List.{List, [], ◌∷◌, ◌++◌}
use Prim.Native.Nat.{ℕ, zero, suc}
use lib.Dec.{leb, ltb}
use lib.ListN.{length}
use Rattle.octets.proofs.Choice.{pick_holds}
use Rattle.unicast.specs.Setting.{Site}
use Rattle.unicast.specs.History.{InFlight, clock_message, key_message, envelope, Entry, Lane, lane_with, lane_captured, lane_leaving, lane_offered, lane_acknowledged, lane_sent_down, lane_sent_up, lane_taken, lane_answered, lane_arrived_down, lane_arrived_up, is_synced}
use Rattle.unicast.specs.Events.{Event, advance, register, capture, clock_send, offer, retry, send_down, send_up, arrive_down, arrive_up, arrive_answer, overhear, change_path, measure, new_time, stray_clock, stray_key, stray_answer, stray_down, stray_up}
use Rattle.unicast.specs.Run.{State, lane_at, with_lanes, at_onu, at_olt_for, advancing, clock_sending, offering, retrying, sending_down, sending_up, answering, message_arriving, envelope_arriving, in_flight_arriving, in_flight_at, arriving_up, step, run}
use Rattle.unicast.proofs.Stays.{at_olt_keeps, set_stays, noted_keeps}
use Rattle.progress.specs.Progress.{confirmed_by, awaited_count, due_down, due_up, awaited, next_down, next_up, next_by, next, drained, and_then, waited, answered_round, clock_round, key_round, interval, down_round, up_round, keyed, moved, rounds, onwards, recipe}

abbrev pub Owned : ℕ → ℕ → List ℕ → Event → Type 0
Owned u llid key (advance n) = Unit {0}
Owned u llid key (register v i trip interval) = ⊥
Owned u llid key (capture x) = x ≡ llid
Owned u llid key (clock_send x) = x ≡ llid
Owned u llid key (offer x other) = (x ≡ llid) × (other ≡ key)
Owned u llid key (retry x) = x ≡ llid
Owned u llid key (send_down x channel p out) = x ≡ llid
Owned u llid key (send_up v x channel p out) = (v ≡ u) × (x ≡ llid)
Owned u llid key (arrive_down v k out) = v ≡ u
Owned u llid key (arrive_up v k out) = v ≡ u
Owned u llid key (arrive_answer v k x) = (v ≡ u) × (x ≡ llid)
Owned u llid key (overhear v other k out) = ⊥
Owned u llid key (change_path v x time p) = ⊥
Owned u llid key (measure x trip) = ⊥
Owned u llid key (new_time v time) = ⊥
Owned u llid key (stray_clock v m) = ⊥
Owned u llid key (stray_key v m) = ⊥
Owned u llid key (stray_answer x a) = ⊥
Owned u llid key (stray_down v h p out) = ⊥
Owned u llid key (stray_up h p out) = ⊥

abbrev pub Owns : ℕ → ℕ → List ℕ → List Event → Type 0
Owns u llid key [] = Unit {0}
Owns u llid key (e ∷ es) = Owned u llid key e × Owns u llid key es

---- the continuation

owns_append : (u llid : ℕ) (key : List ℕ) (es fs : List Event) → Owns u llid key es → Owns u llid key fs → Owns u llid key (es ++ fs)
owns_append u llid key [] fs a b = b
owns_append u llid key (e ∷ es) fs a b = (a.0, owns_append u llid key es fs a.1 b)

owns_then : (u llid : ℕ) (key : List ℕ) (f g : State → List Event) (s : State) → Owns u llid key (f s)
    → ((t : State) → Owns u llid key (g t)) → Owns u llid key (and_then f g s)
unfolding and_then
owns_then u llid key f g s a b = owns_append u llid key (f s) (g (run s (f s))) a (b (run s (f s)))

pub owns_clock : (u llid : ℕ) (key : List ℕ) (s : State) → Owns u llid key (clock_round u llid s)
unfolding clock_round answered_round
owns_clock u llid key s =
    pick_holds (λ (es : List Event). Owns u llid key es) (is_synced (lane_at s u)) _ (capture llid ∷ clock_send llid ∷ answered_round u llid (lane_at s u))
    (λ e. ((refl, refl), tt)) (λ e. (refl, (refl, (tt, (refl, (tt, ((refl, refl), tt)))))))

owns_key : (u llid : ℕ) (key : List ℕ) (s : State) → Owns u llid key (key_round u llid key s)
unfolding key_round answered_round
owns_key u llid key s = (
  pick_holds (λ (e : Event). Owned u llid key e) (ltb (lane_at s u).keys.switches (length (lane_at s u).keys.offers)) (retry llid) (offer llid key)
      (λ e. refl) (λ e. (refl, refl)),
  (tt, (refl, (tt, ((refl, refl), tt)))),
)

owns_interval : (u llid : ℕ) (key : List ℕ) (s : State) → Owns u llid key (interval u s)
unfolding interval
owns_interval u llid key s = (tt, tt)

owns_up : (u llid : ℕ) (key : List ℕ) (s : State) → Owns u llid key (up_round u llid s)
unfolding up_round
owns_up u llid key s = ((refl, refl), (tt, (refl, tt)))

owns_rounds : (u llid : ℕ) (key : List ℕ) (c tick : ℕ) (s : State) → Owns u llid key (rounds u llid key c tick s)
unfolding rounds keyed moved down_round
owns_rounds u llid key c tick s =
    owns_then u llid key (waited tick) _ s (tt, tt)
    (λ t.
    owns_then u llid key (clock_round u llid) _ t (owns_clock u llid key t)
    (λ t.
    owns_then u llid key (keyed u llid key c) _ t
    (pick_holds (λ (es : List Event). Owns u llid key es) (ltb c (lane_at t u).keys.switches) [] (and_then (key_round u llid key) (interval u) t) (λ e. tt)
    (λ e. owns_then u llid key (key_round u llid key) (interval u) t (owns_key u llid key t) (owns_interval u llid key)))
    (λ t.
    owns_then u llid key (moved u llid c) (up_round u llid) t
    (pick_holds (λ (es : List Event). Owns u llid key es) (ltb c (lane_at t u).keys.number) [] (down_round u llid t) (λ e. tt)
    (λ e. (refl, (tt, (refl, tt))))) (owns_up u llid key))))

owns_next : (u llid : ℕ) (key : List ℕ) (s : State) → Owns u llid key (next s u)
unfolding next next_by next_down next_up
owns_next u llid key s = by_queues (awaited s.history.now (due_down (lane_at s u))) (awaited s.history.now (due_up (lane_at s u))) where
  by_queues : (ds us : List ℕ) → Owns u llid key (next_by s u ds us)
  by_queues [] [] = tt
  by_queues (t ∷ ts) [] = (tt, (refl, tt))
  by_queues [] (v ∷ vs) = (tt, (refl, tt))
  by_queues (t ∷ ts) (v ∷ vs) =
      pick_holds (λ (es : List Event). Owns u llid key es) (leb t v) (next_down s u t) (next_up s u v) (λ e. (tt, (refl, tt))) (λ e. (tt, (refl, tt)))

owns_drained : (u llid : ℕ) (key : List ℕ) (n : ℕ) (s : State) → Owns u llid key (drained n s u)
unfolding drained
owns_drained u llid key zero s = tt
owns_drained u llid key (suc n) s = owns_append u llid key (next s u) _ (owns_next u llid key s) (owns_drained u llid key n (run s (next s u)))

pub owns_recipe : (u llid : ℕ) (key : List ℕ) (s : State) → Owns u llid key (recipe u llid key s)
unfolding recipe onwards
owns_recipe u llid key s =
    owns_then u llid key (λ t. drained (awaited_count (lane_at s u) s.history.now) t u) _ s
    (owns_drained u llid key (awaited_count (lane_at s u) s.history.now) s)
    (λ t.
    pick_holds (λ (es : List Event). Owns u llid key es) (ltb (confirmed_by (lane_at s u)) (confirmed_by (lane_at t u))) []
    (rounds u llid key (confirmed_by (lane_at s u)) _ t) (λ e. tt) (λ e. owns_rounds u llid key (confirmed_by (lane_at s u)) _ t))

---- what they leave of a lane

-- the unit, and whether it is registered
abbrev pub whose : Lane → Site × Entry
whose l = (l.site, l.entry)

unfoldable lanes : Unit {0}
unfolding lane_with lane_captured lane_leaving lane_offered lane_acknowledged lane_sent_down lane_sent_up lane_taken lane_answered
    lane_arrived_down lane_arrived_up
lanes = tt

unfoldable steps : Unit {0}
unfolding step advancing clock_sending offering retrying sending_down sending_up answering arriving_up at_onu at_olt_for with_lanes
steps = tt

in_flight_whose : (s : State) (u k : ℕ) (out : List ℕ) (x : InFlight) (v : ℕ)
    → whose (lane_at (in_flight_arriving s u k out x) v) ≡ whose (lane_at s v)
unfolding in_flight_arriving message_arriving envelope_arriving at_onu with_lanes lanes
in_flight_whose s u k out (clock_message m c t) v = set_stays whose s u _ (noted_keeps whose _ _ (lane_taken k (lane_at s u)) refl) v
in_flight_whose s u k out (key_message m t) v = set_stays whose s u _ (noted_keeps whose _ _ (lane_taken k (lane_at s u)) refl) v
in_flight_whose s u k out (envelope e) v = set_stays whose s u _ refl v

pub whose_stays : (u llid : ℕ) (key : List ℕ) (s : State) (e : Event) → Owned u llid key e → (v : ℕ)
    → whose (lane_at (step s e) v) ≡ whose (lane_at s v)
unfolding steps lanes
whose_stays u llid key s (advance n) o v = refl
whose_stays u llid key s (capture x) o v = at_olt_keeps whose s _ _ x _ (λ l. refl) v
whose_stays u llid key s (clock_send x) o v = at_olt_keeps whose s _ _ x _ (λ l. refl) v
whose_stays u llid key s (offer x other) o v = at_olt_keeps whose s _ _ x _ (λ l. refl) v
whose_stays u llid key s (retry x) o v = at_olt_keeps whose s _ _ x _ (λ l. refl) v
whose_stays u llid key s (send_down x channel p out) o v = at_olt_keeps whose s _ _ x _ (λ l. refl) v
whose_stays u llid key s (send_up y x channel p out) o v = set_stays whose s y _ (noted_keeps whose _ _ (lane_at s y) refl) v
whose_stays u llid key s (arrive_down y k out) o v = in_flight_whose s y k out (in_flight_at s y k) v
whose_stays u llid key s (arrive_up y k out) o v = set_stays whose s y _ refl v
whose_stays u llid key s (arrive_answer y k x) o v = at_olt_keeps whose s _ _ x _ (λ l. refl) v
whose_stays u llid key s (register y x trip interval) o v = absurd o
whose_stays u llid key s (overhear y other k out) o v = absurd o
whose_stays u llid key s (change_path y x time p) o v = absurd o
whose_stays u llid key s (measure x trip) o v = absurd o
whose_stays u llid key s (new_time y time) o v = absurd o
whose_stays u llid key s (stray_clock y m) o v = absurd o
whose_stays u llid key s (stray_key y m) o v = absurd o
whose_stays u llid key s (stray_answer x a) o v = absurd o
whose_stays u llid key s (stray_down y h p out) o v = absurd o
whose_stays u llid key s (stray_up h p out) o v = absurd o
