-- The line never freezes: a continuation for any unit, from wherever it stands, after which both ends hold its next key and an envelope
-- under that key has arrived each way. It reads the history alone, so it is also what a host does. Assumes nothing.
use Rattle.std.specs.Prelude.{◌≡◌, true, List, [], ◌∷◌, ◌++◌, map, ◌⊎◌, ℕ, zero, suc, ◌+◌, ◌-◌, ◌*◌, ◌%◌, ◌<◌, ◌≤◌, max, eqb, leb, ltb, length, drop}
use Rattle.octets.specs.Choice.{pick}
use Rattle.clock.specs.Ticks.{max_tick, key_life, max_round_trip}
use Rattle.protocol.specs.Messages.{clock_kind}
use Rattle.ends.specs.Identities.{has}
use Rattle.ends.specs.Limits.{max_key_number}
use Rattle.ends.specs.Table.{unit_at}
use Rattle.unicast.specs.Setting.{Setting}
use Rattle.unicast.specs.History.{downward, upward, Envelope, InFlight, clock_message, key_message, envelope, left_at, Answered, Lane, is_synced}
use Rattle.unicast.specs.Events.{Event, advance, register, capture, clock_send, offer, retry, send_down, send_up, arrive_down, arrive_up, arrive_answer, overhear, change_path, measure, new_time, stray_clock, stray_key, stray_answer, stray_down, stray_up}
use Rattle.unicast.specs.Run.{State, start, step, run, lane_at, onu_at, in_flight_at, envelope_at}
use Rattle.unicast.specs.Premises.{Fresh, NewKey, Meets}
use Rattle.unicast.specs.Claim.{Holds, ArrivedNumbered}
use Rattle.unicast.specs.Bounds.{highest, longest}
use Rattle.unicast.specs.Demand.{NoChanges}

---- where a unit stands

abbrev pub confirmed_by : Lane → ℕ
confirmed_by l = highest upward l.past.arrived

-- its round trip
abbrev pub trip_of : Lane → ℕ
trip_of l = l.path.up + l.path.down

-- the most and the least of its delays up: that of its present path, and those of its envelopes so far
unfoldable pub most_up : ℕ → List Envelope → ℕ
most_up up [] = up
most_up up (e ∷ es) = max e.up (most_up up es)

unfoldable pub least_up : ℕ → List Envelope → ℕ
least_up up [] = up
least_up up (e ∷ es) = pick (leb e.up (least_up up es)) e.up (least_up up es)

-- what changes of its path add: nothing where it has had one path
unfoldable pub spread : Lane → ℕ
spread l = most_up l.path.up l.past.sent - least_up l.path.up l.past.sent

---- ticks

-- until every channel is free, and the unit's Tx clock has passed the end of every envelope of before a change of its path
abbrev pub wait_of : Lane → ℕ
wait_of l = longest + spread l

-- the clock's round is needed only by a unit that has not taken a clock message of its present path
abbrev pub clock_round_of : Lane → ℕ
clock_round_of l = pick (is_synced l) 0 (trip_of l)

-- the ticks that the continuation takes at most
abbrev pub limit_of : Lane → ℕ
limit_of l = wait_of l + l.entry.interval + 3 * trip_of l

---- what is still under way, and arrives

-- the ticks at which what is under way to and from the unit is due
abbrev pub due_down : Lane → List ℕ
due_down l = map (λ (x : InFlight). left_at x + l.path.down) l.transit.towards

abbrev pub due_up : Lane → List ℕ
due_up l = map (λ (e : Envelope). e.left + l.path.up) l.transit.from

-- how many of a queue have been lost: they were due before
unfoldable pub overdue : ℕ → List ℕ → ℕ
overdue now [] = 0
overdue now (t ∷ ts) = pick (ltb t now) (suc (overdue now ts)) 0

-- the ticks at which the others are due
abbrev pub awaited : ℕ → List ℕ → List ℕ
awaited now ts = drop (overdue now ts) ts

abbrev pub awaited_count : Lane → ℕ → ℕ
awaited_count l now = length (awaited now (due_down l)) + length (awaited now (due_up l))

-- a buffer that fits
abbrev pub buffer_for : InFlight → List ℕ
buffer_for (clock_message m c t) = []
buffer_for (key_message m t) = []
buffer_for (envelope e) = e.octets

unfoldable pub next_down : State → ℕ → ℕ → List Event
next_down s u tick =
    let k = overdue s.history.now (due_down (lane_at s u)) in
    advance (tick - s.history.now) ∷ arrive_down u k (buffer_for (in_flight_at s u k)) ∷ []

unfoldable pub next_up : State → ℕ → ℕ → List Event
next_up s u tick =
    let k = overdue s.history.now (due_up (lane_at s u)) in
    advance (tick - s.history.now) ∷ arrive_up u k (envelope_at s u k).octets ∷ []

-- what is due first arrives
unfoldable pub next_by : State → ℕ → List ℕ → List ℕ → List Event
next_by s u [] [] = []
next_by s u (t ∷ ts) [] = next_down s u t
next_by s u [] (v ∷ vs) = next_up s u v
next_by s u (t ∷ ts) (v ∷ vs) = pick (leb t v) (next_down s u t) (next_up s u v)

unfoldable pub next : State → ℕ → List Event
next s u = next_by s u (awaited s.history.now (due_down (lane_at s u))) (awaited s.history.now (due_up (lane_at s u)))

-- so many times
unfoldable pub drained : ℕ → State → ℕ → List Event
drained zero s u = []
drained (suc n) s u = next s u ++ drained n (run s (next s u)) u

---- the rounds, each from the state in which it starts

-- one after the other
unfoldable pub and_then : (State → List Event) → (State → List Event) → State → List Event
and_then f g s = f s ++ g (run s (f s))

-- until that tick
abbrev pub waited : ℕ → State → List Event
waited tick s = advance (tick - s.history.now) ∷ []

-- the place of the first clock acknowledgement
unfoldable pub clock_place : List Answered → ℕ
clock_place [] = 0
clock_place (x ∷ xs) = pick (eqb x.acknowledgement.kind clock_kind) 0 (suc (clock_place xs))

-- a message that leaves now arrives, and the unit's acknowledgement after it
unfoldable pub answered_round : ℕ → ℕ → Lane → List Event
answered_round u llid l =
    advance l.path.down
    ∷ arrive_down u (length l.transit.towards) []
    ∷ advance l.path.up
    ∷ arrive_answer u (length l.transit.answered) llid
    ∷ []

-- capture, clock send, arrival and acknowledgement; a synced unit's acknowledgement arrives again
unfoldable pub clock_round : ℕ → ℕ → State → List Event
clock_round u llid s =
    pick (is_synced (lane_at s u)) (arrive_answer u (clock_place (lane_at s u).transit.answered) llid ∷ [])
    (capture llid ∷ clock_send llid ∷ answered_round u llid (lane_at s u))

-- an offer, or a retry where there is one more than switches, arrival and acknowledgement
unfoldable pub key_round : ℕ → ℕ → List ℕ → State → List Event
key_round u llid key s =
    pick (ltb (lane_at s u).keys.switches (length (lane_at s u).keys.offers)) (retry llid) (offer llid key) ∷ answered_round u llid (lane_at s u)

-- the rest of the interval
unfoldable pub interval : ℕ → State → List Event
interval u s =
    let r = (lane_at s u).entry in
    advance (r.interval - (s.history.now - r.since) % r.interval) ∷ []

-- an empty envelope on channel 0, down and up
unfoldable pub down_round : ℕ → ℕ → State → List Event
down_round u llid s =
    send_down llid 0x00 [] [] ∷ advance (lane_at s u).path.down ∷ arrive_down u (length (lane_at s u).transit.towards) [] ∷ []

unfoldable pub up_round : ℕ → ℕ → State → List Event
up_round u llid s = send_up u llid 0x80 [] [] ∷ advance (lane_at s u).path.up ∷ arrive_up u (length (lane_at s u).transit.from) [] ∷ []

-- towards key c + 1: each is left out where it is done, the key's round and the interval after the switch to that key, the envelope down
-- once one under it has arrived
unfoldable pub keyed : ℕ → ℕ → List ℕ → ℕ → State → List Event
keyed u llid key c s = pick (ltb c (lane_at s u).keys.switches) [] (and_then (key_round u llid key) (interval u) s)

unfoldable pub moved : ℕ → ℕ → ℕ → State → List Event
moved u llid c s = pick (ltb c (lane_at s u).keys.number) [] (down_round u llid s)

unfoldable pub rounds : ℕ → ℕ → List ℕ → ℕ → ℕ → State → List Event
rounds u llid key c tick = and_then (waited tick) (and_then (clock_round u llid) (and_then (keyed u llid key c) (and_then (moved u llid c) (up_round u llid))))

-- once nothing is under way
unfoldable pub onwards : ℕ → ℕ → List ℕ → ℕ → ℕ → State → List Event
onwards u llid key c tick s = pick (ltb c (confirmed_by (lane_at s u))) [] (rounds u llid key c tick s)

-- the continuation
unfoldable pub recipe : ℕ → ℕ → List ℕ → State → List Event
recipe u llid key s =
    let l = lane_at s u in
    and_then (λ t. drained (awaited_count l s.history.now) t u) (onwards u llid key (confirmed_by l) (s.history.now + wait_of l)) s

---- the claim

-- the events that it takes at most, but for two for each thing under way
abbrev pub max_events : ℕ
max_events = 19

-- the unit can come to its next key: there was no switch to it, or the last one is recent enough for another envelope under it
pub record Moving (s : State) (u llid : ℕ) (key : List ℕ) : Type 0 where
  pub registered : (lane_at s u).entry.registered ≡ true
  pub named : has (lane_at s u).site.identity llid ≡ true
  pub below : confirmed_by (lane_at s u) < max_key_number
  pub recent : ((lane_at s u).keys.switches ≡ confirmed_by (lane_at s u))
      ⊎ (s.history.now + wait_of (lane_at s u) + spread (lane_at s u) + clock_round_of (lane_at s u) < (lane_at s u).keys.switched + key_life)
  pub in_range : s.history.now + limit_of (lane_at s u) ≤ max_tick
  pub new : NewKey s key

-- nothing that is under way on the unit's line is lost by an event: an advance passes no tick at which something is due, and what arrives
-- overtakes nothing
abbrev pub Keeps : State → ℕ → Event → Type 0
Keeps s u (advance n) = awaited_count (lane_at s u) (s.history.now + n) ≡ awaited_count (lane_at s u) s.history.now
Keeps s u (arrive_down v k out) = v ≡ u → k ≡ overdue s.history.now (due_down (lane_at s u))
Keeps s u (arrive_up v k out) = v ≡ u → k ≡ overdue s.history.now (due_up (lane_at s u))
Keeps s u (register v i trip n) = Unit {0}
Keeps s u (capture llid) = Unit {0}
Keeps s u (clock_send llid) = Unit {0}
Keeps s u (offer llid key) = Unit {0}
Keeps s u (retry llid) = Unit {0}
Keeps s u (send_down llid channel p out) = Unit {0}
Keeps s u (send_up v llid channel p out) = Unit {0}
Keeps s u (arrive_answer v k llid) = Unit {0}
Keeps s u (overhear v other k out) = Unit {0}
-- a change of the path loses what is under way
Keeps s u (change_path v llid time p) = v ≡ u → ⊥
Keeps s u (measure llid trip) = Unit {0}
Keeps s u (new_time v time) = Unit {0}
Keeps s u (stray_clock v m) = Unit {0}
Keeps s u (stray_key v m) = Unit {0}
Keeps s u (stray_answer llid a) = Unit {0}
Keeps s u (stray_down v h p out) = Unit {0}
Keeps s u (stray_up h p out) = Unit {0}

abbrev pub LosesNothing : State → ℕ → List Event → Type 0
LosesNothing s u [] = Unit {0}
LosesNothing s u (e ∷ es) = Keeps s u e × LosesNothing (step s e) u es

-- a list of events brings the unit to key n
pub record Brings (w : Setting) (s : State) (u n ticks events : ℕ) (es : List Event) : Type 0 where
  pub meets : Meets w s es
  pub holds : Holds (lane_at (run s es) u) n (unit_at (run s es).olt (lane_at (run s es) u).entry.place) (onu_at (run s es) u)
  pub down : ArrivedNumbered (lane_at (run s es) u) downward n
  pub up : ArrivedNumbered (lane_at (run s es) u) upward n
  pub soon : (run s es).history.now ≤ s.history.now + ticks
  pub short : length es ≤ events
  pub whole : LosesNothing s u es

-- what changes of a path add is no more than the longest delay
abbrev pub SpreadMost : Type 0
SpreadMost =
    (w : Setting) (es : List Event) (u : ℕ) → Fresh w → Meets w (start w) es → (lane_at (run (start w) es) u).entry.registered ≡ true
    → spread (lane_at (run (start w) es) u) ≤ max_round_trip

-- and nothing where a list has no path changes (02, C-16)
abbrev pub OneSpread : Type 0
OneSpread = (w : Setting) (es : List Event) → NoChanges es → (u : ℕ) → spread (lane_at (run (start w) es) u) ≡ 0

-- from fresh ends and a list that meets the premises, wherever it leads
abbrev pub Progress : Type 0
Progress =
    (w : Setting) (es : List Event) (u llid : ℕ) (key : List ℕ) → Fresh w → Meets w (start w) es → Moving (run (start w) es) u llid key
    → Brings w (run (start w) es) u (confirmed_by (lane_at (run (start w) es) u) + 1) (limit_of (lane_at (run (start w) es) u))
    (max_events + 2 * awaited_count (lane_at (run (start w) es) u) (run (start w) es).history.now) (recipe u llid key (run (start w) es))
