-- A list without groups and joins, on a line that could have them, and one without path changes. Assumes nothing.
use Rattle.std.specs.Prelude.{◌≡◌, List, [], ◌∷◌, map, ℕ}
use Rattle.subscriber.specs.SubscriberCalls.{own_answer}
use Rattle.unicast.specs.Setting.{Setting}
use Rattle.unicast.specs.Events as units
use Rattle.unicast.specs.Run as run
use Rattle.unicast.specs.Run.{lane_at}
use Rattle.unicast.specs.Demand.{AsStarted}
use Rattle.line.specs.Events.{Event, advance, register, register_group, capture, clock_send, offer, retry, send_down, join, send_up, arrive_down, arrive_group, arrive_up, arrive_answer, arrive_group_answer, overhear, overhear_group, change_path, measure, new_time, stray_clock, stray_key, stray_answer, stray_down, stray_up}
use Rattle.line.specs.Run.{alone, start, runs}
use Rattle.line.specs.Premises.{Meets}

-- the same event; an acknowledgement names no unit
unfoldable pub plain : units.Event → Event
plain (units.advance n) = advance n
plain (units.register u i trip interval) = register u i trip interval
plain (units.capture llid) = capture llid
plain (units.clock_send llid) = clock_send llid
plain (units.offer llid key) = offer llid key
plain (units.retry llid) = retry llid
plain (units.send_down llid channel p out) = send_down llid channel p out
plain (units.send_up u llid channel p out) = send_up u llid channel p out
plain (units.arrive_down u k out) = arrive_down u k out
plain (units.arrive_up u k out) = arrive_up u k out
plain (units.arrive_answer u k llid) = arrive_answer u k llid
plain (units.overhear u other k out) = overhear u other k out
plain (units.change_path u llid time p) = change_path u llid time p
plain (units.measure llid trip) = measure llid trip
plain (units.new_time u time) = new_time u time
plain (units.stray_clock u m) = stray_clock u m
plain (units.stray_key u m) = stray_key u m
plain (units.stray_answer llid a) = stray_answer llid (own_answer a)
plain (units.stray_down u h p out) = stray_down u h p out
plain (units.stray_up h p out) = stray_up h p out

-- a list that meets the premises without groups meets them here, and runs as it did
pub record AsBefore (w : Setting) (es : List units.Event) : Type 0 where
  pub meets : Meets w (start w) (map plain es)
  pub same : alone (runs (start w) (map plain es)) ≡ run.run (run.start w) es

---- without path changes (02, C-16)

abbrev pub NoChange : Event → Type 0
NoChange (advance n) = Unit {0}
NoChange (register u i trip interval) = Unit {0}
NoChange (register_group llid interval r) = Unit {0}
NoChange (capture llid) = Unit {0}
NoChange (clock_send llid) = Unit {0}
NoChange (offer llid key) = Unit {0}
NoChange (retry llid) = Unit {0}
NoChange (send_down llid channel p out) = Unit {0}
NoChange (join u llid) = Unit {0}
NoChange (send_up u llid channel p out) = Unit {0}
NoChange (arrive_down u k out) = Unit {0}
NoChange (arrive_group u g k out) = Unit {0}
NoChange (arrive_up u k out) = Unit {0}
NoChange (arrive_answer u k llid) = Unit {0}
NoChange (arrive_group_answer g k) = Unit {0}
NoChange (overhear u other k out) = Unit {0}
NoChange (overhear_group u g k out) = Unit {0}
NoChange (change_path u llid time p) = ⊥
NoChange (measure llid trip) = Unit {0}
NoChange (new_time u time) = Unit {0}
NoChange (stray_clock u m) = Unit {0}
NoChange (stray_key u m) = Unit {0}
NoChange (stray_answer llid a) = Unit {0}
NoChange (stray_down u h p out) = Unit {0}
NoChange (stray_up h p out) = Unit {0}

abbrev pub NoChanges : List Event → Type 0
NoChanges [] = Unit {0}
NoChanges (e ∷ es) = NoChange e × NoChanges es

-- every unit keeps the delays that it started with, and its envelopes go by them
abbrev pub Unchanged : Type 0
Unchanged = (w : Setting) (es : List Event) → NoChanges es → (u : ℕ) → AsStarted (lane_at (alone (runs (start w) es)) u)
