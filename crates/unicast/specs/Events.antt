-- The events of a list: calls on the ends, and arrivals. A unit is known by its place among the sites, what is under way by its
-- place in its queue. Arguments are any values. Assumes nothing.
use Rattle.std.specs.Prelude.{List, ℕ}
use Rattle.clock.specs.declared.Stamps.{Stamps}
use Rattle.protocol.specs.declared.Acknowledgement.{Acknowledgement}
use Rattle.protocol.specs.declared.Header.{Header}
use Rattle.ends.specs.declared.Identity.{Identity}
use Rattle.protocol.specs.declared.KeyMessage.{KeyMessage}
use Rattle.unicast.specs.Setting.{Delays}

pub data Event : Type 0 where
  -- by n ticks, at all ends
  advance : (n : ℕ) → Event
  -- calls of the OLT; a registration also says which unit is meant
  register : (unit : ℕ) → Identity → (trip interval : ℕ) → Event
  capture : (llid : ℕ) → Event
  clock_send : (llid : ℕ) → Event
  offer : (llid : ℕ) (key : List ℕ) → Event
  retry : (llid : ℕ) → Event
  send_down : (llid channel : ℕ) (payload out : List ℕ) → Event
  -- a send of a unit
  send_up : (unit llid channel : ℕ) (payload out : List ℕ) → Event
  -- the kth of what is under way to the unit arrives, an envelope with that output
  arrive_down : (unit k : ℕ) (out : List ℕ) → Event
  -- the kth of the unit's envelopes under way arrives at the OLT
  arrive_up : (unit k : ℕ) (out : List ℕ) → Event
  -- the kth acknowledgement of the unit arrives at the OLT, which names the unit by that LLID
  arrive_answer : (unit k llid : ℕ) → Event
  -- a unit overhears the kth envelope that was sent to or by another
  overhear : (unit other k : ℕ) (out : List ℕ) → Event
  -- the unit's path changes: the OLT measures its round trip anew, naming it by that LLID, and the unit is given its new LocalTime
  change_path : (unit llid time : ℕ) → Delays → Event
  -- either call alone
  measure : (llid trip : ℕ) → Event
  new_time : (unit time : ℕ) → Event
  -- any other receipt
  stray_clock : (unit : ℕ) → Stamps → Event
  stray_key : (unit : ℕ) → KeyMessage → Event
  stray_answer : (llid : ℕ) → Acknowledgement → Event
  stray_down : (unit : ℕ) → Header → (octets out : List ℕ) → Event
  stray_up : Header → (octets out : List ℕ) → Event
