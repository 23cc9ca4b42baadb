-- What is truly stuck, and for good, so that the exception of Progress is needed, and what only looks so: lists of one unit with no delays, of
-- which the envelope that switched, or its answer, is lost and a key's life passes. Assumes nothing.
use Rattle.std.specs.Prelude.{◌≡◌, Bool, true, false, List, [], ◌∷◌, ◌++◌, ℕ, ◌+◌, ◌*◌, length, take}
use Rattle.clock.specs.Ticks.{key_life}
use Rattle.protocol.specs.OltCalls.{offer_of, retry_of}
use Rattle.traffic.specs.Sends.{olt_send_of, onu_send_of}
use Rattle.unicast.specs.Setting.{Setting}
use Rattle.unicast.specs.Events.{Event, advance, register, capture, clock_send, offer, send_down, send_up, arrive_down, arrive_up, arrive_answer}
use Rattle.unicast.specs.Run.{State, start, run, lane_at, onu_at}
use Rattle.unicast.specs.Premises.{Meets}
use Rattle.unicast.specs.Example.{example, olt_mac, first_clock, identity_of, site_of, key_from, events}
use Rattle.unicast.specs.Course.{after}
use Rattle.progress.specs.Progress.{limit_of, awaited_count, recipe, max_events, Brings}
use Rattle.progress.specs.Frozen.{Refuses, ForGood}

-- one unit, which has no delays
abbrev pub one_unit : Setting
one_unit = record { mac = olt_mac; first = first_clock; sites = site_of 3 ∷ [] }

abbrev pub its : ℕ
its = 19

-- key 1 is offered and acknowledged, and an envelope switches to it
unfoldable pub to_switch : List Event
to_switch =
    register 0 (identity_of 3) 0 1
    ∷ capture its
    ∷ clock_send its
    ∷ arrive_down 0 0 []
    ∷ arrive_answer 0 0 its
    ∷ offer its (key_from 16)
    ∷ arrive_down 0 0 []
    ∷ arrive_answer 0 1 its
    ∷ advance 1
    ∷ send_down its 0x00 [] []
    ∷ []

-- it is lost
unfoldable pub lost_switch : List Event
lost_switch = to_switch ++ (advance key_life ∷ [])

-- it arrives, and the unit's answer is lost
unfoldable pub lost_answer : List Event
lost_answer = to_switch ++ (arrive_down 0 0 [] ∷ send_up 0 its 0x80 [] [] ∷ advance key_life ∷ [])

-- it arrives, and the unit has not answered
unfoldable pub unanswered : List Event
unanswered = to_switch ++ (arrive_down 0 0 [] ∷ advance key_life ∷ [])

-- the unit answers then, and its answer arrives
unfoldable pub late_answer : List Event
late_answer = unanswered ++ (send_up 0 its 0x80 [] [] ∷ arrive_up 0 0 [] ∷ [])

-- both arrive
unfoldable pub both_arrived : List Event
both_arrived = to_switch ++ (arrive_down 0 0 [] ∷ send_up 0 its 0x80 [] [] ∷ arrive_up 0 0 [] ∷ advance key_life ∷ [])

abbrev pub reached : List Event → State
reached es = run (start one_unit) es

-- what the calls of both ends return: a send to the unit, an offer, a retry, and a send of the unit
pub record Answer (es : List Event) (a b c d : ℕ) : Type 0 where
  pub meets : Meets one_unit (start one_unit) es
  pub down : (olt_send_of (reached es).olt its 0x00 [] []).answer.number ≡ a
  pub offers : (offer_of (reached es).olt its (key_from 32)).number ≡ b
  pub retries : (retry_of (reached es).olt its).number ≡ c
  pub up : (onu_send_of (onu_at (reached es) 0) its 0x80 [] []).answer.number ≡ d

-- from then on: whatever follows
abbrev pub FromThenOn : Bool → List Event → Type 0
FromThenOn answered es = (later : List Event) → Meets one_unit (reached es) later → Refuses answered (run (reached es) later) 0 its

-- the continuation of Progress brings the unit to key n
abbrev pub GoesOn : Setting → State → ℕ → ℕ → ℕ → Type 0
GoesOn w s u llid n =
    Brings w s u n (limit_of (lane_at s u)) (max_events + 2 * awaited_count (lane_at s u) s.history.now) (recipe u llid (key_from 32) s)

-- the example's list, cut short while the message of key 1 is under way
unfoldable pub cut_short : List Event
cut_short = take 35 events

pub record Cases : Type 0 where
  -- truly stuck: the OLT sends nothing more, and offers nothing; the unit's envelopes are clear, or it sends nothing more either
  pub switch_lost : Answer lost_switch 13 6 8 0
  pub in_events : length lost_switch ≡ 11
  pub answer_lost : Answer lost_answer 13 6 8 13
  pub and_two_more : length lost_answer ≡ 13
  -- and for good: whatever follows, since what is frozen stays so
  pub switch_for_good : FromThenOn false lost_switch
  pub answer_for_good : FromThenOn true lost_answer
  pub for_good : ForGood
  -- only looks so: the unit that has not sent under the key still does; where key 1 is confirmed the next is offered
  pub unsent : Answer unanswered 13 6 8 0
  pub sent : Answer late_answer 13 0 8 12
  pub sent_goes_on : GoesOn one_unit (reached late_answer) 0 its 2
  pub old : Answer both_arrived 13 0 8 13
  pub old_goes_on : GoesOn one_unit (reached both_arrived) 0 its 2
  -- in the middle of a key exchange: key 1 is offered, and its message under way
  pub offered : length (lane_at (after cut_short) 0).keys.offers ≡ 1
  pub under_way : awaited_count (lane_at (after cut_short) 0) (after cut_short).history.now ≡ 1
  pub cut : GoesOn example (after cut_short) 0 5 1
