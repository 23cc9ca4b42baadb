-- A list of events with a group of two members that meets the premises (02, C-14): both have key 1; the message of key 2 never comes to the
-- second, for which the switch does not wait; key 3 brings it back; its path changes while key 4 is offered (02, C-16). Between goes traffic of
-- the first member's own line, and a unit that is no member overhears. Of every call on a group there is one that is accepted and one that is
-- refused. Assumes nothing.
use Rattle.std.specs.Prelude.{List, [], ◌∷◌, ◌++◌, ℕ, ◌+◌, ◌%◌, replicate}
use Rattle.clock.specs.Ticks.{local_turn}
use Rattle.protocol.specs.Messages.{of_clock, of_key, key_kind}
use Rattle.group_protocol.specs.declared.Answer.{Answer}
use Rattle.group_protocol.specs.declared.Roster.{Roster}
use Rattle.subscriber.specs.SubscriberCalls.{own_answer}
use Rattle.unicast.specs.Setting.{Delays, Setting}
use Rattle.unicast.specs.Example.{first_clock, olt_mac, registered_a, identity_b, identity_c, identity_of, site_a, site_b, site_of, key_from, payload_from, blank, header_with, epam_at, key_message_with}
use Rattle.line.specs.Events.{Event, advance, register, register_group, capture, clock_send, offer, retry, send_down, join, send_up, arrive_down, arrive_group, arrive_up, arrive_answer, arrive_group_answer, overhear_group, change_path, measure, new_time, stray_key, stray_answer, stray_down, stray_up}

---- the setting

-- two units with the LLIDs 5 and 6, and 9, delays down of 30 and 11, up of 20 and 7; and a third with the LLID 19 and no delays
abbrev pub example : Setting
example = record { mac = olt_mac; first = first_clock; sites = site_a ∷ site_b ∷ site_of 3 ∷ [] }

abbrev pub group_llid : ℕ
group_llid = 7

-- of the group, and of the units
abbrev pub interval : ℕ
interval = 100

-- the second unit's path changes
abbrev pub change_tick : ℕ
change_tick = 355

abbrev pub path_b : Delays
path_b = record { up = 1; down = 15 }

-- named by two LLIDs
abbrev pub roster_of : (one two : ℕ) → Roster
roster_of one two = record { llids = one ∷ two ∷ replicate 6 0; count = 2 }

-- the members, the first by its second LLID
abbrev pub viewers : Roster
viewers = roster_of 6 9

-- an acknowledgement of a group's key, in that unit's name
abbrev pub answer_of : (unit number : ℕ) → Answer
answer_of unit number = record { kind = key_kind; named = 1; unit = unit; number = number }

---- the list

-- tick 0: the group is registered once its members are. Refused are a member that is not registered and one named twice, 21, and an LLID that
-- a unit has, 3; then a unit with the group's LLID, 3
unfoldable pub registrations : List Event
registrations =
    register_group group_llid interval viewers
    ∷ register 0 registered_a 50 interval
    ∷ register 1 identity_b 18 interval
    ∷ register 2 (identity_of 3) 0 interval
    ∷ register_group group_llid interval (roster_of 6 5)
    ∷ register_group 9 interval viewers
    ∷ register_group group_llid interval viewers
    ∷ register 2 identity_c 0 interval
    ∷ []

-- both members join; an LLID that is joined, or an own one, is refused, 3. Clock calls on the group are 2, an offer is 5, a retry 8, and
-- a key message at a member whose clock is not set 5
unfoldable pub joins : List Event
joins =
    join 0 group_llid
    ∷ join 1 group_llid
    ∷ join 1 group_llid
    ∷ join 0 6
    ∷ capture group_llid
    ∷ clock_send group_llid
    ∷ offer group_llid (key_from 16)
    ∷ retry group_llid
    ∷ stray_key 1 (key_message_with group_llid 1 (key_from 16))
    ∷ []

-- a clear envelope to the group arrives before the members' clocks are set; with the clock of one alone acknowledged an offer is still 5
unfoldable pub clocks : List Event
clocks =
    send_down group_llid 0x00 (payload_from 0) blank
    ∷ capture 5
    ∷ clock_send 5
    ∷ capture 9
    ∷ clock_send 9
    ∷ advance 11
    ∷ arrive_group 1 0 0 blank
    ∷ arrive_down 1 0 []
    ∷ advance 7
    ∷ arrive_answer 1 0 9
    ∷ offer group_llid (key_from 16)
    ∷ advance 12
    ∷ arrive_group 0 0 0 blank
    ∷ arrive_down 0 0 []
    ∷ advance 20
    ∷ arrive_answer 0 0 5
    ∷ []

-- tick 50, key 1: the first member gets the retry's message, the second both. A further offer is refused, 6. The first unit's own key 1 goes
-- beside it
unfoldable pub first_key : List Event
first_key =
    offer group_llid (key_from 16)
    ∷ offer group_llid (key_from 32)
    ∷ offer 5 (key_from 48)
    ∷ advance 1
    ∷ retry group_llid
    ∷ advance 10
    ∷ arrive_group 1 0 0 []
    ∷ advance 1
    ∷ arrive_group 1 0 0 []
    ∷ advance 18
    ∷ arrive_down 0 0 []
    ∷ advance 1
    ∷ arrive_group 0 0 1 []
    ∷ advance 20
    -- tick 101: the acknowledgements. Refused are one in the name of a unit that is no member, one that names no unit, a unit's own that names one,
    -- 8, and one of a clock, 2
    ∷ arrive_group_answer 0 0
    ∷ arrive_group_answer 0 2
    ∷ stray_answer group_llid (answer_of 19 1)
    ∷ stray_answer group_llid (own_answer (of_key 1))
    ∷ stray_answer 5 (answer_of 5 1)
    ∷ stray_answer group_llid (own_answer of_clock)
    ∷ arrive_answer 0 1 5
    -- the group's switch, a send that finds its channel taken, 12, the first unit's own switch, and at once the offer of the group's key 2
    ∷ send_down group_llid 0x00 (payload_from 1) blank
    ∷ send_down group_llid 0x00 (payload_from 2) blank
    ∷ send_down 5 0x01 (payload_from 2) blank
    ∷ offer group_llid (key_from 32)
    ∷ advance 11
    ∷ arrive_group 1 0 0 blank
    ∷ []

-- tick 112: the third unit overhears, 2
unfoldable pub overheard : List Event
overheard = overhear_group 2 0 1 blank ∷ []

-- key 2: its message comes to the first member alone. A further receipt of the last envelope at the second is refused, 10; so are sends up on
-- the group's LLID, at either end, 20
unfoldable pub missed_key : List Event
missed_key =
    advance 19
    ∷ stray_down 1 (header_with 0x00 group_llid 1 1 (epam_at 101)) (payload_from 1) blank
    ∷ arrive_group 0 0 0 blank
    ∷ arrive_group 0 0 0 []
    ∷ arrive_down 0 0 blank
    ∷ send_up 0 group_llid 0x80 (payload_from 3) blank
    ∷ send_up 0 5 0x80 (payload_from 3) blank
    ∷ advance 20
    ∷ arrive_group_answer 0 3
    ∷ stray_up (header_with 0x80 group_llid 0 0 (epam_at 151)) (payload_from 4) blank
    ∷ arrive_up 0 0 blank
    ∷ advance 49
    -- tick 200: the switch, and the offer of key 3
    ∷ send_down group_llid 0x00 (payload_from 4) blank
    ∷ offer group_llid (key_from 64)
    ∷ []

-- key 3 comes to both. At the second member the message of key 2 is lost, and the envelope under it is refused, 9
unfoldable pub next_key : List Event
next_key =
    advance 11
    ∷ arrive_group 1 0 1 blank
    ∷ arrive_group 1 0 0 []
    ∷ advance 19
    ∷ arrive_group 0 0 0 blank
    ∷ arrive_group 0 0 0 []
    ∷ advance 20
    ∷ arrive_group_answer 0 4
    ∷ arrive_group_answer 0 5
    -- tick 250: an envelope under key 2 that is lost on both ways
    ∷ send_down group_llid 0x00 (payload_from 8) blank
    ∷ advance 50
    -- tick 300: the switch to key 3, and the first unit's own line goes on under its key 1
    ∷ send_down group_llid 0x00 (payload_from 5) blank
    ∷ send_down 5 0x01 (payload_from 6) blank
    ∷ advance 11
    ∷ []

-- tick 311: the second member is back
unfoldable pub back_again : List Event
back_again =
    arrive_group 1 0 1 blank
    ∷ advance 19
    ∷ arrive_group 0 0 1 blank
    ∷ arrive_down 0 0 blank
    ∷ send_up 0 6 0x80 (payload_from 7) blank
    ∷ advance 20
    ∷ arrive_up 0 0 blank
    ∷ []

-- tick 350: the third unit joins, and overhears the clear envelope and a sealed one: the first it takes, the second is refused, 5
unfoldable pub joined_stranger : List Event
joined_stranger = join 2 group_llid ∷ overhear_group 2 0 0 blank ∷ overhear_group 2 0 4 blank ∷ []

-- tick 350: the message of key 4 is on its way when the second member's path changes (02, C-16), to one that is shorter up by more ticks than
-- an envelope takes. The OLT's call on the group is refused, 2, and a LocalTime of 33 bits, 1. Sends to the group and retries go on; the
-- member's acknowledgement of key 3 comes again, 8
unfoldable pub path_change : List Event
path_change =
    offer group_llid (key_from 80)
    ∷ advance 5
    ∷ measure group_llid 16
    ∷ new_time 1 local_turn
    ∷ change_path 1 9 ((first_clock + change_tick + path_b.up) % local_turn) path_b
    ∷ send_down group_llid 0x00 (payload_from 9) blank
    ∷ retry group_llid
    ∷ capture 9
    ∷ clock_send 9
    ∷ advance 1
    ∷ arrive_group_answer 0 4
    ∷ advance 14
    ∷ []

-- tick 370: the member is not synced, and refuses the envelope and the message of key 4, 5, until it has taken a clock message
unfoldable pub synced_again : List Event
synced_again =
    arrive_group 1 0 0 blank
    ∷ arrive_group 1 0 0 []
    ∷ arrive_down 1 0 []
    ∷ retry group_llid
    ∷ send_down group_llid 0x01 (payload_from 10) blank
    ∷ advance 10
    ∷ arrive_group 0 0 0 []
    ∷ advance 5
    ∷ arrive_group 0 0 0 blank
    ∷ arrive_group 1 0 0 []
    ∷ arrive_group 1 0 0 blank
    ∷ arrive_answer 1 0 9
    ∷ advance 15
    ∷ arrive_group_answer 0 6
    ∷ arrive_group_answer 0 7
    -- tick 400: the switch to key 4
    ∷ send_down group_llid 0x00 (payload_from 11) blank
    ∷ advance 15
    ∷ []

-- tick 415: both members open under key 4
unfoldable pub over_the_new_path : List Event
over_the_new_path = arrive_group 1 0 0 blank ∷ advance 15 ∷ arrive_group 0 0 3 blank ∷ []

-- until the second member has opened an envelope under key 1
abbrev pub to_first_key : List Event
to_first_key = registrations ++ (joins ++ (clocks ++ first_key))

-- until the second member has missed key 2, and key 3 is offered
abbrev pub to_missed : List Event
to_missed = to_first_key ++ (overheard ++ missed_key)

-- until an envelope under key 3 is due at the member that missed key 2
abbrev pub to_return : List Event
to_return = to_missed ++ next_key

-- until a sealed envelope is due at the member whose path has changed
abbrev pub to_unsynced : List Event
to_unsynced = to_return ++ (back_again ++ (joined_stranger ++ path_change))

-- until an envelope under key 4 is due there
abbrev pub to_synced : List Event
to_synced = to_unsynced ++ synced_again

abbrev pub events : List Event
events = to_synced ++ over_the_new_path
