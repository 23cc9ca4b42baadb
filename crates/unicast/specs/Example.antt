-- A list of events that meets the premises (01, The line): clear, sealed and empty envelopes, losses, a retry, repeated and late
-- acknowledgements, overheard envelopes, two switches for each of two units and one for a third, whose interval and delay are the
-- longest; a change of the second unit's path in the middle of a key exchange; and refused calls of every kind, with every code of
-- 01's table that an end gives. It fills the OLT's table of units,
-- and its last tick is the last that an end counts to. Assumes nothing.
use Rattle.std.specs.Prelude.{List, [], ◌∷◌, ◌++◌, ℕ, ◌+◌, ◌-◌, ◌%◌, replicate}
use Rattle.clock.specs.Ticks.{clock_turn, local_turn, max_round_trip, max_tick, epam_of}
use Rattle.clock.specs.declared.Stamps.{Stamps}
use Rattle.octets.specs.Lists.{tabulate}
use Rattle.ends.specs.Limits.{max_interval}
use Rattle.protocol.specs.Messages.{of_clock, of_key}
use Rattle.protocol.specs.declared.Header.{Header}
use Rattle.ends.specs.declared.Identity.{Identity}
use Rattle.protocol.specs.declared.KeyMessage.{KeyMessage}
use Rattle.unicast.specs.Setting.{Delays, Site, Setting, clock_down, clock_up}
use Rattle.unicast.specs.Events.{Event, advance, register, capture, clock_send, offer, retry, send_down, send_up, arrive_down, arrive_up, arrive_answer, overhear, change_path, measure, new_time, stray_clock, stray_key, stray_answer, stray_down, stray_up}

---- the setting

-- a turn of LocalTime and 140 ticks below a turn of the clock: LocalTime wraps at tick 140, the clock at tick 2^32 + 140
abbrev pub first_clock : ℕ
first_clock = clock_turn - local_turn - 140

abbrev pub olt_mac : ℕ
olt_mac = 0x020000000001

-- three units with two LLIDs, one, and four
abbrev pub identity_a : Identity
identity_a = record { mac = 0x02000000000A; llids = 5 ∷ 6 ∷ 0 ∷ 0 ∷ []; count = 2 }

-- as it is registered: its LLIDs in another order, and others in the places that are not in use
abbrev pub registered_a : Identity
registered_a = record { mac = 0x02000000000A; llids = 6 ∷ 5 ∷ 9 ∷ 9 ∷ []; count = 2 }

abbrev pub identity_b : Identity
identity_b = record { mac = 0x02000000000B; llids = 9 ∷ 0 ∷ 0 ∷ 0 ∷ []; count = 1 }

abbrev pub identity_c : Identity
identity_c = record { mac = 0x02000000000C; llids = 7 ∷ 8 ∷ 0 ∷ 0xFFFF ∷ []; count = 4 }

abbrev pub site_a : Site
site_a = record { identity = identity_a; oltmac = olt_mac; time = (first_clock + 20) % local_turn; up = 20; down = 30 }

abbrev pub site_b : Site
site_b = record { identity = identity_b; oltmac = olt_mac; time = (first_clock + 7) % local_turn; up = 7; down = 11 }

-- the third unit's delays are the longest up, and none down
abbrev pub site_c : Site
site_c =
    record { identity = identity_c; oltmac = olt_mac; time = (first_clock + max_round_trip) % local_turn; up = max_round_trip; down = 0 }

-- the units at the places from 3 on, with one LLID each and no delays
abbrev pub identity_of : ℕ → Identity
identity_of place = record { mac = place; llids = (place + 16) ∷ 0 ∷ 0 ∷ 0 ∷ []; count = 1 }

abbrev pub site_of : ℕ → Site
site_of place = record { identity = identity_of place; oltmac = olt_mac; time = first_clock % local_turn; up = 0; down = 0 }

-- seventeen units
abbrev pub example : Setting
example = record { mac = olt_mac; first = first_clock; sites = site_a ∷ site_b ∷ site_c ∷ tabulate 3 14 site_of }

-- the place of no unit
abbrev pub nobody : ℕ
nobody = 17

---- what is sent

-- sixteen octets from x on
unfoldable pub key_from : ℕ → List ℕ
key_from x = tabulate x 16 (λ i. i)

-- an EQ: a control octet, then eight data octets from x on
unfoldable pub eq_from : ℕ → ℕ → List ℕ
eq_from control x = control ∷ tabulate x 8 (λ i. i)

-- three EQs with the control octets 00, 81 and 00 hex
unfoldable pub payload_from : ℕ → List ℕ
payload_from x = eq_from 0x00 x ++ (eq_from 0x81 (x + 8) ++ eq_from 0x00 (x + 16))

-- of its 24 data octets these are enciphered
abbrev pub enciphered_octets : ℕ
enciphered_octets = 22

-- an output as it is lent
unfoldable pub blank : List ℕ
blank = replicate 27 0

-- one that does not fit
unfoldable pub short : List ℕ
short = replicate 26 0

---- what comes from elsewhere

abbrev pub header_with : (channel llid encenabled enckey epam : ℕ) → Header
header_with channel llid encenabled enckey epam =
    record { channel = channel; llid = llid; encenabled = encenabled; enckey = enckey; epam = epam }

-- the EPAM of the OLT's clock at a tick
abbrev pub epam_at : ℕ → ℕ
epam_at tick = epam_of (clock_down first_clock tick)

abbrev pub key_message_with : (llid number : ℕ) (key : List ℕ) → KeyMessage
key_message_with llid number key = record { llid = llid; number = number; key = key }

abbrev pub stamps : (rx tx : ℕ) → Stamps
stamps rx tx = record { rx = rx; tx = tx }

---- the list

-- tick 0, no unit is registered: calls that name one are refused, 2; a unit that has no clock yet refuses a send for its buffer, 14,
-- and what takes a clock, 5; what is asked of nobody is refused, 1
unfoldable pub strangers : List Event
strangers =
    capture 5
    ∷ clock_send 5
    ∷ offer 5 (key_from 16)
    ∷ retry 5
    ∷ send_down 5 0x00 (payload_from 0) blank
    ∷ stray_answer 5 of_clock
    ∷ stray_up (header_with 0x80 5 0 0 (epam_at 0)) (payload_from 0) blank
    ∷ send_up 0 5 0x80 (payload_from 0) short
    ∷ stray_key 0 (key_message_with 5 1 (key_from 16))
    ∷ stray_down 0 (header_with 0x00 5 1 1 (epam_at 0)) (payload_from 0) blank
    ∷ register nobody identity_a (max_round_trip + 1) 100
    ∷ send_up nobody 0 0x80 (payload_from 0) blank
    ∷ stray_clock nobody (stamps 0 0)
    ∷ stray_key nobody (key_message_with 0 1 (key_from 16))
    ∷ stray_down nobody (header_with 0x00 0 0 0 0) (payload_from 0) blank
    ∷ []

-- the first unit is registered, and not again, nor its LLIDs, 3; nothing is outstanding, 8, and no key is offered before its clock is set, 5
unfoldable pub first_unit : List Event
first_unit =
    register 0 registered_a 50 100
    ∷ register 0 registered_a 50 100
    ∷ register 1 identity_a 18 1000
    ∷ clock_send 5
    ∷ stray_answer 5 of_clock
    ∷ offer 5 (key_from 16)
    ∷ retry 5
    ∷ []

-- its clock is set, a clear envelope goes each way, and key 1 is offered: the message is lost, the retry's arrives. LocalTime wraps
-- while an envelope is under way. Refused are what finds its channel taken, 12, and offers before key 1 is confirmed, 6
unfoldable pub first_key_a : List Event
first_key_a =
    capture 5
    ∷ clock_send 6
    ∷ send_down 5 0x00 (payload_from 0) blank
    ∷ send_down 6 0x00 (payload_from 1) blank
    ∷ advance 30
    ∷ arrive_down 0 0 []
    ∷ arrive_down 0 0 blank
    ∷ send_up 0 5 0x80 (payload_from 1) blank
    ∷ send_up 0 6 0x80 (payload_from 2) blank
    ∷ advance 20
    ∷ arrive_answer 0 0 5
    ∷ arrive_up 0 0 blank
    ∷ offer 5 (key_from 16)
    ∷ offer 5 (key_from 17)
    ∷ advance 1
    ∷ retry 6
    ∷ advance 30
    ∷ arrive_down 0 1 []
    ∷ advance 20
    -- tick 101: the acknowledgement, and again; the switch, whose envelope is lost; the next one, as soon as the channel is free
    ∷ arrive_answer 0 1 5
    ∷ arrive_answer 0 1 6
    ∷ send_down 5 0x00 (payload_from 2) blank
    ∷ offer 6 (key_from 17)
    ∷ advance 4
    ∷ send_down 6 0x00 (payload_from 3) blank
    ∷ advance 30
    ∷ arrive_down 0 1 blank
    -- tick 135: of two envelopes the first is lost
    ∷ send_up 0 5 0x80 (payload_from 4) blank
    ∷ send_up 0 6 0x81 (payload_from 5) blank
    ∷ advance 20
    ∷ arrive_up 0 1 blank
    ∷ []

-- tick 155, both ends hold key 1: refused are calls with an LLID that no unit has, 2, an offer of that key, 7, a retry, 8, sends of
-- either end, 14, 1 and 2, an acknowledgement of key 2, 8, a clock message, 1, and key messages, 2 and 8
unfoldable pub refused_calls : List Event
refused_calls =
    capture 4
    ∷ clock_send 4
    ∷ offer 4 (key_from 32)
    ∷ offer 5 (key_from 16)
    ∷ retry 4
    ∷ retry 6
    ∷ send_down 5 0x00 (payload_from 6) short
    ∷ send_down 5 0x80 (payload_from 6) blank
    ∷ send_down 4 0x00 (payload_from 6) blank
    ∷ send_up 0 5 0x80 (payload_from 6) short
    ∷ send_up 0 5 0x00 (payload_from 6) blank
    ∷ send_up 0 4 0x80 (payload_from 6) blank
    ∷ stray_answer 4 (of_key 1)
    ∷ stray_answer 5 (of_key 2)
    ∷ stray_clock 0 (stamps clock_turn 0)
    ∷ stray_key 0 (key_message_with 4 2 (key_from 32))
    ∷ stray_key 0 (key_message_with 5 3 (key_from 32))
    ∷ []

-- envelopes refused for one thing that is wrong, down and then up, 14, 1, 2, 10, 11 and 9: the EPAM that is right is that of the
-- OLT's clock 30 ticks ago, and now
unfoldable pub refused_envelopes : List Event
refused_envelopes =
    stray_down 0 (header_with 0x00 5 1 1 (epam_at 125)) (payload_from 6) short
    ∷ stray_down 0 (header_with 0x80 5 1 1 (epam_at 125)) (payload_from 6) blank
    ∷ stray_down 0 (header_with 0x00 4 1 1 (epam_at 125)) (payload_from 6) blank
    ∷ stray_down 0 (header_with 0x00 5 1 1 (epam_at 126)) (payload_from 6) blank
    ∷ stray_down 0 (header_with 0x00 5 0 0 (epam_at 125)) (payload_from 6) blank
    ∷ stray_down 0 (header_with 0x00 5 1 0 (epam_at 125)) (payload_from 6) blank
    ∷ stray_up (header_with 0x80 5 1 1 (epam_at 155)) (payload_from 6) short
    ∷ stray_up (header_with 0x80 5 0 1 (epam_at 155)) (payload_from 6) blank
    ∷ stray_up (header_with 0x80 4 1 1 (epam_at 155)) (payload_from 6) blank
    ∷ stray_up (header_with 0x80 5 1 1 (epam_at 154)) (payload_from 6) blank
    ∷ stray_up (header_with 0x80 5 0 0 (epam_at 155)) (payload_from 6) blank
    ∷ stray_up (header_with 0x80 5 1 0 (epam_at 155)) (payload_from 6) blank
    ∷ []

-- the second unit and the third are registered, and the first two have a key under way
unfoldable pub second_unit : List Event
second_unit =
    register 1 identity_b 18 1000
    ∷ register 2 identity_c max_round_trip max_interval
    ∷ capture 9
    ∷ clock_send 9
    ∷ offer 5 (key_from 32)
    ∷ advance 11
    ∷ arrive_down 1 0 []
    ∷ advance 7
    ∷ arrive_answer 1 0 9
    ∷ offer 9 (key_from 48)
    ∷ advance 11
    ∷ arrive_down 1 0 []
    ∷ advance 1
    ∷ arrive_down 0 0 []
    -- tick 185: the acknowledgement of key 1 comes late, 8
    ∷ arrive_answer 0 1 5
    ∷ advance 20
    ∷ arrive_answer 0 2 5
    ∷ arrive_answer 1 1 9
    ∷ []

-- ten ticks before the clock wraps, the captures are too old, 16: the first unit's second switch, the second's first
unfoldable pub second_key_a : List Event
second_key_a =
    advance (local_turn + 130 - 205)
    ∷ clock_send 5
    ∷ send_down 5 0x00 (payload_from 6) blank
    ∷ send_down 9 0x01 (payload_from 7) blank
    ∷ advance 11
    ∷ arrive_down 1 0 blank
    ∷ send_up 1 9 0x80 (payload_from 8) blank
    ∷ advance 7
    ∷ arrive_up 1 0 blank
    ∷ advance 12
    ∷ arrive_down 0 0 blank
    ∷ send_up 0 5 0x80 (payload_from 9) blank
    ∷ advance 20
    ∷ arrive_up 0 0 blank
    ∷ []

-- what is overheard: an envelope sent down, one sent up, one that was lost, with a buffer that does not fit, and one by a unit that
-- has no clock yet
unfoldable pub overheard : List Event
overheard = overhear 1 0 6 blank ∷ overhear 0 1 1 blank ∷ overhear 1 0 2 short ∷ overhear 2 1 0 blank ∷ []

-- the second unit's second switch
unfoldable pub second_key_b : List Event
second_key_b =
    offer 9 (key_from 64)
    ∷ advance 11
    ∷ arrive_down 1 0 []
    ∷ advance 7
    ∷ arrive_answer 1 2 9
    ∷ advance 1000
    ∷ send_down 9 0x00 (payload_from 10) blank
    ∷ advance 11
    ∷ arrive_down 1 0 blank
    ∷ send_up 1 9 0x81 (payload_from 11) blank
    ∷ advance 7
    ∷ arrive_up 1 0 blank
    ∷ []

-- the tick of the change
abbrev pub change_tick : ℕ
change_tick = local_turn + 1216

-- the second unit's path becomes shorter by 7 ticks up, more than an envelope takes, and 8 down
abbrev pub path_b : Delays
path_b = record { up = 0; down = 3 }

-- key 3 is offered and an envelope sent up, and both are lost with the path. Either call alone is refused, 2 and 1. Nothing is sent
-- sealed, 5, until the clock is set anew; the key message that is sent before finds the unit unsynced, 5; then the unit waits until
-- its clock has passed the end of the lost envelope, 12, and sends on both channels; and the switch to key 3
unfoldable pub changed_path_b : List Event
changed_path_b =
    offer 9 (key_from 96)
    ∷ send_up 1 9 0x80 (payload_from 18) blank
    ∷ change_path 1 9 (clock_up first_clock 0 change_tick % local_turn) path_b
    ∷ measure 4 3
    ∷ measure 9 (max_round_trip + 1)
    ∷ new_time 1 local_turn
    ∷ send_up 1 9 0x80 (payload_from 19) blank
    ∷ send_down 9 0x00 (payload_from 19) blank
    ∷ retry 9
    ∷ capture 9
    ∷ clock_send 9
    ∷ advance 3
    ∷ arrive_down 1 0 []
    ∷ arrive_down 1 0 []
    ∷ arrive_answer 1 2 9
    ∷ retry 9
    ∷ send_up 1 9 0x80 (payload_from 19) blank
    ∷ advance 3
    ∷ arrive_down 1 0 []
    ∷ arrive_answer 1 3 9
    ∷ advance 5
    ∷ send_up 1 9 0x80 (payload_from 19) blank
    ∷ send_up 1 9 0x81 (payload_from 20) blank
    ∷ arrive_up 1 0 blank
    ∷ arrive_up 1 0 blank
    ∷ advance 1000
    ∷ send_down 9 0x00 (payload_from 21) blank
    ∷ advance 3
    ∷ arrive_down 1 0 blank
    ∷ send_up 1 9 0x80 (payload_from 22) blank
    ∷ arrive_up 1 0 blank
    ∷ []

-- tick 2^32 + 2230: the third unit's clock is set, and key 1 offered
unfoldable pub first_key_c : List Event
first_key_c =
    capture 7
    ∷ clock_send 8
    ∷ arrive_down 2 0 []
    ∷ advance max_round_trip
    ∷ arrive_answer 2 0 0
    ∷ offer 0xFFFF (key_from 80)
    ∷ arrive_down 2 0 []
    ∷ advance max_round_trip
    ∷ arrive_answer 2 1 7
    -- the interval's last tick: still in clear
    ∷ advance (155 + max_interval - 1 - (local_turn + 2230 + max_round_trip + max_round_trip))
    ∷ send_down 7 0x00 (payload_from 12) blank
    ∷ arrive_down 2 0 blank
    -- it is over: the switch
    ∷ advance 1
    ∷ send_down 8 0x01 (payload_from 13) blank
    ∷ arrive_down 2 0 blank
    ∷ send_up 2 0 0x80 (payload_from 14) blank
    ∷ advance max_round_trip
    ∷ arrive_up 2 0 blank
    ∷ []

-- on the last tick of the first unit's key 2, an empty envelope down and one up, and on the next none, 13. In between one goes to
-- the third unit, when the clock is what it was at the first unit's second switch
unfoldable pub last_sends : List Event
last_sends =
    advance (local_turn + 130 + clock_turn - 1 - (155 + max_interval + max_round_trip))
    ∷ send_down 5 0x00 [] []
    ∷ advance 1
    ∷ send_down 6 0x00 (payload_from 15) blank
    ∷ send_down 7 0x00 (payload_from 15) blank
    ∷ arrive_down 2 0 blank
    ∷ advance 29
    ∷ arrive_down 0 0 []
    ∷ send_up 0 6 0x80 (payload_from 16) blank
    ∷ advance 1
    ∷ send_up 0 5 0x81 (payload_from 17) blank
    ∷ advance 19
    ∷ arrive_up 0 0 blank
    ∷ []

-- more units, with the shortest round trip and interval: the last, the seventeenth of the table, is refused, 4
unfoldable pub full_table : List Event
full_table = tabulate 3 14 (λ place. register place (identity_of place) 0 1)

-- to the last tick, and no further, 17
unfoldable pub last_tick : List Event
last_tick = advance (max_tick - (clock_turn + local_turn + 179)) ∷ advance 1 ∷ []

-- until both ends hold the first unit's key 1
abbrev pub to_first_key : List Event
to_first_key = strangers ++ (first_unit ++ first_key_a)

-- until they hold its key 2, and the second unit's key 1
abbrev pub to_second_key : List Event
to_second_key = to_first_key ++ (refused_calls ++ (refused_envelopes ++ (second_unit ++ second_key_a)))

abbrev pub events : List Event
events = to_second_key ++ (overheard ++ (second_key_b ++ (changed_path_b ++ (first_key_c ++ (last_sends ++ (full_table ++ last_tick))))))
