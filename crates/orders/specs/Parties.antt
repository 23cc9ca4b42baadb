-- Whom a call means, and which calls may not change places (02, C-22). Assumes nothing.
use Rattle.std.specs.Prelude.{Bool, false, ℕ, eqb, Option, Some, None}
use Rattle.octets.specs.Choice.{either}
use Rattle.envelope.specs.ControlMask.{eqs_of}
use Rattle.ends.specs.Identities.{among}
use Rattle.ends.specs.Table.{find}
use Rattle.group_protocol.specs.Head.{find_group, group_at}
use Rattle.group_protocol.specs.Members.{places_of}
use Rattle.group_protocol.specs.declared.HeadEnd.{HeadEnd}
use Rattle.group_protocol.specs.Naming.{by_llid}
use Rattle.orders.specs.Calls.{Call, capture, measure, clock_send, offer, retry, acknowledge, send, receive}

-- the LLID that a call names
abbrev pub llid_of : Call → ℕ
llid_of (capture llid) = llid
llid_of (measure llid trip) = llid
llid_of (clock_send llid) = llid
llid_of (offer llid key) = llid
llid_of (retry llid) = llid
llid_of (acknowledge llid answer) = llid
llid_of (send llid channel payload output) = llid
llid_of (receive header payload output) = header.llid

-- a unit or a group, by its place; nobody has the LLID
pub data Party : Type 0 where
  unit : (place : ℕ) → Party
  group : (place : ℕ) → Party
  nobody : Party

unfoldable pub unit_party : Option ℕ → Party
unit_party (Some i) = unit i
unit_party None = nobody

-- by the LLID alone (D49)
unfoldable pub party_of : HeadEnd → Call → Party
party_of h c = by_llid (find_group h (llid_of c)) (unit_party (find h.olt (llid_of c))) group

-- groups count as units; nobody is not one
unfoldable pub same_party : Party → Party → Bool
same_party (unit i) (unit j) = eqb i j
same_party (unit i) (group j) = false
same_party (unit i) nobody = false
same_party (group i) (unit j) = false
same_party (group i) (group j) = eqb i j
same_party (group i) nobody = false
same_party nobody q = false

---- what is excepted; registrations are no calls here

-- a send takes its channel, for so many EQs
pub data Taking : Type 0 where
  nothing : Taking
  channel_for : (channel eqs : ℕ) → Taking

abbrev pub taking_of : Call → Taking
taking_of (capture llid) = nothing
taking_of (measure llid trip) = nothing
taking_of (clock_send llid) = nothing
taking_of (offer llid key) = nothing
taking_of (retry llid) = nothing
taking_of (acknowledge llid answer) = nothing
taking_of (send llid channel payload output) = channel_for channel (eqs_of payload)
taking_of (receive header payload output) = nothing

-- two sends on one channel, which name one channel index (D50)
unfoldable pub one_channel : Taking → Taking → Bool
one_channel nothing t = false
one_channel (channel_for channel eqs) nothing = false
one_channel (channel_for channel eqs) (channel_for other more) = eqb channel other

-- the first is a unit, and a member of the second
unfoldable pub member_of : HeadEnd → Party → Party → Bool
member_of h (unit i) (unit j) = false
member_of h (unit i) (group j) = among i (places_of (group_at h j).members)
member_of h (unit i) nobody = false
member_of h (group i) q = false
member_of h nobody q = false

-- two sends on one channel, and a call on a group beside one on a member of it
unfoldable pub excepted : HeadEnd → Call → Call → Bool
excepted h x y =
    either (one_channel (taking_of x) (taking_of y))
    (either (member_of h (party_of h x) (party_of h y)) (member_of h (party_of h y) (party_of h x)))
