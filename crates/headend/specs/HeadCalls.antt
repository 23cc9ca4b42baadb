-- The calls of a head end but send and receive (02, C-14). Assumes nothing.
use Rattle.std.specs.Prelude.{Bool, not, List, ◌++◌, map, ℕ, leb, eqb, take, drop, Option, Some, None, ⊤}
use Rattle.octets.specs.Choice.{both, either, pick}
use Rattle.refusal.specs.Number.{number_of, verdict_number}
use Rattle.refusal.specs.Order.{refuse_if}
use Rattle.refusal.specs.declared.Refusal.TheVariants.{OutOfRange, RepeatedLlid, TableFull, BadMember}
use Rattle.clock.specs.declared.Stamps.{Stamps}
use Rattle.ends.specs.Limits.{max_units}
use Rattle.ends.specs.Timers.{valid_interval}
use Rattle.ends.specs.Identities.{distinct, meets, llids_of}
use Rattle.ends.specs.Records.{fresh_unit}
use Rattle.ends.specs.Table.{registered, table_llids, is_registered, find, with_one_more}
use Rattle.ends.specs.declared.Identity.{Identity}
use Rattle.ends.specs.declared.Olt.{Olt}
use Rattle.protocol.specs.Messages.{no_stamps, no_key_message, no_acknowledgement}
use Rattle.protocol.specs.Replies.{Reply, reply, on_valid, Silence, silent, advance_verdict}
use Rattle.protocol.specs.OltCalls.{fresh_olt_of, valid_registration, olt_advanced, capture_of, measure_of, clock_send_of, offer_of, retry_of, acknowledge_of}
use Rattle.protocol.specs.declared.Acknowledgement.{Acknowledgement}
use Rattle.protocol.specs.declared.KeyMessage.{KeyMessage}
use Rattle.protocol.specs.declared.OltAnswer.{OltAnswer}
use Rattle.protocol.specs.declared.ClockSent.{ClockSent}
use Rattle.protocol.specs.declared.KeySent.{KeySent}
use Rattle.group_protocol.specs.Members.{roster_llids, fresh_members, valid_members}
use Rattle.group_protocol.specs.Head.{fresh_group, registered_groups, group_llids, is_group, find_group, places_taken, with_olt, with_one_group_more, no_groups, valid_groups, valid_head}
use Rattle.group_protocol.specs.GroupCalls.{group_advanced, members_set, offer_group, retry_group, member_named, acknowledge_group}
use Rattle.group_protocol.specs.declared.Groups.{Groups}
use Rattle.group_protocol.specs.declared.Members.{Members}
use Rattle.group_protocol.specs.declared.HeadEnd.{HeadEnd}
use Rattle.group_protocol.specs.declared.Roster.{Roster}
use Rattle.group_protocol.specs.declared.Answer.{Answer}
use Rattle.group_protocol.specs.Naming.{by_llid, group_lift}
use Rattle.olt.specs.declared.OltMoved.{OltMoved}
use Rattle.headend.specs.declared.HeadAnswer.{HeadAnswer}
use Rattle.headend.specs.declared.HeadClockSent.{HeadClockSent}
use Rattle.headend.specs.declared.HeadDone.{HeadDone}
use Rattle.headend.specs.declared.HeadKeySent.{HeadKeySent}
use Rattle.headend.specs.declared.HeadMoved.{HeadMoved}
use Rattle.headend.specs.declared.Parts.{Parts}
use Rattle.refusal.specs.Verdict.{Verdict, no_refusal}

unfoldable pub head_answer : Reply HeadEnd Silence → HeadAnswer
head_answer r = record { number = verdict_number r.verdict; head = r.end }

unfoldable pub head_key_sent : Reply HeadEnd KeyMessage → HeadKeySent
head_key_sent r = record { number = verdict_number r.verdict; head = r.end; message = r.handed }

---- a call on the OLT: what it answers stands in the head end; where the groups are not valid it is 1

unfoldable pub olt_answered : HeadEnd → OltAnswer → HeadAnswer
olt_answered h r =
    pick (valid_groups h) (record { number = r.number; head = with_olt h r.olt }) (record { number = number_of OutOfRange; head = h })

unfoldable pub olt_clock_sent : HeadEnd → ClockSent → HeadClockSent
olt_clock_sent h r =
    pick (valid_groups h) (record { number = r.number; head = with_olt h r.olt; message = r.message })
    (record { number = number_of OutOfRange; head = h; message = no_stamps })

unfoldable pub olt_key_sent : HeadEnd → KeySent → HeadKeySent
olt_key_sent h r =
    pick (valid_groups h) (record { number = r.number; head = with_olt h r.olt; message = r.message })
    (record { number = number_of OutOfRange; head = h; message = no_key_message })

---- a fresh head end: as the OLT, without groups

unfoldable pub fresh_head_of : ℕ → ℕ → HeadAnswer
fresh_head_of mac clock =
    record { number = (fresh_olt_of mac clock).number; head = record { olt = (fresh_olt_of mac clock).olt; groups = no_groups } }

---- register a unit: 1, 3, 4, where 3 and 4 know the groups

unfoldable pub unit_verdict : HeadEnd → Identity → ℕ → ℕ → Verdict
unit_verdict h i trip interval =
    refuse_if (not (valid_registration i trip interval)) OutOfRange
    (refuse_if
    (either (either (not (distinct (llids_of i))) (meets (llids_of i) (table_llids (registered h.olt))))
    (meets (group_llids (registered_groups h)) (llids_of i)))
    RepeatedLlid
    (refuse_if (leb max_units (places_taken h)) TableFull no_refusal))

unfoldable pub head_register_of : HeadEnd → Identity → ℕ → ℕ → HeadAnswer
head_register_of h i trip interval =
    head_answer
    (reply (on_valid (valid_head h) (unit_verdict h i trip interval)) h silent
    (with_olt h (with_one_more h.olt (fresh_unit i trip interval))) silent)

---- register a group: 1, 21, 3, 4

-- the place of a unit that was found; where none was, one past the table
unfoldable pub place_found : Option ℕ → ℕ
place_found (Some i) = i
place_found None = max_units

-- the members that are named, each by the place of its unit, under whichever of its LLIDs
unfoldable pub roster_members : Olt → Roster → Members
roster_members o r = fresh_members (map (λ llid. place_found (find o llid)) (roster_llids r)) r.count

-- at least one member, and the interval
unfoldable pub valid_group_registration : ℕ → Members → Bool
valid_group_registration interval m = both (leb 1 m.count) (valid_interval interval)

-- 21 is for a ninth member, one that is not registered, and one that is named twice (D41)
unfoldable pub group_verdict : HeadEnd → ℕ → ℕ → Members → Verdict
group_verdict h llid interval m =
    refuse_if (not (valid_group_registration interval m)) OutOfRange
    (refuse_if (not (valid_members h.olt.count m)) BadMember
    (refuse_if (either (is_registered h.olt llid) (is_group h llid)) RepeatedLlid
    (refuse_if (leb max_units (places_taken h)) TableFull no_refusal)))

unfoldable pub register_group_of : HeadEnd → ℕ → ℕ → Roster → HeadAnswer
register_group_of h llid interval r =
    head_answer
    (reply (on_valid (valid_head h) (group_verdict h llid interval (roster_members h.olt r))) h silent
    (with_one_group_more h (fresh_group llid interval (roster_members h.olt r))) silent)

---- advance: 17

unfoldable pub groups_advanced : Groups → ℕ → Groups
groups_advanced g n = record { count = g.count; table = map (group_advanced n) (take g.count g.table) ++ drop g.count g.table }

-- the groups' timers move with the OLT
unfoldable pub head_advanced : HeadEnd → ℕ → HeadEnd
head_advanced h n = record { olt = olt_advanced h.olt n; groups = groups_advanced h.groups n }

unfoldable pub head_advance_of : HeadEnd → ℕ → HeadAnswer
head_advance_of h n = head_answer (reply (on_valid (valid_head h) (advance_verdict h.olt.shared.tick n)) h silent (head_advanced h n) silent)

-- the same, the end first
abbrev pub head_moved_of : HeadEnd → ℕ → HeadMoved
head_moved_of h n = record { head = (head_advance_of h n).head; number = (head_advance_of h n).number }

-- the OLT's part of it
abbrev pub olt_moved_of : HeadEnd → ℕ → OltMoved
olt_moved_of h n = record { olt = (head_advance_of h n).head.olt; number = (head_advance_of h n).number }

---- capture, the round trip measured again, and clock send: a group's LLID is 2, for it is no unit's

unfoldable pub head_capture_of : HeadEnd → ℕ → HeadAnswer
head_capture_of h llid = olt_answered h (capture_of h.olt llid)

unfoldable pub head_measure_of : HeadEnd → ℕ → ℕ → HeadAnswer
head_measure_of h llid trip = olt_answered h (measure_of h.olt llid trip)

unfoldable pub head_clock_send_of : HeadEnd → ℕ → HeadClockSent
head_clock_send_of h llid = olt_clock_sent h (clock_send_of h.olt llid)

---- offer: 2, 5, 6, 7, 17

abbrev pub group_offer_of : HeadEnd → ℕ → List ℕ → ℕ → HeadKeySent
group_offer_of h llid key i =
    head_key_sent (group_lift h no_key_message no_refusal (λ o g. offer_group llid key (members_set o g.members) o.shared g) i)

unfoldable pub head_offer_of : HeadEnd → ℕ → List ℕ → HeadKeySent
head_offer_of h llid key = by_llid (find_group h llid) (olt_key_sent h (offer_of h.olt llid key)) (group_offer_of h llid key)

---- retry: 2, 8

abbrev pub group_retry_of : HeadEnd → ℕ → ℕ → HeadKeySent
group_retry_of h llid i = head_key_sent (group_lift h no_key_message no_refusal (λ o g. retry_group llid o.shared g) i)

unfoldable pub head_retry_of : HeadEnd → ℕ → HeadKeySent
head_retry_of h llid = by_llid (find_group h llid) (olt_key_sent h (retry_of h.olt llid)) (group_retry_of h llid)

---- acknowledgement: 2, 8

-- a unit's own acknowledgement names no unit; one that does fits nothing
unfoldable pub own_acknowledgement : Answer → Acknowledgement
own_acknowledgement a = pick (eqb a.named 0) (record { kind = a.kind; number = a.number }) no_acknowledgement

abbrev pub group_acknowledge_of : HeadEnd → Answer → ℕ → HeadAnswer
group_acknowledge_of h a i =
    head_answer (group_lift h silent no_refusal (λ o g. acknowledge_group a (member_named o g.members a) o.shared g) i)

unfoldable pub head_acknowledge_of : HeadEnd → ℕ → Answer → HeadAnswer
head_acknowledge_of h llid a =
    by_llid (find_group h llid) (olt_answered h (acknowledge_of h.olt llid (own_acknowledgement a))) (group_acknowledge_of h a)

---- the answers as they are handed to the exported calls: the end in its two parts, the OLT's MAC and the number of groups behind them

abbrev pub parts_of : HeadEnd → Parts
parts_of h = record { olt = h.olt; mac = h.olt.shared.mac; groups = h.groups; count = h.groups.count }

abbrev pub head_done : HeadAnswer → HeadDone ⊤
head_done r = record { parts = parts_of r.head; handed = tt; number = r.number }

abbrev pub head_clock_done : HeadClockSent → HeadDone Stamps
head_clock_done r = record { parts = parts_of r.head; handed = r.message; number = r.number }

abbrev pub head_key_done : HeadKeySent → HeadDone KeyMessage
head_key_done r = record { parts = parts_of r.head; handed = r.message; number = r.number }
