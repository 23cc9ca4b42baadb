-- The calls of the OLT but send and receive (01, Clock; Keys; 'When the reader says no'). Each gives code, end and what is handed
-- over together, and its `..Order` is the paper's list of its refusals as one chain, with 1 for the lent end ahead. Assumes nothing.
use Rattle.std.specs.Prelude.{Bool, not, List, ◌++◌, map, ℕ, ◌+◌, leb, ltb, drop}
use Rattle.octets.specs.Choice.{both, either}
use Rattle.refusal.specs.Number.{verdict_number}
use Rattle.refusal.specs.declared.Refusal.TheVariants.{OutOfRange, UnknownLlid, RepeatedLlid, TableFull}
use Rattle.clock.specs.Ticks.{clock_turn, max_round_trip, advanced}
use Rattle.clock.specs.declared.Stamps.{Stamps}
use Rattle.ends.specs.Limits.{max_units}
use Rattle.refusal.specs.Order.{refuse_if}
use Rattle.protocol.specs.Replies.{on_valid, Silence, silent, Reply, reply, advance_verdict}
use Rattle.ends.specs.Timers.{valid_interval}
use Rattle.protocol.specs.Messages.{no_stamps, no_key_message}
use Rattle.ends.specs.Identities.{distinct, meets, llids_of, valid_mac, valid_identity}
use Rattle.ends.specs.Records.{fresh_unit, new_olt}
use Rattle.ends.specs.Table.{registered, table_llids, is_registered, unit_named, with_one_more}
use Rattle.ends.specs.Validity.{valid_olt}
use Rattle.protocol.specs.Lift.{lift}
use Rattle.protocol.specs.UnitCalls.{unit_advanced, capture_unit, measure_unit, clock_send_verdict, clock_send_unit, offer_verdict, offer_unit, retry_verdict, retry_unit, acknowledge_verdict, acknowledge_unit}
use Rattle.ends.specs.declared.Identity.{Identity}
use Rattle.ends.specs.declared.Shared.{Shared}
use Rattle.ends.specs.declared.Olt.{Olt}
use Rattle.protocol.specs.declared.KeyMessage.{KeyMessage}
use Rattle.protocol.specs.declared.Acknowledgement.{Acknowledgement}
use Rattle.protocol.specs.declared.OltAnswer.{OltAnswer}
use Rattle.protocol.specs.declared.ClockSent.{ClockSent}
use Rattle.protocol.specs.declared.KeySent.{KeySent}
use Rattle.refusal.specs.Verdict.{Verdict, no_refusal}

unfoldable pub olt_answer : Reply Olt Silence → OltAnswer
olt_answer r = record { number = verdict_number r.verdict; olt = r.end }

unfoldable pub clock_sent : Reply Olt Stamps → ClockSent
clock_sent r = record { number = verdict_number r.verdict; olt = r.end; message = r.handed }

unfoldable pub key_sent : Reply Olt KeyMessage → KeySent
key_sent r = record { number = verdict_number r.verdict; olt = r.end; message = r.handed }

-- a fresh OLT: 1, with an end of zeros
unfoldable pub fresh_olt_of : ℕ → ℕ → OltAnswer
fresh_olt_of mac clock =
    olt_answer
    (reply (refuse_if (not (both (valid_mac mac) (ltb clock clock_turn))) OutOfRange no_refusal) (new_olt 0 0) silent (new_olt mac clock) silent)

---- register: 1, 3, 4

unfoldable pub valid_registration : Identity → ℕ → ℕ → Bool
valid_registration i trip interval = both (valid_identity i) (both (leb trip max_round_trip) (valid_interval interval))

-- five LLIDs with a repeat are 1, a repeat at a full table is 3 (D15)
unfoldable pub register_verdict : Olt → Identity → ℕ → ℕ → Verdict
register_verdict o i trip interval =
    refuse_if (not (valid_registration i trip interval)) OutOfRange
    (refuse_if (either (not (distinct (llids_of i))) (meets (llids_of i) (table_llids (registered o)))) RepeatedLlid
    (refuse_if (leb max_units o.count) TableFull no_refusal))

abbrev pub register_order : Olt → Identity → ℕ → ℕ → Verdict
register_order o i trip interval = on_valid (valid_olt o) (register_verdict o i trip interval)  -- 1, 3, 4

unfoldable pub registering : Olt → Identity → ℕ → ℕ → Reply Olt Silence
registering o i trip interval = reply (register_order o i trip interval) o silent (with_one_more o (fresh_unit i trip interval)) silent

unfoldable pub register_of : Olt → Identity → ℕ → ℕ → OltAnswer
register_of o i trip interval = olt_answer (registering o i trip interval)

---- advance: 17

unfoldable pub shared_advanced : Shared → ℕ → Shared
shared_advanced s n = record { mac = s.mac; tick = s.tick + n; clock = advanced s.clock n; channels = s.channels }

unfoldable pub olt_advanced : Olt → ℕ → Olt
olt_advanced o n =
    record {
      shared = shared_advanced o.shared n;
      count = o.count;
      units = map (unit_advanced n) (registered o) ++ drop o.count o.units;
    }

abbrev pub advance_order : Olt → ℕ → Verdict
advance_order o n = on_valid (valid_olt o) (advance_verdict o.shared.tick n)  -- 17

unfoldable pub advancing_olt : Olt → ℕ → Reply Olt Silence
advancing_olt o n = reply (advance_order o n) o silent (olt_advanced o n) silent

unfoldable pub advance_olt_of : Olt → ℕ → OltAnswer
advance_olt_of o n = olt_answer (advancing_olt o n)

---- capture: 2

unfoldable pub capture_order : Olt → ℕ → Verdict
capture_order o llid =
    on_valid (valid_olt o)
    (refuse_if (not (is_registered o llid)) UnknownLlid no_refusal)  -- 2

unfoldable pub capture_of : Olt → ℕ → OltAnswer
capture_of o llid = olt_answer (lift o silent no_refusal llid capture_unit)

---- the round trip measured again: 1, 2 (02, C-16)

unfoldable pub measure_order : Olt → ℕ → ℕ → Verdict
measure_order o llid trip =
    on_valid (valid_olt o)
    (refuse_if (not (leb trip max_round_trip)) OutOfRange  -- 1
    (refuse_if (not (is_registered o llid)) UnknownLlid no_refusal))  -- 2

unfoldable pub measure_of : Olt → ℕ → ℕ → OltAnswer
measure_of o llid trip =
    olt_answer (lift o silent (refuse_if (not (leb trip max_round_trip)) OutOfRange no_refusal) llid (measure_unit trip))

---- clock send: 2, 8, 16

unfoldable pub clock_send_order : Olt → ℕ → Verdict
clock_send_order o llid =
    on_valid (valid_olt o)
    (refuse_if (not (is_registered o llid)) UnknownLlid  -- 2
    (clock_send_verdict (unit_named o llid).clock o.shared.tick))  -- 8, 16

unfoldable pub clock_send_of : Olt → ℕ → ClockSent
clock_send_of o llid = clock_sent (lift o no_stamps no_refusal llid clock_send_unit)

---- offer: 2, 5, 6, 7, 17

unfoldable pub offer_order : Olt → ℕ → List ℕ → Verdict
offer_order o llid key =
    on_valid (valid_olt o)
    (refuse_if (not (is_registered o llid)) UnknownLlid  -- 2
    (offer_verdict (unit_named o llid) key))  -- 5, 6, 7, 17

unfoldable pub offer_of : Olt → ℕ → List ℕ → KeySent
offer_of o llid key = key_sent (lift o no_key_message no_refusal llid (offer_unit llid key))

---- retry: 2, 8

unfoldable pub retry_order : Olt → ℕ → Verdict
retry_order o llid =
    on_valid (valid_olt o)
    (refuse_if (not (is_registered o llid)) UnknownLlid  -- 2
    (retry_verdict (unit_named o llid).keys))  -- 8

unfoldable pub retry_of : Olt → ℕ → KeySent
retry_of o llid = key_sent (lift o no_key_message no_refusal llid (retry_unit llid))

---- acknowledgement: 2, 8

unfoldable pub acknowledge_order : Olt → ℕ → Acknowledgement → Verdict
acknowledge_order o llid a =
    on_valid (valid_olt o)
    (refuse_if (not (is_registered o llid)) UnknownLlid  -- 2
    (acknowledge_verdict a (unit_named o llid)))  -- 8

unfoldable pub acknowledge_of : Olt → ℕ → Acknowledgement → OltAnswer
acknowledge_of o llid a = olt_answer (lift o silent no_refusal llid (acknowledge_unit a))
