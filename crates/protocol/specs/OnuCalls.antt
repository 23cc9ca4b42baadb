-- The calls of the ONU but send and receive (01, Clock; Keys; 'When the reader says no'). Each gives code, end and what is handed
-- over together. Assumes nothing.
use Rattle.std.specs.Prelude.{Bool, not, ℕ, ◌+◌, ◌-◌, ◌%◌, leb, ltb, eqb}
use Rattle.octets.specs.Choice.{both, either, pick}
use Rattle.octets.specs.Lists.{same}
use Rattle.refusal.specs.Number.{verdict_number}
use Rattle.refusal.specs.declared.Refusal.TheVariants.{OutOfRange, UnknownLlid, RepeatedLlid, ClockNotSet, NothingOutstanding, AtEnd}
use Rattle.clock.specs.Ticks.{clock_turn, local_turn, advanced, local_advanced, local_of}
use Rattle.clock.specs.Stamping.{raised_to}
use Rattle.clock.specs.declared.Stamps.{Stamps}
use Rattle.ends.specs.Limits.{max_key_number, max_time_change}
use Rattle.refusal.specs.Order.{refuse_if}
use Rattle.ends.specs.Flags.{is_up}
use Rattle.protocol.specs.Replies.{on_valid, Silence, silent, Reply, reply, advance_verdict}
use Rattle.ends.specs.Keys.{key_in, with_key}
use Rattle.ends.specs.Travels.{word_turn, valid_changes, travel_changed}
use Rattle.ends.specs.Identities.{no_identity, distinct, llids_of, has, valid_mac, valid_identity}
use Rattle.ends.specs.Records.{unsynced_clock, new_onu, with_onu_clock, with_onu_keys, with_travel}
use Rattle.ends.specs.Validity.{valid_onu}
use Rattle.protocol.specs.Messages.{no_acknowledgement, of_clock, of_key}
use Rattle.ends.specs.declared.Identity.{Identity}
use Rattle.ends.specs.declared.OnuKeys.{OnuKeys}
use Rattle.ends.specs.declared.OnuClock.{OnuClock}
use Rattle.ends.specs.declared.Onu.{Onu}
use Rattle.protocol.specs.declared.KeyMessage.{KeyMessage}
use Rattle.protocol.specs.declared.Acknowledgement.{Acknowledgement}
use Rattle.protocol.specs.declared.OnuAnswer.{OnuAnswer}
use Rattle.protocol.specs.declared.OnuAcknowledged.{OnuAcknowledged}
use Rattle.refusal.specs.Verdict.{Verdict, no_refusal}

unfoldable pub onu_answer : Reply Onu Silence → OnuAnswer
onu_answer r = record { number = verdict_number r.verdict; onu = r.end }

unfoldable pub onu_acknowledged : Reply Onu Acknowledgement → OnuAcknowledged
onu_acknowledged r = record { number = verdict_number r.verdict; onu = r.end; acknowledgement = r.handed }

-- 1 for a lent end that is not valid, then what the call refuses
unfoldable pub onu_reply : {H : Type 0} → Onu → H → Verdict → Onu → H → Reply Onu H
onu_reply o nothing v next handed = reply (on_valid (valid_onu o) v) o nothing next handed

---- a fresh ONU: 1, 3, with an end of zeros

unfoldable pub fresh_onu_verdict : Identity → ℕ → ℕ → Verdict
fresh_onu_verdict i oltmac time =
    refuse_if (not (both (valid_identity i) (both (valid_mac oltmac) (ltb time local_turn)))) OutOfRange
    (refuse_if (not (distinct (llids_of i))) RepeatedLlid no_refusal)

unfoldable pub fresh_onu_of : Identity → ℕ → ℕ → OnuAnswer
fresh_onu_of i oltmac time = onu_answer (reply (fresh_onu_verdict i oltmac time) (new_onu no_identity 0 0) silent (new_onu i oltmac time) silent)

---- advance: 17

unfoldable pub onu_clock_advanced : OnuClock → ℕ → OnuClock
onu_clock_advanced c n =
    pick (is_up c.synced) (record { synced = c.synced; time = advanced c.time n; rx = advanced c.rx n })
    (record { synced = c.synced; time = local_advanced c.time n; rx = c.rx })

unfoldable pub onu_advanced : Onu → ℕ → Onu
onu_advanced o n =
    record {
      identity = o.identity;
      oltmac = o.oltmac;
      tick = o.tick + n;
      clock = onu_clock_advanced o.clock n;
      keys = o.keys;
      first = o.first;
      travel = o.travel;
      channels = o.channels;
    }

unfoldable pub advancing_onu : Onu → ℕ → Reply Onu Silence
advancing_onu o n = onu_reply o silent (advance_verdict o.tick n) (onu_advanced o n) silent

unfoldable pub advance_onu_of : Onu → ℕ → OnuAnswer
advance_onu_of o n = onu_answer (advancing_onu o n)

---- a new LocalTime: 1, 17 (02, C-16)

-- how far one LocalTime is ahead of another, modulo their turn
unfoldable pub time_ahead : ℕ → ℕ → ℕ
time_ahead new old = (new + (local_turn - old % local_turn)) % local_turn

-- at most 1,000,000 either way
unfoldable pub near_time : ℕ → ℕ → Bool
near_time new old = either (leb (time_ahead new old) max_time_change) (leb (time_ahead old new) max_time_change)

-- the sum of the changes, modulo 2^64, after the signed one from an old LocalTime to a new one (D44)
unfoldable pub changes_after : ℕ → ℕ → ℕ → ℕ
changes_after changes new old =
    pick (leb (time_ahead new old) max_time_change) ((changes + time_ahead new old) % word_turn) ((changes + (word_turn - time_ahead old new)) % word_turn)

abbrev pub onu_changes : Onu → ℕ → ℕ
onu_changes o time = changes_after o.travel.changes time o.clock.time

unfoldable pub new_time_verdict : Onu → ℕ → Verdict
new_time_verdict o time =
    refuse_if (not (both (ltb time local_turn) (near_time time o.clock.time))) OutOfRange
    (refuse_if (not (valid_changes (onu_changes o time))) AtEnd no_refusal)

-- unsynced, Tx and Rx as before the first clock message
unfoldable pub onu_retimed : Onu → ℕ → Onu
onu_retimed o time = with_onu_clock (with_travel o (travel_changed o.travel (onu_changes o time))) (unsynced_clock time)

unfoldable pub new_time_of : Onu → ℕ → OnuAnswer
new_time_of o time = onu_answer (onu_reply o silent (new_time_verdict o time) (onu_retimed o time) silent)

---- clock message: 1

-- both stamps are of 48 bits: nothing more is asked of them (D13)
unfoldable pub clock_message_verdict : Stamps → Verdict
clock_message_verdict s = refuse_if (not (both (ltb s.rx clock_turn) (ltb s.tx clock_turn))) OutOfRange no_refusal

-- the clocks that the raised stamps give
unfoldable pub clock_from : Stamps → OnuClock
clock_from s = record { synced = 1; time = s.tx; rx = s.rx }

unfoldable pub onu_synced : Onu → Stamps → Onu
onu_synced o s = with_onu_clock o (clock_from (raised_to (local_of o.clock.time) s))

unfoldable pub clock_message_to : Onu → Stamps → Reply Onu Acknowledgement
clock_message_to o s = onu_reply o no_acknowledgement (clock_message_verdict s) (onu_synced o s) of_clock

unfoldable pub clock_message_at : Onu → Stamps → OnuAcknowledged
clock_message_at o s = onu_acknowledged (clock_message_to o s)

---- key message: 2, 5, 8

-- key a + 1, and no such key is held
unfoldable pub new_key : OnuKeys → KeyMessage → Bool
new_key k m = both (eqb k.held 0) (both (ltb k.active max_key_number) (eqb m.number (k.active + 1)))

-- the message of the key a + 1 that is held, again
unfoldable pub held_key : OnuKeys → KeyMessage → Bool
held_key k m = both (is_up k.held) (both (eqb m.number (k.active + 1)) (same m.key (key_in k.slots (k.active + 1))))

-- number a with its own key
unfoldable pub active_key : OnuKeys → KeyMessage → Bool
active_key k m = both (leb 1 k.active) (both (eqb m.number k.active) (same m.key (key_in k.slots k.active)))

-- a new key, or again the one that is held or in use; the LLID of a repeat is not compared (D20)
unfoldable pub key_message_verdict : Onu → KeyMessage → Verdict
key_message_verdict o m =
    refuse_if (not (has o.identity m.llid)) UnknownLlid
    (refuse_if (not (is_up o.clock.synced)) ClockNotSet
    (refuse_if (not (either (new_key o.keys m) (either (held_key o.keys m) (active_key o.keys m)))) NothingOutstanding no_refusal))

-- a new key is kept; anything else that is accepted changes nothing
unfoldable pub keys_taken : OnuKeys → KeyMessage → OnuKeys
keys_taken k m =
    pick (new_key k m) (record { active = k.active; held = 1; slots = with_key k.slots (k.active + 1) m.key }) k

unfoldable pub key_message_to : Onu → KeyMessage → Reply Onu Acknowledgement
key_message_to o m =
    onu_reply o no_acknowledgement (key_message_verdict o m) (with_onu_keys o (keys_taken o.keys m)) (of_key m.number)

unfoldable pub key_message_at : Onu → KeyMessage → OnuAcknowledged
key_message_at o m = onu_acknowledged (key_message_to o m)
