-- Headers, and what an envelope goes under (01, Keys; The line). Assumes nothing.
use Rattle.std.specs.Prelude.{Bool, true, false, not, List, ℕ, ◌%◌, leb, ltb, eqb, Err}
use Rattle.octets.specs.Choice.{both, pick}
use Rattle.refusal.specs.declared.Refusal.TheVariants.{ClockNotSet, ChannelTaken, KeyTooOld}
use Rattle.clock.specs.Ticks.{epam_turn, epam_of}
use Rattle.refusal.specs.Order.{refuse_if}
use Rattle.ends.specs.Keys.{no_key, key_in, aged}
use Rattle.ends.specs.declared.Slots.{Slots}
use Rattle.ends.specs.declared.FirstSend.{FirstSend}
use Rattle.protocol.specs.declared.Header.{Header}
use Rattle.protocol.specs.declared.KeyChoice.{KeyChoice}
use Rattle.protocol.specs.declared.KeyChoice.TheVariants.{Clear, Current, Next, Barred}
use Rattle.protocol.specs.declared.Passage.{Passage}
use Rattle.protocol.specs.declared.Sending.{Sending}
use Rattle.refusal.specs.Verdict.{Verdict, no_refusal}

-- the values of a header but its channel index and LLID: EncKey 1 only with EncEnabled 1 (D26)
unfoldable pub valid_header : Header → Bool
valid_header h = both (leb h.encenabled 1) (both (leb h.enckey h.encenabled) (ltb h.epam epam_turn))

-- the number of the key that an envelope goes under: 0 is clear
unfoldable pub choice_number : KeyChoice → ℕ
choice_number Clear = 0
choice_number (Current n) = n
choice_number (Next n) = n
choice_number (Barred r) = 0

unfoldable pub choice_verdict : KeyChoice → Verdict
choice_verdict Clear = no_refusal
choice_verdict (Current n) = no_refusal
choice_verdict (Next n) = no_refusal
choice_verdict (Barred r) = Err r

-- only the key in use can be too old: one that comes into use has had no send (D24)
unfoldable pub choice_aged : KeyChoice → FirstSend → ℕ → Bool
choice_aged Clear f now = false
choice_aged (Current n) f now = aged f now
choice_aged (Next n) f now = false
choice_aged (Barred r) f now = false

unfoldable pub choice_enciphered : KeyChoice → Bool
choice_enciphered Clear = false
choice_enciphered (Current n) = true
choice_enciphered (Next n) = true
choice_enciphered (Barred r) = false

-- a send at either end, under the key of its choice, whose first send is noted: 5 for an enciphered one where the clock is not set (02, C-16),
-- then 12, then 13, the key's age being by the end's own count (D46)
abbrev pub clock_channel_key : Bool → Bool → KeyChoice → FirstSend → ℕ → Verdict
clock_channel_key set busy choice first now =
    refuse_if (both (not set) (choice_enciphered choice)) ClockNotSet
    (refuse_if busy ChannelTaken (refuse_if (choice_aged choice first now) KeyTooOld no_refusal))

-- the header of an envelope numbered n, at the sender's clock (01, Keys: EPAM, of LocalTime if unsynced), an ESH or an ECH (D33)
unfoldable pub envelope_header : ℕ → ℕ → ℕ → ℕ → Header
envelope_header n channel llid clock =
    record { channel = channel; llid = llid; encenabled = pick (eqb n 0) 0 1; enckey = n % 2; epam = epam_of clock }

-- the key of number n, none for 0
unfoldable pub key_for : ℕ → Slots → List ℕ
key_for n s = pick (eqb n 0) no_key (key_in s n)

-- the choice, its key, the sender's MAC and the clock
unfoldable pub passage_of : KeyChoice → Slots → ℕ → ℕ → Passage
passage_of choice s mac clock = record { choice = choice; key = key_for (choice_number choice) s; mac = mac; clock = clock }

unfoldable pub sending_of : KeyChoice → Slots → ℕ → ℕ → ℕ → ℕ → Sending
sending_of choice s mac clock channel llid =
    record { header = envelope_header (choice_number choice) channel llid clock; passage = passage_of choice s mac clock }

abbrev pub no_passage : Passage
no_passage = record { choice = Clear; key = no_key; mac = 0; clock = 0 }

abbrev pub no_sending : Sending
no_sending = record { header = record { channel = 0; llid = 0; encenabled = 0; enckey = 0; epam = 0 }; passage = no_passage }
