-- The verdict on a record, from its header h and the settings (01, Capture block). Assumes nothing.
use Rattle.std.specs.Prelude.{Bool, List, ℕ, ltb, eqb, Result, Ok, Err}
use Rattle.octets.specs.Bits.{bit_of, low_cleared}
use Rattle.octets.specs.Choice.{both, either, pick}
use Rattle.refusal.specs.declared.Refusal.{Refusal}
use Rattle.refusal.specs.declared.Refusal.TheVariants.{OutOfRange, UnknownLlid, NoKey, EpamDiffers}
use Rattle.refusal.specs.Number.{number_of, pair_number}
use Rattle.clock.specs.Ticks.{epam_of}
use Rattle.envelope.specs.Channels.{channel_fits}
use Rattle.records.specs.declared.header.Header.{Header}
use Rattle.records.specs.Settings.{presence_of, key_present, llid_of}
use Rattle.records.specs.Record.{record_header}
use Rattle.records.specs.declared.header.Access.{Access}
use Rattle.records.specs.declared.header.Access.TheVariants.{Clear, Sealed}

-- what a record is found to be: how it is opened, or the refusal that it earns
abbrev pub RecordVerdict : Type 0
RecordVerdict = Result Access Refusal

-- the flags are the two lowest bits of their octet
abbrev pub flag_bits : ℕ
flag_bits = 2

-- bit 0 is EncEnabled
unfoldable pub enc_enabled : ℕ → Bool
enc_enabled flags = eqb (bit_of flags 0) 1

-- bit 1 is EncKey
abbrev pub enc_key : ℕ → ℕ
enc_key flags = bit_of flags 1

-- an opened record has both cleared, every other bit being as it was
abbrev pub cleared_flags : ℕ → ℕ
cleared_flags flags = low_cleared flag_bits flags

-- the other bits are 0, and there is no EncKey without EncEnabled
unfoldable pub flags_fit : ℕ → Bool
flags_fit flags = both (eqb (cleared_flags flags) 0) (either (enc_enabled flags) (eqb (enc_key flags) 0))

-- ESH and ECH
abbrev pub kinds : ℕ
kinds = 2

-- kind, channel index and flags are of their values; EPAM above 63 is no cause for 1 here (D27)
unfoldable pub header_fits : Header → Bool
header_fits h = both (ltb h.kind kinds) (both (channel_fits h.channel) (flags_fit h.flags))

-- what is left to judge once EPAM agrees: 9 for an enciphered record without its key (D77), t being the clock to open at
unfoldable pub key_verdict : ℕ → ℕ → ℕ → RecordVerdict
key_verdict presence t flags =
    pick (enc_enabled flags) (pick (key_present presence (enc_key flags)) (Ok (Sealed (enc_key flags) t)) (Err NoKey)) (Ok Clear)

-- 1, 2, 10, then what the rest says
unfoldable pub in_order : Bool → Bool → Bool → RecordVerdict → RecordVerdict
in_order fits own agrees rest =
    pick fits (pick own (pick agrees rest (Err EpamDiffers)) (Err UnknownLlid)) (Err OutOfRange)

-- for settings of this presence octet and LLID, t being the clock that the record is judged and opened at
unfoldable pub record_verdict : ℕ → ℕ → ℕ → Header → RecordVerdict
record_verdict presence llid t h =
    in_order (header_fits h) (eqb h.llid llid) (eqb h.epam (epam_of t)) (key_verdict presence t h.flags)

-- the verdict for the settings s, by the header, at its own receive clock
unfoldable pub verdict_for : List ℕ → Header → RecordVerdict
verdict_for s h = record_verdict (presence_of s) (llid_of s) h.clock h

-- and on a record whose own octets are r
abbrev pub verdict_of : List ℕ → List ℕ → RecordVerdict
verdict_of s r = verdict_for s (record_header r)

-- acceptance is 0
abbrev pub record_number : RecordVerdict → ℕ
record_number (Ok Clear) = 0
record_number (Ok (Sealed i t)) = 0
record_number (Err r) = number_of r

-- the pair that a refusal names, else 0 (02, C-11)
abbrev pub record_pair : RecordVerdict → ℕ
record_pair (Ok Clear) = 0
record_pair (Ok (Sealed i t)) = 0
record_pair (Err r) = pair_number r
