-- The settings of the reader, whose octets are s (01, Capture block: Settings). Assumes nothing.
use Rattle.std.specs.Prelude.{Bool, List, ℕ, ◌+◌, ◌*◌, eqb, length, get_or, replicate, Err}
use Rattle.octets.specs.BigEndian.{number_at}
use Rattle.octets.specs.Bits.{bit_of, low_cleared}
use Rattle.octets.specs.Choice.{pick}
use Rattle.octets.specs.Lists.{part, copied}
use Rattle.refusal.specs.declared.Refusal.TheVariants.{OutOfRange, BadLength}
use Rattle.refusal.specs.Verdict.{Verdict, no_refusal}

abbrev pub settings_octets : ℕ
settings_octets = 41

-- the keys that settings have room for, and the octets of each
abbrev pub settings_keys : ℕ
settings_keys = 2

abbrev pub key_octets : ℕ
key_octets = 16

-- where the keys, the MAC and the LLID begin
abbrev pub keys_at : ℕ
keys_at = 1

abbrev pub mac_at : ℕ
mac_at = keys_at + key_octets * settings_keys

abbrev pub llid_at : ℕ
llid_at = mac_at + 6

unfoldable pub presence_of : List ℕ → ℕ
presence_of s = get_or s 0 0

-- key i is there
unfoldable pub key_present : ℕ → ℕ → Bool
key_present presence i = eqb (bit_of presence i) 1

-- key i; an octet that is not there is 0
unfoldable pub key_of : List ℕ → ℕ → List ℕ
key_of s i = copied (part s (keys_at + key_octets * i) key_octets) (replicate key_octets 0)

unfoldable pub mac_of : List ℕ → ℕ
mac_of s = number_at 6 s mac_at

unfoldable pub llid_of : List ℕ → ℕ
llid_of s = number_at 2 s llid_at

-- bits 0 and 1 of the presence octet are for the two keys, the others are 0
unfoldable pub presence_fits : ℕ → Bool
presence_fits presence = eqb (low_cleared settings_keys presence) 0

-- 14, then 1
unfoldable pub settings_verdict : List ℕ → Verdict
settings_verdict s =
    pick (eqb (length s) settings_octets) (pick (presence_fits (presence_of s)) no_refusal (Err OutOfRange)) (Err BadLength)
