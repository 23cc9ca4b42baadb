-- Keys by number, and the first send under one (01, Keys). Assumes nothing.
use Rattle.std.specs.Prelude.{ℕ, ◌+◌, ◌%◌, Bool, List, replicate, ◌==◌, nat_le}
use Rattle.octets.specs.Choice.{both, either, pick}
use Rattle.clock.specs.Ticks.{key_life}
use Rattle.ends.specs.Flags.{is_up}
use Rattle.ends.specs.declared.Slots.{Slots}
use Rattle.ends.specs.declared.FirstSend.{FirstSend}

-- sixteen zeros: what stands where no key is
abbrev pub no_key : List ℕ
no_key = replicate 16 0

abbrev pub no_slots : Slots
no_slots = record { even = no_key; odd = no_key }

-- the key kept under number n, whose index is n mod 2 (D18)
unfoldable pub key_in : Slots → ℕ → List ℕ
key_in s n = pick (n % 2 == 0) s.even s.odd

unfoldable pub with_key : Slots → ℕ → List ℕ → Slots
with_key s n key = record { even = pick (n % 2 == 0) key s.even; odd = pick (n % 2 == 0) s.odd key }

-- all but key n is forgotten
unfoldable pub only_key : Slots → ℕ → Slots
only_key s n = with_key s (n + 1) no_key

abbrev pub not_noted : FirstSend
not_noted = record { noted = 0; at = 0 }

abbrev pub noted_at : ℕ → FirstSend
noted_at now = record { noted = 1; at = now }

-- the first send, where one is made now, by the end's own count: ticks at the OLT, travel at a unit (02, C-16)
unfoldable pub first_send : FirstSend → ℕ → FirstSend
first_send f now = pick (is_up f.noted) f (noted_at now)

-- the key's first send was 2^48 ago or earlier, by the same count
unfoldable pub aged : FirstSend → ℕ → Bool
aged f now = both (is_up f.noted) (nat_le (f.at + key_life) now)

-- a first send is not later than the OLT's tick
unfoldable pub valid_first : FirstSend → ℕ → Bool
valid_first f tick = both (nat_le f.noted 1) (either (f.noted == 0) (nat_le f.at tick))
