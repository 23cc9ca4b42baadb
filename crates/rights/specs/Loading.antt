-- Loading a key into the set of an LLID (02, C-19). Assumes nothing.
use Rattle.std.specs.Prelude.{true, not, List, ℕ, ◌+◌, ◌*◌, ◌^◌, ltb, set, Ok, Err}
use Rattle.octets.specs.Choice.{pick}
use Rattle.octets.specs.Lists.{replaced}
use Rattle.octets.specs.Output.{WithOutput, with_output}
use Rattle.refusal.specs.declared.Refusal.TheVariants.{NoRight}
use Rattle.refusal.specs.Order.{refuse_if, and_then}
use Rattle.records.specs.Settings.{settings_octets, settings_keys, key_octets, keys_at, presence_of, key_present}
use Rattle.rights.specs.declared.settings.Caller.{Caller}
use Rattle.rights.specs.Settings.{set_of, set_for, rights_on}
use Rattle.rights.specs.Rights.{may_load}
use Rattle.rights.specs.Verdict.{class_verdict}
use Rattle.refusal.specs.Verdict.{Verdict, no_refusal}

-- 23, 14, 1, for the number of the key too, 3, then 24
unfoldable pub load_verdict : Caller → List ℕ → List ℕ → ℕ → ℕ → Verdict
load_verdict c sets rights llid i =
    and_then (class_verdict true (ltb i settings_keys) c sets rights) (refuse_if (not (may_load (rights_on c sets rights llid))) NoRight no_refusal)

-- a presence octet with the bit of key i
unfoldable pub with_key : ℕ → ℕ → ℕ
with_key presence i = pick (key_present presence i) presence (presence + 2 ^ i)

-- the sets with this key i in set j, and its presence bit: nothing else changes
unfoldable pub loaded : List ℕ → ℕ → ℕ → List ℕ → List ℕ
loaded sets j i key =
    replaced (set sets (settings_octets * j) (with_key (presence_of (set_of sets j)) i)) (settings_octets * j + (keys_at + key_octets * i)) key

unfoldable pub loading_after : Verdict → Caller → List ℕ → ℕ → ℕ → List ℕ → WithOutput Verdict
loading_after (Ok tt) c sets llid i key = with_output no_refusal (loaded sets (set_for c sets llid) i key)
loading_after (Err r) c sets llid i key = with_output (Err r) sets

-- the verdict, and the sets that were lent as they then are
unfoldable pub loading : Caller → List ℕ → List ℕ → ℕ → ℕ → List ℕ → WithOutput Verdict
loading c sets rights llid i key = loading_after (load_verdict c sets rights llid i) c sets llid i key
