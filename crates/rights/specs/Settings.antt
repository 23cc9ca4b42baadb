-- The settings of a class, for the user who asks (02, C-19): sets of document 01's 41 octets, one for each LLID, and an octet of rights
-- for each user and set, user by user. Assumes nothing.
use Rattle.std.specs.Prelude.{List, ℕ, zero, suc, ◌-◌, ◌*◌, eqb, get_or}
use Rattle.octets.specs.Choice.{pick}
use Rattle.octets.specs.Lists.{part}
use Rattle.records.specs.Settings.{settings_octets, llid_of}
use Rattle.rights.specs.declared.settings.Caller.{Caller}

abbrev pub most_sets : ℕ
most_sets = 16

abbrev pub most_users : ℕ
most_users = 16

-- set j is a part of the sets
abbrev pub set_of : List ℕ → ℕ → List ℕ
set_of sets j = part sets (settings_octets * j) settings_octets

-- the first set of this LLID among the m from set j on; where there is none, the place behind them (D95)
unfoldable pub set_from : List ℕ → ℕ → ℕ → ℕ → ℕ
set_from sets llid j zero = j
set_from sets llid j (suc m) = pick (eqb (llid_of (set_of sets j)) llid) j (set_from sets llid (suc j) m)

abbrev pub set_for : Caller → List ℕ → ℕ → ℕ
set_for c sets llid = set_from sets llid 0 c.sets

-- the octets of the user who asks, one for each set; users are numbered from 1 (D98)
unfoldable pub own_rights : Caller → List ℕ → List ℕ
own_rights c rights = part rights (c.sets * (c.user - 1)) c.sets

-- the rights of that user on an LLID: none on one outside the settings
abbrev pub rights_on : Caller → List ℕ → List ℕ → ℕ → ℕ
rights_on c sets rights llid = get_or (own_rights c rights) (set_for c sets llid) 0
