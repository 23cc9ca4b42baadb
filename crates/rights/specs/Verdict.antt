-- The verdict on a call of a class, ahead of what the call asks for (02, C-19: 23, 14, 1, 3). Assumes nothing.
use Rattle.std.specs.Prelude.{Bool, not, List, ℕ, ◌*◌, eqb, leb, length}
use Rattle.octets.specs.Choice.{both}
use Rattle.octets.specs.Each.{each}
use Rattle.octets.specs.Lists.{all}
use Rattle.refusal.specs.declared.Refusal.TheVariants.{OutOfRange, RepeatedLlid, BadLength, UnknownUser}
use Rattle.refusal.specs.Order.{refuse_if}
use Rattle.records.specs.Settings.{settings_octets, presence_of, llid_of, presence_fits}
use Rattle.rights.specs.declared.settings.Caller.{Caller}
use Rattle.rights.specs.Settings.{most_sets, most_users, set_of, set_for}
use Rattle.rights.specs.Rights.{rights_fit}
use Rattle.refusal.specs.Verdict.{Verdict, no_refusal}

-- the user's number is neither 0 nor above their count
unfoldable pub user_fits : Caller → Bool
user_fits c = both (leb 1 c.user) (leb c.user c.users)

-- 1 to 16 sets of 41 octets, up to 16 users, an octet of rights for each user and set
unfoldable pub counts_fit : Caller → ℕ → ℕ → Bool
counts_fit c setsOctets rightsOctets =
    both (both (leb 1 c.sets) (leb c.sets most_sets))
    (both (leb c.users most_users)
    (both (eqb setsOctets (settings_octets * c.sets)) (eqb rightsOctets (c.sets * c.users))))

-- the presence octet of every set, and the rights of every user, are of their values
unfoldable pub presences_fit : Caller → List ℕ → Bool
presences_fit c sets = each 0 c.sets (λ j. presence_fits (presence_of (set_of sets j)))

abbrev pub values_fit : Caller → List ℕ → List ℕ → Bool
values_fit c sets rights = both (presences_fit c sets) (all rights_fit rights)

-- no LLID has two sets: each set is the first of its own
unfoldable pub llids_differ : Caller → List ℕ → Bool
llids_differ c sets = each 0 c.sets (λ j. eqb (set_for c sets (llid_of (set_of sets j))) j)

-- 23, 14, 1, 3: what else the call was lent suits in length, and what else it asks for in value
unfoldable pub class_verdict : Bool → Bool → Caller → List ℕ → List ℕ → Verdict
class_verdict suits fits c sets rights =
    refuse_if (not (user_fits c)) UnknownUser
    (refuse_if (not (both suits (counts_fit c (length sets) (length rights)))) BadLength
    (refuse_if (not (both fits (values_fit c sets rights))) OutOfRange (refuse_if (not (llids_differ c sets)) RepeatedLlid no_refusal)))
