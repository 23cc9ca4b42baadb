-- What the class's reader has of document 01's (02, C-19), and what its expansions are bounded by. Assumes nothing.
use Rattle.std.specs.Prelude.{◌≡◌, Bool, true, false, List, [], ◌∷◌, ℕ, ◌*◌, ◌<◌, ◌≤◌, Ok}
use Rattle.octets.specs.Lists.{part}
use Rattle.records.specs.Settings.{settings_keys, llid_of}
use Rattle.records.specs.Verdict.{verdict_of}
use Rattle.records.specs.Block.{records_in, offset_of, length_of, record_of}
use Rattle.records.specs.Following.{header_of}
use Rattle.reading.specs.Opening.{opened_record, record_adds}
use Rattle.reading.specs.Listing.{row_at}
use Rattle.directory.specs.Rebuilt.{rebuilt}
use Rattle.reading.specs.Reading.{opening_by, listing_by}
use Rattle.rights.specs.declared.settings.Caller.{Caller}
use Rattle.rights.specs.declared.judging.ClassVerdict.TheVariants.{Told}
use Rattle.rights.specs.Settings.{most_sets, rights_on}
use Rattle.rights.specs.Rights.{may_open}
use Rattle.class.specs.Reading.{set_at, told_of, call_for}
use Rattle.class.specs.Opening.{record_for, adds_for, expansions_for, opening_for}
use Rattle.class.specs.Listing.{row_for, listing_for}

-- record i is read as document 01's reader reads it with the set of its LLID, in the usual way
pub record AsReader (c : Caller) (s q b : List ℕ) (i : ℕ) : Type 0 where
  pub set : llid_of (set_at c s b i) ≡ (header_of b i).llid
  pub verdict : told_of false c s q b i ≡ Told (verdict_of (set_at c s b i) (record_of b i))
  pub row : row_for false c s q b i ≡ row_at (set_at c s b i) b i
  pub octets : part (rebuilt (record_for false c s q b) b) (offset_of b i) (length_of b i) ≡ opened_record (set_at c s b i) (record_of b i)
  pub adds : (g : List ℕ → ℕ) → adds_for false c s q b g i ≡ record_adds g (set_at c s b i) (record_of b i)

-- where the user may open its LLID: so a reader that hides everything is none
abbrev pub ReadsOwn : Caller → List ℕ → List ℕ → List ℕ → Type 0
ReadsOwn c s q b =
    (n i : ℕ) → call_for true c s q b ≡ Ok n → i < n → may_open (rights_on c s q (header_of b i).llid) ≡ true → AsReader c s q b i

-- one user, one set, the rights to see and to open
abbrev pub alone : Caller
alone = record { sets = 1; users = 1; user = 1 }

abbrev pub alone_rights : List ℕ
alone_rights = 3 ∷ []

-- on a block of that set's LLID alone the class's reader is document 01's, both ways
pub record AsAlone (near : Bool) (s b out : List ℕ) : Type 0 where
  pub opening : opening_for near alone s alone_rights b out ≡ opening_by near s b out
  pub listing : listing_for near alone s alone_rights b ≡ listing_by near s b

abbrev pub ReadsAlone : Bool → List ℕ → List ℕ → List ℕ → Type 0
ReadsAlone near s b out = ((i : ℕ) → i < records_in b → (header_of b i).llid ≡ llid_of s) → AsAlone near s b out

-- at most 32 keys are expanded, whatever the records
abbrev pub FewExpansions : Caller → List ℕ → List ℕ → List ℕ → Type 0
FewExpansions c s q b = (n : ℕ) → call_for true c s q b ≡ Ok n → expansions_for c s q ≤ settings_keys * most_sets

pub record Reader (near : Bool) (c : Caller) (s q b out : List ℕ) : Type 0 where
  pub own : ReadsOwn c s q b
  pub alone : ReadsAlone near s b out
  pub few : FewExpansions c s q b
