-- Who may not see a thing learns nothing of it (02, C-19): a claim on two calls of one user, whose inputs differ only in what that user
-- may not see. Assumes nothing.
use Rattle.std.specs.Prelude.{◌≡◌, Bool, true, List, [], ◌∷◌, ◌++◌, ℕ, ◌<◌, get_or, take, replicate, Ok}
use Rattle.octets.specs.BigEndian.{octets_of}
use Rattle.records.specs.Settings.{llid_of}
use Rattle.records.specs.Block.{directory_octets, records_in, record_of}
use Rattle.records.specs.Following.{header_of}
use Rattle.rights.specs.declared.settings.Caller.{Caller}
use Rattle.rights.specs.declared.judging.ClassVerdict.TheVariants.{Hidden, Told}
use Rattle.rights.specs.Settings.{set_of, own_rights, rights_on}
use Rattle.rights.specs.Rights.{may_see}
use Rattle.class.specs.Reading.{told_of, call_for}
use Rattle.class.specs.Opening.{opening_for}
use Rattle.class.specs.Listing.{listing_for}
use Rattle.records.specs.declared.header.Access.TheVariants.{Clear}

-- the sets s, rights q and block b differ from t, p and d only in what the user may not see
pub record Alike (c : Caller) (s q b t p d : List ℕ) : Type 0 where
  -- the rights of other users
  pub own : own_rights c q ≡ own_rights c p
  -- of a set that may not be seen all but its LLID: presence, keys and MAC
  pub llids : (j : ℕ) → j < c.sets → llid_of (set_of s j) ≡ llid_of (set_of t j)
  pub sets : (j : ℕ) → j < c.sets → may_see (get_or (own_rights c q) j 0) ≡ true → set_of s j ≡ set_of t j
  -- of a record that may not be seen all but its LLID and its length, which the directory tells, and with it the EQs
  pub directory : take (directory_octets (records_in b)) b ≡ take (directory_octets (records_in b)) d
  pub headers : (i : ℕ) → i < records_in b → (header_of b i).llid ≡ (header_of d i).llid
  pub records : (i : ℕ) → i < records_in b → may_see (rights_on c s q (header_of b i).llid) ≡ true → record_of b i ≡ record_of d i

-- the whole answer: the count, runs, expansions and corrections and every octet of the output, which was lent as out, and the listing
pub record SameAnswer (near : Bool) (c : Caller) (s q b t p d out : List ℕ) : Type 0 where
  pub opening : opening_for near c s q b out ≡ opening_for near c t p d out
  pub listing : listing_for near c s q b ≡ listing_for near c t p d

-- where both inputs are valid (D97)
abbrev pub Secret : Bool → Caller → List ℕ → List ℕ → List ℕ → List ℕ → Type 0
Secret near c s q b out =
    (t p d : List ℕ) (m n : ℕ) → call_for true c s q b ≡ Ok m → call_for true c t p d ≡ Ok n → Alike c s q b t p d
    → SameAnswer near c s q b t p d out

-- Two such inputs, for the first of two users, who may see and open LLID 0005, and nothing of 0006.
abbrev pub example : Caller
example = record { sets = 2; users = 2; user = 1 }

-- a set with this presence octet, key 0 of this octet, MAC and LLID
abbrev pub example_set : ℕ → ℕ → ℕ → ℕ → List ℕ
example_set presence octet mac llid = (presence ∷ []) ++ (replicate 16 octet ++ (replicate 16 0 ++ (octets_of 6 mac ++ octets_of 2 llid)))

abbrev pub first_sets : List ℕ
first_sets = example_set 1 7 1 5 ++ example_set 1 8 1 6

abbrev pub second_sets : List ℕ
second_sets = example_set 1 7 1 5 ++ example_set 3 9 2 6

abbrev pub first_rights : List ℕ
first_rights = 3 ∷ 4 ∷ 0 ∷ 7 ∷ []

abbrev pub second_rights : List ℕ
second_rights = 3 ∷ 4 ∷ 7 ∷ 0 ∷ []

-- a clear record of LLID 0005 and no EQs, then one of LLID 0006 and one EQ
abbrev pub example_block : List ℕ → List ℕ → List ℕ → List ℕ
example_block front back payload =
    octets_of 2 2 ++ (octets_of 4 18 ++ (octets_of 4 16 ++ (octets_of 4 34 ++ (octets_of 4 25
    ++ ((0 ∷ 0 ∷ []) ++ (octets_of 2 5 ++ ((0 ∷ 1 ∷ []) ++ (octets_of 6 65 ++ (octets_of 4 0
    ++ (front ++ (octets_of 2 6 ++ (back ++ (octets_of 4 1 ++ payload)))))))))))))

-- kind, channel index, flags, EPAM, clock and payload of the second differ
abbrev pub first_block : List ℕ
first_block = example_block (0 ∷ 0 ∷ []) ((1 ∷ 2 ∷ []) ++ octets_of 6 66) (replicate 9 0)

abbrev pub second_block : List ℕ
second_block = example_block (1 ∷ 128 ∷ []) ((3 ∷ 63 ∷ []) ++ octets_of 6 99) (replicate 9 255)

pub record Example : Type 0 where
  pub first : call_for true example first_sets first_rights first_block ≡ Ok 2
  pub second : call_for true example second_sets second_rights second_block ≡ Ok 2
  pub alike : Alike example first_sets first_rights first_block second_sets second_rights second_block
  -- they differ
  pub keys : get_or first_sets 42 0 ≡ get_or second_sets 42 0 → ⊥
  pub rights : get_or first_rights 2 0 ≡ get_or second_rights 2 0 → ⊥
  pub octets : get_or (record_of first_block 1) 16 0 ≡ get_or (record_of second_block 1) 16 0 → ⊥
  -- and the user is told of the first record, and not of the second
  pub told : told_of true example first_sets first_rights first_block 0 ≡ Told (Ok Clear)
  pub hidden : told_of true example first_sets first_rights first_block 1 ≡ Hidden
