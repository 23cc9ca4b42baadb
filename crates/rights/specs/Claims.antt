-- What loading a key leaves of the sets, set by set, and what an LLID twice is (02, C-19). Assumes nothing.
use Rattle.std.specs.Prelude.{◌≡◌, true, List, ℕ, ◌<◌, length}
use Rattle.records.specs.Settings.{settings_keys, key_octets, presence_of, key_present, key_of, mac_of, llid_of}
use Rattle.rights.specs.declared.settings.Caller.{Caller}
use Rattle.rights.specs.Settings.{set_of, set_for}
use Rattle.rights.specs.Verdict.{llids_differ}
use Rattle.rights.specs.Loading.{load_verdict, loading}
use Rattle.refusal.specs.Verdict.{no_refusal}

-- no two sets have one LLID
abbrev pub OneSetEach : Caller → List ℕ → Type 0
OneSetEach c s = (j k : ℕ) → j < c.sets → k < c.sets → llid_of (set_of s j) ≡ llid_of (set_of s k) → j ≡ k

-- 3 is for two sets of one LLID and for nothing else
pub record Repeats (c : Caller) (s : List ℕ) : Type 0 where
  pub passed : llids_differ c s ≡ true → OneSetEach c s
  pub only : OneSetEach c s → llids_differ c s ≡ true

-- the sets t are the sets s with this key i in set j
pub record Loaded (s t : List ℕ) (j i : ℕ) (key : List ℕ) : Type 0 where
  pub size : length t ≡ length s
  -- the key is there, and its presence bit
  pub there : key_of (set_of t j) i ≡ key
  pub present : key_present (presence_of (set_of t j)) i ≡ true
  -- the set's other key stays, and its bit, MAC and LLID
  pub other : (k : ℕ) → k < settings_keys → (k ≡ i → ⊥) → key_of (set_of t j) k ≡ key_of (set_of s j) k
  pub bit : (k : ℕ) → k < settings_keys → (k ≡ i → ⊥) → key_present (presence_of (set_of t j)) k ≡ key_present (presence_of (set_of s j)) k
  pub mac : mac_of (set_of t j) ≡ mac_of (set_of s j)
  pub llid : llid_of (set_of t j) ≡ llid_of (set_of s j)
  -- and every other set
  pub rest : (k : ℕ) → (k ≡ j → ⊥) → set_of t k ≡ set_of s k

-- an accepted call loads into the set of that LLID
pub record LoadsOne (c : Caller) (s q : List ℕ) (llid i : ℕ) (key : List ℕ) : Type 0 where
  pub set : load_verdict c s q llid i ≡ no_refusal → llid_of (set_of s (set_for c s llid)) ≡ llid
  pub loaded : load_verdict c s q llid i ≡ no_refusal → length key ≡ key_octets
      → Loaded s (loading c s q llid i key).output (set_for c s llid) i key
