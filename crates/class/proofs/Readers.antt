-- Laws of what the class's reader has of document 01's. Assumes nothing.
use mathlib.Core.Path.{◌≡◌, ap, ◌∙◌}
use mathlib.Core.Bool.{Bool, true, false}
use mathlib.Core.List.{List}
use Prim.Native.Nat.{ℕ, ◌*◌}
use native.Mathlib.Omega.{arith}
use Rattle.octets.proofs.Choice.{pick_true}
use Rattle.records.specs.declared.near.Drift.{Drift}
use Rattle.records.specs.declared.header.Header.{Header}
use Rattle.records.specs.Settings.{llid_of}
use Rattle.records.specs.Verdict.{verdict_of}
use Rattle.records.specs.Near.{judged}
use Rattle.records.specs.Block.{record_of}
use Rattle.records.specs.Following.{header_of}
use Rattle.reading.specs.Opening.{opened_record, record_adds}
use Rattle.directory.proofs.Records.{good}
use Rattle.directory.proofs.Rebuilding.{own_record}
use Rattle.rights.specs.declared.settings.Caller.{Caller}
use Rattle.rights.specs.declared.judging.ClassVerdict.TheVariants.{Told}
use Rattle.records.specs.declared.near.Heard.{Heard}
use Rattle.rights.specs.declared.judging.ClassVerdict.{ClassVerdict}
use Rattle.rights.specs.Settings.{set_for, rights_on}
use Rattle.rights.specs.Rights.{may_open, may_see}
use Rattle.rights.specs.Judging.{told_to, judged_for}
use Rattle.rights.proofs.Accepting.{inside}
use Rattle.rights.proofs.Sets.{set_found}
use Rattle.class.specs.Reading.{set_at, drift_for, told_of}
use Rattle.class.specs.Opening.{written_for, added_for, record_for, expansions_for}
use Rattle.class.specs.Listing.{row_as}
use Rattle.class.specs.Claims.{ReadsOwn, FewExpansions}
use Rattle.class.proofs.Turns.{see_none, record_size}
use Rattle.class.proofs.Expanding.{counts_few}
use Rattle.class.proofs.Calls.{found}
use Rattle.class.proofs.Secrets.{open_sees}

---- a user who may open
pub told_all : (near : Bool) (q : ℕ) (s : List ℕ) (drift : Drift) (h : Header) → may_open q ≡ true
    → judged_for near q s drift h ≡ record { verdict = Told (judged near s drift h).verdict; drift = (judged near s drift h).drift }
unfolding judged_for told_to
told_all near q s drift h e = pick_true _ _ (open_sees q e) ∙ rw (pick_true {t = may_open q} (Told (judged near s drift h).verdict) _ e)

-- the usual way corrects nothing
module _ (c : Caller) (s q b : List ℕ) (i : ℕ) (may : may_open (rights_on c s q (header_of b i).llid) ≡ true) where
  told_as : told_of false c s q b i ≡ Told (verdict_of (set_at c s b i) (record_of b i))
  unfolding told_of judged
  told_as = ap (λ (x : Heard ClassVerdict). x.verdict) (told_all false _ (set_at c s b i) (drift_for false c s q b i) (header_of b i) may)

  set_as : llid_of (set_at c s b i) ≡ (header_of b i).llid
  set_as =
      let l = (header_of b i).llid in
      let j = inside may_see c q (set_for c s l) see_none (open_sees _ may) in
      set_found s l 0 c.sets (omega (arith, j))

pub reads_own : (c : Caller) (s q b : List ℕ) → ReadsOwn c s q b
unfolding row_as written_for added_for opened_record record_adds
reads_own c s q b n i e h may =
    let f = found true c s q b n e in
    let r = good b n f.good in
    let told = told_as c s q b i may in
    record {
      set = set_as c s q b i may;
      verdict = told;
      row = rw told;
      octets = own_record (record_for false c s q b) b n r (record_size false c s q b n r) i h ∙ rw told;
      adds = λ g. rw told;
    }

pub few_expansions : (c : Caller) (s q b : List ℕ) → FewExpansions c s q b
unfolding expansions_for
few_expansions c s q b n e = omega (arith, (found true c s q b n e).valid.few, counts_few c s q (2 * c.sets))
