-- The theorem: two inputs that differ only in what a user may not see have the same answer for that user. Record by record, what is hidden
-- is hidden in both, and what is seen is the same in both. Assumes nothing.
use Rattle.std.specs.Prelude.{Ok, Err}
use mathlib.Core.Path.{◌≡◌, refl, sym, ap, ap₂, ◌∙◌}
use mathlib.Core.Bool.{Bool, true, false}
use mathlib.Core.List.{List, ◌++◌}
use Prim.Native.Nat.{ℕ, zero, suc, ◌+◌, ◌*◌, ◌/◌, ◌≤◌, ◌<◌}
use native.Mathlib.Omega.{arith}
use lib.Dec.{eqb}
use lib.ListN.{length, get_or, take}
use Rattle.octets.specs.Choice.{pick}
use Rattle.octets.proofs.Choice.{either_right, both_false_left}
use Rattle.octets.proofs.Lists.{sum_ext}
use Rattle.refusal.specs.declared.Refusal.TheVariants.{BadLength}
use Rattle.envelope.specs.ControlMask.{count_enciphered, runs}
use Rattle.records.specs.declared.header.Header.{Header}
use Rattle.records.specs.declared.near.Drift.{Drift}
use Rattle.records.specs.Settings.{llid_of}
use Rattle.records.specs.Record.{record_header}
use Rattle.records.specs.Block.{records_in, due_of, record_of}
use Rattle.records.specs.Following.{header_of}
use Rattle.directory.specs.Rebuilt.{joined, rebuilt}
use Rattle.directory.proofs.Records.{Records, good, placed, records_end}
use Rattle.directory.proofs.Rebuilding.{like_count, like_length, like_due}
use Rattle.directory.proofs.Filling.{joined_ext}
use Rattle.rights.specs.declared.settings.Caller.{Caller}
use Rattle.rights.specs.declared.judging.ClassVerdict.{ClassVerdict}
use Rattle.rights.specs.declared.judging.ClassVerdict.TheVariants.{Hidden}
use Rattle.records.specs.declared.near.Heard.{Heard}
use Rattle.rights.specs.Settings.{set_of, set_from, set_for, own_rights, rights_on}
use Rattle.rights.specs.Rights.{may_open, may_see}
use Rattle.rights.specs.Judging.{judged_for}
use Rattle.rights.proofs.Accepting.{inside}
use Rattle.class.specs.Reading.{set_at, heard_for, drift_for, told_of}
use Rattle.class.specs.Opening.{hidden_record, written_for, added_for, record_for, adds_for, total_for, is_expanded, expansions_for, opening_after, opening_for}
use Rattle.class.specs.Listing.{row_as, row_for, body_after, listing_for}
use Rattle.class.specs.Secrecy.{Alike, Secret}
use Rattle.class.proofs.Turns.{see_none}
use Rattle.class.proofs.Calls.{found, call_suits}

-- the set of an LLID goes by the LLIDs alone
set_same : (s t : List ℕ) (l j m : ℕ) → ((k : ℕ) → j ≤ k → k < j + m → llid_of (set_of s k) ≡ llid_of (set_of t k))
    → set_from s l j m ≡ set_from t l j m
unfolding set_from
set_same s t l j zero h = refl
set_same s t l j (suc m) h =
    ap₂ (λ (x y : ℕ). pick (eqb x l) j y) (h j (omega arith) (omega arith)) (set_same s t l (suc j) m (λ k a b. h k (omega arith) (omega arith)))

pub open_sees : (q : ℕ) → may_open q ≡ true → may_see q ≡ true
unfolding may_see
open_sees q e = either_right _ e

hidden_by : (near : Bool) (q : ℕ) (s : List ℕ) (drift : Drift) (h : Header) → may_see q ≡ false
    → judged_for near q s drift h ≡ record { verdict = Hidden; drift = drift }
unfolding judged_for pick
hidden_by near q s drift h e = rw e

module _ (near : Bool) (c : Caller) (s q b t p d : List ℕ) (a : Alike c s q b t p d) (n : ℕ) (r : Records b n) (m : ℕ) (u : Records d m) where
  -- ---- the directory
  begin : take (2 + 8 * n) b ≡ take (2 + 8 * n) d
  begin = rw r.count a.directory

  same_count : records_in b ≡ records_in d
  same_count = like_count b d n begin

  same_n : n ≡ m
  same_n = r.count ∙ same_count ∙ sym u.count

  same_octets : length b ≡ length d
  same_octets = sym (records_end b n r) ∙ like_due b d n begin n (omega arith) ∙ ap (due_of d) same_n ∙ records_end d m u

  -- ---- the settings
  same_set : (l : ℕ) → set_for c s l ≡ set_for c t l
  same_set l = set_same s t l 0 c.sets (λ k x h. a.llids k (omega arith))

  same_right : (l : ℕ) → rights_on c s q l ≡ rights_on c t p l
  same_right l = ap₂ (λ (x : List ℕ) (j : ℕ). get_or x j 0) a.own (same_set l)

  -- ---- record i
  module _ (i : ℕ) (h : i < n) where
    abbrev right : ℕ
    right = rights_on c s q (header_of b i).llid

    -- the right on it is the same in both
    right_at : right ≡ rights_on c t p (header_of d i).llid
    right_at = same_right (header_of b i).llid ∙ ap (rights_on c t p) (a.headers i (rw (← r.count) h))

    -- one that may be seen is the same, and so is its set
    seen_record : may_see right ≡ true → record_of b i ≡ record_of d i
    seen_record e = a.records i (rw (← r.count) h) e

    seen_set : may_see right ≡ true → set_at c s b i ≡ set_at c t d i
    seen_set e =
        let l = (header_of b i).llid in
        let j = inside may_see c q (set_for c s l) see_none e in
        a.sets (set_for c s l) j e ∙ ap (set_of t) (same_set l ∙ ap (λ (x : List ℕ). set_for c t (record_header x).llid) (seen_record e))

    -- one that may not is as long
    same_eqs : (header_of b i).eqs ≡ (header_of d i).eqs
    same_eqs = omega (arith, (placed b n i r h).size, (placed d m i u (omega (arith, same_n))).size, like_length b d n begin i h)

    heard_by : (drift : Drift) (v : Bool) → may_see right ≡ v → heard_for near c s q b i drift ≡ heard_for near c t p d i drift
    heard_by drift true e = rw (right_at, seen_set e, seen_record e)
    heard_by drift false e = hidden_by near _ _ drift _ e ∙ sym (hidden_by near _ _ drift _ (sym (ap may_see right_at) ∙ e))

  -- ---- record by record
  same_drift : (i : ℕ) → i ≤ n → drift_for near c s q b i ≡ drift_for near c t p d i
  unfolding drift_for
  same_drift zero h = refl
  same_drift (suc i) h =
      ap (λ (x : Heard ClassVerdict). x.drift)
      (heard_by i (omega arith) (drift_for near c s q b i) _ refl ∙ ap (heard_for near c t p d i) (same_drift i (omega arith)))

  same_told : (i : ℕ) → i < n → told_of near c s q b i ≡ told_of near c t p d i
  unfolding told_of
  same_told i h =
      ap (λ (x : Heard ClassVerdict). x.verdict)
      (heard_by i h (drift_for near c s q b i) _ refl ∙ ap (heard_for near c t p d i) (same_drift i (omega arith)))

  hidden_told : (i : ℕ) → may_see (rights_on c s q (header_of b i).llid) ≡ false → told_of near c s q b i ≡ Hidden
  unfolding told_of
  hidden_told i e = ap (λ (x : Heard ClassVerdict). x.verdict) (hidden_by near _ _ _ _ e)

  -- what goes by a record's set, its octets and what is told of it is the same, if it is for a hidden one
  module _ {A : Type 0} (f : List ℕ → List ℕ → ClassVerdict → A) (i : ℕ) (h : i < n)
      (hidden : f (set_at c s b i) (record_of b i) Hidden ≡ f (set_at c t d i) (record_of d i) Hidden) where
    same_by : (v : Bool) → may_see (rights_on c s q (header_of b i).llid) ≡ v
        → f (set_at c s b i) (record_of b i) (told_of near c s q b i) ≡ f (set_at c t d i) (record_of d i) (told_of near c t p d i)
    same_by true e = rw (same_told i h, seen_set i h e, seen_record i h e)
    same_by false e = rw (← same_told i h, hidden_told i e) hidden

  same_record : (i : ℕ) → i < n → record_for near c s q b i ≡ record_for near c t p d i
  unfolding written_for
  same_record i h = same_by written_for i h (ap hidden_record (same_eqs i h)) _ refl

  same_total : (g : List ℕ → ℕ) → total_for near c s q b g ≡ total_for near c t p d g
  unfolding total_for added_for
  same_total g =
      rw (← same_count)
      (sum_ext 0 (records_in b) (adds_for near c s q b g) (adds_for near c t p d g)
      (λ i l h. same_by (λ x. added_for g) i (omega (arith, r.count)) refl _ refl))

  same_row : (i : ℕ) → i < n → row_for near c s q b i ≡ row_for near c t p d i
  unfolding row_as
  same_row i h = same_by (λ x y. row_as (i + 1) (record_header y)) i h refl _ refl

  -- ---- the keys
  expanded_by : (k : ℕ) → k / 2 < c.sets → (v : Bool) → may_open (get_or (own_rights c q) (k / 2) 0) ≡ v
      → is_expanded c s q k ≡ is_expanded c t p k
  unfolding is_expanded
  expanded_by k h true e = rw (← a.own, a.sets (k / 2) h (open_sees _ e))
  expanded_by k h false e = both_false_left _ e ∙ sym (both_false_left _ (sym (ap (λ (x : List ℕ). may_open (get_or x (k / 2) 0)) a.own) ∙ e))

  same_expansions : expansions_for c s q ≡ expansions_for c t p
  unfolding expansions_for
  same_expansions =
      sum_ext 0 (2 * c.sets) (λ k. pick (is_expanded c s q k) 1 0) (λ k. pick (is_expanded c t p k) 1 0)
      (λ k l h. ap (λ (x : Bool). pick x 1 0) (expanded_by k (omega arith) _ refl))

  -- ---- the whole answer
  same_block : rebuilt (record_for near c s q b) b ≡ rebuilt (record_for near c t p d) d
  unfolding rebuilt
  same_block =
      ap₂ (λ (x y : List ℕ). x ++ y) (a.directory ∙ ap (λ (k : ℕ). take (2 + 8 * k) d) same_count)
      (joined_ext (record_for near c s q b) (record_for near c t p d) 0 (records_in b) (λ i l h. same_record i (omega (arith, r.count)))
      ∙ ap (joined (record_for near c t p d) 0) same_count)

  same_rows : joined (row_for near c s q b) 0 (records_in b) ≡ joined (row_for near c t p d) 0 (records_in d)
  same_rows =
      joined_ext (row_for near c s q b) (row_for near c t p d) 0 (records_in b) (λ i l h. same_row i (omega (arith, r.count)))
      ∙ ap (joined (row_for near c t p d) 0) same_count

  last_drift : drift_for near c s q b (records_in b) ≡ drift_for near c t p d (records_in d)
  last_drift = same_drift (records_in b) (omega (arith, r.count)) ∙ ap (drift_for near c t p d) same_count

  same_opening_by : (suits : Bool) (out : List ℕ) (x y : ℕ)
      → opening_after (pick suits (Ok x) (Err BadLength)) near c s q b out ≡ opening_after (pick suits (Ok y) (Err BadLength)) near c t p d out
  unfolding opening_after pick
  same_opening_by true out x y = rw (same_total count_enciphered, same_total runs, same_expansions, last_drift, same_block)
  same_opening_by false out x y = refl

pub secret : (near : Bool) (c : Caller) (s q b out : List ℕ) → Secret near c s q b out
unfolding opening_for listing_for body_after
secret near c s q b out t p d x y e f a =
    let g = found true c s q b x e in
    let h = found true c t p d y f in
    let r = good b x g.good in
    let u = good d y h.good in
    let octets = same_octets near c s q b t p d a x r y u in
    record {
      opening = rw (← octets, call_suits (eqb (length out) (length b)) c s q b x e, call_suits (eqb (length out) (length b)) c t p d y f)
          (same_opening_by near c s q b t p d a x r y u (eqb (length out) (length b)) out x y);
      listing = rw (e, f, same_rows near c s q b t p d a x r y u);
    }
