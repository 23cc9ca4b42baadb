-- Laws of the records in their turn: what a user is told of each, and what that takes. Assumes nothing.
use Rattle.std.specs.Prelude.{Result, Ok, Err}
use mathlib.Core.Path.{◌≡◌, refl, sym, ap, ◌∙◌}
use mathlib.Core.Bool.{Bool, true, false}
use mathlib.Core.List.{List}
use Prim.Native.Nat.{ℕ, zero, suc, ◌+◌, ◌*◌, ◌/◌, ◌%◌, ◌≤◌, ◌<◌}
use native.Mathlib.Omega.{arith}
use lib.Dec.{eqb}
use lib.ListN.{length, get_or}
use Rattle.octets.specs.BigEndian.{six_octets}
use Rattle.octets.specs.Bits.{bit_of}
use Rattle.octets.specs.Choice.{either, pick}
use Rattle.octets.proofs.Choice.{both_true}
use Rattle.refusal.specs.Number.{number_of}
use Rattle.cipher.specs.KeyExpansion.{key_expansion}
use Rattle.records.specs.declared.header.Header.{Header}
use Rattle.records.specs.declared.near.Drift.{Drift}
use Rattle.records.specs.Settings.{presence_of, key_present, key_of}
use Rattle.records.specs.Record.{record_octets, record_header}
use Rattle.records.specs.Near.{judged}
use Rattle.records.specs.Block.{most_octets, record_of, header_from}
use Rattle.records.specs.Following.{header_of}
use Rattle.refusal.specs.declared.Refusal.{Refusal}
use Rattle.directory.proofs.Records.{Records, good, placed, record_below}
use Rattle.directory.proofs.Filling.{joined_ext}
use Rattle.capture.specs.Walk.{drift_walked, verdict_walked, body_walked}
use Rattle.reading.proofs.Opening.{added_below, written_length}
use Rattle.capture.proofs.Turns.{judged_opens}
use Rattle.rights.specs.declared.settings.Caller.{Caller}
use Rattle.rights.specs.declared.judging.ClassVerdict.{ClassVerdict}
use Rattle.rights.specs.declared.judging.ClassVerdict.TheVariants.{Hidden, Seen, Told}
use Rattle.records.specs.declared.near.Heard.{Heard}
use Rattle.rights.specs.Settings.{set_of, set_for, own_rights, rights_on}
use Rattle.rights.specs.Rights.{may_open, may_see}
use Rattle.rights.specs.Judging.{seen_as, told_to, judged_for}
use Rattle.rights.proofs.Accepting.{inside}
use Rattle.class.specs.Reading.{judged_in, heard_for, drift_for, told_of, call_for}
use Rattle.class.specs.Listing.{row_as, body_after, body_for}
use Rattle.class.proofs.Calls.{found}
use Rattle.class.specs.Opening.{written_for, added_for, record_for, adds_for, is_expanded}
use Rattle.class.specs.Duties.{expanded_at, Expanded, SettledFor}
use Rattle.class.proofs.Placing.{hidden_length}
use Rattle.records.specs.Verdict.{RecordVerdict}
use Rattle.records.specs.declared.header.Access.TheVariants.{Clear, Sealed}

---- what is told is what may be seen, and what is opened is what may be opened
told_by : (t : Bool) (v : ClassVerdict) (d e : Drift) (w : RecordVerdict)
    → (pick {A = Heard ClassVerdict} t (record { verdict = v; drift = d }) (record { verdict = Hidden; drift = e })).verdict ≡ Told w
    → (t ≡ true) × (v ≡ Told w)
unfolding pick
told_by true v d e w f = (refl, f)
told_by false v d e w f = let z : ◌≡◌ {A = ℕ} 0 1 = cc in absurd (omega arith)

seen_not : (v : RecordVerdict) (i t : ℕ) → seen_as v ≡ Told (Ok (Sealed i t)) → ⊥
unfolding seen_as pick
seen_not (Ok Clear) i t e = let z : ◌≡◌ {A = ℕ} 0 1 = cc in omega arith
seen_not (Ok (Sealed j u)) i t e = let z : ◌≡◌ {A = ℕ} 0 1 = cc in omega arith
seen_not (Err r) i t e = by_number (eqb (number_of r) 9) e where
  by_number : (n : Bool) → pick n Seen (Told (Err r)) ≡ Told (Ok (Sealed i t)) → ⊥
  by_number true f = let z : ◌≡◌ {A = ℕ} 0 1 = cc in omega arith
  by_number false f = let z : ◌≡◌ {A = ℕ} 0 1 = cc in omega arith

opened_by_right : (t : Bool) (v : RecordVerdict) (i u : ℕ) → pick t (Told v) (seen_as v) ≡ Told (Ok (Sealed i u))
    → (t ≡ true) × (v ≡ Ok (Sealed i u))
unfolding pick
opened_by_right true v i u e = (refl, cc)
opened_by_right false v i u e = absurd (seen_not v i u e)

module _ (near : Bool) (q : ℕ) (s : List ℕ) (drift : Drift) (h : Header) where
  pub told_seen : (w : RecordVerdict) → (judged_for near q s drift h).verdict ≡ Told w → may_see q ≡ true
  unfolding judged_for
  told_seen w e = (told_by (may_see q) _ _ drift w e).0

  pub told_sealed : (i t : ℕ) → (judged_for near q s drift h).verdict ≡ Told (Ok (Sealed i t))
      → (may_open q ≡ true) × ((judged near s drift h).verdict ≡ Ok (Sealed i t))
  unfolding judged_for told_to
  told_sealed i t e = opened_by_right (may_open q) _ i t (told_by (may_see q) _ _ drift (Ok (Sealed i t)) e).1

-- an octet of 0 gives no right
pub see_none : may_see 0 ≡ false
unfolding may_see may_open bit_of either
see_none = refl

---- a record that is to be opened can be, with a key that is expanded
expanded_key : (c : Caller) (s q keys : List ℕ) (j i : ℕ) → Expanded c s q keys (2 * c.sets) → j < c.sets → i < 2
    → may_open (get_or (own_rights c q) j 0) ≡ true → key_present (presence_of (set_of s j)) i ≡ true
    → expanded_at keys (2 * j + i) ≡ key_expansion (key_of (set_of s j) i)
unfolding is_expanded
expanded_key c s q keys j i x hj hi may present =
    let k : (2 * j + i) / 2 ≡ j = omega arith in
    let m : (2 * j + i) % 2 ≡ i = omega arith in
    x.there (2 * j + i) (omega arith) (rw (k, m) (both_true may present)) ∙ rw (k, m)

pub settled : (near : Bool) (c : Caller) (s q keys b : List ℕ) (from : ℕ) (drift : Drift) (h : Header) (v : ClassVerdict)
    → v ≡ (judged_in near c s q drift h).verdict → h ≡ header_from b from → h.clock < six_octets
    → Expanded c s q keys (2 * c.sets) → c.sets ≤ 16 → SettledFor c s keys b from h v
settled near c s q keys b from drift h v e eh clock x few =
    let j = set_for c s h.llid in
    let right = rights_on c s q h.llid in
    let place : (w : RecordVerdict) → v ≡ Told w → j < c.sets =
    λ w f. inside may_see c q j see_none (told_seen near right (set_of s j) drift h w (sym e ∙ f)) in
    let sealed : (w : RecordVerdict) → v ≡ Told w → (i t : ℕ) → w ≡ Ok (Sealed i t)
    → (may_open right ≡ true) × ((judged near (set_of s j) drift h).verdict ≡ Ok (Sealed i t)) =
    λ w f i t g. told_sealed near right (set_of s j) drift h i t (sym e ∙ f ∙ ap Told g) in
    record {
      header = eh;
      told = λ w f. record {
        header = eh;
        opens = λ i t g. judged_opens near (set_of s j) drift h clock i t (sealed w f i t g).1;
        key = λ i t g.
            let o = judged_opens near (set_of s j) drift h clock i t (sealed w f i t g).1 in
            expanded_key c s q keys j i x (place w f) o.index (sealed w f i t g).0 o.present;
      };
      set = λ w f. omega (arith, place w f);
    }

---- the walk of the user who asks
pub walked : (near : Bool) (c : Caller) (s q b : List ℕ) (i : ℕ) → drift_walked (judged_in near c s q) b i ≡ drift_for near c s q b i
unfolding drift_walked drift_for
walked near c s q b zero = refl
walked near c s q b (suc i) = ap (λ (d : Drift). (heard_for near c s q b i d).drift) (walked near c s q b i)

module _ (near : Bool) (c : Caller) (s q b : List ℕ) where
  pub told_is : (i : ℕ) → verdict_walked (judged_in near c s q) b i ≡ told_of near c s q b i
  unfolding told_of
  told_is i = ap (λ (d : Drift). (heard_for near c s q b i d).verdict) (walked near c s q b i)

  by_directory : (d : Result ℕ Refusal) → call_for true c s q b ≡ d → body_walked d row_as (judged_in near c s q) b ≡ body_for near c s q b
  unfolding body_walked body_after
  by_directory (Ok n) e =
      rw (e, ← (good b n (found true c s q b n e).good).count)
      (joined_ext _ _ 0 n (λ i l u. ap (row_as (i + 1) (header_of b i)) (told_is i)))
  by_directory (Err r) e = rw e

  -- what is listed
  pub body_is : body_walked (call_for true c s q b) row_as (judged_in near c s q) b ≡ body_for near c s q b
  body_is = by_directory _ refl

module _ (near : Bool) (c : Caller) (s q b : List ℕ) (n : ℕ) (r : Records b n) where
  written_for_length : (t x : List ℕ) (v : ClassVerdict) → 16 ≤ length x → length x ≡ record_octets (record_header x).eqs
      → length (written_for t x v) ≡ length x
  unfolding written_for
  written_for_length t x Hidden h e = hidden_length _ ∙ sym e
  written_for_length t x Seen h e = refl
  written_for_length t x (Told v) h e = written_length t x v h

  pub record_size : (i : ℕ) → i < n → length (record_for near c s q b i) ≡ length (record_of b i)
  record_size i h =
      let p = placed b n i r h in
      written_for_length _ (record_of b i) _ (omega (arith, p.octets, p.size)) (p.octets ∙ p.size)

module _ (g : List ℕ → ℕ) (few : (p : List ℕ) → g p ≤ length p) where
  added_for_below : (x : List ℕ) (v : ClassVerdict) → added_for g x v ≤ length x
  unfolding added_for
  added_for_below x Hidden = omega arith
  added_for_below x Seen = omega arith
  added_for_below x (Told v) = added_below g few x v

  pub adds_few : (near : Bool) (c : Caller) (s q b : List ℕ) (i : ℕ) → length b ≤ most_octets → adds_for near c s q b g i ≤ most_octets
  adds_few near c s q b i h = omega (arith, added_for_below (record_of b i) (told_of near c s q b i), record_below b i h)
