-- Laws of the loops over the records of a block, in both ways of reading: what a turn comes to, and all of them. Assumes nothing.
use Rattle.std.specs.Prelude.{Result, Ok, Err, Option, Some, None}
use mathlib.Core.Path.{◌≡◌, refl, ap, ◌∙◌}
use mathlib.Core.Bool.{Bool, true, false}
use mathlib.Core.List.{List}
use Prim.Native.Nat.{ℕ, zero, suc, ◌+◌, ◌<◌}
use native.Mathlib.Omega.{arith}
use lib.Dec.{eqb}
use lib.ListN.{length}
use Rattle.octets.specs.BigEndian.{six_octets}
use Rattle.octets.specs.Choice.{pick}
use Rattle.octets.specs.Output.{with_output}
use Rattle.octets.proofs.Bits.{bit_below}
use Rattle.octets.proofs.Choice.{pick_first}
use Rattle.refusal.specs.declared.Refusal.{Refusal}
use Rattle.refusal.specs.declared.Refusal.TheVariants.{OutOfRange, UnknownLlid}
use Rattle.records.specs.declared.header.Header.{Header}
use Rattle.records.specs.declared.near.Drift.{Drift}
use Rattle.records.specs.Settings.{presence_of, llid_of}
use Rattle.records.specs.Verdict.{header_fits, record_verdict, verdict_for}
use Rattle.records.specs.Near.{nearest, expected, far_verdict, heard_at, heard, judged, signed_octet}
use Rattle.records.specs.Following.{header_of, drift_at, near_verdict}
use Rattle.records.proofs.Verdicts.{openable}
use Rattle.capture.specs.declared.opening.Read.{Read}
use Rattle.rows.specs.Text.{row_of}
use Rattle.reading.specs.Opening.{expansions, open_verdict}
use Rattle.directory.specs.Rebuilt.{rebuilt}
use Rattle.directory.proofs.Records.{good}
use Rattle.directory.proofs.Filling.{joined_ext}
use Rattle.reading.specs.Verdict.{call_directory}
use Rattle.reading.specs.Reading.{drift_by, verdict_by, record_by, opening_as, opening_by, body_as, body_by}
use Rattle.reading.proofs.Opening.{call_good, found_bad, found_good, listing_found}
use Rattle.reading.proofs.Readings.{no_corrections}
use Rattle.capture.specs.Walk.{drift_walked, verdict_walked, body_walked}
use Rattle.capture.specs.Duties.{TookAll, Opens}
use Rattle.records.specs.declared.header.Access.TheVariants.{Sealed}
use Rattle.refusal.specs.Verdict.{no_refusal}

---- a record that is to be opened can be
pub opens_by : (s : List ℕ) (h : Header) (t i u : ℕ) → record_verdict (presence_of s) (llid_of s) t h ≡ Ok (Sealed i u) → t < six_octets
    → Opens s h i u
opens_by s h t i u e c =
    let o = openable (presence_of s) (llid_of s) t h i u e in
    record { fits = o.fits; present = o.present; index = omega (arith, o.index, bit_below h.flags 1); clock = omega (arith, o.clock) }

pub opens_at : (s : List ℕ) (drift : Drift) (h : Header) (c : Option ℕ) (i t : ℕ)
    → (heard_at (presence_of s) (llid_of s) drift h c).verdict ≡ Ok (Sealed i t) → Opens s h i t
unfolding heard_at far_verdict
opens_at s drift h None i t e =
    let a = pick_first (header_fits h) _ (Err OutOfRange) (Ok (Sealed i t)) (λ z. cc) e in
    let b = pick_first (eqb h.llid (llid_of s)) _ (Err UnknownLlid) (Ok (Sealed i t)) (λ z. cc) a.1 in
    let q = b.1 in
    let z : ◌≡◌ {A = ℕ} 0 1 = cc in
    absurd (omega arith)
opens_at s drift h (Some d) i t e = opens_by s h _ i t e (omega arith)

pub judged_opens : (near : Bool) (s : List ℕ) (drift : Drift) (h : Header) → h.clock < six_octets → (i t : ℕ)
    → (judged near s drift h).verdict ≡ Ok (Sealed i t) → Opens s h i t
unfolding judged heard verdict_for
judged_opens true s drift h c i t e = opens_at s drift h (nearest (expected drift h) h.epam) i t e
judged_opens false s drift h c i t e = opens_by s h h.clock i t e c

---- record i in its turn: its verdict, and the corrections behind it
pub judged_turn : (near : Bool) (s b : List ℕ) (i : ℕ) (drift : Drift) → drift ≡ drift_by near s b i
    → ((judged near s drift (header_of b i)).verdict ≡ verdict_by near s b i) × ((judged near s drift (header_of b i)).drift ≡ drift_by near s b (suc i))
unfolding judged near_verdict drift_at pick
judged_turn true s b i drift e = (rw e, rw e)
judged_turn false s b i drift e = (refl, e)

---- the walk of this reader
pub walked : (near : Bool) (s b : List ℕ) (i : ℕ) → drift_walked (judged near s) b i ≡ drift_by near s b i
unfolding drift_walked
walked near s b zero = no_corrections near s b
walked near s b (suc i) = (judged_turn near s b i _ (walked near s b i)).1

module _ (near : Bool) (s b : List ℕ) where
  pub verdict_is : (i : ℕ) → verdict_walked (judged near s) b i ≡ verdict_by near s b i
  verdict_is i = (judged_turn near s b i _ (walked near s b i)).0

  by_directory : (d : Result ℕ Refusal) → call_directory true s b ≡ d → body_walked d row_of (judged near s) b ≡ body_by near s b
  unfolding body_walked body_as
  by_directory (Ok n) e =
      let v = found_good s b (length b) n (listing_found s b ∙ e) in
      rw (v, ← (good b n (call_good true s b n e).2).count)
      (joined_ext _ _ 0 n (λ i l u. ap (row_of (i + 1) (header_of b i)) (verdict_is i)))
  by_directory (Err r) e = rw (found_bad s b (length b) r (listing_found s b ∙ e))

  -- what is listed
  pub body_is : body_walked (call_directory true s b) row_of (judged near s) b ≡ body_by near s b
  body_is = by_directory _ refl

---- what opening comes to
module _ (near : Bool) (s b out : List ℕ) where
  pub opening_good : open_verdict s b (length out) ≡ no_refusal → (o : List ℕ) (e x y : ℕ) (q : Read) → TookAll near s b q → e ≡ expansions s
      → x ≡ signed_octet q.drift.smallest → y ≡ signed_octet q.drift.largest → o ≡ rebuilt (record_by near s b) b
      → with_output (record { opened = Ok (record { count = q.work.count; runs = q.work.runs; expansions = e }); smallest = x; largest = y }) o
      ≡ opening_by near s b out
  unfolding opening_by opening_as
  opening_good v o e x y q t ee ex ey eo = rw (v, t.count, t.runs, ee, ex, ey, t.drift, eo)
