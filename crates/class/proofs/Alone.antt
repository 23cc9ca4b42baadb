-- Laws of one user, one set, the rights to see and to open: the class's reader is document 01's. Assumes nothing.
use Rattle.std.specs.Prelude.{Result, Ok, Err}
use mathlib.Core.Path.{◌≡◌, refl, sym, ap, ◌∙◌}
use mathlib.Core.Bool.{Bool, true, false}
use mathlib.Core.List.{List}
use Prim.Native.Nat.{ℕ, zero, suc, ◌≤◌, ◌<◌}
use native.Mathlib.Omega.{arith}
use lib.Dec.{eqb}
use lib.ListN.{length}
use lib.Seq.{take_all}
use borrow.Author.Tests.{eqb-true, eq-eqb}
use Rattle.octets.specs.Bits.{bit_of}
use Rattle.octets.specs.Choice.{both, pick}
use Rattle.octets.specs.Each.{each}
use Rattle.octets.specs.Lists.{all}
use Rattle.octets.proofs.Bits.{bit_below}
use Rattle.octets.proofs.Choice.{pick_true}
use Rattle.octets.proofs.Lists.{sum_ext}
use Rattle.refusal.specs.declared.Refusal.TheVariants.{BadLength}
use Rattle.refusal.specs.Order.{refuse_if}
use Rattle.envelope.specs.ControlMask.{count_enciphered, runs}
use Rattle.records.specs.declared.near.Drift.{Drift}
use Rattle.records.specs.Settings.{llid_of, presence_of, key_present, presence_fits, settings_verdict}
use Rattle.records.specs.Near.{judged}
use Rattle.records.specs.Block.{records_in}
use Rattle.records.specs.Following.{header_of}
use Rattle.reading.specs.Opening.{expansions, open_verdict}
use Rattle.reading.specs.Verdict.{call_directory}
use Rattle.reading.specs.Reading.{drift_by, verdict_by, record_by, adds_by, total_by, opening_as, opening_by, row_by, body_as, listing_by}
use Rattle.directory.proofs.Filling.{joined_ext}
use Rattle.directory.proofs.Rebuilding.{rebuilt_ext}
use Rattle.reading.proofs.Opening.{call_good, found_bad, found_good, listing_found}
use Rattle.reading.proofs.Readings.{no_corrections}
use Rattle.capture.proofs.Turns.{judged_turn}
use Rattle.records.proofs.Verdicts.{settings_octets-holds}
use Rattle.rights.specs.declared.judging.ClassVerdict.TheVariants.{Told}
use Rattle.records.specs.declared.near.Heard.{Heard}
use Rattle.rights.specs.declared.judging.ClassVerdict.{ClassVerdict}
use Rattle.rights.specs.Settings.{set_of, set_from, set_for, own_rights, rights_on}
use Rattle.rights.specs.Rights.{rights_fit, may_open}
use Rattle.rights.specs.Verdict.{user_fits, counts_fit, presences_fit, llids_differ, class_verdict}
use Rattle.class.specs.Reading.{set_at, heard_for, drift_for, told_of, call_for}
use Rattle.class.specs.Opening.{written_for, added_for, record_for, adds_for, total_for, is_expanded, expansions_for, opening_after, opening_for}
use Rattle.class.specs.Listing.{row_as, row_for, body_after, listing_for}
use Rattle.class.specs.Claims.{alone, alone_rights, ReadsAlone}
use Rattle.class.proofs.Readers.{told_all}
use Rattle.refusal.specs.declared.Refusal.{Refusal}

---- what the call finds
whole : (s : List ℕ) → eqb (length s) 41 ≡ true → set_of s 0 ≡ s
whole s e = take_all 41 s (omega (arith, eqb-true (length s) 41 e))

verdict_by-holds : (s : List ℕ) (v w : Bool) → eqb (length s) 41 ≡ v → presence_fits (presence_of s) ≡ w
    → class_verdict true true alone s alone_rights ≡ settings_verdict s
unfolding class_verdict user_fits counts_fit presences_fit llids_differ settings_verdict rights_fit each all both refuse_if pick set_from
verdict_by-holds s true true e f = rw (e, whole s e, f, eq-eqb (llid_of s) (llid_of s) refl)
verdict_by-holds s true false e f = rw (e, whole s e, f)
verdict_by-holds s false w e f = rw e

unsuited_alone : (s : List ℕ) → class_verdict false true alone s alone_rights ≡ Err BadLength
unfolding class_verdict user_fits both refuse_if
unsuited_alone s = refl

alone_found : (suits : Bool) (s b : List ℕ) → call_for suits alone s alone_rights b ≡ call_directory suits s b
unfolding call_for call_directory pick
alone_found true s b = rw (verdict_by-holds s (eqb (length s) 41) (presence_fits (presence_of s)) refl refl)
alone_found false s b = rw (unsuited_alone s)

---- record by record, on a block of the set's LLID alone
three_opens : may_open 3 ≡ true
unfolding may_open bit_of
three_opens = refl

module _ (near : Bool) (s b : List ℕ) (size : eqb (length s) 41 ≡ true) (own : (i : ℕ) → i < records_in b → (header_of b i).llid ≡ llid_of s) where
  alone_set : (i : ℕ) → i < records_in b → set_for alone s (header_of b i).llid ≡ 0
  unfolding set_from
  alone_set i h = pick_true _ _ (rw (whole s size) (eq-eqb _ _ (sym (own i h))))

  alone_right : (i : ℕ) → i < records_in b → may_open (rights_on alone s alone_rights (header_of b i).llid) ≡ true
  unfolding own_rights
  alone_right i h = rw (alone_set i h) three_opens

  alone_own : (i : ℕ) → i < records_in b → set_at alone s b i ≡ s
  alone_own i h = rw (alone_set i h) (whole s size)

  alone_heard : (i : ℕ) → i < records_in b → (drift : Drift)
      → heard_for near alone s alone_rights b i drift
      ≡ record { verdict = Told (judged near s drift (header_of b i)).verdict; drift = (judged near s drift (header_of b i)).drift }
  alone_heard i h drift = told_all near _ _ drift _ (alone_right i h) ∙ rw (alone_own i h)

  alone_drift : (i : ℕ) → i ≤ records_in b → drift_for near alone s alone_rights b i ≡ drift_by near s b i
  unfolding drift_for
  alone_drift zero h = no_corrections near s b
  alone_drift (suc i) h =
      ap (λ (x : Heard ClassVerdict). x.drift) (alone_heard i (omega arith) _)
      ∙ (judged_turn near s b i _ (alone_drift i (omega arith))).1

  alone_told : (i : ℕ) → i < records_in b → told_of near alone s alone_rights b i ≡ Told (verdict_by near s b i)
  unfolding told_of
  alone_told i h =
      ap (λ (x : Heard ClassVerdict). x.verdict) (alone_heard i h _) ∙ ap Told (judged_turn near s b i _ (alone_drift i (omega arith))).0

  alone_record : (i : ℕ) → i < records_in b → record_for near alone s alone_rights b i ≡ record_by near s b i
  unfolding written_for
  alone_record i h = rw (alone_told i h, alone_own i h)

  alone_total : (g : List ℕ → ℕ) → total_for near alone s alone_rights b g ≡ total_by near g s b
  unfolding total_for total_by added_for
  alone_total g = sum_ext 0 (records_in b) (adds_for near alone s alone_rights b g) (adds_by near g s b) (λ i l h. rw (alone_told i (omega arith)))

  alone_row-holds : (i : ℕ) → i < records_in b → row_for near alone s alone_rights b i ≡ row_by near s b i
  unfolding row_as
  alone_row-holds i h = rw (alone_told i h)

bit_counted : (x : ℕ) → x < 2 → pick (eqb x 1) 1 0 ≡ x
unfolding pick
bit_counted zero h = refl
bit_counted (suc zero) h = refl
bit_counted (suc (suc x)) h = absurd (omega arith)

alone_expansions : (s : List ℕ) → eqb (length s) 41 ≡ true → expansions_for alone s alone_rights ≡ expansions s
unfolding expansions_for expansions is_expanded own_rights both key_present
alone_expansions s e =
    let p = presence_of s in
    rw (three_opens, whole s e, bit_counted (bit_of p 0) (bit_below p 0), bit_counted (bit_of p 1) (bit_below p 1)) (omega arith)

---- the whole answer
alone_opened : (near : Bool) (s b out : List ℕ) (d : Result ℕ Refusal) → ((i : ℕ) → i < records_in b → (header_of b i).llid ≡ llid_of s)
    → call_directory (eqb (length out) (length b)) s b ≡ d → opening_after d near alone s alone_rights b out ≡ opening_by near s b out
unfolding opening_after opening_by opening_as
alone_opened near s b out (Ok n) own e =
    let f = call_good _ s b n e in
    let size = eq-eqb (length s) 41 (settings_octets-holds s f.1) in
    rw (
      found_good s b (length out) n e,
      alone_total near s b size own count_enciphered,
      alone_total near s b size own runs,
      alone_expansions s size,
      alone_drift near s b size own (records_in b) (omega arith),
      rebuilt_ext (record_for near alone s alone_rights b) (record_by near s b) b (alone_record near s b size own),
    )
alone_opened near s b out (Err r) own e = rw (found_bad s b (length out) r e)

alone_listed : (near : Bool) (s b : List ℕ) (d : Result ℕ Refusal) → ((i : ℕ) → i < records_in b → (header_of b i).llid ≡ llid_of s)
    → call_directory true s b ≡ d → body_after d near alone s alone_rights b ≡ body_as near s b (open_verdict s b (length b))
unfolding body_after body_as
alone_listed near s b (Ok n) own e =
    let f = call_good _ s b n e in
    let size = eq-eqb (length s) 41 (settings_octets-holds s f.1) in
    rw (found_good s b (length b) n (listing_found s b ∙ e))
    (joined_ext (row_for near alone s alone_rights b) (row_by near s b) 0 (records_in b) (λ i l h. alone_row-holds near s b size own i (omega arith)))
alone_listed near s b (Err r) own e = rw (found_bad s b (length b) r (listing_found s b ∙ e))

pub reads_alone : (near : Bool) (s b out : List ℕ) → ReadsAlone near s b out
unfolding opening_for listing_for listing_by
reads_alone near s b out own =
    record {
      opening = rw (alone_found (eqb (length out) (length b)) s b) (alone_opened near s b out _ own refl);
      listing = rw (alone_found true s b, alone_listed near s b _ own refl);
    }
