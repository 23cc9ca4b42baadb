-- Laws of the calls on a block: what acceptance tells, and that one call undoes the other. Assumes nothing.
use Rattle.std.specs.Prelude.{Ok}
use mathlib.Core.Path.{◌≡◌, refl, sym, ap, ◌∙◌}
use mathlib.Core.Bool.{true}
use mathlib.Core.List.{List}
use Prim.Native.Nat.{ℕ, ◌%◌, ◌≤◌}
use native.Mathlib.Omega.{arith}
use lib.ListN.{length, length-drop}
use borrow.Author.Tests.{eqb-true, leb-true, not-false}
use Rattle.octets.specs.Eqs.{eq_octets}
use Rattle.octets.proofs.Choice.{both_left, both_right}
use Rattle.refusal.specs.declared.Refusal.TheVariants.{BadLength}
use Rattle.refusal.proofs.Order.{refuse_accepted}
use Rattle.records.specs.Block.{records_in, record_of}
use Rattle.records.specs.Record.{header_octets, record_header, record_octets, payload_of, sized}
use Rattle.records.specs.Verdict.{verdict_of}
use Rattle.directory.specs.Directory.{directory_of}
use Rattle.reading.specs.Opening.{opened_record, record_adds, opening}
use Rattle.directory.proofs.Records.{good, counted, header_there}
use Rattle.store.specs.Calls.{store_verdict}
use Rattle.store.specs.Claims.{OpensAlike, Undone}
use Rattle.store.proofs.Payloads.{with_header, with_payload-holds, with_undone}
use Rattle.store.proofs.Blocks.{same_size, same_directory, own_record, good_again, undone_block}
use Rattle.store.proofs.Moves.{payload_in}
use Rattle.refusal.specs.Verdict.{no_refusal}

-- what acceptance of the call tells
pub record Storable (b : List ℕ) (m : ℕ) : Type 0 where
  pub size : m ≡ length b
  pub good : directory_of b ≡ Ok (records_in b)

pub storable : (b : List ℕ) (m : ℕ) → store_verdict b m ≡ no_refusal → Storable b m
unfolding store_verdict
storable b m e =
    let p = refuse_accepted _ BadLength _ e in
    record { size = eqb-true _ _ (not-false _ p.0); good = counted b (directory_of b) refl p.1 }

-- the payload of a record of the right length has whole EQs
record Whole (r : List ℕ) : Type 0 where
  header : header_octets ≤ length r
  eqs : length (payload_of r) % eq_octets ≡ 0

whole : (r : List ℕ) → sized r ≡ true → Whole r
unfolding sized payload_of
whole r e =
    let low : header_octets ≤ length r = leb-true _ _ (both_left _ _ e) in
    let same : length r ≡ record_octets (record_header r).eqs = eqb-true _ _ (both_right _ _ e) in
    record { header = low; eqs = omega (arith, length-drop header_octets r) }

-- g undoes f
module _ (f g : List ℕ → List ℕ) (keeps : (p : List ℕ) → length (f p) ≡ length p) (undo : (p : List ℕ) → length p % eq_octets ≡ 0 → g (f p)
    ≡ p) where
  alike : (s r : List ℕ) → sized r ≡ true → OpensAlike f g s r
  alike s r e =
      let w = whole r e in
      let same = with_undone f r w.header g (undo (payload_of r) w.eqs) in
      record { number = ap (verdict_of s) same; octets = ap (opened_record s) same; added = λ of. ap (record_adds of s) same }

  pub undone : (b : List ℕ) → directory_of b ≡ Ok (records_in b) → Undone f g b
  undone b e =
      let n = records_in b in
      let r = good b n e in
      let back = undone_block f g keeps b n r (λ i h. undo (payload_of (record_of b i)) (payload_in b n i r h).whole) in
      let own = own_record f keeps b n r in
      let there = header_there b n r in
      record {
        size = same_size f keeps b n r;
        directory = same_directory f keeps b n r;
        judged = good_again f keeps b n r ∙ sym e;
        own = own;
        header = λ i h. rw (own i h) (with_header f (record_of b i) (there i h));
        payload = λ i h. rw (own i h) (with_payload-holds f (record_of b i) (there i h));
        undone = back;
        opens = λ s out. ap (λ (c : List ℕ). opening s c out) back;
        alone = alike;
      }
