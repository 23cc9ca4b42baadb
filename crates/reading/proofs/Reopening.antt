-- Laws of an opened block: its records are clear, and opened again it stays as it is. Assumes nothing.
use Rattle.std.specs.Prelude.{Ok, Err}
use mathlib.Core.Path.{◌≡◌, refl, sym, ap, ◌∙◌}
use mathlib.Core.Bool.{true, false}
use mathlib.Core.List.{List, ◌++◌}
use Prim.Native.Nat.{ℕ, zero, suc, ◌+◌, ◌*◌, ◌≤◌, ◌<◌}
use native.Mathlib.Nat.{zero-add}
use native.Mathlib.Omega.{arith}
use lib.ListN.{length, take, set, get_or, length-take, length-set, get_or-append}
use lib.Seq.{get_or-take, get_or-set_same, get_or-set_other}
use borrow.Author.Tests.{eqb-true, eq-eqb}
use Rattle.octets.specs.BigEndian.{number_at}
use Rattle.octets.specs.Bits.{bit_of, low_cleared}
use Rattle.octets.specs.Choice.{both, either, pick}
use Rattle.octets.specs.Lists.{part, sum}
use Rattle.octets.proofs.BigEndian.{number_same}
use Rattle.octets.proofs.Choice.{both_left, both_right, both_true, not_of_true}
use Rattle.octets.proofs.Lists.{sum_ext}
use Rattle.octets.specs.Output.{with_output}
use Rattle.refusal.specs.declared.Refusal.TheVariants.{BadLength}
use Rattle.refusal.specs.Order.{and_then}
use Rattle.refusal.proofs.Order.{refuse_passed}
use Rattle.cipher.specs.KeyExpansion.{key_expansion}
use Rattle.sealing.specs.Payload.{sealed}
use Rattle.records.specs.declared.header.Header.{Header}
use Rattle.octets.proofs.Bits.{bit_below}
use Rattle.envelope.specs.ControlMask.{count_enciphered, runs}
use Rattle.records.specs.Settings.{key_of, presence_of, llid_of, settings_verdict}
use Rattle.records.specs.Record.{record_header, payload_of, sized}
use Rattle.records.specs.Block.{records_in, offset_of, length_of, record_of}
use Rattle.directory.specs.Directory.{directory_of}
use Rattle.records.specs.Verdict.{enc_enabled, cleared_flags, flags_fit, header_fits, record_verdict, verdict_for, verdict_of, RecordVerdict}
use Rattle.reading.specs.Opening.{record_nonce, cleared, written_as, opened_record, record_adds, opened_from, opened_block, block_adds, expansions, open_verdict, opening}
use Rattle.reading.specs.Claims.{Opened}
use Rattle.directory.specs.Rebuilt.{joined, rebuilt}
use Rattle.directory.proofs.Records.{Records, good, header_there}
use Rattle.directory.proofs.Rebuilding.{same_octets, same_directory, same_count, own_record, record_is, good_again, rebuilt_again, rebuilt_ext}
use Rattle.records.proofs.Verdicts.{Openable, openable, by_key, is_clear}
use Rattle.reading.proofs.Opening.{opened_length, clear_record, refused_record, callable, opening_done}
use Rattle.records.specs.declared.header.Access.TheVariants.{Clear, Sealed}
use Rattle.refusal.specs.Verdict.{no_refusal}

---- an opened record is clear
with_flags : Header → ℕ → Header
with_flags h f =
    record { kind = h.kind; channel = h.channel; llid = h.llid; flags = f; epam = h.epam; clock = h.clock; eqs = h.eqs }

module _ (r ys : List ℕ) (f : ℕ) (h : 16 ≤ length r) where
  header_octet : (p : ℕ) → p < 16 → get_or (take 16 (set r 4 f) ++ ys) p 0 ≡ get_or (set r 4 f) p 0
  header_octet p l =
      get_or-append (take 16 (set r 4 f)) ys 0 p (simp (length-take, length-set) (omega arith)) ∙ get_or-take 16 (set r 4 f) p 0 l

  kept_octet : (p : ℕ) → p < 16 → (p ≡ 4 → ⊥) → get_or (take 16 (set r 4 f) ++ ys) p 0 ≡ get_or r p 0
  kept_octet p l n = header_octet p l ∙ get_or-set_other r 4 p f 0 n

  kept_number : (k at : ℕ) → at + k ≤ 16 → ((j : ℕ) → j < k → at + j ≡ 4 → ⊥)
      → number_at k (take 16 (set r 4 f) ++ ys) at ≡ number_at k r at
  kept_number k at l n = number_same k (take 16 (set r 4 f) ++ ys) r at at (λ j g. kept_octet (at + j) (omega arith) (n j g))

  flags_only : record_header (take 16 (set r 4 f) ++ ys) ≡ with_flags (record_header r) f
  unfolding record_header with_flags
  flags_only =
      rw (
        kept_octet 0 (omega arith) (λ e. omega arith),
        kept_octet 1 (omega arith) (λ e. omega arith),
        kept_number 2 2 (omega arith) (λ j g e. omega arith),
        header_octet 4 (omega arith) ∙ get_or-set_same r 4 f 0 (omega arith),
        kept_octet 5 (omega arith) (λ e. omega arith),
        kept_number 6 6 (omega arith) (λ j g e. omega arith),
        kept_number 4 12 (omega arith) (λ j g e. omega arith),
      )

none_set : flags_fit 0 ≡ true
unfolding flags_fit enc_enabled bit_of low_cleared both either pick
none_set = refl

not_enabled : enc_enabled 0 ≡ false
unfolding enc_enabled bit_of
not_enabled = refl

cleared_fits : (h : Header) → header_fits h ≡ true → header_fits (with_flags h 0) ≡ true
unfolding header_fits with_flags
cleared_fits h f = both_true (both_left _ _ f) (both_true (both_left _ _ (both_right _ _ f)) none_set)

-- the flags of a header are all that is set in their octet
no_flags : (h : Header) → header_fits h ≡ true → cleared_flags h.flags ≡ 0
unfolding header_fits flags_fit
no_flags h f = eqb-true _ _ (both_left _ _ (both_right _ _ (both_right _ _ f)))

now_clear : (presence llid t : ℕ) (h : Header) (i u : ℕ) → Openable presence llid t h i u
    → record_verdict presence llid t (with_flags h (cleared_flags h.flags)) ≡ (Ok Clear)
unfolding with_flags
now_clear presence llid t h i u o =
    rw (no_flags h o.fits)
    (sym (is_clear presence t 0 not_enabled ∙ by_key presence llid t (with_flags h 0) (cleared_fits h o.fits) o.own o.epam))

is_written : (s r : List ℕ) (i t : ℕ) → verdict_of s r ≡ Ok (Sealed i t)
    → opened_record s r ≡ take 16 (cleared r) ++ sealed (key_expansion (key_of s i)) (record_nonce s (record_header r) t) (payload_of r)
unfolding opened_record written_as
is_written s r i t e = rw e

-- an opened record is written as it is, and adds nothing
opened_once : (s r : List ℕ) (i t : ℕ) → 16 ≤ length r → verdict_of s r ≡ Ok (Sealed i t)
    → (opened_record s (opened_record s r) ≡ opened_record s r) × ((g : List ℕ → ℕ) → record_adds g s (opened_record s r) ≡ 0)
unfolding verdict_for with_flags
opened_once s r i t h e =
    let ys = sealed (key_expansion (key_of s i)) (record_nonce s (record_header r) t) (payload_of r) in
    let w : opened_record s r ≡ take 16 (cleared r) ++ ys = is_written s r i t e in
    let clear : verdict_of s (take 16 (cleared r) ++ ys) ≡ (Ok Clear) =
    ap (λ (q : Header). record_verdict (presence_of s) (llid_of s) q.clock q) (flags_only r ys (cleared_flags (record_header r).flags) h)
    ∙ now_clear (presence_of s) (llid_of s) _ (record_header r) i t (openable (presence_of s) (llid_of s) _ (record_header r) i t e) in
    let k = clear_record s (take 16 (cleared r) ++ ys) clear in
    (rw w k.0, λ g. rw w (k.1 g))

by_verdict-holds : (s r : List ℕ) (v : RecordVerdict) → 16 ≤ length r → verdict_of s r ≡ v
    → (opened_record s (opened_record s r) ≡ opened_record s r) × ((g : List ℕ → ℕ) → record_adds g s (opened_record s r) ≡ 0)
by_verdict-holds s r (Ok Clear) h e = let k = clear_record s r e in (ap (opened_record s) k.0, λ g. rw k.0 (k.1 g))
by_verdict-holds s r (Err c) h e = let k = refused_record s r c e in (ap (opened_record s) k.0, λ g. rw k.0 (k.1 g))
by_verdict-holds s r (Ok (Sealed i t)) h e = opened_once s r i t h e

record_again : (s r : List ℕ) → 16 ≤ length r
    → (opened_record s (opened_record s r) ≡ opened_record s r) × ((g : List ℕ → ℕ) → record_adds g s (opened_record s r) ≡ 0)
record_again s r h = by_verdict-holds s r (verdict_of s r) h refl

---- the opened block has the same directory
same_eqs : (s r : List ℕ) (v : RecordVerdict) → 16 ≤ length r → verdict_of s r ≡ v
    → (record_header (opened_record s r)).eqs ≡ (record_header r).eqs
unfolding with_flags
same_eqs s r (Ok Clear) h e = ap (λ (t : List ℕ). (record_header t).eqs) (clear_record s r e).0
same_eqs s r (Err c) h e = ap (λ (t : List ℕ). (record_header t).eqs) (refused_record s r c e).0
same_eqs s r (Ok (Sealed i t)) h e =
    ap (λ (w : List ℕ). (record_header w).eqs) (is_written s r i t e) ∙ ap (λ (q : Header). q.eqs) (flags_only r _ _ h)

same_sized : (s r : List ℕ) → 16 ≤ length r → sized (opened_record s r) ≡ sized r
unfolding sized
same_sized s r h = rw (opened_length s r h, same_eqs s r (verdict_of s r) h refl)

no_sum : (i n : ℕ) → sum i n (λ (j : ℕ). 0) ≡ 0
no_sum i zero = refl
no_sum i (suc n) = rw zero-add (no_sum (suc i) n)

-- the opened block is the block with each record opened
abbrev opened_in : List ℕ → List ℕ → ℕ → List ℕ
opened_in s b i = opened_record s (record_of b i)

from_is : (s b : List ℕ) (i m : ℕ) → opened_from s b i m ≡ joined (opened_in s b) i m
unfolding opened_from joined
from_is s b i zero = refl
from_is s b i (suc m) = ap (λ (t : List ℕ). opened_in s b i ++ t) (from_is s b (suc i) m)

pub opened_is : (s b : List ℕ) → opened_block s b ≡ rebuilt (opened_in s b) b
unfolding opened_block rebuilt
opened_is s b = ap (λ (t : List ℕ). take (2 + 8 * records_in b) b ++ t) (from_is s b 0 (records_in b))

module _ (s b : List ℕ) (n : ℕ) (r : Records b n) where
  sizes : (i : ℕ) → i < n → length (opened_in s b i) ≡ length (record_of b i)
  sizes i h = opened_length s (record_of b i) (header_there b n r i h)

  there : (i : ℕ) → i < n → record_of (opened_block s b) i ≡ opened_in s b i
  there i h = ap (λ (t : List ℕ). record_of t i) (opened_is s b) ∙ record_is (opened_in s b) b n r sizes i h

  opened_count : records_in (opened_block s b) ≡ records_in b
  opened_count = ap records_in (opened_is s b) ∙ same_count (opened_in s b) b n r sizes

  opened_octets : length (opened_block s b) ≡ length b
  opened_octets = ap length (opened_is s b) ∙ same_octets (opened_in s b) b n r sizes

  opened_good : directory_of (opened_block s b) ≡ Ok n
  opened_good =
      ap directory_of (opened_is s b)
      ∙ good_again (opened_in s b) b n r sizes (λ i h. same_sized s (record_of b i) (header_there b n r i h))

  block_again : opened_block s (opened_block s b) ≡ opened_block s b
  block_again =
      let f = opened_in s b in
      opened_is s (opened_block s b)
      ∙ ap (rebuilt (opened_in s (opened_block s b))) (opened_is s b)
      ∙ rebuilt_again f b n r sizes (opened_in s (opened_block s b))
      ∙ rebuilt_ext (opened_in s (opened_block s b)) f b
      (λ i h. let l : i < n = omega (arith, r.count) in ap (opened_record s) (there i l) ∙ (record_again s (record_of b i) (header_there b n r i l)).0)
      ∙ sym (opened_is s b)

  nothing_again : (g : List ℕ → ℕ) → block_adds g s (opened_block s b) ≡ 0
  unfolding block_adds
  nothing_again g =
      rw (opened_count, ← r.count)
      (sum_ext 0 n (λ j. record_adds g s (record_of (opened_block s b) j)) (λ (j : ℕ). 0)
      (λ j l h. rw (there j (omega arith)) ((record_again s (record_of b j) (header_there b n r j (omega arith))).1 g))
      ∙ no_sum 0 n)

pub accepts_again : (s b : List ℕ) (m n : ℕ) → settings_verdict s ≡ no_refusal → m ≡ length b → directory_of b ≡ Ok n
    → open_verdict s b m ≡ no_refusal
unfolding open_verdict and_then
accepts_again s b m n t e d = refuse_passed _ BadLength _ (not_of_true (eq-eqb _ _ e)) ∙ rw (t, d)

-- the claims of an accepted call
pub opened : (s b : List ℕ) (size : ℕ) → open_verdict s b size ≡ no_refusal → Opened s b
unfolding expansions
opened s b size v =
    let c = callable s b size v in
    let n = records_in b in
    let r = good b n c.good in
    let f = opened_in s b in
    record {
      directory = ap (take (2 + 8 * n)) (opened_is s b) ∙ same_directory f b n r (sizes s b n r);
      own = λ i h. ap (λ (t : List ℕ). part t (offset_of b i) (length_of b i)) (opened_is s b) ∙ own_record f b n r (sizes s b n r) i h;
      again = λ out l. again out l c.accepted r;
      few = omega (arith, bit_below (presence_of s) 0, bit_below (presence_of s) 1);
    } where
      again : (out : List ℕ) → length out ≡ length b → settings_verdict s ≡ no_refusal → Records b (records_in b)
          → opening s (opened_block s b) out ≡ with_output (Ok (record { count = 0; runs = 0; expansions = expansions s })) (opened_block s b)
      again out l t r =
          let n = records_in b in
          sym (opening_done s (opened_block s b) out
          (accepts_again s (opened_block s b) (length out) n t (l ∙ sym (opened_octets s b n r)) (opened_good s b n r)))
          ∙ rw (nothing_again s b n r count_enciphered, nothing_again s b n r runs, block_again s b n r)
