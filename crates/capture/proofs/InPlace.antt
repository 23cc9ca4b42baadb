-- Laws of opening in place: what the sealing call does for a record, and what the output has of it then. Assumes nothing.
use Rattle.std.specs.Prelude.{Ok}
use mathlib.Core.Path.{◌≡◌, refl, sym, ap, ◌∙◌}
use mathlib.Core.Bool.{true}
use mathlib.Core.List.{List, ◌++◌}
use Prim.Native.Nat.{ℕ, zero, suc, ◌+◌, ◌-◌, ◌*◌, ◌%◌, ◌^◌, ◌≤◌, ◌<◌}
use native.Mathlib.Omega.{arith}
use lib.ListN.{length, take, drop, set}
use lib.Seq.{drop-set-add, take-set-le, take-set-lt, drop-set-lt, drop-drop}
use lib.Dec.{eqb}
use borrow.Rule.Slice.PartMut.{put_mid}
use borrow.Author.Tests.{eq-eqb, le-leb, lt-ltb}
use Rattle.octets.specs.Choice.{pick}
use Rattle.octets.specs.Lists.{part, replaced}
use Rattle.octets.specs.Eqs.{max_eqs}
use Rattle.octets.proofs.Lists.{part_length, drop_part}
use Rattle.octets.proofs.Choice.{both_left, both_right, both_true, not_of_true}
use Rattle.octets.specs.Output.{WithOutput, with_output}
use Rattle.refusal.specs.declared.Refusal.TheVariants.{OutOfRange, BadLength}
use Rattle.refusal.proofs.Order.{refuse_passed}
use Rattle.envelope.specs.Acceptance.{lengths_fit, nonce_fits, seal_verdict}
use Rattle.envelope.specs.Answer.{SealAnswer, seal_count, seal_runs}
use Rattle.envelope.specs.ControlMask.{count_enciphered, runs}
use Rattle.envelope.specs.declared.Nonce.{Nonce}
use Rattle.sealing.specs.Payload.{sealed}
use Rattle.sealing.specs.Seal.{sealing}
use Rattle.cipher.specs.KeyExpansion.{key_expansion}
use Rattle.sealing.proofs.Payload.{sealed_length}
use Rattle.sealing.proofs.Seal.{sealing_done}
use Rattle.records.specs.declared.header.Header.{Header}
use Rattle.capture.specs.declared.opening.Keys.{Keys}
use Rattle.records.specs.Settings.{presence_of, key_present, key_of, mac_of}
use Rattle.records.specs.Record.{record_header, record_octets, payload_of}
use Rattle.records.specs.Block.{header_from, record_from}
use Rattle.reading.specs.Opening.{written_as, added_as}
use Rattle.records.specs.Verdict.{cleared_flags, header_fits}
use Rattle.capture.specs.Duties.{Expanded, written}
use Rattle.records.proofs.Headers.{header_taken}
use Rattle.directory.proofs.Rebuilding.{payload_in_place}
use Rattle.records.specs.declared.header.Access.TheVariants.{Sealed}
use Rattle.refusal.specs.Verdict.{no_refusal}

-- a record's payload is accepted for opening
seal_accepted : (n m : ℕ) (nonce : Nonce) → n % 9 ≡ 0 → n ≤ 65536 → m ≡ n → nonce_fits nonce ≡ true → seal_verdict n m nonce ≡ no_refusal
unfolding seal_verdict lengths_fit
seal_accepted n m nonce whole most same fits =
    refuse_passed _ BadLength _ (not_of_true (both_true (eq-eqb _ _ whole) (both_true (le-leb n (9 * max_eqs) (omega arith)) (eq-eqb _ _ same))))
    ∙ refuse_passed _ OutOfRange _ (not_of_true fits)

-- what an accepted call answers, and its output
seal_done : (w : List ℕ) (n : Nonce) (p out o : List ℕ) (a : SealAnswer) → seal_verdict (length p) (length out) n ≡ no_refusal
    → with_output a o ≡ sealing true w n p out → (a ≡ Ok (record { count = count_enciphered p; runs = runs p })) × (o ≡ sealed w n p)
seal_done w n p out o a j e =
    let q = e ∙ sym (sealing_done w n p out true refl j) in
    (ap (λ (x : WithOutput SealAnswer). x.answer) q, ap (λ (x : WithOutput SealAnswer). x.output) q)

-- what the call leaves of a part of the output, and the count that it answers
pub part_sealed : (w : List ℕ) (n : Nonce) (b out : List ℕ) (at k : ℕ) → at + k ≤ length b → length out ≡ length b → k % 9 ≡ 0 → k ≤ 65536
    → nonce_fits n ≡ true → (a : SealAnswer) (t : List ℕ) → with_output a t ≡ sealing true w n (part b at k) (part out at k)
    → (seal_count a ≡ count_enciphered (part b at k)) × (seal_runs a ≡ runs (part b at k))
    × (put_mid at k out t ≡ replaced out at (sealed w n (part b at k)))
part_sealed w n b out at k inside same whole most fits a t e =
    let p = part b at k in
    let lp = part_length b at k inside in
    let lo = part_length out at k (omega arith) in
    let d = seal_done w n p (part out at k) t a (seal_accepted (length p) (length (part out at k)) n (rw lp whole) (omega arith) (lo ∙ sym lp) fits) e in
    let l : length (sealed w n p) ≡ k = sealed_length w n p ∙ lp in
    (ap seal_count d.0, ap seal_runs d.0, rw (d.1, l))

-- an output that is the block from `at` on, with one octet of the record stored and its payload replaced
pub opened_in_place : (b out ys : List ℕ) (at len f : ℕ) → 16 ≤ len → drop at out ≡ drop at b → length ys + 16 ≡ len
    → replaced (set out (at + 4) f) (at + 16) ys ≡ take at out ++ ((take 16 (set (part b at len) 4 f) ++ ys) ++ drop (at + len) b)
opened_in_place b out ys at len f h same l =
    let stored : drop at (set out (at + 4) f) ≡ set (drop at b) 4 f = drop-set-add at out 4 f ∙ rw same in
    let front : take at (set out (at + 4) f) ≡ take at out = take-set-le at out (at + 4) f (omega arith) in
    payload_in_place (set out (at + 4) f) (set (drop at b) 4 f) ys at len h stored l
    ∙ rw (front, take-set-lt len (drop at b) 4 f (omega arith), drop-set-lt len (drop at b) 4 f (omega arith), drop-drop len at b)

module _ (s b out : List ℕ) (from : ℕ) (same : drop from out ≡ drop from b) where
  -- an output that is the block from a record on has that record opened once its flags are stored and its payload is replaced
  pub opened_by : (j t m f : ℕ) (h : Header) (w : List ℕ) (to : ℕ) → h ≡ header_from b from → to ≡ from + record_octets h.eqs
      → from + record_octets h.eqs ≤ length b → f ≡ cleared_flags h.flags → m ≡ mac_of s → w ≡ key_expansion (key_of s j)
      → ((g : List ℕ → ℕ) → g (part b (from + 16) (to - (from + 16))) ≡ added_as g (record_from b from) (Ok (Sealed j t)))
      × (replaced (set out (from + 4) f) (from + 16) (sealed w (record { channel = h.channel; mac = m; clock = t }) (part b (from + 16) (to - (from + 16))))
      ≡ written s b out from (Ok (Sealed j t)))
  unfolding written_as added_as record_from header_from payload_of
  opened_by j t m f h w to eh et inside ef em ew =
      let len = record_octets (record_header (drop from b)).eqs in
      let end : to ≡ from + len = et ∙ ap (λ (q : Header). from + record_octets q.eqs) eh in
      let head : record_header (part b from len) ≡ record_header (drop from b) = header_taken len (drop from b) (omega arith) in
      let rest : drop 16 (part b from len) ≡ part b (from + 16) (to - (from + 16)) = drop_part b from len 16 (omega arith) ∙ rw end in
      let ys = sealed w (record { channel = h.channel; mac = m; clock = t }) (part b (from + 16) (to - (from + 16))) in
      let size : length ys + 16 ≡ len =
      omega (
        arith,
        end,
        ap (λ (q : Header). q.eqs) eh,
        sealed_length w (record { channel = h.channel; mac = m; clock = t }) (part b (from + 16) (to - (from + 16))),
        part_length b (from + 16) (to - (from + 16)) (omega arith),
      ) in (
        λ g. ap g (sym rest),
        opened_in_place b out ys from len f (omega arith) same size ∙ rw (rest, head, ef, em, ew, eh),
      )

-- the key chosen for an index is that of the settings, expanded
pub key_expanded : (s : List ℕ) (keys : Keys) (j : ℕ) → Expanded s keys → key_present (presence_of s) j ≡ true → j < 2
    → (pick (eqb j 0) keys.first keys.second).octets ≡ key_expansion (key_of s j)
unfolding pick
key_expanded s keys zero x p h = x.first p
key_expanded s keys (suc zero) x p h = x.second p
key_expanded s keys (suc (suc j)) x p h = absurd (omega arith)

-- the counter blocks of an openable record are of their range
pub nonce_fits-holds : (h : Header) (m t : ℕ) → header_fits h ≡ true → m < 2 ^ 48 → t < 2 ^ 48
    → nonce_fits (record { channel = h.channel; mac = m; clock = t }) ≡ true
unfolding nonce_fits header_fits
nonce_fits-holds h m t f p q = both_true (both_left _ _ (both_right _ _ f)) (both_true (lt-ltb _ _ p) (lt-ltb _ _ q))
