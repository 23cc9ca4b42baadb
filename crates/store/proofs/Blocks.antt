-- Laws of a block whose payloads are changed and keep their lengths: it is the block rebuilt of the changed records. Assumes nothing.
use Rattle.std.specs.Prelude.{Ok}
use mathlib.Core.Path.{◌≡◌, refl, sym, ap, ◌∙◌}
use mathlib.Core.List.{List, ◌++◌}
use Prim.Native.Nat.{ℕ, zero, suc, ◌+◌, ◌<◌}
use native.Mathlib.Omega.{arith}
use lib.ListN.{length, take, drop, length-drop}
use lib.Seq.{drop-drop}
use Rattle.octets.specs.Lists.{replaced}
use Rattle.records.specs.declared.header.Header.{Header}
use Rattle.records.specs.Block.{directory_octets, records_in, offset_of, due_of, record_of, header_from, record_from}
use Rattle.records.specs.Record.{header_octets, record_octets, payload_of}
use Rattle.directory.specs.Directory.{directory_of}
use Rattle.directory.specs.Rebuilt.{joined, rebuilt}
use Rattle.directory.proofs.Pairs.{pair_fits}
use Rattle.directory.proofs.Records.{Records, placed, header_there, at_due}
use Rattle.directory.proofs.Rebuilding.{up_to, payload_in_place, still_block, one_rebuilt, all_rebuilt, same_octets, record_is, rebuilt_again, rebuilt_ext, rebuilt_self}
use Rattle.directory.proofs.Rebuilding as Rebuilding
use Rattle.store.specs.Blocks.{with_payload, records_with, block_with}
use Rattle.store.proofs.Payloads.{with_length, with_undone, with_sized}

-- record i of b with f done to its payload
abbrev pub changed : (List ℕ → List ℕ) → List ℕ → ℕ → List ℕ
changed f b i = with_payload f (record_of b i)

records_are : (f : List ℕ → List ℕ) (b : List ℕ) (i m : ℕ) → records_with f b i m ≡ joined (changed f b) i m
unfolding records_with joined
records_are f b i zero = refl
records_are f b i (suc m) = ap (λ (t : List ℕ). changed f b i ++ t) (records_are f b (suc i) m)

block_is : (f : List ℕ → List ℕ) (b : List ℕ) → block_with f b ≡ rebuilt (changed f b) b
unfolding block_with rebuilt
block_is f b = ap (λ (t : List ℕ). take (directory_octets (records_in b)) b ++ t) (records_are f b 0 (records_in b))

module _ (f : List ℕ → List ℕ) (keeps : (p : List ℕ) → length (f p) ≡ length p) (b : List ℕ) (n : ℕ) (r : Records b n) where
  pub sizes : (i : ℕ) → i < n → length (changed f b i) ≡ length (record_of b i)
  sizes i h = with_length f (record_of b i) (header_there b n r i h) (keeps (payload_of (record_of b i)))

  pub same_size : length (block_with f b) ≡ length b
  same_size = ap length (block_is f b) ∙ same_octets (changed f b) b n r sizes

  pub same_directory : take (directory_octets n) (block_with f b) ≡ take (directory_octets n) b
  same_directory = ap (take (directory_octets n)) (block_is f b) ∙ Rebuilding.same_directory (changed f b) b n r sizes

  -- record i of the block is record i with f done to its payload
  pub own_record : (i : ℕ) → i < n → record_of (block_with f b) i ≡ changed f b i
  own_record i h = ap (λ (t : List ℕ). record_of t i) (block_is f b) ∙ record_is (changed f b) b n r sizes i h

  -- the verdict on the directory is the same
  pub good_again : directory_of (block_with f b) ≡ Ok n
  good_again =
      ap directory_of (block_is f b)
      ∙ Rebuilding.good_again (changed f b) b n r sizes
      (λ i h. with_sized f (record_of b i) (header_there b n r i h) (keeps (payload_of (record_of b i))))

  -- one turn of a loop over the records, in which the payload of record i is replaced in its place
  pub one_done : (out : List ℕ) (i : ℕ) → i < n → out ≡ up_to (changed f b) b i ++ drop (due_of b i) b
      → replaced out (offset_of b i + header_octets) (f (payload_of (record_of b i))) ≡ up_to (changed f b) b (i + 1) ++ drop (due_of b (i + 1)) b
  unfolding with_payload payload_of record_from
  one_done out i h e =
      let due = due_of b i in
      let x = at_due b n i due r h refl in
      let p = placed b n i r h in
      let len = record_octets (header_from b due).eqs in
      let ys = f (payload_of (record_of b i)) in
      let eqs = ap (λ (y : Header). y.eqs) x.header in
      let size : length ys + header_octets ≡ len =
      omega (arith, keeps (payload_of (record_of b i)), length-drop header_octets (record_of b i), p.octets, p.size, eqs) in
      let same = still_block (changed f b) b n r sizes out i h e in
      let put = payload_in_place out (drop due b) ys due len (omega arith) same size in
      let whole =
      put
      ∙ ap (λ (t : List ℕ). take due out ++ ((take header_octets t ++ ys) ++ drop len (drop due b))) x.octets
      ∙ ap (λ (t : List ℕ). take due out ++ ((take header_octets (record_of b i) ++ ys) ++ t)) (drop-drop len due b) in
      one_rebuilt (changed f b) b n r sizes out i h e _ (rw (pair_fits b i (r.fit i h)).place whole)

  -- at last it is the block with f done to every payload
  pub all_done : (out : List ℕ) → out ≡ up_to (changed f b) b n ++ drop (due_of b n) b → out ≡ block_with f b
  all_done out e = all_rebuilt (changed f b) b n r sizes out e ∙ sym (block_is f b)

-- what g undoes of every payload, it undoes of the block
pub undone_block : (f g : List ℕ → List ℕ) → ((p : List ℕ) → length (f p) ≡ length p) → (b : List ℕ) (n : ℕ) → Records b n
    → ((i : ℕ) → i < n → g (f (payload_of (record_of b i))) ≡ payload_of (record_of b i)) → block_with g (block_with f b) ≡ b
undone_block f g keeps b n r undo =
    block_is g (block_with f b)
    ∙ ap (rebuilt (changed g (block_with f b))) (block_is f b)
    ∙ rebuilt_again (changed f b) b n r (sizes f keeps b n r) (changed g (block_with f b))
    ∙ rebuilt_ext (changed g (block_with f b)) (record_of b) b
    (λ i h. let l : i < n = omega (arith, r.count) in
    ap (with_payload g) (own_record f keeps b n r i l) ∙ with_undone f (record_of b i) (header_there b n r i l) g (undo i l))
    ∙ rebuilt_self b n r
