-- Laws of a block with other records in the places of its own: as long as each is as long as the one that it stands for, they stand where
-- those stood, under the same directory. Assumes nothing.
use Rattle.std.specs.Prelude.{Ok}
use mathlib.Core.Path.{◌≡◌, refl, sym, ap, ◌∙◌}
use mathlib.Core.Bool.{true}
use mathlib.Core.List.{List, ◌++◌, append_assoc, append-nil}
use Prim.Native.Nat.{ℕ, zero, suc, ◌+◌, ◌-◌, ◌*◌, ◌≤◌, ◌<◌}
use native.Mathlib.Nat.{zero-add}
use native.Mathlib.Numerals.{add-one}
use native.Mathlib.Omega.{arith}
use lib.ListN.{length, take, drop, get_or, take-append-drop, length-append}
use lib.Seq.{take-add, take_at, take-take, drop_at, drop-drop, drop-length, get_or-take, length-take-le}
use Rattle.octets.specs.BigEndian.{number_at}
use Rattle.octets.specs.Lists.{part, replaced}
use Rattle.octets.proofs.BigEndian.{number_same}
use Rattle.octets.proofs.Choice.{pick_true}
use Rattle.records.specs.Record.{sized, record_octets}
use Rattle.records.specs.Block.{records_in, offset_of, length_of, end_of, due_of, record_of, header_from, record_from}
use Rattle.directory.specs.declared.Pair.TheVariants.{Fits}
use Rattle.directory.specs.Directory.{chained, pair_of, size_fits, directory_of}
use Rattle.directory.specs.Rebuilt.{joined, rebuilt}
use Rattle.directory.proofs.Pairs.{pair_fits, due_next}
use Rattle.directory.proofs.Records.{Records, all_fit, placed, At, at_due, records_end}
use Rattle.directory.proofs.Filling.{joined_split, joined_ext, joined_behind}

-- blocks that begin with the same octets have the same directory
module _ (b d : List ℕ) (n : ℕ) (same : take (2 + 8 * n) b ≡ take (2 + 8 * n) d) where
  like_number : (k at : ℕ) → at + k ≤ 2 + 8 * n → number_at k b at ≡ number_at k d at
  like_number k at h =
      number_same k b d at at
      (λ j l.
      sym (get_or-take (2 + 8 * n) b (at + j) 0 (omega arith)) ∙ ap (λ (t : List ℕ). get_or t (at + j) 0) same
      ∙ get_or-take (2 + 8 * n) d (at + j) 0 (omega arith))

  pub like_count : records_in b ≡ records_in d
  unfolding records_in
  like_count = like_number 2 0 (omega arith)

  pub like_offset : (i : ℕ) → i < n → offset_of b i ≡ offset_of d i
  unfolding offset_of
  like_offset i h = like_number 4 (2 + 8 * i) (omega arith)

  pub like_length : (i : ℕ) → i < n → length_of b i ≡ length_of d i
  unfolding length_of
  like_length i h = like_number 4 (2 + 8 * i + 4) (omega arith)

  like_end : (i : ℕ) → i < n → end_of b i ≡ end_of d i
  unfolding end_of
  like_end i h = rw (like_offset i h, like_length i h)

  pub like_due : (i : ℕ) → i ≤ n → due_of b i ≡ due_of d i
  unfolding due_of
  like_due zero h = rw like_count
  like_due (suc i) h = like_end i (omega arith)

-- the directory and i of the records
abbrev pub up_to : (ℕ → List ℕ) → List ℕ → ℕ → List ℕ
up_to f b i = take (2 + 8 * records_in b) b ++ joined f 0 i

up_to_next : (f : ℕ → List ℕ) (b : List ℕ) (i : ℕ) → up_to f b (i + 1) ≡ up_to f b i ++ f i
up_to_next f b i = sym (joined_behind f (take (2 + 8 * records_in b) b) i)

module _ (f : ℕ → List ℕ) (b : List ℕ) (n : ℕ) (r : Records b n) (size : (i : ℕ) → i < n → length (f i) ≡ length (record_of b i)) where
  up_to_first : length (up_to f b 0) ≡ due_of b 0
  unfolding joined due_of
  up_to_first = rw append-nil (length-take-le (2 + 8 * records_in b) b r.sizes.pairs)

  up_to_length : (i : ℕ) → i ≤ n → length (up_to f b i) ≡ due_of b i
  unfolding end_of
  up_to_length zero h = up_to_first
  up_to_length (suc i) h =
      let p = placed b n i r (omega arith) in
      let w = pair_fits b i (r.fit i (omega arith)) in
      let q = up_to_length i (omega arith) in
      rw (← add-one i, up_to_next f b i, length-append, q, size i (omega arith), p.octets, ← w.place, due_next b i)

  -- ---- record by record, in an output that is a copy of the block
  pub none_rebuilt : b ≡ up_to f b 0 ++ drop (due_of b 0) b
  unfolding joined due_of
  none_rebuilt = rw append-nil (sym (take-append-drop (2 + 8 * records_in b) b))

  pub all_rebuilt : (out : List ℕ) → out ≡ up_to f b n ++ drop (due_of b n) b → out ≡ rebuilt f b
  unfolding rebuilt
  all_rebuilt out e = e ∙ rw (records_end b n r, drop-length, append-nil, ← r.count)

  module _ (out : List ℕ) (i : ℕ) (h : i < n) (done : out ≡ up_to f b i ++ drop (due_of b i) b) where
    -- from record i on the output is the block
    pub still_block : drop (due_of b i) out ≡ drop (due_of b i) b
    still_block = rw done (drop_at (up_to f b i) (drop (due_of b i) b) (due_of b i) (up_to_length i (omega arith)))

    -- one turn of a loop over the records
    pub one_rebuilt : (next : List ℕ) → next ≡ take (due_of b i) out ++ (f i ++ drop (due_of b i + record_octets (header_from b (due_of b i)).eqs) b)
        → next ≡ up_to f b (i + 1) ++ drop (due_of b (i + 1)) b
    one_rebuilt next e =
        let x = at_due b n i (due_of b i) r h refl in
        let front : take (due_of b i) out ≡ up_to f b i = rw done (take_at (up_to f b i) (drop (due_of b i) b) (due_of b i) (up_to_length i (omega arith))) in
        e ∙ rw (front, x.next, up_to_next f b i) (simp append_assoc)

  -- ---- the block that comes of it
  block_is : rebuilt f b ≡ up_to f b n
  unfolding rebuilt
  block_is = rw r.count

  pub same_octets : length (rebuilt f b) ≡ length b
  same_octets = ap length block_is ∙ up_to_length n (omega arith) ∙ records_end b n r

  -- the octets of the directory stay
  pub same_directory : take (2 + 8 * n) (rebuilt f b) ≡ take (2 + 8 * n) b
  unfolding rebuilt
  same_directory =
      rw (← r.count) (take_at (take (2 + 8 * n) b) (joined f 0 n) (2 + 8 * n) (length-take-le (2 + 8 * n) b (omega (arith, r.sizes.pairs, r.count))))

  pub same_count : records_in (rebuilt f b) ≡ records_in b
  same_count = like_count _ _ n same_directory

  module _ (i : ℕ) (h : i < n) where
    -- each record stands where the one that it stands for does
    pub own_record : part (rebuilt f b) (offset_of b i) (length_of b i) ≡ f i
    unfolding joined
    own_record =
        let w = pair_fits b i (r.fit i h) in
        let p = placed b n i r h in
        let m = n - suc i in
        let e : n ≡ i + suc m = omega arith in
        let split : rebuilt f b ≡ up_to f b i ++ (f i ++ joined f (suc i) m) =
        block_is ∙ ap (λ (k : ℕ). up_to f b k) e ∙ rw (joined_split f 0 i (suc m), zero-add) (simp append_assoc) in
        rw (split, w.place, drop_at (up_to f b i) _ (due_of b i) (up_to_length i (omega arith))) (take_at (f i) _ (length_of b i) (size i h ∙ p.octets))

    pub record_is : record_of (rebuilt f b) i ≡ f i
    unfolding record_of
    record_is = rw (like_offset _ _ n same_directory i h, like_length _ _ n same_directory i h) own_record

  -- the directory is good where each record still suits its EQs
  module _ (fits : (i : ℕ) → i < n → sized (f i) ≡ sized (record_of b i)) where
    fits_again : (i : ℕ) → i < n → pair_of (rebuilt f b) i ≡ Fits
    unfolding pair_of chained
    fits_again i h =
        let due : due_of (rebuilt f b) i ≡ due_of b i = like_due _ _ n same_directory i (omega arith) in
        rw (like_offset _ _ n same_directory i h, due, like_end _ _ n same_directory i h, same_count, same_octets, record_is i h, fits i h) (r.fit i h)

    right_again : size_fits (rebuilt f b) ≡ true
    unfolding size_fits
    right_again = rw (same_count, same_octets) r.right

    pub good_again : directory_of (rebuilt f b) ≡ Ok n
    unfolding directory_of
    good_again =
        pick_true _ _ right_again
        ∙ rw (same_count, ← r.count) (all_fit (rebuilt f b) 0 n (λ j l h. fits_again j (omega arith)) ∙ rw zero-add)

  -- rebuilt again, it is rebuilt once
  again_is : (g : ℕ → List ℕ) (c : List ℕ) → records_in c ≡ n → take (2 + 8 * n) c ≡ take (2 + 8 * n) b → rebuilt g c ≡ rebuilt g b
  unfolding rebuilt
  again_is g c k d = rw (k, d, ← r.count)

  pub rebuilt_again : (g : ℕ → List ℕ) → rebuilt g (rebuilt f b) ≡ rebuilt g b
  rebuilt_again g = again_is g (rebuilt f b) (same_count ∙ sym r.count) same_directory

---- a record in an output that is a copy of the block

-- an output that is the block from `at` on holds the record there
kept_in_place : (b out : List ℕ) (at len : ℕ) → drop at out ≡ drop at b → out ≡ take at out ++ (part b at len ++ drop (at + len) b)
kept_in_place b out at len same =
    sym (take-append-drop at out) ∙ rw same (ap (λ (t : List ℕ). take at out ++ t) (sym (take-append-drop len (drop at b)) ∙ rw (drop-drop len at b)))

pub kept_record : (b out : List ℕ) (from : ℕ) → drop from out ≡ drop from b
    → out ≡ take from out ++ (record_from b from ++ drop (from + record_octets (header_from b from).eqs) b)
unfolding record_from
kept_record b out from same = kept_in_place b out from (record_octets (header_from b from).eqs) same

-- an output that goes on as c from `at` on, with the payload of the record of `len` octets there replaced
pub payload_in_place : (out c ys : List ℕ) (at len : ℕ) → 16 ≤ len → drop at out ≡ c → length ys + 16 ≡ len
    → replaced out (at + 16) ys ≡ take at out ++ ((take 16 (take len c) ++ ys) ++ drop len c)
payload_in_place out c ys at len h same l =
    let head : take (at + 16) out ≡ take at out ++ take 16 (take len c) = take-add at 16 out ∙ rw (same, take-take 16 len c h) in
    let end : at + 16 + length ys ≡ at + len = omega arith in
    let rest : drop (length ys) (drop (at + 16) out) ≡ drop len c =
    drop-drop (length ys) (at + 16) out ∙ rw end (sym (drop-drop len at out) ∙ rw same) in
    rw (head, rest) (simp append_assoc)

---- of its own records it is itself
own_place : (b : List ℕ) (i from : ℕ) → At b i from
    → b ≡ take from b ++ (record_of b i ++ drop (from + record_octets (header_from b from).eqs) b)
own_place b i from x = kept_record b b from refl ∙ rw x.octets

own_up_to : (b : List ℕ) (n : ℕ) → Records b n → (i : ℕ) → i ≤ n → b ≡ up_to (record_of b) b i ++ drop (due_of b i) b
own_up_to b n r zero h = none_rebuilt (record_of b) b n r (λ j l. refl)
own_up_to b n r (suc i) h =
    let own = own_place b i (due_of b i) (at_due b n i (due_of b i) r (omega arith) refl) in
    rw (← add-one i) (one_rebuilt (record_of b) b n r (λ j l. refl) b i (omega arith) (own_up_to b n r i (omega arith)) b own)

pub rebuilt_self : (b : List ℕ) (n : ℕ) → Records b n → rebuilt (record_of b) b ≡ b
rebuilt_self b n r = sym (all_rebuilt (record_of b) b n r (λ j l. refl) b (own_up_to b n r n (omega arith)))

pub rebuilt_ext : (f g : ℕ → List ℕ) (b : List ℕ) → ((i : ℕ) → i < records_in b → f i ≡ g i) → rebuilt f b ≡ rebuilt g b
unfolding rebuilt
rebuilt_ext f g b h = ap (λ (t : List ℕ). take (2 + 8 * records_in b) b ++ t) (joined_ext f g 0 (records_in b) (λ k l u. h k (omega arith)))
