-- Laws of trimming: the first m records of a block, whose pairs keep both rules, make a whole block. The rebuilt directory is read back
-- pair by pair, a pair being eight octets, and the records behind it by their lengths. Assumes nothing.
use Rattle.std.specs.Prelude.{Ok}
use mathlib.Core.Path.{◌≡◌, refl, sym, ap, ◌∙◌}
use mathlib.Core.Bool.{Bool, true, false, not}
use mathlib.Core.List.{List, ◌++◌}
use Prim.Native.Nat.{ℕ, zero, suc, ◌+◌, ◌-◌, ◌*◌, ◌/◌, ◌%◌, ◌^◌, ◌≤◌, ◌<◌}
use native.Mathlib.Nat.{zero-add, add-zero}
use native.Mathlib.Numerals.{add-one}
use native.Mathlib.Omega.{arith}
use lib.Dec.{eqb}
use lib.ListN.{length, drop, get_or, length-append}
use lib.Seq.{drop-drop, drop_at, take_at, get_or-drop}
use borrow.Author.Tests.{le-leb, eq-eqb, eqb-true}
use Rattle.octets.specs.BigEndian.{number_at, octets_of}
use Rattle.octets.specs.Choice.{either}
use Rattle.octets.proofs.BigEndian.{number_same}
use Rattle.octets.proofs.Choice.{both_true, pick_true}
use Rattle.octets.proofs.Lists.{part_length}
use Rattle.records.specs.Place.{end_fits}
use Rattle.directory.specs.declared.Pair.TheVariants.{Fits}
use Rattle.records.specs.Block.{most_octets, most_records, directory_octets, records_in, offset_of, length_of, end_of, due_of, record_of}
use Rattle.directory.specs.Directory.{chained, pair_of, size_fits, directory_of}
use Rattle.directory.specs.Broken.{Keeps, start_of, pairs_rebuilt, records_from, trimmed}
use Rattle.directory.proofs.Pairs.{Sizes, size_fits-holds, Within, pair_fits, is_fit}
use Rattle.directory.proofs.Records.{all_fit}

---- numbers read back

-- a number p places into what is left when a octets are dropped
number_dropped : (k : ℕ) (s : List ℕ) (a p : ℕ) → number_at k s (a + p) ≡ number_at k (drop a s) p
number_dropped k s a p =
    number_same k s (drop a s) (a + p) p
    (λ j h. let e : a + p + j ≡ a + (p + j) = omega arith in ap (λ (x : ℕ). get_or s x 0) e ∙ sym (get_or-drop a s (p + j) 0))

two_back : (n : ℕ) (rest : List ℕ) → n < 65536 → number_at 2 (octets_of 2 n ++ rest) 0 ≡ n
two_back n rest h = omega arith

-- the first of four octets is 0 where the number is no more than the octets of a block
four : (n : ℕ) → n ≤ 65536 → (((0 * 256 + n / 256 ^ 3 % 256) * 256 + n / 256 ^ 2 % 256) * 256 + n / 256 ^ 1 % 256) * 256 + n / 256 ^ 0 % 256 ≡ n
four n h =
    let first : n / 256 ^ 3 % 256 ≡ 0 = omega arith in
    let second : n / 256 ^ 2 % 256 ≡ n / 65536 = omega arith in
    let low : n % 65536 ≡ n / 256 ^ 1 % 256 * 256 + n / 256 ^ 0 % 256 = omega arith in
    rw (first, second) (omega (arith, low))

four_back : (n : ℕ) (rest : List ℕ) → n ≤ 65536 → number_at 4 (octets_of 4 n ++ rest) 0 ≡ n
four_back n rest h = four n h

four_behind : (m n : ℕ) (rest : List ℕ) → n ≤ 65536 → number_at 4 (octets_of 4 m ++ (octets_of 4 n ++ rest)) 4 ≡ n
four_behind m n rest h = four n h

---- tests

ends_by : (last : Bool) (end size : ℕ) → end ≤ size → (last ≡ true → end ≡ size) → end_fits last end size ≡ true
unfolding end_fits
ends_by true end size h e = eq-eqb end size (e refl)
ends_by false end size h e = le-leb end size h

alone_by : (t : Bool) (n l : ℕ) → eqb n 0 ≡ t → (n ≡ 0 → l ≡ 2) → either (not (eqb n 0)) (eqb l 2) ≡ true
unfolding either
alone_by true n l e h = rw (e, eq-eqb l 2 (h (eqb-true n 0 e)))
alone_by false n l e h = rw e

---- the rebuilt directory

-- the pairs from pair i on
pairs_at : (b z : List ℕ) (m i : ℕ) → i ≤ m → drop (8 * i) (pairs_rebuilt b m 0 m ++ z) ≡ pairs_rebuilt b m i (m - i) ++ z
unfolding pairs_rebuilt
pairs_at b z m zero h = let e : m - 0 ≡ m = omega arith in rw e
pairs_at b z m (suc i) h =
    let e : 8 * suc i ≡ 8 * i + 8 = omega arith in
    let f : m - i ≡ suc (m - suc i) = omega arith in
    ap (λ (k : ℕ). drop k (pairs_rebuilt b m 0 m ++ z)) e
    ∙ sym (drop-drop 8 (8 * i) (pairs_rebuilt b m 0 m ++ z))
    ∙ ap (λ (l : List ℕ). drop 8 l) (pairs_at b z m i (omega arith) ∙ ap (λ (k : ℕ). pairs_rebuilt b m i k ++ z) f)

pairs_length : (b : List ℕ) (m i j : ℕ) → length (pairs_rebuilt b m i j) ≡ 8 * j
unfolding pairs_rebuilt
pairs_length b m i zero = refl
pairs_length b m i (suc j) = omega (arith, pairs_length b m (suc i) j)

module _ (b : List ℕ) (m : ℕ) (k : Keeps b m) (few : m ≤ records_in b) where
  sizes : Sizes b
  sizes = size_fits-holds b k.bounds

  -- what the pair of record i says of it
  within : (i : ℕ) → i < m → Within b i
  within i h = pair_fits b i (is_fit b i (k.chain i h) (k.lengths i h))

  record_length : (i : ℕ) → i < m → length (record_of b i) ≡ length_of b i
  unfolding record_of end_of
  record_length i h = part_length b (offset_of b i) (length_of b i) (within i h).inside

  -- a record starts in the trimmed block as many octets earlier as its directory is shorter
  earlier : (i : ℕ) → i ≤ m → start_of b m i + 8 * records_in b ≡ due_of b i + 8 * m
  unfolding start_of due_of end_of
  earlier zero h = omega arith
  earlier (suc i) h = omega (arith, earlier i (omega arith), (within i (omega arith)).place)

  due_inside : (i : ℕ) → i ≤ m → due_of b i ≤ length b
  unfolding due_of
  due_inside zero h = sizes.pairs
  due_inside (suc i) h = (within i (omega arith)).inside

  start_below : (i : ℕ) → i ≤ m → start_of b m i ≤ most_octets
  start_below i h = omega (arith, earlier i h, due_inside i h, sizes.most)

  length_below : (i : ℕ) → i < m → length_of b i ≤ most_octets
  unfolding end_of
  length_below i h = omega (arith, (within i h).inside, sizes.most)

  count_back : records_in (trimmed b m) ≡ m
  unfolding records_in trimmed
  count_back = two_back m (pairs_rebuilt b m 0 m ++ records_from b 0 m) (omega (arith, sizes.few))

  -- the pairs from pair i on, and the records
  from_pair : (i : ℕ) → i ≤ m → drop (directory_octets i) (trimmed b m) ≡ pairs_rebuilt b m i (m - i) ++ records_from b 0 m
  unfolding trimmed
  from_pair i h = sym (drop-drop (8 * i) 2 (trimmed b m)) ∙ pairs_at b (records_from b 0 m) m i h

  one_pair : (i : ℕ) → i < m
      → drop (directory_octets i) (trimmed b m)
      ≡ octets_of 4 (start_of b m i) ++ (octets_of 4 (length_of b i) ++ (pairs_rebuilt b m (suc i) (m - suc i) ++ records_from b 0 m))
  unfolding pairs_rebuilt
  one_pair i h =
      let f : m - i ≡ suc (m - suc i) = omega arith in
      from_pair i (omega arith) ∙ ap (λ (j : ℕ). pairs_rebuilt b m i j ++ records_from b 0 m) f

  offset_back : (i : ℕ) → i < m → offset_of (trimmed b m) i ≡ start_of b m i
  unfolding offset_of
  offset_back i h =
      ap (λ (a : ℕ). number_at 4 (trimmed b m) a) (sym (add-zero (directory_octets i)))
      ∙ number_dropped 4 (trimmed b m) (directory_octets i) 0
      ∙ ap (λ (s : List ℕ). number_at 4 s 0) (one_pair i h)
      ∙ four_back (start_of b m i) (octets_of 4 (length_of b i) ++ (pairs_rebuilt b m (suc i) (m - suc i) ++ records_from b 0 m))
      (start_below i (omega arith))

  length_back : (i : ℕ) → i < m → length_of (trimmed b m) i ≡ length_of b i
  unfolding length_of
  length_back i h =
      number_dropped 4 (trimmed b m) (directory_octets i) 4
      ∙ ap (λ (s : List ℕ). number_at 4 s 4) (one_pair i h)
      ∙ four_behind (start_of b m i) (length_of b i) (pairs_rebuilt b m (suc i) (m - suc i) ++ records_from b 0 m) (length_below i h)

  -- the records from record i on
  from_record : (i : ℕ) → i ≤ m → drop (start_of b m i) (trimmed b m) ≡ records_from b i (m - i)
  unfolding start_of records_from pairs_rebuilt
  from_record zero h =
      let e : m - m ≡ 0 = omega arith in
      let f : m ≡ m - 0 = omega arith in
      from_pair m (omega arith) ∙ ap (λ (j : ℕ). pairs_rebuilt b m m j ++ records_from b 0 m) e ∙ ap (λ (j : ℕ). records_from b 0 j) f
  from_record (suc i) h =
      let f : m - i ≡ suc (m - suc i) = omega arith in
      sym (drop-drop (length_of b i) (start_of b m i) (trimmed b m))
      ∙ ap (λ (l : List ℕ). drop (length_of b i) l) (from_record i (omega arith) ∙ ap (λ (j : ℕ). records_from b i j) f)
      ∙ drop_at (record_of b i) (records_from b (suc i) (m - suc i)) (length_of b i) (record_length i (omega arith))

  pub same_record : (i : ℕ) → i < m → record_of (trimmed b m) i ≡ record_of b i
  unfolding record_of records_from
  same_record i h =
      let f : m - i ≡ suc (m - suc i) = omega arith in
      rw (offset_back i h, length_back i h, from_record i (omega arith), f)
      (take_at (record_of b i) (records_from b (suc i) (m - suc i)) (length_of b i) (record_length i h))

  records_length : (i j : ℕ) → i + j ≤ m → start_of b m i + length (records_from b i j) ≡ start_of b m (i + j)
  unfolding start_of records_from
  records_length i zero h = rw (add-zero, add-zero)
  records_length i (suc j) h =
      let e : suc i + j ≡ i + suc j = omega arith in
      let r = records_length (suc i) j (omega arith) in
      let l = length-append (record_of b i) (records_from b (suc i) j) in
      rw (← e) (omega (arith, r, l, record_length i (omega arith)))

  starts_grow : (i : ℕ) → i ≤ m → start_of b m i ≤ start_of b m m
  starts_grow i h =
      let e : i + (m - i) ≡ m = omega arith in
      let r = records_length i (m - i) (omega arith) ∙ ap (λ (j : ℕ). start_of b m j) e in
      omega (arith, r)

  octets_back : length (trimmed b m) ≡ start_of b m m
  unfolding trimmed start_of
  octets_back =
      let r = records_length 0 m (omega arith) ∙ ap (λ (j : ℕ). start_of b m j) (zero-add m) in
      let l = length-append (pairs_rebuilt b m 0 m) (records_from b 0 m) in
      omega (arith, r, l, pairs_length b m 0 m)

  end_back : (i : ℕ) → i < m → end_of (trimmed b m) i ≡ start_of b m (suc i)
  unfolding end_of start_of
  end_back i h = rw (offset_back i h, length_back i h)

  due_back : (i : ℕ) → i < m → due_of (trimmed b m) i ≡ start_of b m i
  unfolding due_of start_of
  due_back zero h = rw count_back
  due_back (suc i) h = end_back i (omega arith)

  fits_back : (i : ℕ) → i < m → pair_of (trimmed b m) i ≡ Fits
  unfolding chained
  fits_back i h =
      let at-end : eqb (i + 1) m ≡ true → start_of b m (suc i) ≡ start_of b m m =
      λ e. ap (λ (j : ℕ). start_of b m j) (sym (add-one i) ∙ eqb-true (i + 1) m e) in
      is_fit (trimmed b m) i
      (both_true (eq-eqb _ _ (offset_back i h ∙ sym (due_back i h)))
      (rw (count_back, end_back i h, octets_back) (ends_by (eqb (i + 1) m) _ _ (starts_grow (suc i) h) at-end)))
      (rw (same_record i h) (k.lengths i h))

  at_first : m ≡ 0 → start_of b m 0 ≡ 2
  unfolding start_of
  at_first e = omega (arith, e)

  right_back : size_fits (trimmed b m) ≡ true
  unfolding size_fits start_of
  right_back =
      let s : 2 + 8 * m ≤ start_of b m m = starts_grow zero (omega arith) in
      let alone : m ≡ 0 → start_of b m m ≡ 2 = λ e. ap (λ (i : ℕ). start_of b m i) e ∙ at_first e in
      rw (count_back, octets_back)
      (both_true (both_true (le-leb 2 (start_of b m m) (omega (arith, s))) (le-leb (start_of b m m) most_octets (start_below m (omega arith))))
      (both_true (le-leb m most_records (omega (arith, sizes.few)))
      (both_true (le-leb (2 + 8 * m) (start_of b m m) s) (alone_by (eqb m 0) m (start_of b m m) refl alone))))

  pub trimmed_good : directory_of (trimmed b m) ≡ Ok m
  unfolding directory_of
  trimmed_good =
      pick_true _ _ right_back
      ∙ rw count_back (all_fit (trimmed b m) 0 m (λ i l h. fits_back i (omega arith)) ∙ ap Ok (zero-add m))
