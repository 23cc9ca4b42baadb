-- Reading with a clock that follows the sender's is reading the block with the sender's clocks in it: each header has the same verdict, and
-- what is written of a record does not depend on its clock field, which stays as recorded. Assumes nothing.
use Rattle.std.specs.Prelude.{Ok, Err}
use mathlib.Core.Path.{◌≡◌, refl, sym, ap, ap₂, ◌∙◌}
use mathlib.Core.Bool.{true, false}
use mathlib.Core.List.{List, ◌++◌}
use Prim.Native.Nat.{ℕ, ◌+◌, ◌-◌, ◌*◌, ◌/◌, ◌%◌, ◌^◌, ◌≤◌, ◌<◌}
use native.Mathlib.Nat.{zero-add}
use native.Mathlib.Omega.{arith}
use lib.ListN.{length, take, drop, set, get_or, take-append-drop, length-append, length-take, length-drop, length-set, get_or-append}
use lib.Seq.{take-append-le, drop-append-le, take_at, drop_at, take-take, drop-drop, get_or-take, get_or-drop, take-set-lt, drop-set-lt}
use Rattle.octets.specs.BigEndian.{number_at, octets_of}
use Rattle.octets.specs.Bits.{bit_of, low_cleared}
use Rattle.octets.specs.Choice.{both, either, pick}
use Rattle.octets.specs.Output.{WithOutput}
use Rattle.octets.proofs.BigEndian.{octets_length, number_same}
use Rattle.octets.proofs.Lists.{sum_ext, drop_part}
use Rattle.clock.specs.Ticks.{clock_turn}
use Rattle.envelope.specs.ControlMask.{count_enciphered, runs}
use Rattle.cipher.specs.KeyExpansion.{key_expansion}
use Rattle.sealing.specs.Payload.{sealed}
use Rattle.records.specs.declared.header.Header.{Header}
use Rattle.records.specs.Settings.{key_of, presence_of, presence_fits, settings_verdict}
use Rattle.records.specs.Record.{record_header, payload_of, sized}
use Rattle.records.specs.Place.{end_fits}
use Rattle.records.specs.Verdict.{cleared_flags, verdict_for, verdict_of, RecordVerdict}
use Rattle.records.specs.Block.{records_in, offset_of, length_of, end_of, due_of, record_of}
use Rattle.records.specs.Following.{header_of, near_verdict, with_clock, slipped_settings, slipped_block}
use Rattle.records.proofs.Following.{kept}
use Rattle.rows.specs.Text.{key_glyph, row_head, row_middle, row_tail, row_of}
use Rattle.directory.specs.Directory.{chained, pair_of, size_fits, with_pair, pairs_from, directory_of}
use Rattle.reading.specs.Opening.{OpenAnswer, record_nonce, written_as, added_as, opened_record, record_adds, opened_block, block_adds, expansions, open_verdict}
use Rattle.directory.specs.Rebuilt.{joined, rebuilt}
use Rattle.reading.specs.Reading.{record_by, adds_by, total_by, opening_as, opening_by, row_by, body_as, listing_by}
use Rattle.reading.specs.Near.{clock_field, with_field, as_sent, as_recorded, ClockFollows, ReadsAsExact, NotEmpty}
use Rattle.directory.proofs.Records.{Records, good, header_there}
use Rattle.directory.proofs.Filling.{joined_ext}
use Rattle.directory.proofs.Rebuilding.{same_octets, same_count, record_is, good_again, rebuilt_again, rebuilt_ext}
use Rattle.reading.proofs.Opening.{written_length, callable, opening_done}
use Rattle.reading.proofs.Reopening.{opened_is, accepts_again}
use Rattle.reading.proofs.Readings.{listing_usual}
use Rattle.records.specs.declared.header.Access.TheVariants.{Clear, Sealed}
use Rattle.refusal.specs.Verdict.{no_refusal}

---- a record with other octets in its clock field
module _ (r x : List ℕ) (h : 16 ≤ length r) (l : length x ≡ 6) where
  front_there : length (take 6 r) ≡ 6
  front_there = simp length-take (omega arith)

  field_front : take 6 (with_field r x) ≡ take 6 r
  unfolding with_field
  field_front = take_at (take 6 r) (x ++ drop 12 r) 6 front_there

  field_behind : drop 6 (with_field r x) ≡ x ++ drop 12 r
  unfolding with_field
  field_behind = drop_at (take 6 r) (x ++ drop 12 r) 6 front_there

  field_rest : drop 12 (with_field r x) ≡ drop 12 r
  field_rest = sym (drop-drop 6 6 (with_field r x)) ∙ ap (drop 6) field_behind ∙ drop_at x (drop 12 r) 6 l

  field_payload : drop 16 (with_field r x) ≡ drop 16 r
  field_payload = sym (drop-drop 4 12 (with_field r x)) ∙ ap (drop 4) field_rest ∙ drop-drop 4 12 r

  field_length : length (with_field r x) ≡ length r
  unfolding with_field
  field_length = simp (length-append, length-take, length-drop) (omega arith)

  low_octet : (p : ℕ) → p < 6 → get_or (with_field r x) p 0 ≡ get_or r p 0
  low_octet p g = sym (get_or-take 6 (with_field r x) p 0 g) ∙ ap (λ (t : List ℕ). get_or t p 0) field_front ∙ get_or-take 6 r p 0 g

  own_octet : (j : ℕ) → j < 6 → get_or (with_field r x) (6 + j) 0 ≡ get_or x j 0
  own_octet j g =
      sym (get_or-drop 6 (with_field r x) j 0) ∙ ap (λ (t : List ℕ). get_or t j 0) field_behind ∙ get_or-append x (drop 12 r) 0 j (omega arith)

  high_octet : (j : ℕ) → get_or (with_field r x) (12 + j) 0 ≡ get_or r (12 + j) 0
  high_octet j = sym (get_or-drop 12 (with_field r x) j 0) ∙ ap (λ (t : List ℕ). get_or t j 0) field_rest ∙ get_or-drop 12 r j 0

  -- only the clock of the header is another
  field_header : record_header (with_field r x) ≡ with_clock (record_header r) (number_at 6 x 0)
  unfolding record_header
  field_header =
      rw (
        low_octet 0 (omega arith),
        low_octet 1 (omega arith),
        number_same 2 (with_field r x) r 2 2 (λ j g. low_octet (2 + j) (omega arith)),
        low_octet 4 (omega arith),
        low_octet 5 (omega arith),
        number_same 6 (with_field r x) x 6 0 (λ j g. own_octet j g ∙ rw zero-add),
        number_same 4 (with_field r x) r 12 12 (λ j g. high_octet j),
      )

  field_sized : sized (with_field r x) ≡ sized r
  unfolding sized
  field_sized = rw (field_length, field_header)

-- the field is put back into what differs there alone
put_back-holds : (l r : List ℕ) → take 6 l ≡ take 6 r → drop 12 l ≡ drop 12 r → with_field l (clock_field r) ≡ r
unfolding with_field
put_back-holds l r a b =
    rw (a, b)
    (ap (λ (t : List ℕ). take 6 r ++ (take 6 (drop 6 r) ++ t)) (sym (drop-drop 6 6 r)) ∙ rw (take-append-drop 6 (drop 6 r), take-append-drop 6 r))

tail_of : (m : ℕ) (l : List ℕ) → m ≤ 16 → drop m (take 16 l) ≡ take (16 - m) (drop m l)
tail_of m l h = let e : 0 + m ≡ m = omega arith in drop_part l 0 16 m h ∙ rw e

-- a header with an octet before the field stored, ahead of a payload
module _ (r ys : List ℕ) (v : ℕ) (h : 16 ≤ length r) where
  stored_room : length (take 16 (set r 4 v)) ≡ 16
  stored_room = simp (length-take, length-set) (omega arith)

  stored_front : take 6 (take 16 (set r 4 v) ++ ys) ≡ set (take 6 r) 4 v
  stored_front =
      take-append-le 6 (take 16 (set r 4 v)) ys (omega (arith, stored_room)) ∙ take-take 6 16 (set r 4 v) (omega arith) ∙ take-set-lt 6 r 4 v (omega arith)

  stored_from : (m : ℕ) → 4 < m → m ≤ 16 → drop m (take 16 (set r 4 v) ++ ys) ≡ take (16 - m) (drop m r) ++ ys
  stored_from m g k =
      drop-append-le m (take 16 (set r 4 v)) ys (omega (arith, stored_room)) ∙ rw (tail_of m (set r 4 v) k, drop-set-lt m r 4 v g)

  stored_field : clock_field (take 16 (set r 4 v) ++ ys) ≡ clock_field r
  stored_field =
      ap (take 6) (stored_from 6 (omega arith) (omega arith))
      ∙ take-append-le 6 (take 10 (drop 6 r)) ys (simp (length-take, length-drop) (omega arith)) ∙ take-take 6 10 (drop 6 r) (omega arith)

-- the number in the octets of a clock: the highest digit of so many, and the others
top_6 : (n : ℕ) → n % 256 ^ 6 ≡ n / 256 ^ 5 % 256 * 256 ^ 5 + n % 256 ^ 5
top_6 n = omega arith

top_5 : (n : ℕ) → n % 256 ^ 5 ≡ n / 256 ^ 4 % 256 * 256 ^ 4 + n % 256 ^ 4
top_5 n = omega arith

top_4 : (n : ℕ) → n % 256 ^ 4 ≡ n / 256 ^ 3 % 256 * 256 ^ 3 + n % 256 ^ 3
top_4 n = omega arith

top_3 : (n : ℕ) → n % 256 ^ 3 ≡ n / 256 ^ 2 % 256 * 256 ^ 2 + n % 256 ^ 2
top_3 n = omega arith

top_2 : (n : ℕ) → n % 256 ^ 2 ≡ n / 256 ^ 1 % 256 * 256 ^ 1 + n / 256 ^ 0 % 256
top_2 n = omega arith

in_base : (a b c d e f : ℕ)
    → (((((0 * 256 + a) * 256 + b) * 256 + c) * 256 + d) * 256 + e) * 256 + f
    ≡ a * 256 ^ 5 + (b * 256 ^ 4 + (c * 256 ^ 3 + (d * 256 ^ 2 + (e * 256 ^ 1 + f))))
in_base a b c d e f = omega arith

clock_number : (n : ℕ) → number_at 6 (octets_of 6 n) 0 ≡ n % clock_turn
clock_number n =
    in_base (n / 256 ^ 5 % 256) (n / 256 ^ 4 % 256) (n / 256 ^ 3 % 256) (n / 256 ^ 2 % 256) (n / 256 ^ 1 % 256) (n / 256 ^ 0 % 256)
    ∙ sym (top_6 n ∙ ap (λ (x : ℕ). n / 256 ^ 5 % 256 * 256 ^ 5 + x) (top_5 n ∙ ap (λ (x : ℕ). n / 256 ^ 4 % 256 * 256 ^ 4 + x)
    (top_4 n ∙ ap (λ (x : ℕ). n / 256 ^ 3 % 256 * 256 ^ 3 + x) (top_3 n ∙ ap (λ (x : ℕ). n / 256 ^ 2 % 256 * 256 ^ 2 + x) (top_2 n)))))

---- what is written of a record, with the field put back
module _ (s r x : List ℕ) (h : 16 ≤ length r) (l : length x ≡ 6) where
  written_back : (v : RecordVerdict) → with_field (written_as s (with_field r x) v) (clock_field r) ≡ written_as s r v
  unfolding written_as payload_of
  written_back (Ok Clear) = put_back-holds (with_field r x) r (field_front r x h l) (field_rest r x h l)
  written_back (Err c) = put_back-holds (with_field r x) r (field_front r x h l) (field_rest r x h l)
  written_back (Ok (Sealed i t)) =
      let f = with_field r x in
      let flags = cleared_flags (record_header r).flags in
      let ys = sealed (key_expansion (key_of s i)) (record_nonce s (record_header r) t) (drop 16 r) in
      let long : 16 ≤ length f = omega (arith, field_length r x h l) in
      let back : with_field (take 16 (set f 4 flags) ++ ys) (clock_field (take 16 (set r 4 flags) ++ ys)) ≡ take 16 (set r 4 flags) ++ ys =
      put_back-holds (take 16 (set f 4 flags) ++ ys) (take 16 (set r 4 flags) ++ ys)
      (stored_front f ys flags long ∙ rw (field_front r x h l) (sym (stored_front r ys flags h)))
      (stored_from f ys flags long 12 (omega arith) (omega arith) ∙ rw (field_rest r x h l)
      (sym (stored_from r ys flags h 12 (omega arith) (omega arith)))) in
      rw (field_header r x h l, field_payload r x h l, ← stored_field r ys flags h) back

  added_same : (g : List ℕ → ℕ) (v : RecordVerdict) → added_as g (with_field r x) v ≡ added_as g r v
  unfolding added_as payload_of
  added_same g (Ok Clear) = refl
  added_same g (Err c) = refl
  added_same g (Ok (Sealed i t)) = ap g (field_payload r x h l)

row_clock : (k : ℕ) (h : Header) (t : ℕ) (v : RecordVerdict) → row_of k (with_clock h t) v ≡ row_of k h v
unfolding row_of row_head row_middle row_tail key_glyph
row_clock k h t v = refl

---- the promise
module _ (sent : ℕ → ℕ) (s b : List ℕ) (r : Records b (records_in b)) (follows : ClockFollows sent s b) where
  abbrev field : ℕ → List ℕ
  field i = octets_of 6 (sent i)

  abbrev sent_record : ℕ → List ℕ
  sent_record i = with_field (record_of b i) (field i)

  six : (i : ℕ) → length (field i) ≡ 6
  six i = octets_length 6 (sent i)

  there : (i : ℕ) → i < records_in b → 16 ≤ length (record_of b i)
  there i h = header_there b (records_in b) r i h

  sizes : (i : ℕ) → i < records_in b → length (sent_record i) ≡ length (record_of b i)
  sizes i h = field_length (record_of b i) (field i) (there i h) (six i)

  sent_record-holds : (i : ℕ) → i < records_in b → record_of (as_sent sent b) i ≡ sent_record i
  sent_record-holds i h = record_is sent_record b (records_in b) r sizes i h

  sent_count : records_in (as_sent sent b) ≡ records_in b
  sent_count = same_count sent_record b (records_in b) r sizes

  sent_good : directory_of (as_sent sent b) ≡ Ok (records_in b)
  sent_good = good_again sent_record b (records_in b) r sizes (λ i h. field_sized (record_of b i) (field i) (there i h) (six i))

  sent_header : (i : ℕ) → i < records_in b → record_header (sent_record i) ≡ with_clock (header_of b i) (sent i % clock_turn)
  sent_header i h = field_header (record_of b i) (field i) (there i h) (six i) ∙ ap (with_clock (header_of b i)) (clock_number (sent i))

  same_verdict : (i : ℕ) → i < records_in b → near_verdict s b i ≡ verdict_of s (sent_record i)
  same_verdict i h = kept.reads_as_sent s b sent (records_in b) follows i h ∙ ap (verdict_for s) (sym (sent_header i h))

  verdicts : (i : ℕ) → i < records_in b → near_verdict s b i ≡ verdict_of s (record_of (as_sent sent b) i)
  verdicts i h = same_verdict i h ∙ ap (verdict_of s) (sym (sent_record-holds i h))

  same_total : (g : List ℕ → ℕ) → total_by true g s b ≡ block_adds g s (as_sent sent b)
  unfolding total_by block_adds record_adds pick
  same_total g =
      rw sent_count
      (sum_ext 0 (records_in b) (adds_by true g s b) (λ i. record_adds g s (record_of (as_sent sent b) i))
      (λ i l u.
      let h : i < records_in b = omega arith in
      rw (sent_record-holds i h, same_verdict i h) (sym (added_same s (record_of b i) (field i) (there i h) (six i) g (verdict_of s (sent_record i))))))

  -- the usual way's output
  sent_opened : opened_block s (as_sent sent b) ≡ rebuilt (λ i. opened_record s (sent_record i)) b
  sent_opened =
      opened_is s (as_sent sent b)
      ∙ rebuilt_again sent_record b (records_in b) r sizes (λ i. opened_record s (record_of (as_sent sent b) i))
      ∙ rebuilt_ext _ _ b (λ i h. ap (opened_record s) (sent_record-holds i h))

  opened_size : (i : ℕ) → i < records_in b → length (opened_record s (sent_record i)) ≡ length (record_of b i)
  unfolding opened_record
  opened_size i h =
      written_length s (sent_record i) (verdict_of s (sent_record i)) (omega (arith, sizes i h, there i h)) ∙ sizes i h

  same_record : (i : ℕ) → i < records_in b → with_field (opened_record s (sent_record i)) (clock_field (record_of b i)) ≡ record_by true s b i
  unfolding opened_record pick
  same_record i h =
      written_back s (record_of b i) (field i) (there i h) (six i) (verdict_of s (sent_record i)) ∙ ap (written_as s (record_of b i)) (sym (same_verdict i h))

  same_block : rebuilt (record_by true s b) b ≡ as_recorded b (opened_block s (as_sent sent b))
  unfolding pick
  same_block =
      let g : ℕ → List ℕ = λ i. opened_record s (sent_record i) in
      sym (ap (as_recorded b) sent_opened
      ∙ rebuilt_again g b (records_in b) r opened_size (λ i. with_field (record_of (rebuilt g b) i) (clock_field (record_of b i)))
      ∙ rebuilt_ext _ _ b
      (λ i h. ap (λ (t : List ℕ). with_field t (clock_field (record_of b i))) (record_is g b (records_in b) r opened_size i h) ∙ same_record i h))

  same_rows : joined (row_by true s b) 0 (records_in b) ≡ joined (row_by false s (as_sent sent b)) 0 (records_in (as_sent sent b))
  unfolding pick
  same_rows =
      rw sent_count
      (joined_ext (row_by true s b) (row_by false s (as_sent sent b)) 0 (records_in b)
      (λ i l u.
      let h : i < records_in b = omega arith in
      rw (sent_record-holds i h, same_verdict i h, sent_header i h)
      (sym (row_clock (i + 1) (header_of b i) (sent i % clock_turn) _))))

-- of an accepted call
opening_near : (s b out : List ℕ) → open_verdict s b (length out) ≡ no_refusal
    → ((opening_by true s b out).answer.opened
    ≡ Ok (record { count = total_by true count_enciphered s b; runs = total_by true runs s b; expansions = expansions s }))
    × ((opening_by true s b out).output ≡ rebuilt (record_by true s b) b)
unfolding opening_by opening_as
opening_near s b out e = (rw e, rw e)

listing_near : (s b t c : List ℕ) → open_verdict s b (length b) ≡ no_refusal → open_verdict t c (length c) ≡ no_refusal
    → joined (row_by true s b) 0 (records_in b) ≡ joined (row_by false t c) 0 (records_in c) → listing_by true s b ≡ listing_by false t c
unfolding listing_by body_as
listing_near s b t c e f rows = rw (e, f, rows)

pub reads_as_exact : (s b out : List ℕ) → ReadsAsExact s b out
reads_as_exact s b out sent v follows =
    let c = callable s b (length out) v in
    let r = good b (records_in b) c.good in
    let sent-octets = same_octets (sent_record sent s b r follows) b (records_in b) r (sizes sent s b r follows) in
    let accepts : (m : ℕ) → m ≡ length b → open_verdict s (as_sent sent b) m ≡ no_refusal =
    λ m e. accepts_again s (as_sent sent b) m (records_in b) c.accepted (e ∙ sym sent-octets) (sent_good sent s b r follows) in
    let usual = opening_done s (as_sent sent b) out (accepts (length out) c.size) in
    let near = opening_near s b out v in
    record {
      verdicts = verdicts sent s b r follows;
      answer = near.0
          ∙ ap₂ (λ (x y : ℕ). Ok (record { count = x; runs = y; expansions = expansions s }))
          (same_total sent s b r follows count_enciphered) (same_total sent s b r follows runs)
          ∙ ap (λ (o : WithOutput OpenAnswer). o.answer) usual;
      output = near.1 ∙ same_block sent s b r follows ∙ ap (λ (o : WithOutput OpenAnswer). as_recorded b o.output) usual;
      listing = listing_near s b s (as_sent sent b) (accepts_again s b (length b) (records_in b) c.accepted refl c.good)
          (accepts (length (as_sent sent b)) sent-octets) (same_rows sent s b r follows)
          ∙ listing_usual s (as_sent sent b);
    }

-- the block that slipped is accepted
slipped_settings-holds : settings_verdict slipped_settings ≡ no_refusal
unfolding settings_verdict presence_fits presence_of bit_of low_cleared pick
slipped_settings-holds = refl

slipped_directory : directory_of slipped_block ≡ Ok 2
unfolding directory_of pairs_from with_pair pair_of chained size_fits sized records_in offset_of length_of end_of due_of record_of
    record_header end_fits both either pick
slipped_directory = refl

pub not_empty : NotEmpty
unfolding records_in
not_empty =
    record {
      accepted = accepts_again slipped_settings slipped_block (length slipped_block) 2 slipped_settings-holds refl slipped_directory;
      follows = λ i h _. kept.follows i h;
    }
