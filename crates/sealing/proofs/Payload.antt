-- Laws of sealed payloads: what the ends, the line and the capture reader cite. Assumes nothing.
use mathlib.Core.Path.{◌≡◌, refl, ap, ap₂, sym, ◌∙◌}
use mathlib.Core.Bool.{Bool, true, false}
use mathlib.Core.List.{List, ◌∷◌, ◌++◌}
use Prim.Native.Nat.{ℕ, zero, suc, ◌+◌, ◌-◌, ◌*◌, ◌/◌, ◌%◌, ◌<◌, ◌≤◌, min}
use native.Mathlib.Nat.{add-zero, zero-add}
use native.Mathlib.Numerals.{add-one}
use native.Mathlib.Omega.{arith}
use lib.Count.{ones}
use lib.Dec.{ltb}
use lib.ListN.{length, get_or, take, drop, length-drop, length-take, get_or-append}
use lib.Seq.{ext_get_or, get_or-append-add, get_or-drop}
use Rattle.octets.specs.Bits.{bit_of}
use Rattle.octets.specs.Choice.{pick}
use Rattle.octets.specs.Lists.{tabulate, replaced, sum, written}
use Rattle.octets.proofs.Lists.{tabulate_length, tabulate_at, sum_below, sum_ext, part_at, part_length, written_part, written_length, written_more, written_rest}
use Rattle.envelope.specs.ControlMask.{control_octet, masked, masked_at, count_enciphered, to_encipher, most_runs, needs_run, runs, runs_below}
use Rattle.envelope.specs.declared.Nonce.{Nonce}
use Rattle.envelope.proofs.ControlMask.{masked_at_twice}
use Rattle.sealing.specs.Payload.{cipher_block, half_of, sealed_octet, sealed, SealedLaws}
use Rattle.envelope.specs.CounterBlock.{counter_block}
use Rattle.gf256.specs.Lanes.{octet_at}
use Rattle.cipher.specs.Cipher.{cipher}
use Rattle.cipher.specs.RowWords.{block_octets}
use Rattle.sealing.specs.Steps.{block_sealed, masked_eq}
use Rattle.cipher.specs.declared.row_words.Block.{Block}

pub sealed_length : (w : List ℕ) (n : Nonce) (p : List ℕ) → length (sealed w n p) ≡ length p
unfolding sealed
sealed_length w n p = tabulate_length 0 (length p) (sealed_octet w n p)

-- octet i of the list is octet i by its position
pub sealed_at : (w : List ℕ) (n : Nonce) (p : List ℕ) (i : ℕ) → i < length p → get_or (sealed w n p) i 0 ≡ sealed_octet w n p i
unfolding sealed
sealed_at w n p i h = tabulate_at 0 (length p) (sealed_octet w n p) i 0 h ∙ ap (sealed_octet w n p) (zero-add i)

-- an octet becomes what its own place, its EQ's control octet, key and counter block make of it
sealed_own : (w : List ℕ) (n : Nonce) (p q : List ℕ) (i : ℕ) → control_octet p (i / 9) ≡ control_octet q (i / 9) → get_or p i 0 ≡ get_or q i 0
    → sealed_octet w n p i ≡ sealed_octet w n q i
unfolding sealed_octet
sealed_own w n p q i c x =
    ap₂ (λ (a b : ℕ). masked_at (cipher_block w n (i / 9)) (half_of (i / 9)) a (i % 9) b) c x

-- control octets pass
sealed_control : (w : List ℕ) (n : Nonce) (p : List ℕ) (e : ℕ) → sealed_octet w n p (9 * e) ≡ control_octet p e
unfolding sealed_octet masked_at
sealed_control w n p e = let z : 9 * e % 9 ≡ 0 = omega arith in rw z

-- control characters pass
sealed_character : (w : List ℕ) (n : Nonce) (p : List ℕ) (e j : ℕ) → j < 8 → bit_of (control_octet p e) j ≡ 1
    → sealed_octet w n p (9 * e + suc j) ≡ get_or p (9 * e + suc j) 0
unfolding sealed_octet masked_at masked pick
sealed_character w n p e j h b =
    let place : (9 * e + suc j) % 9 ≡ suc j = omega arith in
    let eq : (9 * e + suc j) / 9 ≡ e = omega arith in
    rw (place, eq, b)

control_kept : (w : List ℕ) (n : Nonce) (p : List ℕ) (e : ℕ) → 9 * e < length p → control_octet (sealed w n p) e ≡ control_octet p e
control_kept w n p e h = sealed_at w n p (9 * e) h ∙ sealed_control w n p e

-- sealing and opening are one act: done twice, it gives the payload back
pub sealed_twice : (w : List ℕ) (n : Nonce) (p : List ℕ) → sealed w n (sealed w n p) ≡ p
unfolding sealed_octet
sealed_twice w n p =
    ext_get_or 0 (sealed w n (sealed w n p)) p (sealed_length w n (sealed w n p) ∙ sealed_length w n p)
    (λ i h. octet i (rw (sealed_length, sealed_length) at h)) where
      once : (i : ℕ) → i < length p → sealed_octet w n (sealed w n p) i ≡ get_or p i 0
      once i h =
          let in_range-holds : 9 * (i / 9) < length p = omega arith in
          rw (control_kept w n p (i / 9) in_range-holds, sealed_at w n p i h)
          (masked_at_twice (cipher_block w n (i / 9)) (half_of (i / 9)) (control_octet p (i / 9)) (i % 9) (get_or p i 0))

      octet : (i : ℕ) → i < length p → get_or (sealed w n (sealed w n p)) i 0 ≡ get_or p i 0
      octet i h = sealed_at w n (sealed w n p) i (rw sealed_length h) ∙ once i h

-- both report one count
pub count_sealed : (w : List ℕ) (n : Nonce) (p : List ℕ) → count_enciphered (sealed w n p) ≡ count_enciphered p
unfolding count_enciphered
count_sealed w n p =
    rw sealed_length
    (sum_ext 0 (length p / 9) (λ e. 8 - ones (control_octet (sealed w n p) e)) (λ e. 8 - ones (control_octet p e))
    (λ e a b. ap (λ (x : ℕ). 8 - ones x) (control_kept w n p e (omega arith))))

-- and as many runs, at most one for each block, and one for each block that has a data octet (02, C-17)
needs_sealed : (w : List ℕ) (n : Nonce) (p : List ℕ) (k : ℕ) → needs_run (sealed w n p) k ≡ needs_run p k
unfolding needs_run
needs_sealed w n p k =
    rw sealed_length
    (ap (ltb 0)
    (sum_ext (2 * k) (min 2 (length p / 9 - 2 * k)) (λ e. to_encipher (control_octet (sealed w n p) e)) (λ e. to_encipher (control_octet p e))
    (λ e c d. ap to_encipher (control_kept w n p e (omega arith)))))

pub runs_sealed : (w : List ℕ) (n : Nonce) (p : List ℕ) → runs (sealed w n p) ≡ runs p
unfolding runs
runs_sealed w n p = simp (sealed_length, needs_sealed)

pub runs_at_most : (p : List ℕ) (k : ℕ) → runs_below p k ≤ k
unfolding pick
runs_at_most p k = omega (arith, sum_below 0 k 1 (λ b. pick (needs_run p b) 1 0) (λ b. one (needs_run p b))) where
  one : (t : Bool) → pick t 1 0 ≤ 1
  one true = omega arith
  one false = omega arith

runs_reached : (p : List ℕ) (k : ℕ) → ((b : ℕ) → b < k → needs_run p b ≡ true) → runs_below p k ≡ k
unfolding pick
runs_reached p k h =
    sum_ext 0 k (λ b. pick (needs_run p b) 1 0) (λ b. 1) (λ b a l. rw (h b (omega arith))) ∙ ones_sum 0 k where
      ones_sum : (i n : ℕ) → sum i n (λ b. 1) ≡ n
      ones_sum i zero = refl
      ones_sum i (suc n) = omega (arith, ones_sum (suc i) n)

-- the laws that sealing promises, together
pub sealed_laws : (w : List ℕ) (n : Nonce) (p : List ℕ) → SealedLaws w n p
unfolding runs
sealed_laws w n p = record {
  same_length = sealed_length w n p;
  control = λ e h. control_kept w n p e (omega arith);
  character = λ e j h l b. sealed_at w n p (9 * e + suc j) (omega arith) ∙ sealed_character w n p e j l b;
  own = λ q i h k c x. sealed_at w n p i h ∙ sealed_own w n p q i c x ∙ sym (sealed_at w n q i k);
  twice = sealed_twice w n p;
  count = count_sealed w n p;
  as_often = runs_sealed w n p;
  at_most = runs_at_most p (most_runs p);
  reached = runs_reached p (most_runs p);
}

-- h has the eight cipher octets that serve EQ e
pub record Serves (w : List ℕ) (n : Nonce) (e h : ℕ) : Type 0 where
  pub octet : (j : ℕ) → j < 8 → octet_at h j ≡ get_or (cipher_block w n e) (half_of e + j) 0

octet : (x j : ℕ) → j < 8 → get_or (tabulate 0 8 (octet_at x)) j 0 ≡ octet_at x j
octet x j l = rw zero-add at (tabulate_at 0 8 (octet_at x) j 0 l)

-- the lower half of block i serves EQ 2i, and the upper half EQ 2i + 1
module _ (w : List ℕ) (n : Nonce) (b : Block) (i : ℕ) (enciphered : block_octets b ≡ cipher w (counter_block n i)) where
  serves : (z : ℕ) {h : ℕ} → z < 2 → ((j : ℕ) → j < 8 → get_or (block_octets b) (8 * z + j) 0 ≡ octet_at h j) → Serves w n (2 * i + z) h
  serves z h here =
      let block : (2 * i + z) / 2 ≡ i = omega arith in
      let half : half_of (2 * i + z) ≡ 8 * z = omega arith in
      record { octet = λ j l. sym (here j l) ∙ rw (block, half, enciphered) }

  pub low_serves : Serves w n (2 * i) b.low
  low_serves =
      rw add-zero at (serves 0 {h = b.low} (omega arith)
      (λ j l. rw zero-add (get_or-append (tabulate 0 8 (octet_at b.low)) (tabulate 0 8 (octet_at b.high)) 0 j l ∙ octet b.low j l)))

  pub high_serves : Serves w n (2 * i + 1) b.high
  high_serves =
      serves 1 (omega arith)
      (λ j l. get_or-append-add (tabulate 0 8 (octet_at b.low)) (tabulate 0 8 (octet_at b.high)) j 0 ∙ octet b.high j l)

-- the nine octets of EQ e
sealed_eq : (w : List ℕ) (n : Nonce) (p : List ℕ) (e h : ℕ) → Serves w n e h → 9 * e + 9 ≤ length p
    → masked_eq h p (9 * e) ≡ take 9 (drop (9 * e) (sealed w n p))
unfolding sealed_octet masked_at
sealed_eq w n p e h serves fits =
    ext_get_or 0 _ (take 9 (drop (9 * e) (sealed w n p))) (sym (part_length (sealed w n p) (9 * e) 9 (rw sealed_length fits))) octet where
      data_octet : ℕ → ℕ
      data_octet j = masked (control_octet p e) j (octet_at h j) (get_or p (9 * e + (j + 1)) 0)

      there : (i : ℕ) → i < 9 → get_or (take 9 (drop (9 * e) (sealed w n p))) i 0 ≡ sealed_octet w n p (9 * e + i)
      there i l = part_at (sealed w n p) (9 * e) 9 i 0 l ∙ sealed_at w n p (9 * e + i) (omega arith)

      octet : (i : ℕ) → i < 9 → get_or (control_octet p e ∷ tabulate 0 8 data_octet) i 0 ≡ get_or (take 9 (drop (9 * e) (sealed w n p))) i 0
      octet zero l = let start : 9 * e + 0 ≡ 9 * e = omega arith in sym (there 0 l ∙ rw start (sealed_control w n p e))
      octet (suc j) l =
          let place : (9 * e + suc j) % 9 ≡ suc j = omega arith in
          let eq : (9 * e + suc j) / 9 ≡ e = omega arith in
          let key : octet_at h j ≡ get_or (cipher_block w n e) (half_of e + j) 0 = serves.octet j (omega arith) in
          let same : sealed_octet w n p (9 * e + suc j) ≡ data_octet j = rw (place, eq, add-one, key) in
          let here : get_or (tabulate 0 8 data_octet) j 0 ≡ data_octet j = rw zero-add at (tabulate_at 0 8 data_octet j 0 (omega arith)) in
          here ∙ sym (there (suc j) l ∙ same)

---- a payload sealed in its place, from the front

-- one EQ masked in its place is that EQ of the sealed payload
pub eq_written : (w : List ℕ) (n : Nonce) (p : List ℕ) (at e : ℕ) {h : ℕ} → at ≡ 9 * e → Serves w n e h
    → at + 9 ≤ length p → replaced p at (masked_eq h p at) ≡ written (sealed w n p) at (at + 9) p
eq_written w n p at e {h} ea serves fits =
    let room : 9 * e + 9 ≤ length p = omega arith in
    rw ea (written_part (sealed w n p) (9 * e) 9 p _ (sealed_eq w n p e h serves room))

-- what lies past a part that is replaced is as it was
pub replaced_past : (s t : List ℕ) (at i : ℕ) → at ≤ length s → get_or (replaced s at t) (at + (length t + i)) 0 ≡ get_or s (at + (length t + i)) 0
replaced_past s t at i h =
    let long : length (take at s) ≡ at = simp length-take (omega arith) in
    ap (λ (k : ℕ). get_or (replaced s at t) (k + (length t + i)) 0) (sym long)
    ∙ get_or-append-add (take at s) (t ++ drop (length t) (drop at s)) (length t + i) 0
    ∙ get_or-append-add t (drop (length t) (drop at s)) i 0
    ∙ get_or-drop (length t) (drop at s) i 0
    ∙ get_or-drop at s (length t + i) 0

-- what is the same from a on is the same at each place from there on
pub same_from : (p q : List ℕ) (a k : ℕ) → drop a q ≡ drop a p → a ≤ k → get_or q k 0 ≡ get_or p k 0
same_from p q a k same h =
    let place : a + (k - a) ≡ k = omega arith in
    rw place at (sym (get_or-drop a q (k - a) 0) ∙ ap (λ (l : List ℕ). get_or l (k - a) 0) same ∙ get_or-drop a p (k - a) 0)

-- from an EQ on, the sealed payload is made of the payload from that EQ on
sealed_from : (w : List ℕ) (n : Nonce) (p q : List ℕ) (a : ℕ) → a % 9 ≡ 0 → length q ≡ length p → drop a q ≡ drop a p
    → drop a (sealed w n q) ≡ drop a (sealed w n p)
sealed_from w n p q a whole long same =
    ext_get_or 0 (drop a (sealed w n q)) (drop a (sealed w n p)) (simp (length-drop, sealed_length, long))
    (λ i h.
    let in-q : a + i < length q = omega (arith, simp (length-drop, sealed_length) at h) in
    rw (get_or-drop, get_or-drop, sealed_at w n q (a + i) in-q, sealed_at w n p (a + i) (omega arith))
    (sealed_own w n q p (a + i) (same_from p q a (9 * ((a + i) / 9)) same (omega arith)) (same_from p q a (a + i) same (omega arith))))

-- what is sealed in its place from b up to a, and then from a up to e, is sealed from b up to e
pub sealed_more : (w : List ℕ) (n : Nonce) (p : List ℕ) (b a e : ℕ) → a % 9 ≡ 0 → b ≤ a → a ≤ e → e ≤ length p
    → written (sealed w n (written (sealed w n p) b a p)) a e (written (sealed w n p) b a p) ≡ written (sealed w n p) b e p
sealed_more w n p b a e whole g h k =
    let s = sealed w n p in
    let q = written s b a p in
    let long : length q ≡ length p = written_length s b a p g (omega arith) (omega (arith, sealed_length w n p)) in
    let rest : drop a q ≡ drop a p = written_rest s b a p g (omega arith) (omega (arith, sealed_length w n p)) in
    rw (sealed_from w n p q a whole long rest) (written_more s b a e p g h k (omega (arith, sealed_length w n p)))

-- one block more
pub block_more : (w : List ℕ) (n : Nonce) (p : List ℕ) (k : ℕ) → length p % 9 ≡ 0 → 18 * k < length p
    → block_sealed w n (written (sealed w n p) 0 (18 * k) p) k ≡ written (sealed w n p) 0 (min (18 * k + 18) (length p)) p
block_more w n p k whole h =
    let s = sealed w n p in
    let long : length (written s 0 (18 * k) p) ≡ length p = written_length s 0 (18 * k) p (omega arith) (omega arith) (omega (arith, sealed_length w n p)) in
    rw long (sealed_more w n p 0 (18 * k) (min (18 * k + 18) (length p)) (omega arith) (omega arith) (omega arith) (omega arith))
