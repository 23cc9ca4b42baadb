-- Laws of a loop over the records of a block that writes each in its place and adds up what it takes. Assumes nothing.
use mathlib.Core.Path.{◌≡◌, refl, sym, ap, ◌∙◌}
use mathlib.Core.List.{List, ◌++◌}
use Prim.Native.Nat.{ℕ, ◌+◌, ◌^◌, ◌≤◌, ◌<◌}
use native.Mathlib.Omega.{arith}
use lib.ListN.{length, take, drop}
use Rattle.octets.specs.Lists.{sum}
use Rattle.octets.proofs.Lists.{sum_more, sum_below}
use Rattle.records.specs.declared.near.Drift.{Drift}
use Rattle.records.specs.Record.{record_octets}
use Rattle.records.specs.Block.{most_octets, most_records, records_in, due_of, record_of, header_from}
use Rattle.directory.specs.Rebuilt.{rebuilt}
use Rattle.directory.proofs.Records.{Records}
use Rattle.directory.proofs.Rebuilding.{up_to, none_rebuilt, still_block, one_rebuilt, all_rebuilt}

-- what a record adds has room in a sum of 64 bits
pub sum_room : (g : ℕ → ℕ) → ((j : ℕ) → g j ≤ most_octets) → {i x y : ℕ} → i < most_records → x ≡ sum 0 i g → y ≡ g i
    → x + y < 2 ^ 64
sum_room g few {i} h e f = omega (arith, sum_below 0 i most_octets g few, few i)

-- what is done with record i: what is written, what is added to two sums, and the corrections before it
pub record Plan : Type 0 where
  pub written : ℕ → List ℕ
  pub count : ℕ → ℕ
  pub runs : ℕ → ℕ
  pub drift : ℕ → Drift

-- a plan for the n records of a block, which writes each in as many octets
pub record Suits (p : Plan) (b : List ℕ) (n : ℕ) : Type 0 where
  pub records : Records b n
  pub sizes : (i : ℕ) → i < n → length (p.written i) ≡ length (record_of b i)

-- the first i records are written, the rest of the output is the block's, x and y are the sums so far, and record i starts at `from`
pub record Opened (p : Plan) (b : List ℕ) (n : ℕ) (out : List ℕ) (x y from : ℕ) (d : Drift) (i : ℕ) : Type 0 where
  pub few : i ≤ n
  pub size : length out ≡ length b
  pub count : x ≡ sum 0 i p.count
  pub runs : y ≡ sum 0 i p.runs
  pub place : from ≡ due_of b i
  pub drift : d ≡ p.drift i
  pub output : out ≡ up_to p.written b i ++ drop (due_of b i) b

module _ {p : Plan} {b : List ℕ} {n : ℕ} (s : Suits p b n) where
  pub none_opened : {out : List ℕ} {from : ℕ} {d : Drift} → out ≡ b → from ≡ due_of b 0 → d ≡ p.drift 0
      → Opened p b n out 0 0 from d 0
  none_opened e f g =
      record {
        few = omega arith;
        size = ap length e;
        count = refl;
        runs = refl;
        place = f;
        drift = g;
        output = e ∙ none_rebuilt p.written b n s.records s.sizes;
      }

  module _ {out : List ℕ} {x y from : ℕ} {d : Drift} {i : ℕ} (o : Opened p b n out x y from d i) where
    -- from record i on, which starts at `at`, the output is the block
    pub still_copied : {at : ℕ} → at ≡ due_of b i → i < n → drop at out ≡ drop at b
    still_copied d h = rw d (still_block p.written b n s.records s.sizes out i h o.output)

    pub one_opened : {next w : List ℕ} {u v at to : ℕ} {e : Drift} → at ≡ due_of b i → i < n → length next ≡ length out
        → u ≡ p.count i → v ≡ p.runs i → to ≡ due_of b (i + 1) → e ≡ p.drift (i + 1)
        → next ≡ take at out ++ (w ++ drop (at + record_octets (header_from b at).eqs) b) → w ≡ p.written i
        → Opened p b n next (x + u) (y + v) to e (i + 1)
    one_opened {next} d h l eu ev et ed en ew =
        record {
          few = omega arith;
          size = l ∙ o.size;
          count = rw (o.count, eu) (sym (sum_more p.count i));
          runs = rw (o.runs, ev) (sym (sum_more p.runs i));
          place = et;
          drift = ed;
          output = one_rebuilt p.written b n s.records s.sizes out i h o.output next (en ∙ rw (ew, d));
        }

    -- once all are written
    pub all_opened : i ≡ n
        → (x ≡ sum 0 (records_in b) p.count) × (y ≡ sum 0 (records_in b) p.runs) × (d ≡ p.drift (records_in b)) × (out ≡ rebuilt p.written b)
    all_opened e =
        let all = e ∙ s.records.count in (
          o.count ∙ ap (λ (k : ℕ). sum 0 k p.count) all,
          o.runs ∙ ap (λ (k : ℕ). sum 0 k p.runs) all,
          o.drift ∙ ap p.drift all,
          all_rebuilt p.written b n s.records s.sizes out (o.output ∙ ap (λ (k : ℕ). up_to p.written b k ++ drop (due_of b k) b) e),
        )
