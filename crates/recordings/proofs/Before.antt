-- Laws of C-15's entries and total beside those of C-20: a finer sameness changes no entry but from 1 to 2. Assumes nothing.
use mathlib.Core.Path.{◌≡◌, refl, ap₂}
use mathlib.Core.Bool.{Bool, true, false}
use mathlib.Core.List.{List}
use Prim.Native.Nat.{ℕ, ◌+◌}
use native.Mathlib.Omega.{arith}
use lib.Dec.{eqb}
use Rattle.octets.specs.Choice.{pick}
use Rattle.octets.proofs.Lists.{sum_ext}
use Rattle.records.specs.Block.{records_in, record_of}
use Rattle.sameness.specs.Pairing.{alone, partner_of}
use Rattle.sameness.specs.Sameness.{same_data, same}
use Rattle.recordings.specs.Comparing.{alone_mark, same_mark, different_mark, mark_at, mark_of, alone_at, alone_of, total_of}
use Rattle.recordings.specs.Before.{mark_before, alone_before, total_before}
use Rattle.sameness.proofs.Sameness.{same_finer}

finer_by : (t s d : Bool) → (s ≡ true → d ≡ true) → pick t alone_mark (pick s same_mark different_mark) ≡ same_mark
    → pick t alone_mark (pick d same_mark different_mark) ≡ same_mark
unfolding pick
finer_by true s d f e = absurd (omega arith)
finer_by false true d f e = rw (f refl)
finer_by false false d f e = absurd (omega arith)

-- what is the same now was the same before
pub finer : (a b : List ℕ) (i : ℕ) → mark_of a b i ≡ same_mark → mark_before a b i ≡ same_mark
unfolding mark_at mark_before alone
finer a b i e =
    finer_by (alone a b i) (same (record_of a i) (record_of b (partner_of (record_of a i) b))) _ (same_finer _ _) e

alone_by : (t d : Bool) → eqb (pick t alone_mark (pick d same_mark different_mark)) alone_mark ≡ t
unfolding pick
alone_by true d = refl
alone_by false true = refl
alone_by false false = refl

alone_before-holds : (llid : ℕ) (a b : List ℕ) → alone_of llid a b ≡ alone_before llid a b
unfolding alone_of alone_before mark_before
alone_before-holds llid a b =
    sum_ext 0 (records_in a) (alone_at llid a b) _
    (λ i l h. rw (alone_by (alone a b i) (same_data (record_of a i) (record_of b (partner_of (record_of a i) b)))))

-- the total is the same function of the two blocks as before
pub total_before-holds : (llid : ℕ) (a b : List ℕ) → total_of llid a b ≡ total_before llid a b
total_before-holds llid a b = ap₂ (λ (x y : ℕ). x + y) (alone_before-holds llid a b) (alone_before-holds llid b a)
