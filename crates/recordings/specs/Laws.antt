-- What holds of two blocks that are accepted, beside what the comparison equals (02, C-15, C-20). Assumes nothing.
use Rattle.std.specs.Prelude.{◌≡◌, true, List, ℕ, ◌<◌}
use Rattle.octets.specs.Lists.{tabulate}
use Rattle.records.specs.Block.{records_in, record_of}
use Rattle.sameness.specs.Pairing.{paired, partner_of}
use Rattle.recordings.specs.Comparing.{same_mark, mark_of, entries_of, total_of, ruling_on, no_denial}
use Rattle.recordings.specs.Before.{mark_before, total_before}

-- records i and j of the two blocks pair
pub record Pairs (a b : List ℕ) (i j : ℕ) : Type 0 where
  pub first : i < records_in a
  pub second : j < records_in b
  pub agree : paired (record_of a i) (record_of b j) ≡ true

pub record Compared (size : ℕ) (a b : List ℕ) : Type 0 where
  -- each record of the second block is paired with at most one of the first, and the other way round
  pub one_of_first : (i k j : ℕ) → Pairs a b i j → Pairs a b k j → i ≡ k
  pub one_of_second : (i j k : ℕ) → Pairs a b i j → Pairs a b i k → j ≡ k
  -- it is the one that its entry speaks of, on both sides
  pub partner : (i j : ℕ) → Pairs a b i j → (partner_of (record_of a i) b ≡ j) × (partner_of (record_of b j) a ≡ i)
  -- in the other order the blocks are accepted, the same records pair with the same sameness, and the total is the same
  pub accepted : ruling_on size b a ≡ no_denial
  pub pairing : (i j : ℕ) → Pairs a b i j → Pairs b a j i
  pub sameness : (i j : ℕ) → Pairs a b i j → mark_of a b i ≡ mark_of b a j
  pub total : (llid : ℕ) → total_of llid a b ≡ total_of llid b a
  -- what is the same was the same in C-15's sense, and the total is that of C-15 (02, C-20)
  pub finer : (i : ℕ) → mark_of a b i ≡ same_mark → mark_before a b i ≡ same_mark
  pub as_before : (llid : ℕ) → total_of llid a b ≡ total_before llid a b
  -- a block against itself is accepted, all 1, and nothing is alone
  pub itself : ruling_on size a a ≡ no_denial
  pub all_same : entries_of a a ≡ tabulate 0 (records_in a) (λ i. same_mark)
  pub none_alone : (llid : ℕ) → total_of llid a a ≡ 0

-- of a call that is accepted
abbrev pub ComparedIfAccepted : ℕ → List ℕ → List ℕ → Type 0
ComparedIfAccepted size a b = ruling_on size a b ≡ no_denial → Compared size a b
