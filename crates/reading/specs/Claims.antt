-- What holds of every opened block, beside what it equals. Assumes nothing.
use Rattle.std.specs.Prelude.{Ok}
use Rattle.std.specs.Prelude.{◌≡◌, List, ℕ, ◌<◌, ◌≤◌, length, take}
use Rattle.octets.specs.Lists.{part}
use Rattle.octets.specs.Output.{with_output}
use Rattle.records.specs.Block.{directory_octets, records_in, offset_of, length_of, record_of}
use Rattle.reading.specs.Opening.{expansions, opened_record, opened_block, open_verdict, opening}
use Rattle.refusal.specs.Verdict.{no_refusal}

pub record Opened (s b : List ℕ) : Type 0 where
  -- the directory stays
  pub directory : take (directory_octets (records_in b)) (opened_block s b) ≡ take (directory_octets (records_in b)) b
  -- what is written of a record depends on the settings and that record alone
  pub own : (i : ℕ) → i < records_in b → part (opened_block s b) (offset_of b i) (length_of b i) ≡ opened_record s (record_of b i)
  -- opened again, a block stays as it is, its opened records being clear
  pub again : (out : List ℕ) → length out ≡ length b
      → opening s (opened_block s b) out ≡ with_output (Ok (record { count = 0; runs = 0; expansions = expansions s })) (opened_block s b)
  -- 02, C-17: two keys at most are expanded, whatever the records
  pub few : expansions s ≤ 2

-- of a call that is accepted
abbrev pub OpenedIfAccepted : List ℕ → List ℕ → ℕ → Type 0
OpenedIfAccepted s b size = open_verdict s b size ≡ no_refusal → Opened s b
