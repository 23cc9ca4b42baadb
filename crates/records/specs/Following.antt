-- A capture block b, read with a receive clock that is known only nearly: each record in its turn, under the settings s, and what that
-- is worth (02, C-18). Assumes nothing.
use Rattle.std.specs.Prelude.{◌≡◌, true, List, ◌++◌, ℕ, zero, suc, ◌+◌, ◌-◌, ◌%◌, ◌≤◌, ◌<◌, eqb, replicate}
use Rattle.octets.specs.BigEndian.{octets_of}
use Rattle.octets.specs.Choice.{both, pick}
use Rattle.clock.specs.Ticks.{clock_turn, epam_of}
use Rattle.envelope.specs.Channels.{channel_fits}
use Rattle.records.specs.declared.header.Header.{Header}
use Rattle.records.specs.declared.near.Drift.{Drift}
use Rattle.records.specs.Settings.{presence_of, llid_of}
use Rattle.records.specs.Record.{record_header}
use Rattle.records.specs.Verdict.{verdict_for, RecordVerdict}
use Rattle.records.specs.Block.{record_of}
use Rattle.records.specs.Near.{last_step, stepped, sum_at, no_drift, own, heard}

abbrev pub header_of : List ℕ → ℕ → Header
header_of b i = record_header (record_of b i)

-- the corrections before record i, none at first
unfoldable pub drift_at : List ℕ → List ℕ → ℕ → Drift
drift_at s b zero = no_drift
drift_at s b (suc i) = (heard (presence_of s) (llid_of s) (drift_at s b i) (header_of b i)).drift

-- the verdict on record i, at the clock nearest to the one expected
unfoldable pub near_verdict : List ℕ → List ℕ → ℕ → RecordVerdict
near_verdict s b i = (heard (presence_of s) (llid_of s) (drift_at s b i) (header_of b i)).verdict

-- The promise. The sender's clock at record i is sent i.

-- by how much the sender's clock was ahead of the record's, modulo 2^48, at the last header before record i past 1 and 2 whose channel
-- index has this place; 0 before the first
unfoldable pub ahead : (ℕ → ℕ) → List ℕ → List ℕ → ℕ → ℕ → ℕ
ahead sent s b zero place = 0
ahead sent s b (suc i) place =
    pick (both (own (llid_of s) (header_of b i)) (eqb (sum_at (header_of b i).channel) place))
    ((sent i + (clock_turn - (header_of b i).clock % clock_turn)) % clock_turn)
    (ahead sent s b i place)

-- at each header past 1 and 2, EPAM is as sent, and the reader's clock is within 31 of the sender's at the first of its channel index, and
-- slips no more than 31 from one to the next
pub record Follows (sent : ℕ → ℕ) (s b : List ℕ) (i : ℕ) : Type 0 where
  pub epam : (header_of b i).epam ≡ epam_of (sent i)
  pub step : ℕ
  pub within : step ≤ last_step
  pub slip : sent i ≡ stepped (((header_of b i).clock + ahead sent s b i (sum_at (header_of b i).channel)) % clock_turn) step

-- a header with the sender's clock in it
abbrev pub with_clock : Header → ℕ → Header
with_clock h t =
    record { kind = h.kind; channel = h.channel; llid = h.llid; flags = h.flags; epam = h.epam; clock = t; eqs = h.eqs }

-- then every record has the verdict that the usual way gives it with the sender's clock in it, and so is opened at that clock
abbrev pub ReadsAsSent : List ℕ → List ℕ → Type 0
ReadsAsSent s b =
    (sent : ℕ → ℕ) (n : ℕ) → ((i : ℕ) → i < n → own (llid_of s) (header_of b i) ≡ true → Follows sent s b i)
    → (i : ℕ) → i < n → near_verdict s b i ≡ verdict_for s (with_clock (header_of b i) (sent i % clock_turn))

-- A block of two clear records of channel index 00 that such a reader captured: its clock is 25 behind the sender's at the first, across
-- the turn of 2^48, and 5 behind at the second.
abbrev pub slipped_settings : List ℕ
slipped_settings = replicate 33 0 ++ (octets_of 6 1 ++ octets_of 2 5)

abbrev pub slipped_record : ℕ → ℕ → List ℕ
slipped_record epam clock = octets_of 2 0 ++ (octets_of 2 5 ++ (octets_of 1 0 ++ (octets_of 1 epam ++ (octets_of 6 clock ++ octets_of 4 0))))

abbrev pub slipped_block : List ℕ
slipped_block =
    octets_of 2 2 ++ (octets_of 4 18 ++
    (octets_of 4 16 ++ (octets_of 4 34 ++ (octets_of 4 16 ++ (slipped_record 20 (clock_turn - 5) ++ slipped_record 41 100)))))

abbrev pub slipped_sent : ℕ → ℕ
slipped_sent zero = 20
slipped_sent (suc i) = 105

pub record Promise : Type 0 where
  -- each channel index has a sum of its own
  pub places : (c d : ℕ) → channel_fits c ≡ true → channel_fits d ≡ true → sum_at c ≡ sum_at d → c ≡ d
  pub reads_as_sent : (s b : List ℕ) → ReadsAsSent s b
  -- of something: both headers of that block are past 1 and 2, and the reader's clock follows
  pub own : (i : ℕ) → i < 2 → own (llid_of slipped_settings) (header_of slipped_block i) ≡ true
  pub follows : (i : ℕ) → i < 2 → Follows slipped_sent slipped_settings slipped_block i
