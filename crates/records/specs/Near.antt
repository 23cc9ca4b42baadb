-- A receive clock that is known only nearly (02, C-18). A correction is kept as its step, which is 31 more: steps run from 0 to 62,
-- and step 31 corrects nothing. Clocks are counted modulo 2^48, so a sum of corrections is kept modulo 2^48 too (D85). Assumes nothing.
use Rattle.std.specs.Prelude.{◌≡◌, Bool, true, false, List, ℕ, ◌+◌, ◌-◌, ◌*◌, ◌/◌, ◌%◌, ◌≤◌, ◌<◌, eqb, leb, ltb, get_or, set, replicate, Err, Option, Some, None}
use Rattle.octets.specs.Choice.{both, pick}
use Rattle.refusal.specs.declared.Refusal.TheVariants.{OutOfRange, UnknownLlid, EpamDiffers}
use Rattle.clock.specs.Ticks.{clock_turn, epam_turn, epam_of}
use Rattle.records.specs.declared.header.Header.{Header}
use Rattle.records.specs.declared.near.Drift.{Drift}
use Rattle.records.specs.declared.near.Heard.{Heard}
use Rattle.records.specs.Settings.{presence_of, llid_of}
use Rattle.records.specs.Verdict.{header_fits, record_verdict, verdict_for, RecordVerdict}

-- a clock is known within so many ticks
abbrev pub most_slip : ℕ
most_slip = 31

-- the last step, the correction of 31
abbrev pub last_step : ℕ
last_step = 62

-- the clock t with the correction of step d
abbrev pub stepped : ℕ → ℕ → ℕ
stepped t d = (t + d + (clock_turn - most_slip)) % clock_turn

-- the step from the clock t to one whose low six bits equal e; 63 would be a difference of exactly 32, which is as near either way
abbrev pub step_to : ℕ → ℕ → ℕ
step_to t e = (e + most_slip + (epam_turn - epam_of t)) % epam_turn

-- the clock nearest to t whose low six bits equal e, by its step
unfoldable pub nearest : ℕ → ℕ → Option ℕ
nearest t e = pick (both (ltb e epam_turn) (leb (step_to t e) last_step)) (Some (step_to t e)) None

-- what that says: it is one of the 31 below to the 31 above, no other of these has those low bits, and it is t itself where EPAM agrees
pub record IsNearest (t e : ℕ) : Type 0 where
  pub among : (d : ℕ) → nearest t e ≡ Some d → (d ≤ last_step) × (epam_of (stepped t d) ≡ e)
  pub only : (d : ℕ) → d ≤ last_step → epam_of (stepped t d) ≡ e → nearest t e ≡ Some d
  pub itself : t < clock_turn → epam_of t ≡ e → (nearest t e ≡ Some most_slip) × (stepped t most_slip ≡ t)

-- the place of a channel index among the four sums: 00, 01, 80 and 81 hex
abbrev pub sum_at : ℕ → ℕ
sum_at channel = channel % 2 + 2 * (channel / 128)

-- no header was accepted yet
abbrev pub no_drift : Drift
no_drift = record { sums = replicate 4 0; accepted = false; smallest = most_slip; largest = most_slip }

-- the clock expected at a header: the record's, plus the corrections of its channel index so far
abbrev pub expected : Drift → Header → ℕ
expected drift h = (h.clock + get_or drift.sums (sum_at h.channel) 0) % clock_turn

-- the corrections once a header of this channel index was accepted with step d
unfoldable pub corrected : Drift → ℕ → ℕ → Drift
corrected drift channel d =
    record {
      sums = set drift.sums (sum_at channel) (stepped (get_or drift.sums (sum_at channel) 0) d);
      accepted = true;
      smallest = pick (both drift.accepted (leb drift.smallest d)) drift.smallest d;
      largest = pick (both drift.accepted (leb d drift.largest)) drift.largest d;
    }

-- the header is past 1 and 2
unfoldable pub own : ℕ → Header → Bool
own llid h = both (header_fits h) (eqb h.llid llid)

-- the verdict on a record whose clock is too far
unfoldable pub far_verdict : ℕ → Header → RecordVerdict
far_verdict llid h = pick (header_fits h) (pick (eqb h.llid llid) (Err EpamDiffers) (Err UnknownLlid)) (Err OutOfRange)

-- 1, 2, 10 for a clock that is too far, else the verdict at the clock taken; only a header past all three moves the corrections (D86)
unfoldable pub heard_at : ℕ → ℕ → Drift → Header → Option ℕ → Heard RecordVerdict
heard_at presence llid drift h None = record { verdict = far_verdict llid h; drift = drift }
heard_at presence llid drift h (Some d) =
    record {
      verdict = record_verdict presence llid (stepped (expected drift h) d) h;
      drift = pick (own llid h) (corrected drift h.channel d) drift;
    }

-- the verdict on a header, read at the clock nearest to the expected one that its EPAM allows, and the sums after it
unfoldable pub heard : ℕ → ℕ → Drift → Header → Heard RecordVerdict
heard presence llid drift h = heard_at presence llid drift h (nearest (expected drift h) h.epam)

-- document 01's verdict on a record under the settings s, and the corrections behind it, in the near way (02, C-18) or the usual one, which
-- corrects nothing
unfoldable pub judged : Bool → List ℕ → Drift → Header → Heard RecordVerdict
judged true s drift h = heard (presence_of s) (llid_of s) drift h
judged false s drift h = record { verdict = verdict_for s h; drift = drift }

-- the octet of a signed number, for the correction of step d
abbrev pub signed_octet : ℕ → ℕ
signed_octet d = (d + (256 - most_slip)) % 256
