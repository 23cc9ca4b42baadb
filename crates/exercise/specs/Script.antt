-- A script of messages and clock advances, and the octets that give it (02, C-23): the timer interval, then nine octets for each
-- step. Step i has i others before it, so 02's step k is step k - 1 here. Assumes nothing.
use Rattle.std.specs.Prelude.{Bool, true, false, not, Option, Some, None, List, [], ◌∷◌, ℕ, zero, suc, ◌+◌, ◌*◌, ◌-◌, ◌/◌, ◌%◌, leb, eqb, length, get_or}
use Rattle.octets.specs.BigEndian.{number_at}
use Rattle.octets.specs.Choice.{both, either}
use Rattle.refusal.specs.declared.Refusal.TheVariants.{OutOfRange, BadScript}
use Rattle.refusal.specs.Order.{refuse_if}
use Rattle.ends.specs.Timers.{valid_interval}
use Rattle.exercise.specs.declared.Kind.{Kind}
use Rattle.exercise.specs.declared.Kind.TheVariants.{ClockMessage, Offer, Retry, ClockAnswer, KeyAnswer, EnvelopeDown, EnvelopeUp, Advance}
use Rattle.exercise.specs.declared.Step.{Step}
use Rattle.refusal.specs.Verdict.{Verdict, no_refusal}

abbrev pub interval_octets : ℕ
interval_octets = 8

-- a kind, then eight octets of ticks
abbrev pub step_octets : ℕ
step_octets = 9

abbrev pub most_steps : ℕ
most_steps = 64

-- the kinds of steps in the order of their octets, from 0
abbrev pub kinds : List (Option Kind)
kinds =
    Some ClockMessage
    ∷ Some Offer
    ∷ Some Retry
    ∷ Some ClockAnswer
    ∷ Some KeyAnswer
    ∷ Some EnvelopeDown
    ∷ Some EnvelopeUp
    ∷ Some Advance
    ∷ []

abbrev pub kind_of : ℕ → Option Kind
kind_of octet = get_or kinds octet None

unfoldable pub interval_of : List ℕ → ℕ
interval_of s = number_at interval_octets s 0

-- the whole steps behind the interval
unfoldable pub steps_in : List ℕ → ℕ
steps_in s = (length s - interval_octets) / step_octets

-- none of a kind that there is not
abbrev pub step_of : Option Kind → ℕ → Option Step
step_of (Some kind) ticks = Some (record { kind = kind; ticks = ticks })
step_of None ticks = None

unfoldable pub step_at : List ℕ → ℕ → Option Step
step_at s i =
    step_of (kind_of (get_or s (interval_octets + step_octets * i) 0)) (number_at 8 s (interval_octets + step_octets * i + 1))

abbrev pub is_advance : Kind → Bool
is_advance ClockMessage = false
is_advance Offer = false
is_advance Retry = false
is_advance ClockAnswer = false
is_advance KeyAnswer = false
is_advance EnvelopeDown = false
is_advance EnvelopeUp = false
is_advance Advance = true

-- a kind that there is, with ticks for an advance alone
abbrev pub step_fits : Option Step → Bool
step_fits (Some x) = either (is_advance x.kind) (eqb x.ticks 0)
step_fits None = false

-- the m steps from step i on
unfoldable pub steps_fit : List ℕ → ℕ → ℕ → Bool
steps_fit s i zero = true
steps_fit s i (suc m) = both (step_fits (step_at s i)) (steps_fit s (suc i) m)

-- the interval is there, and in its range
unfoldable pub interval_fits : List ℕ → Bool
interval_fits s = both (leb interval_octets (length s)) (valid_interval (interval_of s))

-- whole steps, not too many, each of them known
unfoldable pub script_fits : List ℕ → Bool
script_fits s =
    both (eqb ((length s - interval_octets) % step_octets) 0) (both (leb (steps_in s) most_steps) (steps_fit s 0 (steps_in s)))

-- 1, then 26
unfoldable pub script_verdict : List ℕ → Verdict
script_verdict s = refuse_if (not (interval_fits s)) OutOfRange (refuse_if (not (script_fits s)) BadScript no_refusal)
