-- What the invariant keeps of a unit's line beside the claim, and crate progress reads: the highest number that arrived each way, and how
-- long a channel is taken at most. Assumes nothing.
use Rattle.std.specs.Prelude.{Bool, true, false, List, [], ◌∷◌, ℕ, ◌+◌, max}
use Rattle.octets.specs.Choice.{pick}
use Rattle.octets.specs.Eqs.{max_eqs}
use Rattle.unicast.specs.History.{Direction, downward, upward, Arrival}

abbrev pub goes : Direction → Direction → Bool
goes downward downward = true
goes downward upward = false
goes upward downward = false
goes upward upward = true

-- the highest number of the envelopes that arrived that way, at first 0
unfoldable pub highest : Direction → List Arrival → ℕ
highest direction [] = 0
highest direction (r ∷ rs) = pick (goes direction r.envelope.direction) (max r.envelope.number (highest direction rs)) (highest direction rs)

-- a header keeps its channel for at most so many ticks: the longest envelope and one
abbrev pub longest : ℕ
longest = max_eqs + 1
