-- What functions of this crate ask of each other and tell: nothing here is part of a promise to a caller. Assumes nothing.
use Rattle.std.specs.Prelude.{◌≡◌, List, ℕ, ◌*◌, ◌≤◌, ◌<◌, length, get_or}
use Rattle.octets.specs.Eqs.{eq_octets}

-- payload and output have n EQs
pub record Sized (p out : List ℕ) (n : ℕ) : Type 0 where
  pub read : length p ≡ eq_octets * n
  pub room : length out ≡ eq_octets * n

-- out has become out': what was as in r still is, and so are octets c up to c' of the EQs from e up to e', at their places
pub record Moved (r out out' : List ℕ) (place : ℕ → ℕ → ℕ) (c c' e e' : ℕ) : Type 0 where
  pub size : length out' ≡ length out
  pub kept : (k : ℕ) → get_or out k 0 ≡ get_or r k 0 → get_or out' k 0 ≡ get_or r k 0
  pub right : (i x : ℕ) → c ≤ i → i < c' → e ≤ x → x < e' → get_or out' (place i x) 0 ≡ get_or r (place i x) 0
