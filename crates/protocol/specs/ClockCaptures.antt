-- What a capture gives: whenever its message is sent, the stamps are those of the clock at the capture (01, Clock: the OLT captures Rx
-- stamp = its clock; a capture stays until the next). Assumes nothing.
use Rattle.std.specs.Prelude.{◌≡◌, List, [], ◌∷◌, ℕ}
use Rattle.clock.specs.Stamping.{captured_at}
use Rattle.ends.specs.Table.{find, unit_named}
use Rattle.protocol.specs.OltCalls.{advance_olt_of, clock_send_of}
use Rattle.ends.specs.declared.Olt.{Olt}
use Rattle.protocol.specs.declared.OltAnswer.{OltAnswer}

-- the OLT after one advance and the next, refused ones included
unfoldable pub after_advances : Olt → List ℕ → Olt
after_advances o [] = o
after_advances o (n ∷ ns) = after_advances (advance_olt_of o n).olt ns

-- r answers the capture of a unit of o: after any advances, an accepted clock send by any of the unit's LLIDs hands over the stamps
-- of o's clock
pub record Captures (o : Olt) (llid : ℕ) (r : OltAnswer) : Type 0 where
  pub stamps : r.number ≡ 0 → (ns : List ℕ) (other : ℕ) → find o other ≡ find o llid
      → (clock_send_of (after_advances r.olt ns) other).number ≡ 0
      → (clock_send_of (after_advances r.olt ns) other).message ≡ captured_at o.shared.clock (unit_named o llid).clock.trip
