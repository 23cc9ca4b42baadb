-- What an accepted verdict tells of the table. Assumes nothing.
use mathlib.Core.Path.{◌≡◌}
use Prim.Native.Nat.{ℕ, ◌<◌}
use Rattle.ends.specs.Limits.{max_units}
use Rattle.protocol.specs.OltCalls.{register_order}
use Rattle.ends.specs.declared.Identity.{Identity}
use Rattle.ends.specs.declared.Olt.{Olt}
use Rattle.refusal.proofs.Order.{refuse_accepted}
use Rattle.protocol.proofs.Registration.{register_accepted}
use Rattle.refusal.specs.Verdict.{no_refusal}

-- a registration is accepted only where a place is left
pub register_room : (o : Olt) (i : Identity) (trip interval : ℕ)
    → register_order o i trip interval ≡ no_refusal → o.count < max_units
register_room o i trip interval e = (register_accepted o i trip interval (refuse_accepted _ _ _ e).1).room
