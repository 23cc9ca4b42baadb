-- `directory::payload::part` meets its contract: the bounds are in the block, and what is between them is the payload. Where a part
-- lies is known of the slice that makes it. Assumes nothing.
use mathlib.Core.Path.{◌≡◌, refl, sym, ◌∙◌}
use Prim.Native.Nat.{◌+◌, ◌-◌}
use native.Mathlib.Omega.{arith}
use Rattle.directory.proofs.Records.{bounded, refused_part}
use Rattle.directory.proofs.payload.part.Goals as goal

pub returns-in-Ok : goal.returns-in-Ok
returns-in-Ok c =
    let located = sym c.locate.ensures ∙ c.in-Ok.is in
    let w = bounded _ _ _ _ located in
    let e : c.in-Ok.bounds.from + c.in-Ok.bounds.octets - c.in-Ok.bounds.from ≡ c.in-Ok.bounds.octets = omega arith in
    record { result_value = rw e w.octets; part_of = rw located (record { memory = refl; offset = refl; inside = w.inside; octets = rw e }) }

pub returns-in-Err : goal.returns-in-Err
returns-in-Err c =
    let q = sym c.locate.ensures ∙ c.in-Err.is in
    record { result_value = sym (refused_part _ _ _ q); part_of = rw q (record { memory = refl; offset = refl; inside = omega arith; octets = refl }) }
