-- `jazmotip::at_olt::jazmotip_olt_advance` meets its contract: the OLT of the answer is stored, and the groups where they move. Assumes nothing.
use mathlib.Core.Path.{refl, ap₂}
use Rattle.ends.specs.declared.Olt.{Olt}
use Rattle.group_protocol.specs.declared.Groups.{Groups}
use Rattle.group_protocol.specs.declared.HeadEnd.{HeadEnd}
use Rattle.jazmotip.proofs.at_olt.jazmotip_olt_advance.Goals as goal

abbrev whole : Olt → Groups → HeadEnd
whole o g = record { olt = o; groups = g }

pub returns-then-answer : goal.returns-then-answer
returns-then-answer c =
    let told = c.advanced-answer.ensures in
    (told.0.0, ap₂ whole told.0.1 (c.groups_after-olt.ensures c.args.olt.now refl (told.1.0 c.if-answer.true)))

pub returns-else-answer : goal.returns-else-answer
returns-else-answer c =
    let told = c.advanced-answer.ensures in
    (told.0.0, ap₂ whole told.0.1 (told.1.1 c.if-answer.false))
