-- `headend::registering::roster_members` meets its contract: the eight places are looked up, and those below the count are kept. Assumes nothing.
use mathlib.Core.Path.{◌∙◌}
use Rattle.headend.proofs.Registrations.{roster_looked_up}
use Rattle.headend.proofs.registering.roster_members.Goals as goal

pub returns : goal.returns
returns c =
    let a = c.args in
    c.fresh_members.ensures
    ∙ rw (
      c.place_of-8.ensures,
      c.place_of-7.ensures,
      c.place_of-6.ensures,
      c.place_of-5.ensures,
      c.place_of-4.ensures,
      c.place_of-3.ensures,
      c.place_of-2.ensures,
      c.place_of.ensures,
    )
    (roster_looked_up a.olt a.roster)
