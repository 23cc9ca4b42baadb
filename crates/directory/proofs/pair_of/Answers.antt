-- `directory::pair_of` meets its contract: a pair in the chain is judged by its record's length. Assumes nothing.
use mathlib.Core.Path.{sym, ap, ◌∙◌}
use mathlib.Core.Bool.{Bool}
use Rattle.octets.specs.Choice.{pick}
use Rattle.directory.specs.declared.Pair.TheVariants.{Fits, OffLength}
use Rattle.directory.proofs.Pairs.{pair_by_length}
use Rattle.directory.proofs.pair_of.Goals as goal

pub returns-then-is_sized : goal.returns-then-is_sized
unfolding pick
returns-then-is_sized c =
    let pre = c.requires in
    let ends = rw pre.count at (sym c.ends_right.ensures ∙ c.if-not-ends_right.false) in
    let sized = ap (λ (t : Bool). pick t Fits OffLength) (sym c.is_sized.ensures ∙ c.if-is_sized.true) in
    sym sized ∙ pair_by_length _ _ _ _ pre.start pre.end (c.if-from-due.false ∙ pre.place) ends

pub returns-else-is_sized : goal.returns-else-is_sized
unfolding pick
returns-else-is_sized c =
    let pre = c.requires in
    let ends = rw pre.count at (sym c.ends_right.ensures ∙ c.if-not-ends_right.false) in
    let sized = ap (λ (t : Bool). pick t Fits OffLength) (sym c.is_sized.ensures ∙ c.if-is_sized.false) in
    sym sized ∙ pair_by_length _ _ _ _ pre.start pre.end (c.if-from-due.false ∙ pre.place) ends
