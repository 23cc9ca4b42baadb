-- `headend::at_head::moved` meets its contract: the OLT moves where its head end does. Assumes nothing.
use mathlib.Core.Bool.{Bool}
use mathlib.Core.Path.{refl, ap, ◌∙◌}
use Rattle.protocol.specs.Replies.{on_valid}
use Rattle.olt.specs.Moves.{moved_of}
use Rattle.headend.proofs.Advancing.{head_order, move_order-holds, olt_moved}
use Rattle.headend.proofs.at_head.moved.Goals as goal
use Rattle.refusal.specs.Verdict.{Verdict, no_refusal}

pub returns : goal.returns
unfolding moved_of
returns c =
    let a = c.args in
    c.moved.ensures
    ∙ ap (λ (v : Verdict). moved_of a.head.olt v a.n)
    (c.refuse_if-ahead.ensures ∙ ap (λ (t : Bool). on_valid t no_refusal) c.sound_groups-sound.ensures)
    ∙ rw (move_order-holds a.head a.n) (olt_moved a.head a.n (head_order a.head a.n) refl)
