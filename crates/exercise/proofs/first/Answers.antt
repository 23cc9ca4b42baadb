-- `exercise::first` meets its contract. The loop's invariant: no step that is passed matters. Assumes nothing.
use Rattle.std.proofs.Common.{◌≡◌, ◌+◌, ◌-◌, sym, ◌∙◌, arith}
use Rattle.exercise.proofs.Scripts.{sizes, matters_told, first_on, first_here, first_end}
use Rattle.exercise.proofs.first.Goals as goal

pub steps_in-steps-requires : goal.steps_in-steps-requires
steps_in-steps-requires c = (sizes _ c.requires).interval

pub returns-then-ne : goal.returns-then-ne
returns-then-ne c =
    let told = matters_told _ _ _ _ _ _ c.play_without-whole.ensures c.play_without.ensures c.ne.ensures c.if-ne.true in
    rw (← c.steps_in-steps.ensures) (sym (c.loop-k.invariant ∙ first_here _ _ _ (omega arith) c.loop-k-test.true told))

pub loop-k-preserved : goal.loop-k-preserved
loop-k-preserved c =
    let told = matters_told _ _ _ _ _ _ c.play_without-whole.ensures c.play_without.ensures c.ne.ensures c.if-ne.false in
    let f : c.steps_in-steps.result + 1 - (c.loop-k.k + 1) ≡ c.steps_in-steps.result - c.loop-k.k = omega arith in
    let g : c.loop-k.k + 1 - 1 ≡ c.loop-k.k = omega arith in
    rw (f, g) (c.loop-k.invariant ∙ first_on _ _ _ (omega arith) c.loop-k-test.true told)

pub returns : goal.returns
returns c =
    rw (← c.steps_in-steps.ensures) (sym (c.loop-k.invariant ∙ first_end _ _ _ (omega arith)))

pub returns-else-ne : goal.returns-else-ne
returns-else-ne c =
    let told = matters_told _ _ _ _ _ _ c.play_without-whole.ensures c.play_without.ensures c.ne.ensures c.if-ne.false in
    rw (← c.steps_in-steps.ensures)
    (sym (c.loop-k.invariant ∙ first_on _ _ _ (omega arith) c.loop-k-test.true told ∙ first_end _ _ _ (omega arith)))
