-- `capture::opening::open` meets its contract: it opens in the usual way. Assumes nothing.
use mathlib.Core.Path.{ap, ◌∙◌}
use Rattle.octets.specs.Output.{WithOutput, with_output}
use Rattle.reading.specs.declared.NearAnswer.{NearAnswer}
use Rattle.reading.proofs.Reopening.{opened}
use Rattle.reading.proofs.Readings.{opening_usual}
use Rattle.capture.proofs.opening.open.Goals as goal

pub returns : goal.returns
returns c =
    let usual = ap (λ (o : WithOutput NearAnswer). with_output o.answer.opened o.output) c.open_by.ensures in
    record { output_after = usual ∙ opening_usual _ _ _; opened_if_accepted = opened _ _ _ }
