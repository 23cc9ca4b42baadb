-- `capture::verdict::verdicts` meets its contract: it judges in the usual way. Assumes nothing.
use mathlib.Core.Path.{ap, ◌∙◌}
use Rattle.octets.specs.Output.{WithOutput, with_output}
use Rattle.reading.specs.declared.NearVerdicts.{NearVerdicts}
use Rattle.reading.proofs.Readings.{judging_usual}
use Rattle.capture.proofs.verdict.verdicts.Goals as goal

pub returns : goal.returns
returns c =
    ap (λ (o : WithOutput NearVerdicts). with_output o.answer.directory o.output) c.verdicts_by.ensures
    ∙ judging_usual _ _ _
