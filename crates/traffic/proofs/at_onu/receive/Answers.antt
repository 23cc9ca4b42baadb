-- `traffic::at_onu::receive` meets its contract: its verdict is that of the reply; at a valid end only a held key comes into use. Assumes nothing.
use mathlib.Core.Path.{sym, ◌∙◌}
use Rattle.ends.proofs.Validity.{onu_in_range}
use Rattle.traffic.proofs.at_onu.receive.Goals as goal

pub receive_choice-choice-requires : goal.receive_choice-choice-requires
receive_choice-choice-requires c = (onu_in_range _ (sym c.valid_onu.ensures ∙ c.if-not-valid_onu.false)).keys
