-- `traffic::at_onu::after_send` meets its contract: by the choice; a send under a key may be its first, and its end is kept. Assumes nothing.
use mathlib.Core.Path.{sym, ◌∙◌}
use Rattle.ends.specs.Records.{with_onu_channels, with_onu_first, with_travel}
use Rattle.ends.proofs.Travels.{travel_bounded}
use Rattle.ends.proofs.Validity.{onu_in_range}
use Rattle.protocol.specs.OnuTraffic.{onu_noted, onu_after_send}
use Rattle.traffic.proofs.at_onu.after_send.Goals as goal

pub spent-r-requires : goal.spent-r-requires
spent-r-requires c =
    let p = c.requires in
    let r = onu_in_range _ p.onu_value in
    record { bound = rw p.value (travel_bounded c.args.onu r.tick r.changes); eqs_le_max_eqs = p.eqs_le_max_eqs }

pub returns-in-Clear : goal.returns-in-Clear
unfolding onu_after_send onu_noted with_onu_channels
returns-in-Clear c =
    let p = c.requires in
    let kept = c.occupied-channels.ensures (onu_in_range _ p.onu_value).tick p.eqs_le_max_eqs in
    rw (sym p.choice_value ∙ c.in-Clear.is, kept)

pub returns-in-Current : goal.returns-in-Current
unfolding onu_after_send onu_noted with_onu_channels with_onu_first with_travel
returns-in-Current c =
    let p = c.requires in
    let kept = c.occupied-channels.ensures (onu_in_range _ p.onu_value).tick p.eqs_le_max_eqs in
    rw (sym p.choice_value ∙ c.in-Current.is, c.spent-r.ensures, c.first_send-r.ensures, p.value, kept)

pub returns-in-Next : goal.returns-in-Next
unfolding onu_after_send onu_noted with_onu_channels
returns-in-Next c =
    let p = c.requires in
    let kept = c.occupied-channels.ensures (onu_in_range _ p.onu_value).tick p.eqs_le_max_eqs in
    rw (sym p.choice_value ∙ c.in-Next.is, kept)

pub returns-in-Barred : goal.returns-in-Barred
unfolding onu_after_send onu_noted with_onu_channels
returns-in-Barred c =
    let p = c.requires in
    let kept = c.occupied-channels.ensures (onu_in_range _ p.onu_value).tick p.eqs_le_max_eqs in
    rw (sym p.choice_value ∙ c.in-Barred.is, kept)
