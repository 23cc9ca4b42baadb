-- A call on one unit as the code answers it. `way` is the verdict on the way to the unit: 1 for the end, what the call refuses ahead of
-- 2, and 2. Refused there or by the unit, the unit and the channels stay, and nothing is handed over (01, 'When the reader says no'; D113).
-- Assumes nothing.
use Rattle.std.specs.Prelude.{Ok, Err}
use Rattle.refusal.specs.Order.{and_then}
use Rattle.protocol.specs.Lift.{Outcome}
use Rattle.protocol.specs.declared.Sending.{Sending}
use Rattle.ends.specs.Records.{with_keys}
use Rattle.ends.specs.declared.Shared.{Shared}
use Rattle.ends.specs.declared.UnitRecord.{UnitRecord}
use Rattle.unit.specs.declared.UnitSent.{UnitSent}
use Rattle.refusal.specs.Verdict.{Verdict}

-- the next one where the verdict accepts, else the one that was there
unfoldable pub if_accepted : {A : Type 0} → Verdict → A → A → A
if_accepted (Ok tt) next before = next
if_accepted (Err r) next before = before

unfoldable pub reached : {H : Type 0} → Verdict → H → Shared → UnitRecord → Outcome H → Outcome H
reached way nothing s u c =
    record {
      verdict = and_then way c.verdict;
      unit = if_accepted (and_then way c.verdict) c.unit u;
      channels = if_accepted (and_then way c.verdict) c.channels s.channels;
      handed = if_accepted (and_then way c.verdict) c.handed nothing;
    }

-- the unit that was lent, with what a send changes of it
unfoldable pub unit_sent : UnitRecord → UnitSent → UnitRecord
unit_sent u r =
    with_keys u
    (record {
      timer = record { interval = u.keys.timer.interval; count = u.keys.timer.count; flag = r.flag };
      active = r.active;
      offered = u.keys.offered;
      slots = u.keys.slots;
      first = record { noted = r.noted; at = r.at };
    })

-- the answer of a send on the unit that was lent; the other calls leave the channels, and their answers go without
unfoldable pub sent_outcome : UnitRecord → UnitSent → Outcome Sending
sent_outcome u r = record { verdict = r.verdict; unit = unit_sent u r; channels = r.channels; handed = r.sending }
