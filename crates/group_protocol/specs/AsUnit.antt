-- A group as a unit: one whose C is A, whose offer is acknowledged, and whose clock is acknowledged where every member's is. The calls on a
-- unit's keys then decide as those on a group's. Assumes nothing.
use Rattle.std.specs.Prelude.{Bool}
use Rattle.octets.specs.Choice.{pick}
use Rattle.ends.specs.Identities.{no_identity}
use Rattle.ends.specs.declared.UnitRecord.{UnitRecord}
use Rattle.group_protocol.specs.declared.GroupRecord.{GroupRecord}

unfoldable pub as_unit : GroupRecord → Bool → UnitRecord
as_unit g set =
    record {
      identity = no_identity;
      keys = g.keys;
      confirmation = record { confirmed = g.keys.active; acknowledged = 1 };
      clock = record { trip = 0; captured = 0; tick = 0; sent = 0; acknowledged = pick set 1 0 };
    }
