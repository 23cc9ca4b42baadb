-- Records with a part replaced, and records new and empty (01, Clock: fresh ends, registering). Assumes nothing.
use Rattle.std.specs.Prelude.{ℕ, replicate}
use Rattle.ends.specs.Limits.{max_units}
use Rattle.ends.specs.Timers.{fresh_timer}
use Rattle.ends.specs.Keys.{no_slots, not_noted}
use Rattle.ends.specs.Travels.{no_travel}
use Rattle.ends.specs.Occupancy.{free_channels}
use Rattle.ends.specs.Identities.{no_identity, kept}
use Rattle.ends.specs.declared.Timer.{Timer}
use Rattle.ends.specs.declared.Slots.{Slots}
use Rattle.ends.specs.declared.FirstSend.{FirstSend}
use Rattle.ends.specs.declared.Channels.{Channels}
use Rattle.ends.specs.declared.Identity.{Identity}
use Rattle.ends.specs.declared.UnitKeys.{UnitKeys}
use Rattle.ends.specs.declared.Confirmation.{Confirmation}
use Rattle.ends.specs.declared.UnitClock.{UnitClock}
use Rattle.ends.specs.declared.UnitRecord.{UnitRecord}
use Rattle.ends.specs.declared.Shared.{Shared}
use Rattle.ends.specs.declared.Olt.{Olt}
use Rattle.ends.specs.declared.OnuKeys.{OnuKeys}
use Rattle.ends.specs.declared.OnuClock.{OnuClock}
use Rattle.ends.specs.declared.Travel.{Travel}
use Rattle.ends.specs.declared.Onu.{Onu}

---- a unit at the OLT

unfoldable pub with_keys : UnitRecord → UnitKeys → UnitRecord
with_keys u k = record { identity = u.identity; keys = k; confirmation = u.confirmation; clock = u.clock }

unfoldable pub with_confirmation : UnitRecord → Confirmation → UnitRecord
with_confirmation u c = record { identity = u.identity; keys = u.keys; confirmation = c; clock = u.clock }

unfoldable pub with_clock : UnitRecord → UnitClock → UnitRecord
with_clock u c = record { identity = u.identity; keys = u.keys; confirmation = u.confirmation; clock = c }

-- nothing captured, sent or acknowledged
abbrev pub new_unit_clock : ℕ → UnitClock
new_unit_clock trip = record { trip = trip; captured = 0; tick = 0; sent = 0; acknowledged = 0 }

unfoldable pub with_timer : UnitKeys → Timer → UnitKeys
with_timer k t = record { timer = t; active = k.active; offered = k.offered; slots = k.slots; first = k.first }

unfoldable pub with_slots : UnitKeys → Slots → UnitKeys
with_slots k s = record { timer = k.timer; active = k.active; offered = k.offered; slots = s; first = k.first }

unfoldable pub with_first : UnitKeys → FirstSend → UnitKeys
with_first k f = record { timer = k.timer; active = k.active; offered = k.offered; slots = k.slots; first = f }

-- numbers 0, flags down
unfoldable pub fresh_unit : Identity → ℕ → ℕ → UnitRecord
fresh_unit i trip interval =
    record {
      identity = kept i;
      keys = record { timer = fresh_timer interval; active = 0; offered = 0; slots = no_slots; first = not_noted };
      confirmation = record { confirmed = 0; acknowledged = 0 };
      clock = new_unit_clock trip;
    }

-- a place with no unit
unfoldable pub no_unit : UnitRecord
no_unit = fresh_unit no_identity 0 0

---- the OLT

unfoldable pub with_channels : Shared → Channels → Shared
with_channels s c = record { mac = s.mac; tick = s.tick; clock = s.clock; channels = c }

unfoldable pub new_olt : ℕ → ℕ → Olt
new_olt mac clock =
    record { shared = record { mac = mac; tick = 0; clock = clock; channels = free_channels }; count = 0; units = replicate max_units no_unit }

---- the ONU

unfoldable pub with_onu_clock : Onu → OnuClock → Onu
with_onu_clock o c =
    record {
      identity = o.identity;
      oltmac = o.oltmac;
      tick = o.tick;
      clock = c;
      keys = o.keys;
      first = o.first;
      travel = o.travel;
      channels = o.channels;
    }

unfoldable pub with_onu_keys : Onu → OnuKeys → Onu
with_onu_keys o k =
    record {
      identity = o.identity;
      oltmac = o.oltmac;
      tick = o.tick;
      clock = o.clock;
      keys = k;
      first = o.first;
      travel = o.travel;
      channels = o.channels;
    }

unfoldable pub with_onu_first : Onu → FirstSend → Onu
with_onu_first o f =
    record {
      identity = o.identity;
      oltmac = o.oltmac;
      tick = o.tick;
      clock = o.clock;
      keys = o.keys;
      first = f;
      travel = o.travel;
      channels = o.channels;
    }

unfoldable pub with_onu_channels : Onu → Channels → Onu
with_onu_channels o c =
    record {
      identity = o.identity;
      oltmac = o.oltmac;
      tick = o.tick;
      clock = o.clock;
      keys = o.keys;
      first = o.first;
      travel = o.travel;
      channels = c;
    }

unfoldable pub with_travel : Onu → Travel → Onu
with_travel o t =
    record {
      identity = o.identity;
      oltmac = o.oltmac;
      tick = o.tick;
      clock = o.clock;
      keys = o.keys;
      first = o.first;
      travel = t;
      channels = o.channels;
    }

-- as before the first clock message
abbrev pub unsynced_clock : ℕ → OnuClock
unsynced_clock time = record { synced = 0; time = time; rx = 0 }

unfoldable pub new_onu : Identity → ℕ → ℕ → Onu
new_onu i oltmac time =
    record {
      identity = kept i;
      oltmac = oltmac;
      tick = 0;
      clock = unsynced_clock time;
      keys = record { active = 0; held = 0; slots = no_slots };
      first = not_noted;
      travel = no_travel;
      channels = free_channels;
    }
