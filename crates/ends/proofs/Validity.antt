-- What validity says of each record, as facts, and that the facts give it. Assumes nothing.
use Rattle.std.specs.Prelude.{Option, None}
use Rattle.std.proofs.Common.{◌≡◌, ℕ, ◌+◌, ◌<◌, ◌≤◌, Bool, true, false, eqb, ltb, leb, refl, ⊎_elim, arith, ltb-true, lt-ltb, eqb-true, le-leb, leb-true}
use borrow.Author.Tests.{not-true}
use Rattle.octets.specs.Choice.{either, pick}
use Rattle.octets.proofs.Choice.{both_left, both_right, both_true, either_cases, not_of_false}
use Rattle.clock.specs.Ticks.{max_tick, clock_turn, max_round_trip, local_turn}
use Rattle.ends.specs.Limits.{max_units, max_key_number}
use Rattle.ends.specs.Timers.{valid_timer}
use Rattle.ends.specs.Keys.{valid_first}
use Rattle.ends.specs.Travels.{valid_changes}
use Rattle.ends.specs.Occupancy.{valid_channels}
use Rattle.ends.specs.Identities.{distinct, llids_of, valid_mac, valid_identity}
use Rattle.ends.specs.Records.{with_channels}
use Rattle.ends.specs.Table.{registered, table_llids, with_olt_channels}
use Rattle.ends.specs.Validity.{judged, valid_numbers, valid_keys, valid_unit_clock, valid_unit, valid_shared, valid_olt, valid_onu_keys, valid_onu_clock, valid_onu}
use Rattle.ends.specs.declared.Channels.{Channels}
use Rattle.ends.specs.declared.UnitClock.{UnitClock}
use Rattle.ends.specs.declared.UnitRecord.{UnitRecord}
use Rattle.ends.specs.declared.Shared.{Shared}
use Rattle.ends.specs.declared.Olt.{Olt}
use Rattle.ends.specs.declared.Onu.{Onu}
use Rattle.octets.specs.Lists.{all}
use Rattle.ends.specs.Flags.{is_up}
use Rattle.ends.specs.declared.OnuKeys.{OnuKeys}
use Rattle.ends.specs.declared.OnuClock.{OnuClock}

-- from a joined test that holds, its parts, and from its parts the test
pub ruleset facts = (both_left, both_right, leb-true, ltb-true, not-true)

pub ruleset tests = (both_true, le-leb, lt-ltb, not_of_false)

---- the OLT's clock for a unit

pub record ClockInRange (tick : ℕ) (c : UnitClock) : Type 0 where
  pub trip : c.trip ≤ max_round_trip
  pub captured : c.captured ≤ 1
  pub since : either (eqb c.captured 0) (leb c.tick tick) ≡ true
  pub sent : c.sent ≤ 1
  pub acknowledged : c.acknowledged ≤ 1

pub clock_in_range : (tick : ℕ) (c : UnitClock) → valid_unit_clock tick c ≡ true → ClockInRange tick c
unfolding valid_unit_clock
clock_in_range tick c e = search facts

pub clock_valid : (tick : ℕ) (c : UnitClock) → ClockInRange tick c → valid_unit_clock tick c ≡ true
unfolding valid_unit_clock
clock_valid tick c r = search tests

---- a unit

pub record UnitInRange (tick : ℕ) (u : UnitRecord) : Type 0 where
  pub identity : valid_identity u.identity ≡ true
  pub timer : valid_timer u.keys.timer ≡ true
  pub first : valid_first u.keys.first tick ≡ true
  pub low : u.confirmation.confirmed ≤ u.keys.active
  pub mid : u.keys.active ≤ u.keys.offered
  pub high : u.keys.offered ≤ u.confirmation.confirmed + 1
  pub acknowledged : u.confirmation.acknowledged ≤ 1
  pub clock : valid_unit_clock tick u.clock ≡ true

pub unit_in_range : (tick : ℕ) (u : UnitRecord) → valid_unit tick u ≡ true → UnitInRange tick u
unfolding valid_unit valid_keys valid_numbers
unit_in_range tick u e = search facts

pub unit_valid : (tick : ℕ) (u : UnitRecord) → UnitInRange tick u → valid_unit tick u ≡ true
unfolding valid_unit valid_keys valid_numbers
unit_valid tick u r = search tests

---- what the units share

pub record SharedInRange (s : Shared) : Type 0 where
  pub mac : valid_mac s.mac ≡ true
  pub tick : s.tick ≤ max_tick
  pub clock : s.clock < clock_turn
  pub channels : valid_channels s.channels ≡ true

pub shared_in_range : (s : Shared) → valid_shared s ≡ true → SharedInRange s
unfolding valid_shared
shared_in_range s e = search facts

pub shared_valid : (s : Shared) → SharedInRange s → valid_shared s ≡ true
unfolding valid_shared
shared_valid s r = search tests

---- the OLT

pub record OltInRange (o : Olt) : Type 0 where
  pub count : o.count ≤ max_units
  pub shared : valid_shared o.shared ≡ true
  pub units : all (valid_unit o.shared.tick) (registered o) ≡ true
  pub distinct : distinct (table_llids (registered o)) ≡ true

pub olt_in_range : (o : Olt) → valid_olt o ≡ true → OltInRange o
unfolding valid_olt
olt_in_range o e = search facts

pub olt_valid : (o : Olt) → OltInRange o → valid_olt o ≡ true
unfolding valid_olt
olt_valid o r = search tests

-- with other channels
pub with_channels_valid : (o : Olt) (c : Channels) → valid_channels c ≡ true → valid_olt o ≡ true → valid_olt (with_olt_channels o c) ≡ true
unfolding with_olt_channels with_channels
with_channels_valid o c v e =
    let r = olt_in_range o e in
    let s = shared_in_range o.shared r.shared in
    olt_valid (with_olt_channels o c) (search shared_valid)

---- the ONU's keys and clocks

pub record OnuKeysInRange (k : OnuKeys) : Type 0 where
  pub held : k.held ≤ 1
  pub below : k.held ≡ 1 → k.active < max_key_number

pub onu_keys_in_range : (k : OnuKeys) → valid_onu_keys k ≡ true → OnuKeysInRange k
unfolding valid_onu_keys
onu_keys_in_range k e =
    record {
      held = search facts;
      below = λ h. ⊎_elim (λ z. absurd (omega (arith, eqb-true k.held 0 z))) (λ l. ltb-true _ _ l) (either_cases _ _ (both_right _ _ e));
    }

pub record OnuClockInRange (c : OnuClock) : Type 0 where
  pub synced : c.synced ≤ 1
  pub rx : c.rx < clock_turn
  pub tx : c.time < clock_turn
  pub local : (c.synced ≡ 1 → ⊥) → c.time < local_turn

pub onu_clock_in_range : (c : OnuClock) → valid_onu_clock c ≡ true → OnuClockInRange c
unfolding valid_onu_clock pick
onu_clock_in_range c e = by_synced (is_up c.synced) refl (both_right _ _ (both_right _ _ e)) where
  by_synced : (b : Bool) → is_up c.synced ≡ b → pick b (ltb c.time clock_turn) (ltb c.time local_turn) ≡ true → OnuClockInRange c
  by_synced true q f = record { synced = search facts; rx = search facts; tx = ltb-true _ _ f; local = λ n. absurd (n (eqb-true _ _ q)) }
  by_synced false q f =
      let low : c.time < local_turn = ltb-true _ _ f in
      record { synced = search facts; rx = search facts; tx = omega arith; local = λ n. low }

---- the ONU

pub record OnuInRange (o : Onu) : Type 0 where
  pub identity : valid_identity o.identity ≡ true
  pub distinct : distinct (llids_of o.identity) ≡ true
  pub oltmac : valid_mac o.oltmac ≡ true
  pub tick : o.tick ≤ max_tick
  pub clock : valid_onu_clock o.clock ≡ true
  pub keys : valid_onu_keys o.keys ≡ true
  pub noted : o.first.noted ≤ 1
  pub changes : valid_changes o.travel.changes ≡ true
  pub channels : valid_channels o.channels ≡ true

pub onu_in_range : (o : Onu) → valid_onu o ≡ true → OnuInRange o
unfolding valid_onu
onu_in_range o e = search facts depth 9

pub onu_valid : (o : Onu) → OnuInRange o → valid_onu o ≡ true
unfolding valid_onu
onu_valid o r = search tests depth 12

---- what is found in a valid table

pub judged_no : (t : Bool) (f : Option ℕ) → t ≡ false → judged t f ≡ judged false None
unfolding judged pick
judged_no t f e = rw e

pub judged_yes : (t : Bool) (f : Option ℕ) → t ≡ true → judged t f ≡ judged true f
judged_yes t f e = rw e
