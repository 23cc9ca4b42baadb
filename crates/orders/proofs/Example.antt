-- What the laws say of the example, by computing and by citing them. Assumes nothing.
use mathlib.Core.Path.{◌≡◌, refl, sym, ◌∙◌}
use mathlib.Core.Bool.{true, false}
use mathlib.Core.List.{List, [], ◌∷◌}
use Prim.Native.Nat.{ℕ}
use native.Mathlib.Omega.{arith}
use Rattle.refusal.specs.Number.{number_of}
use Rattle.refusal.specs.declared.Refusal.TheVariants.{ChannelTaken, ClockNotSet}
use Rattle.ends.specs.Occupancy.{free_channels}
use Rattle.ends.specs.Records.{fresh_unit, with_clock}
use Rattle.ends.specs.Table.{unit_at}
use Rattle.ends.specs.declared.Shared.{Shared}
use Rattle.ends.specs.declared.UnitRecord.{UnitRecord}
use Rattle.group_protocol.specs.Head.{fresh_group, group_at, valid_head}
use Rattle.group_protocol.specs.Members.{fresh_members}
use Rattle.group_protocol.specs.declared.HeadEnd.{HeadEnd}
use Rattle.orders.specs.Calls.{Call, capture, measure, retry}
use Rattle.orders.specs.Demand.{Demand}
use Rattle.orders.specs.Example.{MayChange, MayNot, Shown, example, first_clock, first_unit, interval, number_at, olt_mac, offer_to, subscriber, swapped, to_first, to_second, to_second_same_channel}
use Rattle.orders.specs.Locality.{GroupPart, MemberPart, SameGroup, SameUnit, group_part, member_parts}
use Rattle.orders.specs.Parties.{excepted, party_of, same_party}
use Rattle.orders.proofs.Advances.{advances}
use Rattle.orders.proofs.Locality.{locality}
use Rattle.orders.proofs.Opened.{opened}
use Rattle.orders.proofs.Theorem.{either_order}

example_valid : valid_head example ≡ true
unfolding opened
example_valid = refl

swapped_valid : valid_head swapped ≡ true
unfolding opened
swapped_valid = refl

may_change : (x y : Call) (numberX numberY : ℕ) → same_party (party_of example x) (party_of example y) ≡ false → excepted example x y ≡ false
    → number_at example x ≡ numberX → number_at example y ≡ numberY → MayChange x y numberX numberY
may_change x y numberX numberY d e a b =
    record { different = d; allowed = e; first = a; second = b; either_order = either_order example x y example_valid d e }

---- what both head ends have of the first unit and of its group, computed

shared_both : Shared
shared_both = record { mac = olt_mac; tick = 0; clock = first_clock; channels = free_channels }

own_both : UnitRecord
own_both =
    with_clock (fresh_unit first_unit 0 interval)
    (record { trip = 0; captured = 1; tick = 0; sent = 1; acknowledged = 1 })

part_both : GroupPart
part_both = group_part (fresh_group 7 interval (fresh_members [] 1))

members_both : List MemberPart
members_both = record { llids = 5 ∷ []; acknowledged = 1 } ∷ []

-- of the unit at place u, and of the group at place 0
record Computed (h : HeadEnd) (u : ℕ) : Type 0 where
  shared : h.olt.shared ≡ shared_both
  own : unit_at h.olt u ≡ own_both
  part : group_part (group_at h 0) ≡ part_both
  members : member_parts h 0 ≡ members_both

example_computed : Computed example 0
unfolding opened shared_both own_both part_both members_both
example_computed = record { shared = refl; own = refl; part = refl; members = refl }

swapped_computed : Computed swapped 1
unfolding opened shared_both own_both part_both members_both
swapped_computed = record { shared = refl; own = refl; part = refl; members = refl }

unit_elsewhere-holds : SameUnit example swapped 0 1
unfolding opened
unit_elsewhere-holds =
    record {
      first = omega arith;
      second = omega arith;
      shared = example_computed.shared ∙ sym swapped_computed.shared;
      own = example_computed.own ∙ sym swapped_computed.own;
    }

group_elsewhere-holds : SameGroup example swapped 0 0
unfolding opened
group_elsewhere-holds =
    record {
      first = omega arith;
      second = omega arith;
      shared = example_computed.shared ∙ sym swapped_computed.shared;
      own = example_computed.part ∙ sym swapped_computed.part;
      members = example_computed.members ∙ sym swapped_computed.members;
    }

---- the pairs of calls

one_channel-holds : MayNot to_first to_second_same_channel (number_of ChannelTaken) (number_of ChannelTaken)
unfolding opened
one_channel-holds = record { different = refl; excepted = refl; first = refl; second = refl; after_first = refl; after_second = refl }

group_and_member-holds : MayNot (measure 5 40) (offer_to 7) (number_of ClockNotSet) 0
unfolding opened
group_and_member-holds = record { different = refl; excepted = refl; first = refl; second = refl; after_first = refl; after_second = refl }

shown : Shown
unfolding opened
shown =
    record {
      valid = example_valid;
      two_channels = may_change to_first to_second 0 0 refl refl refl refl;
      two_groups = may_change (offer_to 7) (offer_to 8) 0 0 refl refl refl refl;
      group_and_other = may_change (offer_to 7) (measure 6 40) 0 0 refl refl refl refl;
      refused = may_change to_first (retry 6) 0 8 refl refl refl refl;
      nobody = may_change to_first (capture 9) 0 2 refl refl refl refl;
      one_channel = one_channel-holds;
      group_and_member = group_and_member-holds;
      taken_by_first = refl;
      taken_by_second = refl;
      unit_elsewhere = unit_elsewhere-holds;
      unit_answers = (locality.unit example swapped 0 1 to_first example_valid swapped_valid unit_elsewhere-holds refl).0;
      group_elsewhere = group_elsewhere-holds;
      group_answers = (locality.group example swapped 0 0 (offer_to 7) example_valid swapped_valid group_elsewhere-holds refl).0;
      head_advances = advances.head example 3 4 refl;
      unit_advances = advances.subscriber subscriber 3 4 refl;
    }

pub demand : Demand
demand = record { either_order = either_order; locality = locality; advances = advances; example = shown }
