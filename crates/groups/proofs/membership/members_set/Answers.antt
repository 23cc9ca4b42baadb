-- `groups::membership::members_set` meets its contract: the chain tests the flag of each member. Assumes nothing.
use Rattle.std.proofs.Common.{rules, ◌≡◌, ap, ◌∙◌}
use borrow.Author.Tests.{tests}
use mathlib.Core.List.{List, map}
use Prim.Native.Nat.{ℕ}
use lib.ListN.{get_or, get_or-map}
use Rattle.octets.specs.Lists.{all}
use Rattle.octets.proofs.Tests.{all_alike}
use Rattle.ends.specs.Flags.{is_up}
use Rattle.ends.specs.Table.{past_unit}
use Rattle.ends.specs.declared.Olt.{Olt}
use Rattle.ends.specs.declared.UnitRecord.{UnitRecord}
use Rattle.group_protocol.specs.GroupCalls.{members_set}
use Rattle.group_protocol.specs.Members.{places_of}
use Rattle.group_protocol.specs.declared.Members.{Members}
use Rattle.groups.proofs.Walks.{all_in_use}
use Rattle.groups.proofs.membership.members_set.Goals as goal

-- the flags that were gathered tell what the table does
by_flags : (o : Olt) (m : Members) (flags : List ℕ) → flags ≡ map (λ (u : UnitRecord). u.clock.acknowledged) o.units
    → all (λ place. is_up (get_or flags place 0)) (places_of m) ≡ members_set o m
unfolding members_set past_unit
by_flags o m flags e =
    rw e
    (all_alike _ _ (λ place. ap is_up (get_or-map (λ (u : UnitRecord). u.clock.acknowledged) o.units place past_unit)) (places_of m))

pub returns : goal.returns
unfolding places_of
returns c =
    let m = c.args.members in
    let flags = c.clock_flags-flags.result in
    all_in_use (λ k. get_or m.places k 0) m.count (cc) (λ place. is_up (get_or flags place 0)) c.all.ensures.ran (λ x b q k. search (rules, tests))
    ∙ by_flags c.args.olt m flags c.clock_flags-flags.ensures
