-- `headend::at_head::groups_moved` meets its contract: where the timers are valid, the first i groups are moved where they stand. Assumes nothing.
use mathlib.Core.Bool.{true}
use mathlib.Core.List.{List}
use mathlib.Core.Path.{◌≡◌, sym, ap₂, ◌∙◌}
use Prim.Native.Nat.{ℕ, ◌≤◌, ◌<◌}
use native.Mathlib.Omega.{arith}
use lib.ListN.{length, length-set, take}
use borrow.Author.Rules.{rules}
use Rattle.octets.specs.Lists.{all}
use Rattle.clock.specs.Ticks.{max_tick}
use Rattle.ends.specs.Limits.{max_units}
use Rattle.ends.specs.Records.{with_timer}
use Rattle.ends.specs.Timers.{valid_timer}
use Rattle.group_protocol.specs.Head.{past_group, with_group_keys}
use Rattle.group_protocol.specs.declared.GroupRecord.{GroupRecord}
use Rattle.group_protocol.specs.declared.Groups.{Groups}
use Rattle.group_protocol.specs.declared.HeadEnd.{HeadEnd}
use Rattle.headend.specs.HeadCalls.{groups_advanced, head_advance_of}
use Rattle.headend.proofs.Advancing.{groups_moved_to, groups_go, group_moves_on, group_timer_valid}
use Rattle.headend.proofs.at_head.groups_moved.Goals as goal

-- where all groups are moved, they are those of an end whose advance is accepted
all_moved : (groups r : Groups) (n i : ℕ) → (groups.count ≤ max_units → i ≡ groups.count) → r.count ≡ groups.count
    → (all (λ g. valid_timer g.keys.timer) (take groups.count groups.table) ≡ true → n ≤ max_tick
    → r.table ≡ groups_moved_to n i groups.table)
    → (h : HeadEnd) → h.groups ≡ groups → (head_advance_of h n).number ≡ 0 → r ≡ (head_advance_of h n).head.groups
unfolding groups_advanced
all_moved groups r n i e k t h g z =
    let go = groups_go h n z in
    let few : groups.count ≤ max_units = rw g at go.1.few in
    let timers = rw g at go.1.timers in
    ap₂ (λ (c : ℕ) (l : List GroupRecord). Groups·of c l) k (rw (e few) at (t timers go.1.ticks)) ∙ sym (go.0 ∙ rw g)
  where
    Groups·of : ℕ → List GroupRecord → Groups
    Groups·of c l = record { count = c; table = l }

pub loop-i-preserved : goal.loop-i-preserved
unfolding past_group with_group_keys with_timer
loop-i-preserved c =
    let here = c.loop-i in
    let a = c.args in
    let len : length a.groups.table ≡ max_units = search rules in
    let below : here.i < a.groups.count = omega (arith, c.min-i-end.ensures) in
    let k : here.i < length a.groups.table = omega (arith, c.min-i-end.ensures) in (
      here.invariant.0,
      simp length-set here.invariant.1,
      λ timers ticks.
          let e = here.invariant.2 timers ticks in
          group_moves_on a.groups.table here.r.table a.n here.i c.timer_advanced.result e k
          (c.timer_advanced.ensures
          (group_timer_valid a.groups.table here.r.table a.n here.i a.groups.count e below k timers) ticks),
    )

pub returns : goal.returns
returns c =
    let here = c.loop-i in
    let a = c.args in
    all_moved a.groups here.r a.n here.i (λ few. omega (arith, c.min-i-end.ensures)) here.invariant.0 here.invariant.2
