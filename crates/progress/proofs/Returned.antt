-- The group's continuations on the example's list: the theorems are cited where it is cut short, and at its end. Assumes nothing.
use mathlib.Core.Path.{refl}
use mathlib.Core.Logic.{inl, inr}
use Prim.Native.Nat.{◌+◌, ◌*◌}
use borrow.Author.Tests.{ltb-true, leb-true}
use Rattle.clock.specs.Ticks.{max_round_trip}
use Rattle.unicast.specs.Bounds.{longest}
use Rattle.line.specs.Example.{example, interval, to_missed, to_unsynced, events}
use Rattle.line.specs.Course.{played}
use Rattle.line.proofs.Opened.{opened}
use Rattle.line.proofs.Tested.{tested, new_true}
use Rattle.line.proofs.Example.{example_fresh, example_meets, missed_meets, unsynced_meets}
use Rattle.progress.specs.GroupProgress.{placed, ordered, most_of, and_then, arrivals, key_round, waited, envelope_round, group_recipe, restoring, GroupMoving, GroupBrings, Restorable, Restores}
use Rattle.progress.specs.Returned.{missed, unsynced, spare, Returned}
use Rattle.progress.proofs.GroupProgress.{group_progress-holds}
use Rattle.progress.proofs.GroupRestored.{group_restored-holds}

missed_moves : GroupMoving missed 0 spare
unfolding opened placed ordered most_of
missed_moves = record { registered = refl; below = ltb-true _ _ refl; offers = inl (ltb-true _ _ refl); in_range = leb-true _ _ refl }

played_moves : GroupMoving played 0 spare
unfolding opened tested placed ordered most_of
played_moves = record { registered = refl; below = ltb-true _ _ refl; offers = inr (refl, new_true played spare refl); in_range = leb-true _ _ refl }

missed_brings : GroupBrings example missed 0 3 (longest + interval + 60) 11 (group_recipe 0 spare missed)
unfolding opened placed ordered most_of
missed_brings = group_progress-holds example to_missed 0 spare example_fresh missed_meets missed_moves

played_brings : GroupBrings example played 0 5 (longest + interval + 60) 11 (group_recipe 0 spare played)
unfolding opened placed ordered most_of
played_brings = group_progress-holds example events 0 spare example_fresh example_meets played_moves

unsynced_moves : Restorable unsynced 0 spare
unfolding opened tested placed ordered
unsynced_moves = record { registered = refl; below = ltb-true _ _ refl; new = new_true unsynced spare refl; in_range = leb-true _ _ refl }

unsynced_brings : Restores example unsynced 0 4 (2 * (longest + max_round_trip) + (longest + interval) + 2 * max_round_trip) 25
    (restoring 0 spare unsynced)
unfolding opened placed ordered
unsynced_brings = group_restored-holds example to_unsynced 0 spare example_fresh unsynced_meets unsynced_moves

pub returned : Returned
unfolding opened placed ordered most_of and_then arrivals key_round waited envelope_round group_recipe
returned =
    record {
      untaken = refl;
      listed = refl;
      brings = missed_brings;
      opens = missed_brings.opened 1 refl refl refl;
      onwards = played_brings;
      restores = unsynced_brings;
      opens_too = unsynced_brings.opened 1 refl refl;
    }
