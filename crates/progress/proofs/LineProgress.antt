-- The line never freezes, groups or not. Assumes nothing.
use mathlib.Core.Path.{◌≡◌, refl, sym, ap, subst}
use mathlib.Core.List.{List, map}
use Prim.Native.Nat.{ℕ, ◌+◌, ◌*◌}
use native.Mathlib.Omega.{arith}
use Rattle.ends.specs.Table.{unit_at}
use Rattle.unicast.specs.Setting.{Setting}
use Rattle.unicast.specs.History.{downward, upward}
use Rattle.unicast.specs.Events as units
use Rattle.unicast.specs.Run as run
use Rattle.unicast.specs.Run.{lane_at, onu_at}
use Rattle.unicast.specs.Claim.{Holds, ArrivedNumbered}
use Rattle.line.specs.Run.{State, alone, now, start, runs}
use Rattle.line.specs.Without.{plain}
use Rattle.line.proofs.StartSteps.{start_right}
use Rattle.line.proofs.Theorem.{run_right}
use Rattle.progress.specs.Progress as without
use Rattle.progress.specs.Progress.{confirmed_by, limit_of, awaited_count, recipe, max_events}
use Rattle.progress.specs.LineProgress.{LineBrings, LineProgress}
use Rattle.progress.proofs.Progress.{brings}
use Rattle.progress.proofs.Owned.{owns_recipe}
use Rattle.progress.proofs.OwnEvents.{Alike, own_list}

now_alone : (s : State) → (alone s).history.now ≡ now s
unfolding alone
now_alone s = refl

-- what brings the unit there without groups does so here
lifted : (w : Setting) (s : State) (u n ticks events : ℕ) (es : List units.Event) → Alike w s es → without.Brings w (alone s) u n ticks events es
    → LineBrings w s u n ticks events es
lifted w s u n ticks events es l b =
    let same = sym l.same in
    let here = ap (λ (t : run.State). t.history.now) l.same in
    record {
      meets = l.meets;
      holds = subst (λ (t : run.State). Holds (lane_at t u) n (unit_at t.olt (lane_at t u).entry.place) (onu_at t u)) same b.holds;
      down = subst (λ (t : run.State). ArrivedNumbered (lane_at t u) downward n) same b.down;
      up = subst (λ (t : run.State). ArrivedNumbered (lane_at t u) upward n) same b.up;
      soon = omega (arith, b.soon, here, now_alone s, now_alone (runs s (map plain es)));
      short = b.short;
      whole = b.whole;
      groups = l.groups;
    }

pub line_progress-holds : LineProgress
line_progress-holds w es u llid key f m able new =
    let s = runs (start w) es in
    let i = run_right w (start w) es (start_right w f) m in
    let b = brings w (alone s) u llid key i.units able in
    lifted w s u _ _ _ (recipe u llid key (alone s))
    (own_list w s (recipe u llid key (alone s)) u llid key i able.registered able.named new.groups (owns_recipe u llid key (alone s)) b.meets)
    (subst
    (λ (t : ℕ).
    without.Brings w (alone s) u (confirmed_by (lane_at (alone s) u) + 1) (limit_of (lane_at (alone s) u))
    (max_events + 2 * awaited_count (lane_at (alone s) u) t)
    (recipe u llid key (alone s))) (now_alone s) b)
