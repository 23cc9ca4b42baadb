-- What has left for a group arrives at each member when it is due. Assumes nothing.
use mathlib.Core.Path.{◌≡◌, refl, sym, ◌∙◌, ap, subst}
use mathlib.Core.List.{List, [], ◌∷◌, ◌++◌, map}
use Prim.Native.Nat.{ℕ, ◌+◌, ◌-◌, ◌*◌, ◌≤◌}
use native.Mathlib.Omega.{arith}
use lib.ListN.{length, get_or}
use Rattle.clock.specs.Ticks.{max_tick}
use Rattle.unicast.specs.Setting.{Setting}
use Rattle.unicast.specs.History.{InFlight, left_at, Lane}
use Rattle.unicast.specs.Premises.{FittingBuffer}
use Rattle.unicast.proofs.Invariant.{Rising}
use Rattle.line.specs.History.{GroupLane}
use Rattle.line.specs.Events.{Event, advance, arrive_group}
use Rattle.line.specs.Run.{State, no_group_lane, group_lane_at, group_in_flight_at, now, lanes, step, runs}
use Rattle.line.specs.Premises.{DueOfGroup, Meets}
use Rattle.line.proofs.AdvanceSteps.{advance_right}
use Rattle.line.proofs.GroupArrivalSteps.{arrive_group_right}
use Rattle.line.proofs.Invariant.{Invariant}
use Rattle.progress.specs.GroupProgress.{down_to, member_of, members_of, longest_down, arrivals}
use Rattle.progress.proofs.Progress.{rising_top}
use Rattle.progress.proofs.Rounds.{last_is, last_some}
use Rattle.progress.proofs.GroupGoing.{Leaves}
use Rattle.progress.proofs.GroupStays.{Stays, stays_itself, stays_then, same_lane, advance_stays, advance_groups, advance_tick, Comes}
use Rattle.progress.proofs.Ordered.{Each, each_both, Distinct, each_ordered, distinct_ordered, ordered_rising}

---- lists

pub runs_append : (s : State) (es fs : List Event) → runs s (es ++ fs) ≡ runs (runs s es) fs
unfolding runs
runs_append s [] fs = refl
runs_append s (e ∷ es) fs = runs_append (step s e) es fs

pub meets_append : (w : Setting) (s : State) (es fs : List Event) → Meets w s es → Meets w (runs s es) fs → Meets w s (es ++ fs)
unfolding runs
meets_append w s [] fs m n = n
meets_append w s (e ∷ es) fs m n = (m.0, meets_append w (step s e) es fs m.1 n)

pub arrivals_length : (s : State) (g passed : ℕ) (us : List ℕ) → length (arrivals s g passed us) ≡ 2 * length us
unfolding arrivals
arrivals_length s g passed [] = refl
arrivals_length s g passed (u ∷ us) = omega (arith, arrivals_length s g (down_to s u) us)

---- x has left, at s0 for s1; P is what its arrival makes of a unit

module _ (w : Setting) (g : ℕ) (x : InFlight) (s0 s1 : State) (P : ℕ → State → Type 0) (units : lanes s1 ≡ lanes s0)
    (left : left_at x ≡ now s0) (buffer : FittingBuffer x [])
    (arrives : (t : State) (u k : ℕ) → Invariant w t → Stays g s1 t → (d : DueOfGroup t u g k []) → group_in_flight_at t u g k ≡ x
    → Comes g u t (step t (arrive_group u g k [])) × P u (step t (arrive_group u g k [])))
    (keeps : (u : ℕ) (t z : State) → Stays g t z → P u t → P u z) where
  -- what arrives is the last of the unit's queue
  abbrev Waits : State → ℕ → Type 0
  Waits t u = get_or (group_lane_at t g).towards u [] ≡ get_or (group_lane_at s0 g).towards u [] ++ (x ∷ [])

  pub record Gone (t : State) (es : List Event) (last : ℕ) (us : List ℕ) : Type 0 where
    pub meets : Meets w t es
    pub invariant : Invariant w (runs t es)
    pub stays : Stays g t (runs t es)
    pub each : Each (λ u. P u (runs t es)) us
    pub tick : now (runs t es) ≤ last

  due_now : (t : State) (u : ℕ) → lanes t ≡ lanes s0 → now t ≡ now s0 + down_to s0 u → Waits t u
      → DueOfGroup t u g (length (get_or (group_lane_at s0 g).towards u [])) []
      × (group_in_flight_at t u g (length (get_or (group_lane_at s0 g).towards u [])) ≡ x)
  due_now t u same tick waits =
      let there : group_in_flight_at t u g (length (get_or (group_lane_at s0 g).towards u [])) ≡ x =
      last_is _ (get_or (group_lane_at s0 g).towards u []) x _ waits in (
        record {
          some = last_some _ (get_or (group_lane_at s0 g).towards u []) x waits;
          at = omega (arith, ap left_at there, left, tick, ap (λ (l : Lane). l.path.down) (same_lane s0 t same u));
          buffer = subst (λ (y : InFlight). FittingBuffer y []) (sym there) buffer;
        },
        there,
      )

  pub all_arrive : (us : List ℕ) (t : State) (passed most : ℕ) → Invariant w t → Stays g s1 t → now t ≡ now s0 + passed
      → Rising passed most (map (down_to s0) us) → now s0 + most ≤ max_tick → Distinct us → Each (Waits t) us
      → Gone t (arrivals s0 g passed us) (now s0 + most) us
  unfolding arrivals runs
  all_arrive [] t passed most i stays tick rising range distinct waits =
      record { meets = tt; invariant = i; stays = stays_itself g t; each = tt; tick = omega (arith, tick, rising) }
  all_arrive (u ∷ us) t passed most i stays tick rising range distinct waits =
      let n = down_to s0 u - passed in
      let k = length (get_or (group_lane_at s0 g).towards u []) in
      let high = rising_top (down_to s0) (down_to s0 u) most us rising.1 in
      let t1 = step t (advance n) in
      let i1 = advance_right w t n i in
      let tick1 : now t1 ≡ now s0 + down_to s0 u =
      omega (arith, advance_tick w t n i (omega (arith, tick, range, high, rising.0)), tick, rising.0) in
      let stays1 = stays_then g s1 t t1 stays (advance_stays g t n) in
      let same : (v : ℕ) → get_or (group_lane_at t1 g).towards v [] ≡ get_or (group_lane_at t g).towards v [] =
      λ v. ap (λ (gs : List GroupLane). get_or (get_or gs g no_group_lane).towards v []) (advance_groups t n) in
      let due = due_now t1 u (stays1.units ∙ units) tick1 (same u ∙ waits.0) in
      let come = arrives t1 u k i1 stays1 due.0 due.1 in
      let t2 = step t1 (arrive_group u g k []) in
      let i2 = arrive_group_right w t1 u g k [] i1 due.0 in
      let rest = all_arrive us t2 (down_to s0 u) most i2 (stays_then g s1 t1 t2 stays1 come.0.stays) (come.0.tick ∙ tick1) rising.1 range
      distinct.1
      (each_both (λ v. v ≡ u → ⊥) (Waits t) (Waits t2) us (λ v apart wait. come.0.others v apart ∙ same v ∙ wait) distinct.0 waits.1) in
      let after = runs t2 (arrivals s0 g (down_to s0 u) us) in
      record {
        meets = (tt, (due.0, rest.meets));
        invariant = rest.invariant;
        stays = stays_then g t t1 after (advance_stays g t n) (stays_then g t1 t2 after come.0.stays rest.stays);
        each = (keeps u t2 after rest.stays come.1, rest.each);
        tick = rest.tick;
      }

  -- at every member
  pub members_reached : Invariant w s1 → Leaves g x s0 s1 → now s0 + longest_down s0 g ≤ max_tick
      → Gone s1 (arrivals s0 g 0 (members_of s0 g)) (now s0 + longest_down s0 g) (members_of s0 g)
  members_reached i leaves range =
      all_arrive (members_of s0 g) s1 0 (longest_down s0 g) i (stays_itself g s1) (omega (arith, leaves.tick))
      (ordered_rising (member_of s0 g) (down_to s0) (length (lanes s0))) range (distinct_ordered (member_of s0 g) (down_to s0) (length (lanes s0)))
      (each_ordered (member_of s0 g) (down_to s0) (Waits s1) (length (lanes s0)) (λ u h e. leaves.queue u h e))
