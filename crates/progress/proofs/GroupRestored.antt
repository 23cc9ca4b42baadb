-- A registered group never freezes: the members' clocks, one after the other, and then the group's continuation. Assumes nothing.
use mathlib.Core.Path.{◌≡◌, refl, sym, ◌∙◌, ap, ap₂, subst}
use mathlib.Core.Bool.{Bool, true, false}
use mathlib.Core.List.{List, [], ◌∷◌, ◌++◌, map}
use mathlib.Core.Logic.{inr, ⊎_elim}
use Prim.Native.Nat.{ℕ, zero, suc, ◌+◌, ◌*◌, ◌<◌, ◌≤◌, max}
use native.Mathlib.Nat.{max-le, suc-mul}
use native.Mathlib.Omega.{arith}
use lib.ListN.{length, get_or, length-append, length-map}
use borrow.Author.Tests.{eqb-true, eq-eqb}
use Rattle.octets.specs.Choice.{pick}
use Rattle.octets.proofs.Choice.{both_left, both_right, either_false, either_left, either_right, either_cases, pick_holds, true_false}
use Rattle.clock.specs.Ticks.{max_tick, max_round_trip}
use Rattle.ends.specs.Flags.{is_up}
use Rattle.ends.specs.Identities.{among, has, llids_of, meets}
use Rattle.ends.specs.Table.{unit_at}
use Rattle.ends.specs.declared.Identity.{Identity}
use Rattle.group_protocol.specs.GroupCalls.{members_set}
use Rattle.group_protocol.specs.Head.{group_at}
use Rattle.group_protocol.specs.Members.{places_of}
use Rattle.group_protocol.proofs.GroupSteps.{all_tabulated}
use Rattle.unicast.specs.Setting.{Setting, Site}
use Rattle.unicast.specs.History.{Entry, is_synced}
use Rattle.unicast.specs.Run as run
use Rattle.unicast.specs.Run.{lane_at}
use Rattle.unicast.specs.Bounds.{longest}
use Rattle.unicast.proofs.Alive.{registered_alive}
use Rattle.line.specs.History.{GroupLane, Membership, is_member, is_joined}
use Rattle.line.specs.Events.{Event}
use Rattle.line.specs.Run.{State, alone, no_group_lane, group_lane_at, now, lanes, start, runs}
use Rattle.line.specs.Premises.{NewKey, Meets}
use Rattle.line.specs.Without.{plain}
use Rattle.line.proofs.AnswerSteps.{known_line}
use Rattle.line.proofs.Invariant.{Invariant}
use Rattle.line.proofs.StartSteps.{start_right}
use Rattle.line.proofs.Theorem.{run_right}
use Rattle.progress.specs.GroupProgress.{before, placed, ordered, most_of, member_of, down_to, members_of, longest_down, and_then, name_in, name_of, clock_of, clocks_of, restoring, restoring_limit, restoring_events, group_recipe, ClocksSet, GroupMoving, Restorable, Restores, GroupRestored}
use Rattle.progress.proofs.Going.{Here}
use Rattle.progress.proofs.Owned.{whose}
use Rattle.progress.proofs.GroupArrivals.{runs_append, meets_append}
use Rattle.progress.proofs.GroupClocks.{kept_of, clock_goes}
use Rattle.progress.proofs.GroupProgress.{group_brings}
use Rattle.progress.proofs.Ordered.{Each, each_as, each_ordered, ordered_each}
use Rattle.progress.proofs.OwnEvents.{own_list}
use Rattle.progress.proofs.Seats.{Seated, member_whose}
use Rattle.progress.proofs.SeatSteps.{seated_run, seated_start}

---- the LLID by which a member is named

-- what no element of the list is need not be looked for
meets_tail : (ys : List ℕ) (x : ℕ) (xs : List ℕ) → among x ys ≡ false → meets ys (x ∷ xs) ≡ true → meets ys xs ≡ true
unfolding meets among
meets_tail [] x xs n e = e
meets_tail (y ∷ ys) x xs n e =
    let none = either_false _ _ n in
    ⊎_elim
    (λ a.
    ⊎_elim (λ z. true_false (sym (eq-eqb y x (sym (eqb-true x y z))) ∙ none.0)) (λ z. either_left _ z) (either_cases _ _ a))
    (λ b. either_right _ (meets_tail ys x xs none.1 b)) (either_cases _ _ e)

meets_none : (ys : List ℕ) → meets ys [] ≡ true → ⊥
unfolding meets among
meets_none [] e = true_false (sym e)
meets_none (y ∷ ys) e = ⊎_elim (λ z. true_false (sym z)) (meets_none ys) (either_cases _ _ e)

name_own : (i : Identity) (xs : List ℕ) → meets (llids_of i) xs ≡ true → has i (name_in i xs) ≡ true
unfolding name_in has pick
name_own i [] e = absurd (meets_none (llids_of i) e)
name_own i (x ∷ xs) e = by_test (among x (llids_of i)) refl (name_own i xs) where
  by_test : (t : Bool) → among x (llids_of i) ≡ t → (meets (llids_of i) xs ≡ true → among (name_in i xs) (llids_of i) ≡ true)
      → among (pick t x (name_in i xs)) (llids_of i) ≡ true
  by_test true f rest = f
  by_test false f rest = rest (meets_tail (llids_of i) x xs f e)

---- one member's clock

-- nothing but clocks has changed
record Clocked (s t : State) : Type 0 where
  groups : t.history.groups ≡ s.history.groups
  joined : t.history.joined ≡ s.history.joined
  kept : (v : ℕ) → kept_of (lane_at (alone t) v) ≡ kept_of (lane_at (alone s) v)

clocked_then : (r s t : State) → Clocked r s → Clocked s t → Clocked r t
clocked_then r s t a b = record { groups = b.groups ∙ a.groups; joined = b.joined ∙ a.joined; kept = λ v. b.kept v ∙ a.kept v }

-- the unit's clock is acknowledged at the OLT; place is that of the unit
abbrev Acknowledged : State → ℕ → Type 0
Acknowledged t place = (unit_at t.head.olt place).clock.acknowledged ≡ 1

abbrev place_of : State → ℕ → ℕ
place_of s u = (lane_at (alone s) u).entry.place

module _ (g : ℕ) (s t : State) (c : Clocked s t) where
  line_stays : group_lane_at t g ≡ group_lane_at s g
  line_stays = ap (λ (gs : List GroupLane). get_or gs g no_group_lane) c.groups

  member_stays : (u : ℕ) → member_of t g u ≡ member_of s g u
  member_stays u =
      member_whose (group_lane_at s g) (group_lane_at t g) (lane_at (alone s) u) (lane_at (alone t) u) (ap (λ (y : GroupLane). y.roster) line_stays)
      (ap (λ (x : (Site × Entry) × List (List ℕ)). x.0) (c.kept u))

  place_stays : (u : ℕ) → place_of t u ≡ place_of s u
  place_stays u = ap (λ (x : (Site × Entry) × List (List ℕ)). x.0.1.place) (c.kept u)

  new_stays : (key : List ℕ) → NewKey s key → NewKey t key
  new_stays key new =
      record {
        units =
            record {
              unused = λ u n h e.
                  let same = ap (λ (x : (Site × Entry) × List (List ℕ)). x.1) (c.kept u) in
                  new.units.unused u n (omega (arith, h, ap length same)) (ap (λ (x : List (List ℕ)). get_or x n []) (sym same) ∙ e);
            };
        groups = λ h n p e.
            let same = ap (λ (gs : List GroupLane). (get_or gs h no_group_lane).keys.offers) c.groups in
            new.groups h n (omega (arith, p, ap length same)) (ap (λ (x : List (List ℕ)). get_or x n []) (sym same) ∙ e);
      }

record ClockDone (w : Setting) (s : State) (u : ℕ) (es : List Event) : Type 0 where
  meets : Meets w s es
  clocked : Clocked s (runs s es)
  acknowledged : Acknowledged (runs s es) (place_of s u)
  steady : (p : ℕ) → p < s.head.olt.count → Acknowledged s p → Acknowledged (runs s es) p
  tick : now (runs s es) ≤ now s + (longest + max_round_trip)
  short : length es ≤ 7

clock_done : (w : Setting) (s : State) (g u : ℕ) (key : List ℕ) → Invariant w s → member_of s g u ≡ true → NewKey s key
    → now s + (longest + max_round_trip) ≤ max_tick → ClockDone w s u (map plain (clock_of u (name_of s g u) (alone s)))
unfolding is_member alone
clock_done w s g u key i e new range =
    let llid = name_of s g u in
    let registered = both_left _ _ e in
    let named = name_own (lane_at (alone s) u).site.identity (group_lane_at s g).roster (both_right _ _ e) in
    let here : Here w u llid (alone s) = record { invariant = i.units; registered = registered; named = named } in
    let c = clock_goes w u llid (alone s) here (omega (arith, range)) in
    let es = clock_of u llid (alone s) in
    let a = own_list w s es u llid key i registered named new.groups (c.owns key) c.meets in
    record {
      meets = a.meets;
      clocked =
          record {
            groups = a.groups;
            joined = a.joined;
            kept = λ v. ap (λ (z : run.State). kept_of (lane_at z v)) a.same ∙ c.kept v;
          };
      acknowledged = ap (λ (z : run.State). (unit_at z.olt (place_of s u)).clock.acknowledged) a.same ∙ c.acknowledged;
      steady = λ p h q. ap (λ (z : run.State). (unit_at z.olt p).clock.acknowledged) a.same ∙ c.steady p h q;
      tick = let same = ap (λ (z : run.State). z.history.now) a.same in omega (arith, same, c.tick);
      short = omega (arith, length-map es plain, c.short);
    }

---- the clocks of all members

record ClocksDone (w : Setting) (s : State) (us : List ℕ) (es : List Event) : Type 0 where
  meets : Meets w s es
  clocked : Clocked s (runs s es)
  each : Each (λ u. Acknowledged (runs s es) (place_of s u)) us
  steady : (u : ℕ) → (lane_at (alone s) u).entry.registered ≡ true → Acknowledged s (place_of s u) → Acknowledged (runs s es) (place_of s u)
  tick : now (runs s es) ≤ now s + length us * (longest + max_round_trip)
  short : length es ≤ 7 * length us

clocks_done : (w : Setting) (g : ℕ) (key : List ℕ) (us : List ℕ) (s : State) → Invariant w s → NewKey s key
    → Each (λ u. member_of s g u ≡ true) us
    → now s + length us * (longest + max_round_trip) ≤ max_tick → ClocksDone w s us (clocks_of g us s)
unfolding clocks_of and_then runs is_member alone
clocks_done w g key [] s i new members range =
    record {
      meets = tt;
      clocked = record { groups = refl; joined = refl; kept = λ v. refl };
      each = tt;
      steady = λ u r a. a;
      tick = omega arith;
      short = omega arith;
    }
clocks_done w g key (u ∷ us) s i new members range =
    let each-round = longest + max_round_trip in
    let more = suc-mul (length us) each-round in
    let es = map plain (clock_of u (name_of s g u) (alone s)) in
    let one = clock_done w s g u key i members.0 new (omega (arith, range, more)) in
    let t = runs s es in
    let v = run_right w s es i one.meets in
    let here = both_left _ _ members.0 in
    let kept = place_stays g s t one.clocked in
    let whose = one.clocked.kept in
    let rest = clocks_done w g key us t v (new_stays g s t one.clocked key new)
    (each_as (λ x. member_of s g x ≡ true) (λ x. member_of t g x ≡ true) us (λ x e. member_stays g s t one.clocked x ∙ e) members.1)
    (omega (arith, range, more, one.tick)) in
    let after = runs t (clocks_of g us t) in
    let there = runs_append s es (clocks_of g us t) in
    let stands : (x : ℕ) → (lane_at (alone s) x).entry.registered ≡ true → (lane_at (alone t) x).entry.registered ≡ true =
    λ x r. ap (λ (y : (Site × Entry) × List (List ℕ)). y.0.1.registered) (whose x) ∙ r in
    let later : (x : ℕ) → (lane_at (alone s) x).entry.registered ≡ true → Acknowledged t (place_of s x) → Acknowledged after (place_of s x) =
    λ x r a. subst (Acknowledged after) (kept x) (rest.steady x (stands x r) (subst (Acknowledged t) (sym (kept x)) a)) in
    record {
      meets = meets_append w s es (clocks_of g us t) one.meets rest.meets;
      clocked = rw there (clocked_then s t after one.clocked rest.clocked);
      each = (
        rw there (later u here one.acknowledged),
        each_as (λ x. Acknowledged after (place_of t x)) (λ x. Acknowledged (runs s (es ++ clocks_of g us t)) (place_of s x)) us
            (λ x a. rw there (subst (Acknowledged after) (kept x) a)) rest.each,
      );
      steady = λ x r a. rw there (later x r (one.steady (place_of s x) (registered_alive w (alone s) x i.units r).used a));
      tick = rw there (omega (arith, rest.tick, one.tick, more));
      short = omega (arith, length-append es (clocks_of g us t), one.short, rest.short);
    }

---- numbers of members, and their delays

placed_length : (f : ℕ → ℕ) (u : ℕ) (us : List ℕ) → length (placed f u us) ≡ length us + 1
unfolding placed
placed_length f u [] = refl
placed_length f u (v ∷ vs) =
    pick_holds (λ (xs : List ℕ). length xs ≡ length (v ∷ vs) + 1) (before f u v) (u ∷ v ∷ vs) (v ∷ placed f u vs) (λ e. omega arith)
    (λ e. omega (arith, placed_length f u vs))

-- by the test alone
ordered_length : (p q : ℕ → Bool) (f h : ℕ → ℕ) (n : ℕ) → ((u : ℕ) → p u ≡ q u) → length (ordered p f n) ≡ length (ordered q h n)
unfolding ordered pick
ordered_length p q f h zero e = refl
ordered_length p q f h (suc n) e = rw (e n) (by_test (q n) (ordered_length p q f h n e)) where
  by_test : (t : Bool) → length (ordered p f n) ≡ length (ordered q h n)
      → length (pick t (placed f n (ordered p f n)) (ordered p f n)) ≡ length (pick t (placed h n (ordered q h n)) (ordered q h n))
  by_test true rest = omega (arith, rest, placed_length f n (ordered p f n), placed_length h n (ordered q h n))
  by_test false rest = rest

most_below : (p : ℕ → Bool) (f : ℕ → ℕ) (most n : ℕ) → ((u : ℕ) → p u ≡ true → f u ≤ most) → most_of p f n ≤ most
unfolding most_of
most_below p f most zero h = omega arith
most_below p f most (suc n) h =
    let rest = most_below p f most n h in
    pick_holds (λ (x : ℕ). x ≤ most) (p n) (max (f n) (most_of p f n)) (most_of p f n) (λ e. max-le (h n e) rest) (λ e. rest)

down_near : (w : Setting) (s : State) (g u : ℕ) → Invariant w s → member_of s g u ≡ true → down_to s u ≤ max_round_trip
unfolding is_member
down_near w s g u i e =
    let near = (registered_alive w (alone s) u i.units (both_left _ _ e)).joined.near in
    omega (arith, near)

longest_near : (w : Setting) (s : State) (g : ℕ) → Invariant w s → longest_down s g ≤ max_round_trip
longest_near w s g i = most_below (member_of s g) (down_to s) max_round_trip (length (lanes s)) (λ u e. down_near w s g u i e)

---- the whole

module _ (w : Setting) (s : State) (g : ℕ) (key : List ℕ) (i : Invariant w s) (d : Seated s) (able : Restorable s g key) where
  here : g < length s.history.groups
  unfolding no_group_lane
  here = known_line s g (λ e. true_false (sym able.registered ∙ ap (λ (y : GroupLane). y.entry.registered) e))

  abbrev us : List ℕ
  us = members_of s g

  abbrev first : List Event
  first = clocks_of g us s

  abbrev t : State
  t = runs s first

  done : ClocksDone w s us first
  done =
      clocks_done w g key us s i able.new (each_ordered (member_of s g) (down_to s) (λ u. member_of s g u ≡ true) (length (lanes s)) (λ u h e. e))
      (omega (arith, able.in_range))

  v : Invariant w t
  v = run_right w s first i done.meets

  same_line : group_lane_at t g ≡ group_lane_at s g
  same_line = line_stays g s t done.clocked

  here' : g < length t.history.groups
  here' = omega (arith, here, ap length done.clocked.groups)

  same_length : length (lanes t) ≡ length (lanes s)
  same_length = sym (v.queues g here') ∙ ap (λ (y : GroupLane). length y.towards) same_line ∙ i.queues g here

  known : (u : ℕ) → member_of s g u ≡ true → u < length (lanes s)
  unfolding is_member alone
  known u e = (registered_alive w (alone s) u i.units (both_left _ _ e)).known

  acknowledged : (u : ℕ) → member_of s g u ≡ true → Acknowledged t (place_of t u)
  acknowledged u e =
      subst (Acknowledged t) (sym (place_stays g s t done.clocked u))
      (ordered_each (member_of s g) (down_to s) (λ x. Acknowledged t (place_of s x)) (length (lanes s)) u (known u e) e done.each)

  all_set : ClocksSet t g
  unfolding members_set places_of
  all_set =
      let seats = seated_run w s first i done.meets d in
      all_tabulated (λ (p : ℕ). is_up (unit_at t.head.olt p).clock.acknowledged) 0 (group_at t.head g).members.count _
      (λ j lo hi.
      let q = seats.members g j here' (omega (arith, hi)) in
      eq-eqb _ 1
      (subst (Acknowledged t) q.place (acknowledged q.unit (sym (member_stays g s t done.clocked q.unit) ∙ q.member))))

  synced : (u : ℕ) → member_of s g u ≡ true → is_synced (lane_at (alone t) u) ≡ true
  unfolding is_member alone
  synced u e =
      let there : member_of t g u ≡ true = member_stays g s t done.clocked u ∙ e in
      let a = registered_alive w (alone t) u v.units (both_left _ _ there) in
      a.joined.answers.set (a.joined.clocks.acknowledged (acknowledged u e))

  moving : GroupMoving t g key
  moving =
      let same = same_line in
      let same-interval = ap (λ (y : GroupLane). y.entry.interval) same_line in
      let near = longest_near w t g v in
      record {
        registered = rw same able.registered;
        below = rw same able.below;
        offers = inr (all_set, new_stays g s t done.clocked key able.new);
        in_range = omega (arith, able.in_range, done.tick, same-interval, near);
      }

  pub restores : Restores w s g ((group_lane_at s g).keys.switches + 1) (restoring_limit s g) (restoring_events s g) (restoring g key s)
  unfolding restoring and_then
  restores =
      let b = group_brings w t g key v moving in
      let second = group_recipe g key t in
      let there = runs_append s first second in
      let same = same_line in
      let same-interval = ap (λ (y : GroupLane). y.entry.interval) same_line in
      let near = longest_near w t g v in
      let members : length (members_of t g) ≡ length us =
      ap (λ (n : ℕ). length (ordered (member_of t g) (down_to t) n)) same_length
      ∙ ordered_length (member_of t g) (member_of s g) (down_to t) (down_to s) (length (lanes s)) (member_stays g s t done.clocked) in
      record {
        meets = meets_append w s first second done.meets b.meets;
        switches = rw there (b.switches ∙ ap (λ (y : GroupLane). y.keys.switches + 1) same);
        next = b.next;
        sent = rw there (b.sent ∙ ap (λ (y : GroupLane). y.sent ++ (b.next ∷ [])) same);
        numbered = b.numbered ∙ ap (λ (y : GroupLane). y.keys.switches + 1) same;
        opened = λ u e joined.
            rw there
            (b.opened u (member_stays g s t done.clocked u ∙ e)
            (ap₂ (λ (js : List (List Membership)) (y : GroupLane). is_joined (get_or js u []) y.llid) done.clocked.joined same ∙ joined)
            (synced u e));
        soon = rw there (omega (arith, b.soon, done.tick, same-interval, near));
        short = omega (arith, length-append first second, b.short, done.short, members);
      }

pub group_restored-holds : GroupRestored
group_restored-holds w es g key f m able =
    restores w (runs (start w) es) g key (run_right w (start w) es (start_right w f) m)
    (seated_run w (start w) es (start_right w f) m (seated_start w)) able
