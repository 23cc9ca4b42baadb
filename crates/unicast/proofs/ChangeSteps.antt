-- A path change keeps the invariant (02, C-16): nothing is under way, no clock acknowledgement is left, the unit is unsynced and not
-- acknowledged, and every sealed send that it made counts less than the new bar. Either call alone is refused. Assumes nothing.
use mathlib.Core.Path.{◌≡◌, refl, sym, ◌∙◌, ap, subst}
use mathlib.Core.Bool.{Bool, true, false, not}
use mathlib.Core.List.Memᴰ
use mathlib.Core.List.{List, [], ◌∷◌, Memᴰ}
use mathlib.Core.Logic.{inr, ⊎_elim}
use Prim.Native.Nat.{ℕ, ◌+◌, ◌%◌, ◌≤◌}
use native.Mathlib.Nat.{mod-mod}
use native.Mathlib.Omega.{arith}
use lib.Dec.{leb}
use borrow.Author.Tests.{leb-true, eqb-true, not-false}
use Rattle.octets.specs.Choice.{pick}
use Rattle.refusal.specs.declared.Refusal.TheVariants.{OutOfRange}
use Rattle.refusal.specs.Order.{refuse_if}
use Rattle.refusal.proofs.Numbers.{number_accepted}
use Rattle.refusal.proofs.Order.{refuse_accepted, refused_accepts}
use Rattle.clock.specs.Ticks.{local_turn, max_round_trip}
use Rattle.ends.specs.Limits.{max_changes}
use Rattle.ends.specs.Records.{new_unit_clock, with_clock, with_channels, with_onu_clock, with_travel}
use Rattle.ends.specs.Table.{unit_at, with_unit}
use Rattle.ends.specs.Travels.{travel_changed, travel_of}
use Rattle.ends.specs.declared.Olt.{Olt}
use Rattle.ends.specs.declared.Onu.{Onu}
use Rattle.ends.specs.declared.OnuKeys.{OnuKeys}
use Rattle.ends.specs.declared.Shared.{Shared}
use Rattle.ends.specs.declared.UnitRecord.{UnitRecord}
use Rattle.ends.proofs.Table.{with_beside}
use Rattle.ends.proofs.Validity.{olt_in_range}
use Rattle.protocol.specs.Lift.{outcome}
use Rattle.protocol.specs.Messages.{key_kind}
use Rattle.protocol.specs.Replies.{Silence, silent, Reply}
use Rattle.protocol.specs.UnitCalls.{measure_unit}
use Rattle.protocol.specs.OltCalls.{olt_answer, measure_of}
use Rattle.protocol.specs.OnuCalls.{onu_answer, new_time_verdict, onu_retimed, new_time_of}
use Rattle.protocol.proofs.Lift.{Ends, accepted, refused, lift_ends}
use Rattle.protocol.proofs.OltCalls.{measure_valid, measure_refused}
use Rattle.protocol.proofs.OnuCalls.{onu_accepted, onu_accepts}
use Rattle.protocol.proofs.NewTimes.{retimed_valid, travel_retimed, new_time_refused}
use Rattle.unicast.specs.Setting.{Delays, Setting}
use Rattle.unicast.specs.History.{Answered, Lane, leaves_again, key_answers, lane_moved}
use Rattle.unicast.specs.Events.{change_path, measure, new_time}
use Rattle.unicast.specs.Run.{State, lane_at, onu_at, with_lanes, changing, olt_after, step}
use Rattle.unicast.specs.Premises.{Changes, Fits}
use Rattle.unicast.proofs.Invariant.{reach_of, Clocks, Answers, UnderWay, BegunUp, Spending, Asked, Joined, Common, Invariant}
use Rattle.unicast.proofs.Past.{moved_keeps}
use Rattle.unicast.proofs.ClockSteps.{local_time}
use Rattle.unicast.proofs.Places.{held_found, at_once}
use Rattle.unicast.proofs.Alive.{Alive, alive_held, registered_alive}
use Rattle.unicast.proofs.SendDownSteps.{channels_at_tick}
use Rattle.unicast.proofs.LiftSteps.{lane_own, lane_other}
use Rattle.unicast.proofs.OnuSteps.{OltRight, replaced_right, unit_after_right}
use Rattle.refusal.specs.Verdict.{Verdict, no_refusal}

---- the acknowledgements that are left

-- are those of keys, and may leave again from now on
key_answers-holds : (now : ℕ) (k : OnuKeys) (xs : List Answered)
    → ((y : Answered) → Memᴰ y xs → y.acknowledgement.kind ≡ key_kind → y.acknowledgement.number ≤ reach_of k)
    → (x : Answered) → Memᴰ x (key_answers now xs)
    → (x.acknowledgement.kind ≡ key_kind) × (x.acknowledgement.number ≤ reach_of k) × (x.tick ≤ now)
unfolding key_answers pick leaves_again
key_answers-holds now k [] held x m = absurd (Memᴰ.not-nil m)
key_answers-holds now k (y ∷ ys) held x m = by_kind (leaves_again y) refl m (key_answers-holds now k ys (λ z i. held z (Memᴰ.tail i)) x) where
  Right : Answered → Type 0
  Right z = (z.acknowledgement.kind ≡ key_kind) × (z.acknowledgement.number ≤ reach_of k) × (z.tick ≤ now)

  by_kind : (t : Bool) → leaves_again y ≡ t
      → Memᴰ x (pick t (record { acknowledgement = y.acknowledgement; tick = now } ∷ key_answers now ys) (key_answers now ys))
      → (Memᴰ x (key_answers now ys) → Right x) → Right x
  by_kind false e i rest = rest i
  by_kind true e i rest =
      let kind = eqb-true y.acknowledgement.kind key_kind e in
      ⊎_elim (λ same. subst Right (sym same) (kind, held y (Memᴰ.head refl) kind, omega arith)) rest (Memᴰ.cases_cons i)

---- the unit and its lane

module _ (w : Setting) (sh : Shared) (now : ℕ) (l : Lane) (u : UnitRecord) (o : Onu) (p : Delays) (time : ℕ)
    (follows : time ≡ (w.first + now + p.up) % local_turn) where
  moved_joined : p.up + p.down ≤ max_round_trip → Joined w sh now l u o
      → Joined w sh now (lane_moved p now l) (with_clock u (new_unit_clock (p.up + p.down))) (onu_retimed o time)
  unfolding lane_moved with_clock onu_retimed with_onu_clock with_travel travel_changed
  moved_joined near j =
      let key = key_answers-holds now o.keys l.transit.answered (λ y i. (j.answers.each y i).1) in
      let after = onu_retimed o time in
      let passing = (moved_keeps w sh now l (lane_moved p now l) u o j (search) refl).2 in
      let asked : Asked now 0 (lane_moved p now l).transit =
      record {
        under = λ x m. absurd (Memᴰ.not-nil m);
        answered = λ x m. (λ e. absurd (omega (arith, e, (key x m).0)), (key x m).2);
      } in
      let clocks : Clocks w.first now p l.captured (new_unit_clock (p.up + p.down)) after.clock = search arith in
      let answers : Answers now o.keys after.clock (key_answers now l.transit.answered) =
      record { each = λ x m. (λ e. absurd (omega (arith, e, (key x m).0)), λ e. (key x m).1); set = λ e. absurd (omega (arith, e)) } in
      let under_way : UnderWay p 0 (lane_moved p now l).transit =
      record { sealed = λ e m. absurd (Memᴰ.not-nil m); present = λ e m. absurd (Memᴰ.not-nil m) } in
      let spending : Spending (lane_moved p now l) sh.channels u after =
      record {
        downs = j.spending.downs;
        ups = λ e m q. let was = j.spending.ups e m q in (was.0, was.1, record { spent = was.2.spent; barred = λ some. inr (was.2.spent some) });
        spaced = j.spending.spaced;
      } in
      search arith

  -- travel moves as the delay up does
  moved_common : p.up + p.down ≤ max_round_trip → new_time_verdict o time ≡ no_refusal → Joined w sh now l u o → Common w now l o
      → Common w now (lane_moved p now l) (onu_retimed o time)
  unfolding lane_moved onu_retimed with_onu_clock with_travel travel_changed
  moved_common near a j c =
      let travels =
      travel_retimed o (w.first + now) l.path.up p.up time (omega (arith, j.near)) (omega arith)
      (ap (λ (x : ℕ). x % local_turn) follows ∙ mod-mod _ local_turn)
      (local_time w.first now l.path l.captured u.clock o.clock j.clocks) c.valid a in
      let travel : travel_of (onu_retimed o time) + l.site.up ≡ now + p.up + max_changes = omega (arith, c.travel) in
      let first : BegunUp o.first (travel_of (onu_retimed o time)) (onu_retimed o time).travel =
      record { begun = λ one. inr (c.first.ended one); ended = c.first.ended } in
      search retimed_valid

---- both calls

-- what the OLT and the unit make of the accepted calls
pub record Told (w : Setting) (s : State) (u llid time : ℕ) (p : Delays) : Type 0 where
  pub trip : p.up + p.down ≤ max_round_trip
  pub olt : (measure_of s.olt llid (p.up + p.down)).olt
      ≡ with_unit s.olt (lane_at s u).entry.place s.olt.shared.channels
      (with_clock (unit_at s.olt (lane_at s u).entry.place) (new_unit_clock (p.up + p.down)))
  pub verdict : new_time_verdict (onu_at s u) time ≡ no_refusal
  pub onu : (new_time_of (onu_at s u) time).onu ≡ onu_retimed (onu_at s u) time

told : (w : Setting) (s : State) (u llid time : ℕ) (p : Delays) → Invariant w s → Alive w s u → Changes w s u llid time p → Told w s u llid time p
unfolding measure_of olt_answer measure_unit outcome new_time_of onu_answer
told w s u llid time p v r d = by_end (lift_ends s.olt silent ahead llid (measure_unit (p.up + p.down))) where
  ahead : Verdict
  ahead = refuse_if (not (leb (p.up + p.down) max_round_trip)) OutOfRange no_refusal

  place : ℕ
  place = (lane_at s u).entry.place

  retimes : new_time_verdict (onu_at s u) time ≡ no_refusal
  retimes = (onu_accepted (onu_at s u) silent (new_time_verdict (onu_at s u) time) (onu_retimed (onu_at s u) time) silent (number_accepted _ d.retimed)).1

  by_end : Ends s.olt silent ahead llid (measure_unit (p.up + p.down)) → Told w s u llid time p
  by_end (refused x e) =
      refused_accepts x (sym (ap (λ (y : Reply Olt Silence). y.verdict) e) ∙ number_accepted _ d.measured)
  by_end (accepted l) =
      let same : l.at ≡ place = at_once _ _ (sym l.found ∙ held_found w s place u llid v (alive_held w s u r) d.named) in
      record {
        trip = leb-true _ _ (not-false _ (refuse_accepted _ _ _ l.passed).0);
        olt = rw same at l.end;
        verdict = retimes;
        onu =
            ap (λ (y : Reply Onu Silence). y.end)
            (onu_accepts (onu_at s u) silent (new_time_verdict (onu_at s u) time) (onu_retimed (onu_at s u) time) silent r.common.valid retimes);
      }

pub change_path_right : (w : Setting) (s : State) (u llid time : ℕ) (p : Delays) → Invariant w s → Fits w s (change_path u llid time p)
    → Invariant w (step s (change_path u llid time p))
unfolding step changing with_lanes lane_moved with_unit with_channels
change_path_right w s u llid time p v d =
    let r = registered_alive w s u v d.registered in
    let t = told w s u llid time p v r d in
    let sh = s.olt.shared in
    let now = s.history.now in
    let l = lane_at s u in
    let place = l.entry.place in
    let unit = unit_at s.olt place in
    let x = with_clock unit (new_unit_clock (p.up + p.down)) in
    let o = onu_retimed (onu_at s u) time in
    let olt : OltRight w s u (with_unit s.olt place sh.channels x) =
    record {
      valid = rw t.olt at (measure_valid s.olt llid (p.up + p.down) v.valid);
      places = (with_beside s.olt place sh.channels x).places ∙ v.places;
      count = v.count;
      shared = channels_at_tick w now sh sh.channels v.shared.free v.shared;
      others = λ y h n.
          lane_other w s.olt place sh.channels x now (lane_at s y) (onu_at s y)
          (λ a b. n (v.apart y u h r.known a r.registered b)) (λ k. omega arith) (v.lane y h);
    } in
    let moved =
    lane_own w s.olt place sh.channels x now (lane_moved p now l) o r.registered refl r.used
    (omega (arith, r.used, (olt_in_range s.olt v.valid).count, v.places))
    (moved_common w sh now l unit (onu_at s u) p time d.follows t.trip t.verdict r.joined r.common)
    (moved_joined w sh now l unit (onu_at s u) p time d.follows t.trip r.joined) in
    rw (t.olt, t.onu)
    (replaced_right w s u (with_unit s.olt place sh.channels x) o (lane_moved p now l) v olt (λ known. moved) refl refl)

---- either call alone, which is refused

pub measure_right : (w : Setting) (s : State) (llid trip : ℕ) → Invariant w s → Fits w s (measure llid trip) → Invariant w (step s (measure llid trip))
unfolding step olt_after
measure_right w s llid trip v n = rw (measure_refused s.olt llid trip n) v

pub new_time_right : (w : Setting) (s : State) (u time : ℕ) → Invariant w s → Fits w s (new_time u time) → Invariant w (step s (new_time u time))
unfolding step
new_time_right w s u time v n = unit_after_right w s u _ (new_time_refused (onu_at s u) time n) v
