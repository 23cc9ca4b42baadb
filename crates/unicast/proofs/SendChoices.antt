-- Which key a send is under, at the OLT and at a unit: that of the number in the list of calls; and what it makes of keys, first send
-- and timer. Assumes nothing.
use mathlib.Core.Path.{◌≡◌, refl, sym, ◌∙◌, ap, ap₂, subst}
use mathlib.Core.Bool.{Bool, true, false}
use mathlib.Core.Logic.{◌⊎◌, inl, inr, ⊎_elim}
use Prim.Native.Nat.{ℕ, ◌+◌, ◌-◌, ◌/◌, ◌<◌, ◌≤◌, max}
use native.Mathlib.Nat.{le_refl, le-max_left, le-max_right, max-eq_left, max-eq_right}
use native.Mathlib.Omega.{arith}
use lib.Dec.{eqb, leb, ltb}
use lib.ListN.{length}
use borrow.Author.Tests.{leb-true, ltb-true, ltb-false, eqb-true, eqb-false, le-leb, le-ltb, eq-eqb, ne_eqb}
use Rattle.octets.specs.Choice.{both, pick}
use Rattle.octets.proofs.Choice.{both_left, both_right, either_cases, pick_holds}
use Rattle.protocol.specs.Headers.{choice_enciphered, choice_number, choice_aged}
use Rattle.ends.specs.Keys.{noted_at, first_send, valid_first}
use Rattle.ends.specs.Travels.{travel_of, travel_spent, waits}
use Rattle.protocol.specs.OnuTraffic.{onu_send_choice, onu_noted}
use Rattle.ends.specs.Records.{with_first, with_onu_first, with_travel}
use Rattle.ends.specs.Flags.{is_up}
use Rattle.ends.specs.Timers.{timer_fallen}
use Rattle.protocol.specs.UnitTraffic.{switches, unit_send_choice, keys_switched, keys_after_send}
use Rattle.ends.specs.Validity.{valid_unit, valid_keys}
use Rattle.ends.specs.declared.FirstSend.{FirstSend}
use Rattle.protocol.specs.declared.KeyChoice.{KeyChoice}
use Rattle.protocol.specs.declared.KeyChoice.TheVariants.{Clear, Current, Next}
use Rattle.ends.specs.declared.Onu.{Onu}
use Rattle.ends.specs.declared.Shared.{Shared}
use Rattle.ends.specs.declared.Timer.{Timer}
use Rattle.ends.specs.declared.Travel.{Travel}
use Rattle.ends.specs.declared.UnitRecord.{UnitRecord}
use Rattle.ends.specs.declared.UnitKeys.{UnitKeys}
use Rattle.unicast.specs.Setting.{Setting}
use Rattle.unicast.specs.History.{Entry, Keys, Lane, due, switching, number_down}
use Rattle.unicast.proofs.Cases.{below_or_not}
use Rattle.unicast.proofs.Invariant.{flag_of, reach_of, Begun, BegunUp, Timing, Joined}
use Rattle.unicast.proofs.Spending.{Renewed, renewed_current, renewed_next, renewed_clear}

---- at the OLT

pub rotated : (a b c : Bool) → both a (both b c) ≡ both b (both c a)
unfolding both
rotated true true true = refl
rotated true true false = refl
rotated true false c = refl
rotated false true true = refl
rotated false true false = refl
rotated false false c = refl

pub flag_up : (b : Bool) → is_up (flag_of b) ≡ b
flag_up true = refl
flag_up false = refl

-- O = A + 1: there is an offer more than switches
pub one_ahead : (confirmed active offered : ℕ) → confirmed ≤ active → active ≤ offered → offered ≤ confirmed + 1
    → eqb offered (active + 1) ≡ ltb active offered
one_ahead confirmed active offered a b c = by_test (ltb active offered) refl where
  by_test : (t : Bool) → ltb active offered ≡ t → eqb offered (active + 1) ≡ t
  by_test true e = eq-eqb offered (active + 1) (omega (arith, ltb-true active offered e))
  by_test false e = ne_eqb offered (active + 1) (λ f. omega (arith, ltb-false active offered e))

pub timing_stayed : (r : Entry) (k m : Keys) (now : ℕ) (t : Timer) → m.switched ≡ k.switched → Timing r k now t → Timing r m now t
unfolding due
timing_stayed r k m now t e h = search (e, arith)

-- the flag falls, and nothing is due
pub timing_switched : (r : Entry) (k m : Keys) (now : ℕ) (t : Timer) → m.switched ≡ now → Timing r k now t → Timing r m now (timer_fallen t)
unfolding due timer_fallen
timing_switched r k m now t e h =
    let none : ltb ((m.switched - r.since) / r.interval) ((now - r.since) / r.interval) ≡ false =
    rw e (le-ltb ((now - r.since) / r.interval) ((now - r.since) / r.interval) (omega arith)) in
    search (sym (ap flag_of none), arith)

-- a first send after a tick, whether it is made now or not
first_after : (f : FirstSend) (tick now : ℕ) → (f.noted ≡ 1 → tick ≤ f.at) → tick ≤ now → (first_send f now).noted ≡ 1
    → tick ≤ (first_send f now).at
unfolding first_send
first_after f tick now old h =
    pick_holds (λ (x : FirstSend). x.noted ≡ 1 → tick ≤ x.at) (is_up f.noted) f (noted_at now) (λ e. old) (λ e one. h)

-- what a send of that choice makes of the unit's keys
pub record Chosen (now reach : ℕ) (old new : UnitKeys) (choice : KeyChoice) (number switched before : ℕ) : Type 0 where
  pub chosen : choice_number choice ≡ number
  pub enciphered : choice_enciphered choice ≡ leb 1 number
  pub active : new.active ≡ number
  pub offered : new.offered ≡ old.offered
  pub slots : new.slots ≡ old.slots
  pub low : old.active ≤ number
  pub high : number ≤ reach
  pub renewed : choice_aged choice old.first now ≡ false → Renewed old.first new.first old.active number now
  -- a first send is not before the last switch, and without a switch that is the one before
  pub begun : new.first.noted ≡ 1 → switched ≤ new.first.at
  pub settled : number ≡ old.active → switched ≡ before

module _ (w : Setting) (sh : Shared) (now : ℕ) (l : Lane) (u : UnitRecord) (o : Onu) (j : Joined w sh now l u o) where
  -- the record and the list agree on when a send is a switch
  pub switches_listed : switches u ≡ switching l now
  unfolding switches switching
  switches_listed =
      let n = j.numbers in
      let flag : is_up u.keys.timer.flag ≡ due l.entry l.keys now = ap is_up j.timing.flag ∙ flag_up (due l.entry l.keys now) in
      let mark : is_up u.confirmation.acknowledged ≡ l.keys.acknowledged = ap is_up n.marked ∙ flag_up l.keys.acknowledged in
      let ahead : eqb u.keys.offered (u.keys.active + 1) ≡ ltb l.keys.switches (length l.keys.offers) =
      one_ahead u.confirmation.confirmed u.keys.active u.keys.offered (omega (arith, n.low, n.mid))
      (omega (arith, n.high, n.top)) n.next
      ∙ ap₂ ltb n.counted n.listed in
      rw (flag, ahead, mark)
      (rotated (due l.entry l.keys now) (ltb l.keys.switches (length l.keys.offers)) l.keys.acknowledged)

  chosen_by : Begun u.keys.first now → (s z : Bool) → switching l now ≡ s → eqb u.keys.active 0 ≡ z
      → Chosen now (reach_of o.keys) u.keys
      (keys_after_send (pick s (Next u.keys.offered) (pick z Clear (Current u.keys.active))) u.keys now)
      (pick s (Next u.keys.offered) (pick z Clear (Current u.keys.active)))
      (pick s (l.keys.switches + 1) l.keys.switches) (pick s now l.keys.switched) l.keys.switched
  unfolding pick keys_after_send keys_switched with_first choice_number choice_enciphered choice_aged switching
  chosen_by v true z e f =
      let n = j.numbers in
      let more : l.keys.switches < length l.keys.offers = ltb-true _ _ (both_left _ _ e) in
      let held : u.keys.offered ≤ reach_of o.keys = n.taken (both_left _ _ (both_right _ _ e)) in
      let is : u.keys.offered ≡ l.keys.switches + 1 = omega (arith, more, n.counted, n.listed, n.low, n.mid, n.next) in
      let settled : l.keys.switches + 1 ≡ u.keys.active → now ≡ l.keys.switched = λ same. absurd (omega (arith, same, n.counted)) in
      let renewed = renewed_next u.keys.first u.keys.active (l.keys.switches + 1) now (omega (arith, n.counted)) in
      search (sym (le-leb 1 (l.keys.switches + 1) (omega arith)), le_refl, arith)
  chosen_by v false true e f =
      let n = j.numbers in
      let zeros : u.keys.active ≡ 0 = eqb-true _ _ f in
      let none : l.keys.switches ≡ 0 = sym n.counted ∙ zeros in
      search (zeros, none, renewed_clear, j.firsts.olt, arith)
  chosen_by v false false e f =
      let n = j.numbers in
      let enciphered = sym (le-leb 1 l.keys.switches (omega (arith, n.counted, eqb-false u.keys.active 0 f))) in
      let begun = first_after u.keys.first l.keys.switched now j.firsts.olt j.timing.switched in
      search (n.counted, renewed_current, arith)

  -- the timer after a send: the flag falls at a switch alone
  pub timing_sent : (t : Timer) → (switches u ≡ true → t ≡ timer_fallen u.keys.timer) → (switches u ≡ false → t ≡ u.keys.timer)
      → (k : Keys) → k.switched ≡ pick (switching l now) now l.keys.switched → Timing l.entry k now t
  unfolding pick
  timing_sent t falls stays k e = by_switch (switching l now) switches_listed e where
    by_switch : (s : Bool) → switches u ≡ s → k.switched ≡ pick s now l.keys.switched → Timing l.entry k now t
    by_switch true q r = rw (falls q) (timing_switched l.entry l.keys k now u.keys.timer r j.timing)
    by_switch false q r = rw (stays q) (timing_stayed l.entry l.keys k now u.keys.timer r j.timing)

  pub chosen_down : (tick : ℕ) → tick ≡ now → Begun u.keys.first tick
      → Chosen now (reach_of o.keys) u.keys (keys_after_send (unit_send_choice u) u.keys tick) (unit_send_choice u) (number_down l now)
      (pick (switching l now) now l.keys.switched) l.keys.switched
  unfolding unit_send_choice number_down
  chosen_down tick e v = rw (e, switches_listed) (chosen_by (λ one. rw e at (v one)) (switching l now) (eqb u.keys.active 0) refl refl)

-- the first send of a valid unit is not later than the tick
pub unit_first : (tick : ℕ) (u : UnitRecord) → valid_unit tick u ≡ true → Begun u.keys.first tick
unfolding valid_unit valid_keys valid_first
unit_first tick u v one =
    let valid = both_right _ _ (both_left _ _ (both_right _ _ v)) in
    ⊎_elim (λ z. absurd (omega (arith, eqb-true u.keys.first.noted 0 z))) (λ z. leb-true u.keys.first.at tick z)
    (either_cases _ _ (both_right _ _ valid))

---- at a unit

-- what a send of that choice and of so many EQs makes of the unit
pub record ChosenUp (o : Onu) (choice : KeyChoice) (eqs number : ℕ) : Type 0 where
  pub chosen : choice_number choice ≡ number
  pub enciphered : choice_enciphered choice ≡ leb 1 number
  pub first : FirstSend
  pub travel : Travel
  pub noted : onu_noted choice eqs o ≡ with_travel (with_onu_first o first) travel
  pub changes : travel.changes ≡ o.travel.changes
  pub bar : travel.bar ≡ o.travel.bar
  pub spent : o.travel.spent ≤ travel.spent
  pub ended : 1 ≤ number → travel_of o < travel.spent
  pub begun : BegunUp first (travel_of o) travel
  pub since : (first ≡ o.first) ⊎ (first.at ≡ travel_of o)
  pub spends : (travel.spent ≡ o.travel.spent) ⊎ (travel.spent ≡ travel_of o + eqs + 1)
  pub renewed : choice_aged choice o.first (travel_of o) ≡ false → (choice_enciphered choice ≡ true → waits o ≡ false)
      → Renewed o.first first o.keys.active number (travel_of o)

-- once travel has passed the bar, the first send lies behind
begun_passed : (f : FirstSend) (now : ℕ) (t : Travel) → BegunUp f now t → t.bar ≤ now → Begun f now
begun_passed f now t b h one = ⊎_elim (λ was. was) (λ below. omega (arith, below, h)) (b.begun one)

pub waited : (o : Onu) → waits o ≡ false → o.travel.bar ≤ travel_of o
unfolding waits
waited o e = ltb-false (travel_of o) o.travel.bar e

first_begun : (f : FirstSend) (now eqs : ℕ) (t : Travel) → BegunUp f now t → BegunUp (first_send f now) now (travel_spent t now eqs)
unfolding first_send travel_spent
first_begun f now eqs t b =
    pick_holds (λ (x : FirstSend). BegunUp x now (travel_spent t now eqs)) (is_up f.noted) f (noted_at now)
    (λ p.
    record { begun = b.begun; ended = λ one. let was = b.ended one in omega (arith, was, le-max_left t.spent (now + eqs + 1)) })
    (λ p. record { begun = λ one. inl (omega arith); ended = λ one. omega (arith, le-max_right t.spent (now + eqs + 1)) })

first_since : (f : FirstSend) (now : ℕ) → (first_send f now ≡ f) ⊎ ((first_send f now).at ≡ now)
unfolding first_send
first_since f now = pick_holds (λ (x : FirstSend). (x ≡ f) ⊎ (x.at ≡ now)) (is_up f.noted) f (noted_at now) (λ e. inl refl) (λ e. inr refl)

pub max_either : (a b : ℕ) → (max a b ≡ a) ⊎ (max a b ≡ b)
max_either a b = below_or_not a b (λ below. inr (max-eq_right (omega arith))) (λ above. inl (max-eq_left above))

chosen_up_by : (o : Onu) (eqs : ℕ) → BegunUp o.first (travel_of o) o.travel → (z : Bool) → eqb o.keys.active 0 ≡ z
    → ChosenUp o (pick z Clear (Current o.keys.active)) eqs o.keys.active
unfolding pick choice_number choice_enciphered choice_aged onu_noted with_onu_first with_travel travel_spent
chosen_up_by o eqs b true e =
    let none : o.keys.active ≡ 0 = eqb-true _ _ e in
    record {
      chosen = sym none;
      enciphered = sym (ap (leb 1) none);
      first = o.first;
      travel = o.travel;
      noted = refl;
      changes = refl;
      bar = refl;
      spent = omega arith;
      ended = λ some. absurd (omega (arith, some, none));
      begun = b;
      since = inl refl;
      spends = inl refl;
      renewed = λ a w. subst (λ (x : ℕ). Renewed o.first o.first x x (travel_of o)) (sym none) (renewed_clear o.first (travel_of o));
    }
chosen_up_by o eqs b false e =
    record {
      chosen = refl;
      enciphered = sym (le-leb 1 o.keys.active (omega (arith, eqb-false o.keys.active 0 e)));
      first = first_send o.first (travel_of o);
      travel = travel_spent o.travel (travel_of o) eqs;
      noted = refl;
      changes = refl;
      bar = refl;
      spent = le-max_left o.travel.spent (travel_of o + eqs + 1);
      ended = λ some. omega (arith, le-max_right o.travel.spent (travel_of o + eqs + 1));
      begun = first_begun o.first (travel_of o) eqs o.travel b;
      since = first_since o.first (travel_of o);
      spends = max_either o.travel.spent (travel_of o + eqs + 1);
      renewed = λ a w.
          renewed_current o.first o.keys.active (travel_of o)
          (begun_passed o.first (travel_of o) o.travel b (waited o (w refl))) a;
    }

pub chosen_up : (o : Onu) (eqs : ℕ) → BegunUp o.first (travel_of o) o.travel → ChosenUp o (onu_send_choice o.keys) eqs o.keys.active
unfolding onu_send_choice
chosen_up o eqs b = chosen_up_by o eqs b (eqb o.keys.active 0) refl
