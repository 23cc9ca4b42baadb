-- Every play is a list that meets the premises of demand 3: step by step. Assumes nothing.
use mathlib.Core.Path.{◌≡◌, refl, sym, ap, ◌∙◌, subst}
use mathlib.Core.Bool.{Bool, true}
use mathlib.Core.List.{List, [], ◌∷◌}
use mathlib.Core.Logic.{inl}
use Prim.Native.Nat.{ℕ, zero, suc, ◌+◌, ◌<◌}
use native.Mathlib.Nat.{add-zero}
use native.Mathlib.Omega.{arith}
use lib.Dec.{eqb}
use lib.ListN.{get_or}
use borrow.Author.Tests.{not-false}
use Rattle.octets.specs.Choice.{both, either, pick}
use Rattle.octets.specs.Lists.{all}
use Rattle.octets.proofs.Choice.{both_right}
use Rattle.exercise.specs.declared.Play.{Play}
use Rattle.std.specs.Prelude.{Option, Some, None}
use Rattle.exercise.specs.declared.Kind.{Kind}
use Rattle.exercise.specs.declared.Kind.TheVariants.{ClockMessage, Offer, Retry, ClockAnswer, KeyAnswer, EnvelopeDown, EnvelopeUp, Advance}
use Rattle.exercise.specs.declared.Step.{Step}
use Rattle.exercise.specs.Script.{interval_of, steps_in, step_at, interval_fits, script_verdict}
use Rattle.exercise.specs.Play.{olt_mac, unit_identity, started, stepped_by, stepped, played_from, played}
use Rattle.exercise.specs.Listed.{setting, EveryPlayListed}
use Rattle.protocol.specs.OltCalls.{fresh_olt_of, register_of, registering, olt_answer, register_verdict, valid_registration}
use Rattle.ends.specs.Identities.{among, meets, distinct, llids_of, valid_mac, valid_identity}
use Rattle.ends.specs.Occupancy.{valid_channels}
use Rattle.ends.specs.Table.{table_llids}
use Rattle.ends.specs.Validity.{valid_shared, valid_olt}
use Rattle.ends.specs.Records.{new_olt}
use Rattle.refusal.specs.Order.{refuse_if}
use Rattle.protocol.specs.Replies.{reply}
use Rattle.ends.specs.Timers.{valid_interval}
use Rattle.unicast.specs.History.{Lane, lane_registered}
use Rattle.unicast.specs.Premises.{Agrees, Fresh}
use Rattle.unicast.specs.Run.{State, onu_at, start, step, run, entering, accepted, fresh_lane, fresh_onu, noted}
use Rattle.unicast.specs.Setting.{Site}
use Rattle.unicast.specs.Events.{register}
use Rattle.protocol.specs.OnuCalls.{fresh_onu_of, fresh_onu_verdict, onu_answer}
use Rattle.refusal.proofs.Order.{refuse_accepted}
use Rattle.exercise.proofs.Lanes.{Kept, site, noted_on}
use Rattle.exercise.proofs.Goes.{at, Goes, then, later, stays, clock_stepped-holds, offer_stepped, retry_stepped, answer_stepped, down_stepped, up_stepped, advance_stepped}
use Rattle.refusal.specs.Verdict.{no_refusal}

-- one step, by its kind
by_kind : (kind : Kind) (ticks : ℕ) (lost : Bool) (p : Play) (n r k : ℕ) (l : Lane) → Kept l n k p.clock p.key
    → Goes p n r l (stepped_by kind ticks (suc k) lost p) (suc k)
by_kind ClockMessage ticks lost p n r k l h = later (clock_stepped-holds p n r k l h lost)
by_kind Offer ticks lost p n r k l h = offer_stepped p n r k l h lost
by_kind Retry ticks lost p n r k l h = later (retry_stepped p n r k l h lost)
by_kind ClockAnswer ticks lost p n r k l h = later (answer_stepped p n r k l h p.clock lost h.clocks)
by_kind KeyAnswer ticks lost p n r k l h = later (answer_stepped p n r k l h p.key lost h.keys)
by_kind EnvelopeDown ticks lost p n r k l h = later (down_stepped p n r k l h lost)
by_kind EnvelopeUp ticks lost p n r k l h = later (up_stepped p n r k l h lost)
by_kind Advance ticks lost p n r k l h = later (advance_stepped p n r k l h ticks)

one : (x : Option Step) (lost : Bool) (p : Play) (n r k : ℕ) (l : Lane) → Kept l n k p.clock p.key
    → Goes p n r l (stepped x (suc k) lost p) (suc k)
unfolding stepped
one (Some x) lost p n r k l h = by_kind x.kind x.ticks lost p n r k l h
one None lost p n r k l h = later (stays p n r k l h)

-- a play goes on from wherever it has come to
on : (p q z : Play) (n r j k : ℕ) (l : Lane) → Goes p n r l q j
    → ((m : ℕ) (y : Lane) → Kept y m j q.clock q.key → Goes q m r y z k) → Goes p n r l z k
on p q z n r j k l g f = then g (f g.now g.lane g.kept)

none_more : (s : List ℕ) (lost i : ℕ) (p : Play) → played_from s lost i 0 p ≡ p
unfolding played_from
none_more s lost i p = refl

one_more : (s : List ℕ) (lost i m : ℕ) (p : Play)
    → played_from s lost i (suc m) p ≡ played_from s lost (suc i) m (stepped (step_at s i) (suc i) (eqb (suc i) lost) p)
unfolding played_from
one_more s lost i m p = refl

-- the m steps from step i on
steps : (s : List ℕ) (lost i m : ℕ) (p : Play) (n r : ℕ) (l : Lane) → Kept l n i p.clock p.key → Goes p n r l (played_from s lost i m p) (i + m)
steps s lost i zero p n r l h =
    subst (λ (z : Play). Goes p n r l z (i + 0)) (sym (none_more s lost i p)) (subst (Goes p n r l p) (sym (add-zero i)) (stays p n r i l h))
steps s lost i (suc m) p n r l h =
    let e : suc i + m ≡ i + suc m = omega arith in
    subst (λ (z : Play). Goes p n r l z (i + suc m)) (sym (one_more s lost i m p))
    (subst (Goes p n r l _) e
    (on p _ _ n r (suc i) (suc i + m) l (one (step_at s i) (eqb (suc i) lost) p n r i l h) (λ t y q. steps s lost (suc i) m _ t r y q)))

-- the unit is registered where its interval is in range
is_registered-holds : (interval : ℕ) → valid_interval interval ≡ true → (register_of (fresh_olt_of olt_mac 0).olt unit_identity 0 interval).number ≡ 0
unfolding register_of registering olt_answer register_verdict valid_registration reply refuse_if fresh_olt_of new_olt valid_olt both
    valid_mac valid_shared valid_channels
    all distinct table_llids valid_identity either llids_of among meets
is_registered-holds interval h = rw h refl

first_lane : ℕ → Lane
first_lane interval =
    noted (register_of (fresh_olt_of olt_mac 0).olt unit_identity 0 interval).number (lane_registered 0 0 interval) (fresh_lane site)

start_kept : (interval : ℕ) → valid_interval interval ≡ true → Kept (first_lane interval) 0 0 (started interval).clock (started interval).key
unfolding first_lane lane_registered fresh_lane started
start_kept interval h =
    rw (noted_on _ (lane_registered 0 0 interval) (fresh_lane site) (is_registered-holds interval h))
    (record { place = refl; path = refl; registered = refl; offered = λ n q. absurd (omega (arith, q)); clocks = inl refl; keys = inl refl })

-- what the unit is registered with agrees with the setting
agrees : Agrees setting (start setting) 0 unit_identity 0
unfolding start fresh_lane
agrees =
    record { known = omega arith; mac = refl; llids = λ x. refl; oltmac = refl; time = refl; delays = refl }

olt_made : (fresh_olt_of olt_mac 0).number ≡ 0
unfolding fresh_olt_of olt_answer reply refuse_if both valid_mac
olt_made = refl

onu_made : (fresh_onu_of unit_identity olt_mac 0).number ≡ 0
unfolding fresh_onu_of fresh_onu_verdict onu_answer reply refuse_if both valid_identity valid_mac distinct llids_of among either
onu_made = refl

fresh : Fresh setting
fresh = record { olt = olt_made; onus = made } where
  made : (u : ℕ) (s : Site) → u < 1 → (fresh_onu_of (get_or (site ∷ []) u s).identity (get_or (site ∷ []) u s).oltmac
      (get_or (site ∷ []) u s).time).number ≡ 0
  made zero s h = onu_made
  made (suc u) s h = absurd (omega (arith, h))

in_range-holds : (s : List ℕ) → script_verdict s ≡ no_refusal → valid_interval (interval_of s) ≡ true
unfolding script_verdict interval_fits
in_range-holds s h = both_right _ _ (not-false _ (refuse_accepted _ _ _ h).0)

-- the state in which the unit is registered is that of the play's start
registered_at : (interval : ℕ)
    → step (start setting) (register 0 unit_identity 0 interval)
    ≡ at (started interval) 0 (pick (accepted (register_of (fresh_olt_of olt_mac 0).olt unit_identity 0 interval).number) 1 0) (first_lane interval)
unfolding step start entering started first_lane fresh_onu
registered_at interval = refl

pub listed : (s : List ℕ) → EveryPlayListed s
unfolding run played
listed s h lost =
    let v = interval_of s in
    let g = steps s lost 0 (steps_in s) (started v) 0 (pick (accepted (register_of (fresh_olt_of olt_mac 0).olt unit_identity 0 v).number) 1 0) (first_lane v)
    (start_kept v (in_range-holds s h)) in
    record {
      events = g.events;
      fresh = fresh;
      meets = ((λ _. agrees), rw (registered_at v) g.meets);
      olt = ap (λ (z : State). (run z g.events).olt) (registered_at v) ∙ ap (λ (z : State). z.olt) g.runs;
      onu = ap (λ (z : State). onu_at (run z g.events) 0) (registered_at v) ∙ ap (λ (z : State). onu_at z 0) g.runs;
    }
