-- What an event makes of a registered unit's lane, once it is accepted. Assumes nothing.
use Rattle.std.specs.Prelude.{Some}
use mathlib.Core.Path.{◌≡◌, refl, sym, ◌∙◌, ap}
use mathlib.Core.Bool.{true}
use mathlib.Core.List.{List}
use Prim.Native.Nat.{ℕ, ◌+◌, ◌≤◌}
use native.Mathlib.Omega.{arith}
use borrow.Author.Tests.{eq-eqb, le-leb, lt-leb, le-ltb}
use Rattle.octets.specs.Choice.{pick}
use Rattle.octets.proofs.Choice.{both_true, either_none, not_of_true}
use Rattle.refusal.specs.Number.{verdict_number}
use Rattle.refusal.specs.declared.Refusal.TheVariants.{ClockNotSet, OfferPending, SameKey, NothingOutstanding, CaptureTooOld, AtEnd}
use Rattle.refusal.proofs.Order.{refuse_passed}
use Rattle.clock.specs.Ticks.{max_tick, ticks_per_second}
use Rattle.clock.specs.declared.Stamps.{Stamps}
use Rattle.ends.specs.Identities.{has}
use Rattle.ends.specs.Records.{with_clock}
use Rattle.ends.specs.Table.{find, unit_at}
use Rattle.ends.specs.declared.Olt.{Olt}
use Rattle.ends.specs.declared.Shared.{Shared}
use Rattle.ends.specs.declared.UnitRecord.{UnitRecord}
use Rattle.ends.proofs.Table.{find_at, with_unit-holds}
use Rattle.protocol.specs.Lift.{Outcome, outcome, lift}
use Rattle.protocol.specs.Messages.{clock_kind, key_kind, no_stamps, no_key_message}
use Rattle.protocol.specs.Replies.{Silence, silent}
use Rattle.protocol.specs.OltCalls.{olt_answer, clock_sent, key_sent, capture_of, clock_send_of, offer_of, retry_of, acknowledge_of, advance_olt_of}
use Rattle.protocol.specs.UnitCalls.{clock_captured, capture_unit, clock_send_verdict, clock_send_unit, offer_verdict, offer_unit, retry_unit, clock_acknowledged_unit, key_acknowledged_unit, acknowledge_unit}
use Rattle.protocol.specs.declared.KeyMessage.{KeyMessage}
use Rattle.protocol.proofs.Lift.{Lifted, lift_accepts}
use Rattle.protocol.proofs.OltAdvance.{advancing_accepts}
use Rattle.protocol.proofs.UnitCalls.{Offers, retry_accepts, clock_kind-holds, key_kind-holds}
use Rattle.unicast.specs.Setting.{Setting}
use Rattle.unicast.specs.History.{Lane, Entry, clock_message, key_message, lane_captured, lane_leaving, lane_offered, lane_acknowledged}
use Rattle.unicast.specs.Events.{Event, advance, capture, clock_send, offer, retry, arrive_answer}
use Rattle.unicast.specs.Run.{State, lane_at, answer_at, noted, with_lanes, at_olt, advancing, clock_sending, offering, retrying, answering, step}
use Rattle.unicast.specs.Premises.{NewKey, DueAnswer, Fits}
use Rattle.unicast.proofs.Invariant.{Invariant}
use Rattle.unicast.proofs.Places.{held_found, at_once}
use Rattle.unicast.proofs.Alive.{Alive, registered_alive}
use Rattle.unicast.proofs.LiftSteps.{named_own, named_at}
use Rattle.unicast.proofs.Theorem.{step_right}
use Rattle.refusal.specs.Verdict.{Verdict, no_refusal}

-- a registered unit, named by one of its LLIDs, wherever the list has led
pub record Here (w : Setting) (u llid : ℕ) (s : State) : Type 0 where
  pub invariant : Invariant w s
  pub registered : (lane_at s u).entry.registered ≡ true
  pub named : has (lane_at s u).site.identity llid ≡ true

-- an event that fits, and what it leaves: the unit's lane, and the tick
pub record Step (w : Setting) (u : ℕ) (s : State) (e : Event) (l : Lane) (now : ℕ) : Type 0 where
  pub fits : Fits w s e
  pub lane : lane_at (step s e) u ≡ l
  pub tick : (step s e).history.now ≡ now

-- the unit is there still
pub here_after : (w : Setting) (u llid : ℕ) (s : State) (e : Event) (l : Lane) (now : ℕ) → Here w u llid s → Step w u s e l now
    → l.site ≡ (lane_at s u).site → l.entry ≡ (lane_at s u).entry → Here w u llid (step s e)
here_after w u llid s e l now h t site entry =
    record {
      invariant = step_right w s e h.invariant t.fits;
      registered = rw t.lane (ap (λ (x : Entry). x.registered) entry ∙ h.registered);
      named = rw (t.lane, site) h.named;
    }

module _ (w : Setting) (u llid : ℕ) (s : State) (h : Here w u llid s) where
  abbrev pub alive : Alive w s u
  alive = registered_alive w s u h.invariant h.registered

  abbrev pub place : ℕ
  place = (lane_at s u).entry.place

  abbrev pub unit : UnitRecord
  unit = unit_at s.olt place

  pub found : find s.olt llid ≡ Some place
  found =
      held_found w s place u llid h.invariant (record { known = alive.known; registered = h.registered; place = refl }) h.named

  ---- an advance

  pub advance_goes : (n : ℕ) → s.history.now + n ≤ max_tick → Step w u s (advance n) (lane_at s u) (s.history.now + n)
  unfolding step advancing pick advance_olt_of olt_answer
  advance_goes n most =
      let i = h.invariant in
      record {
        fits = tt;
        lane = refl;
        tick = rw (advancing_accepts s.olt n i.valid (omega (arith, most, i.shared.tick)));
      }

  ---- a call that is lifted from the unit to the OLT

  module _ {H : Type 0} (nothing : H) (ahead : Verdict) (call : Shared → UnitRecord → Outcome H) (passed : ahead ≡ no_refusal)
      (accepts : (call s.olt.shared unit).verdict ≡ no_refusal) where
    pub lifted : Lifted s.olt nothing ahead llid call
    lifted = lift_accepts s.olt nothing ahead llid call place h.invariant.valid passed found accepts

    pub lifted_at : lifted.at ≡ place
    lifted_at = at_once _ _ (sym lifted.found ∙ found)

    pub lifted_number : verdict_number (lift s.olt nothing ahead llid call).verdict ≡ 0
    lifted_number = ap verdict_number lifted.verdict

    -- the OLT's record of the unit
    pub lifted_unit : unit_at (lift s.olt nothing ahead llid call).end place ≡ (call s.olt.shared unit).unit
    lifted_unit =
        let r = find_at s.olt llid place found in
        rw (lifted.end, lifted_at) (with_unit-holds s.olt place _ _ r.place)

    pub lifted_handed : (lift s.olt nothing ahead llid call).handed ≡ (call s.olt.shared unit).handed
    lifted_handed = rw lifted_at at lifted.handed

  -- the lane is told
  pub told : (o : Olt) (number : ℕ) (f : Lane → Lane) → number ≡ 0 → lane_at (at_olt s o number llid f) u ≡ f (lane_at s u)
  unfolding at_olt noted pick with_lanes
  told o number f e = rw e (named_at llid f s.history.lanes u ∙ named_own llid f (lane_at s u) h.registered h.named)

  ---- capture

  pub capture_goes : Step w u s (capture llid) (lane_captured s.history.now (lane_at s u)) s.history.now
  unfolding step capture_of olt_answer capture_unit outcome at_olt with_lanes
  capture_goes =
      record {
        fits = tt;
        lane =
            told (lift s.olt silent no_refusal llid capture_unit).end _ (lane_captured s.history.now) (lifted_number silent no_refusal capture_unit refl refl);
        tick = refl;
      }

  pub capture_clock : (unit_at (step s (capture llid)).olt place).clock ≡ clock_captured unit.clock s.olt.shared.tick
  unfolding step capture_of olt_answer capture_unit outcome at_olt with_clock
  capture_clock = ap (λ (x : UnitRecord). x.clock) (lifted_unit silent no_refusal capture_unit refl refl)

  ---- a clock message leaves

  pub clock_send_goes : unit.clock.captured ≡ 1 → s.olt.shared.tick ≤ unit.clock.tick + ticks_per_second
      → Step w u s (clock_send llid)
      (lane_leaving (clock_message (clock_send_unit s.olt.shared unit).handed (lane_at s u).captured s.history.now) (lane_at s u)) s.history.now
  unfolding step clock_sending clock_send_of clock_sent clock_send_unit outcome at_olt with_lanes clock_send_verdict
  clock_send_goes captured soon =
      let accepts : clock_send_verdict unit.clock s.olt.shared.tick ≡ no_refusal =
      refuse_passed _ NothingOutstanding _ (not_of_true (eq-eqb unit.clock.captured 1 captured))
      ∙ refuse_passed _ CaptureTooOld _ (le-ltb _ _ soon) in
      let call = lifted_number no_stamps no_refusal clock_send_unit refl accepts in
      let handed = lifted_handed no_stamps no_refusal clock_send_unit refl accepts in
      record {
        fits = tt;
        lane =
            told (lift s.olt no_stamps no_refusal llid clock_send_unit).end _ _ call
            ∙ ap (λ (m : Stamps). lane_leaving (clock_message m (lane_at s u).captured s.history.now) (lane_at s u)) handed;
        tick = refl;
      }

  ---- a key message leaves

  offer_accepts : (key : List ℕ) → Offers unit key → offer_verdict unit key ≡ no_refusal
  unfolding offer_verdict
  offer_accepts key o =
      refuse_passed _ ClockNotSet _ (not_of_true (eq-eqb unit.clock.acknowledged 1 o.set))
      ∙ refuse_passed _ OfferPending _ (either_none (le-ltb _ _ o.settled) (le-ltb _ _ o.confirmed))
      ∙ refuse_passed _ SameKey _ o.new
      ∙ refuse_passed _ AtEnd _ (lt-leb _ _ o.below)

  pub offer_goes : (key : List ℕ) → Offers unit key → NewKey s key
      → Step w u s (offer llid key)
      (lane_leaving (key_message (offer_unit llid key s.olt.shared unit).handed s.history.now) (lane_offered key (lane_at s u))) s.history.now
  unfolding step offering offer_of key_sent offer_unit outcome at_olt with_lanes
  offer_goes key o new =
      let accepts = offer_accepts key o in
      let call = lifted_number no_key_message no_refusal (offer_unit llid key) refl accepts in
      let handed = lifted_handed no_key_message no_refusal (offer_unit llid key) refl accepts in
      record {
        fits = λ a. new;
        lane =
            told (lift s.olt no_key_message no_refusal llid (offer_unit llid key)).end _ _ call
            ∙ ap (λ (m : KeyMessage). lane_leaving (key_message m s.history.now) (lane_offered key (lane_at s u))) handed;
        tick = refl;
      }

  pub retry_goes : (unit.keys.offered ≡ unit.keys.active → ⊥)
      → Step w u s (retry llid)
      (lane_leaving (key_message (retry_unit llid s.olt.shared unit).handed s.history.now) (lane_at s u)) s.history.now
  unfolding step retrying retry_of key_sent at_olt with_lanes
  retry_goes more =
      let accepts = retry_accepts llid s.olt.shared unit more in
      let call = lifted_number no_key_message no_refusal (retry_unit llid) refl accepts in
      let handed = lifted_handed no_key_message no_refusal (retry_unit llid) refl accepts in
      record {
        fits = tt;
        lane =
            told (lift s.olt no_key_message no_refusal llid (retry_unit llid)).end _ _ call
            ∙ ap (λ (m : KeyMessage). lane_leaving (key_message m s.history.now) (lane_at s u)) handed;
        tick = refl;
      }

  ---- an acknowledgement arrives

  clock_accepts : unit.clock.sent ≡ 1 → (clock_acknowledged_unit s.olt.shared unit).verdict ≡ no_refusal
  unfolding clock_acknowledged_unit outcome
  clock_accepts sent = refuse_passed _ NothingOutstanding _ (not_of_true (eq-eqb unit.clock.sent 1 sent))

  key_accepts : (number : ℕ) → 1 ≤ number → number ≡ unit.keys.offered → (key_acknowledged_unit number s.olt.shared unit).verdict ≡ no_refusal
  unfolding key_acknowledged_unit outcome
  key_accepts number some last =
      refuse_passed _ NothingOutstanding _ (not_of_true (both_true (le-leb 1 number some) (eq-eqb number unit.keys.offered last)))

  answer_goes : (k : ℕ) → DueAnswer s u k llid → (acknowledge_unit (answer_at s u k).acknowledgement s.olt.shared unit).verdict ≡ no_refusal
      → Step w u s (arrive_answer u k llid) (lane_acknowledged (answer_at s u k).acknowledgement (lane_at s u)) s.history.now
      × (unit_at (step s (arrive_answer u k llid)).olt place ≡ (acknowledge_unit (answer_at s u k).acknowledgement s.olt.shared unit).unit)
  unfolding step answering acknowledge_of olt_answer at_olt with_lanes
  answer_goes k due accepts =
      let a = (answer_at s u k).acknowledgement in (
        record {
          fits = due;
          lane =
              told (lift s.olt silent no_refusal llid (acknowledge_unit a)).end _ (lane_acknowledged a)
              (lifted_number silent no_refusal (acknowledge_unit a) refl accepts);
          tick = refl;
        },
        lifted_unit silent no_refusal (acknowledge_unit a) refl accepts,
      )

  pub clock_answer_goes : (k : ℕ) → DueAnswer s u k llid → (answer_at s u k).acknowledgement.kind ≡ clock_kind → unit.clock.sent ≡ 1
      → Step w u s (arrive_answer u k llid) (lane_acknowledged (answer_at s u k).acknowledgement (lane_at s u)) s.history.now
      × ((unit_at (step s (arrive_answer u k llid)).olt place).clock.acknowledged ≡ 1)
  unfolding clock_acknowledged_unit outcome with_clock
  clock_answer_goes k due kind sent =
      let a = (answer_at s u k).acknowledgement in
      let same = clock_kind-holds a s.olt.shared unit kind in
      let goes = answer_goes k due (ap (λ (c : Outcome Silence). c.verdict) same ∙ clock_accepts sent) in
      (goes.0, ap (λ (x : UnitRecord). x.clock.acknowledged) (goes.1 ∙ ap (λ (c : Outcome Silence). c.unit) same))

  pub key_answer_goes : (k : ℕ) → DueAnswer s u k llid → (answer_at s u k).acknowledgement.kind ≡ key_kind
      → 1 ≤ (answer_at s u k).acknowledgement.number
      → (answer_at s u k).acknowledgement.number ≡ unit.keys.offered
      → Step w u s (arrive_answer u k llid) (lane_acknowledged (answer_at s u k).acknowledgement (lane_at s u)) s.history.now
  key_answer_goes k due kind some last =
      let a = (answer_at s u k).acknowledgement in
      let same = key_kind-holds a s.olt.shared unit kind in
      (answer_goes k due (ap (λ (c : Outcome Silence). c.verdict) same ∙ key_accepts a.number some last)).0
