-- The clock and key calls on one unit keep it valid and of its identity. Assumes nothing.
use Rattle.std.specs.Prelude.{Err}
use mathlib.Core.Path.{◌≡◌, refl, ◌∙◌}
use mathlib.Core.Bool.{Bool, true, false, not}
use mathlib.Core.List.{List}
use mathlib.Core.Logic.{⊎_elim}
use Prim.Native.Nat.{ℕ, ◌+◌, ◌≤◌, ◌<◌}
use native.Mathlib.Omega.{arith}
use lib.Dec.{leb, eqb}
use borrow.Author.Tests.{leb-true, eqb-true, eqb-false, le-leb, ne_eqb, not-false}
use Rattle.octets.specs.Choice.{both, either, pick}
use Rattle.octets.specs.Lists.{same}
use Rattle.octets.proofs.Choice.{both_left, both_right, pick_false, either_left, either_right, either_cases}
use Rattle.refusal.specs.declared.Refusal.TheVariants.{NothingOutstanding}
use Rattle.clock.specs.Ticks.{ticks_per_second, max_round_trip}
use Rattle.ends.specs.Limits.{max_key_number}
use Rattle.refusal.specs.Order.{refuse_if}
use Rattle.ends.specs.Flags.{is_up}
use Rattle.protocol.specs.Replies.{Silence, silent}
use Rattle.ends.specs.Keys.{key_in}
use Rattle.protocol.specs.Messages.{clock_kind, key_kind}
use Rattle.ends.specs.Records.{with_keys, with_confirmation, with_clock, new_unit_clock, with_timer}
use Rattle.ends.specs.Validity.{valid_unit_clock, valid_unit}
use Rattle.protocol.specs.Lift.{Outcome, outcome}
use Rattle.protocol.specs.UnitCalls.{unit_advanced, clock_captured, capture_unit, measure_unit, clock_send_verdict, clock_after_send, clock_send_unit, offer_verdict, keys_offered, unit_offered, offer_unit, retry_verdict, retry_unit, outstanding, acknowledge_verdict, clock_acknowledged_unit, key_acknowledged_unit, acknowledge_unit}
use Rattle.ends.specs.declared.UnitClock.{UnitClock}
use Rattle.ends.specs.declared.UnitRecord.{UnitRecord}
use Rattle.ends.specs.declared.Shared.{Shared}
use Rattle.protocol.specs.declared.Acknowledgement.{Acknowledgement}
use Rattle.refusal.proofs.Order.{refuse_accepted, refuse_passed}
use Rattle.ends.proofs.Timers.{timer_sum, timer_advanced_valid}
use Rattle.ends.proofs.Keys.{first_later_valid}
use Rattle.ends.proofs.Validity.{ClockInRange, UnitInRange, clock_in_range, clock_valid, unit_in_range, unit_valid, shared_in_range}
use Rattle.protocol.proofs.Replies.{met}
use Rattle.protocol.proofs.Lift.{Keeps}
use Rattle.refusal.specs.Verdict.{Verdict, no_refusal}

---- advance

-- an advance by m and then one by n are an advance by m + n
pub unit_sum : (m n : ℕ) (u : UnitRecord) → unit_advanced n (unit_advanced m u) ≡ unit_advanced (m + n) u
unfolding unit_advanced with_keys with_timer
unit_sum m n u = rw (timer_sum m n u.keys.timer)

-- a capture is not later than any tick that follows
clock_later : (tick later : ℕ) (c : UnitClock) → tick ≤ later → valid_unit_clock tick c ≡ true → valid_unit_clock later c ≡ true
clock_later tick later c h e =
    let r = clock_in_range tick c e in
    let since : either (eqb c.captured 0) (leb c.tick later) ≡ true =
    ⊎_elim (λ n. either_left _ n) (λ l. either_right _ (le-leb c.tick later (omega (arith, leb-true c.tick tick l)))) (either_cases _ _ r.since) in
    clock_valid later c (search)

pub unit_advanced_valid : (tick n : ℕ) (u : UnitRecord) → valid_unit tick u ≡ true → valid_unit (tick + n) (unit_advanced n u) ≡ true
unfolding unit_advanced with_keys with_timer
unit_advanced_valid tick n u e =
    let r = unit_in_range tick u e in
    let later : tick ≤ tick + n = omega arith in
    unit_valid (tick + n) (unit_advanced n u) (search (timer_advanced_valid, first_later_valid, clock_later))

---- calls that leave the channels

-- a call that leaves the identity and keeps each part of a unit in its range
unit_call : {H : Type 0} (verdict : Shared → UnitRecord → Verdict) (next : Shared → UnitRecord → UnitRecord) (handed : Shared → UnitRecord → H)
    → ((s : Shared) (u : UnitRecord) → (next s u).identity ≡ u.identity)
    → ((s : Shared) (u : UnitRecord) → verdict s u ≡ no_refusal → UnitInRange s.tick u → UnitInRange s.tick (next s u))
    → Keeps (λ s u. outcome s (verdict s u) (next s u) (handed s u))
unfolding outcome
unit_call verdict next handed same keeps =
    record {
      identity = same;
      unit = λ s u v a. unit_valid s.tick (next s u) (keeps s u a (unit_in_range s.tick u v));
      channels = λ s u v. (shared_in_range s v).channels;
    }

-- a call that replaces the clock of a unit alone
clock_call : {H : Type 0} (verdict : Shared → UnitRecord → Verdict) (next : Shared → UnitClock → UnitClock) (handed : Shared → UnitRecord → H)
    → ((s : Shared) (c : UnitClock) → ClockInRange s.tick c → ClockInRange s.tick (next s c))
    → Keeps (λ s u. outcome s (verdict s u) (with_clock u (next s u.clock)) (handed s u))
unfolding with_clock
clock_call verdict next handed keeps =
    unit_call verdict (λ s u. with_clock u (next s u.clock)) handed (λ s u. refl)
    (λ s u a r. let clock = clock_valid s.tick _ (keeps s u.clock (clock_in_range s.tick u.clock r.clock)) in search)

pub capture_keeps : Keeps capture_unit
unfolding capture_unit clock_captured
capture_keeps =
    clock_call _ (λ s c. clock_captured c s.tick) _
    (λ s c r. let now = le-leb s.tick s.tick (omega arith) in search (either_right, arith))

pub measure_keeps : (trip : ℕ) → trip ≤ max_round_trip → Keeps (measure_unit trip)
unfolding measure_unit
measure_keeps trip h = clock_call _ (λ s c. new_unit_clock trip) _ (λ s c r. search (either_left, arith))

pub clock_send_keeps : Keeps clock_send_unit
unfolding clock_send_unit clock_after_send
clock_send_keeps = clock_call _ (λ s c. clock_after_send c) _ (λ s c r. search arith)

---- what an accepted call has met

pub record ClockSends (tick : ℕ) (c : UnitClock) : Type 0 where
  pub captured : c.captured ≡ 1
  pub soon : tick ≤ c.tick + ticks_per_second

pub clock_send_accepted : (c : UnitClock) (tick : ℕ) → clock_send_verdict c tick ≡ no_refusal → ClockSends tick c
unfolding clock_send_verdict
clock_send_accepted c tick e = search met

pub record Offers (u : UnitRecord) (key : List ℕ) : Type 0 where
  pub set : u.clock.acknowledged ≡ 1
  pub settled : u.keys.offered ≤ u.keys.active
  pub confirmed : u.keys.active ≤ u.confirmation.confirmed
  pub new : both (leb 1 u.keys.active) (same key (key_in u.keys.slots u.keys.active)) ≡ false
  pub below : u.keys.active < max_key_number

pub offer_accepted : (u : UnitRecord) (key : List ℕ) → offer_verdict u key ≡ no_refusal → Offers u key
unfolding offer_verdict
offer_accepted u key e = search met depth 8

pub retry_accepted : (u : UnitRecord) → retry_verdict u.keys ≡ no_refusal → u.keys.offered ≡ u.keys.active → ⊥
unfolding retry_verdict
retry_accepted u e = eqb-false _ _ (refuse_accepted _ _ _ e).0

-- while an offer is outstanding a retry is accepted, whatever was acknowledged
pub retry_accepts : (llid : ℕ) (s : Shared) (u : UnitRecord) → (u.keys.offered ≡ u.keys.active → ⊥) → (retry_unit llid s u).verdict ≡ no_refusal
unfolding retry_unit retry_verdict outcome
retry_accepts llid s u more = refuse_passed _ NothingOutstanding _ (ne_eqb _ _ more)

pub key_acknowledged_accepted : (number : ℕ) (s : Shared) (u : UnitRecord) → (key_acknowledged_unit number s u).verdict ≡ no_refusal
    → (1 ≤ number) × (number ≡ u.keys.offered)
unfolding key_acknowledged_unit outcome
key_acknowledged_accepted number s u e =
    let a = not-false _ (refuse_accepted _ _ _ e).0 in
    (leb-true _ _ (both_left _ _ a), eqb-true _ _ (both_right _ _ a))

-- by each kind, the verdict is 8 where nothing that it acknowledges is outstanding
pub acknowledge_verdict-holds : (a : Acknowledgement) (s : Shared) (u : UnitRecord) → (acknowledge_unit a s u).verdict ≡ acknowledge_verdict a u
unfolding acknowledge_unit clock_acknowledged_unit key_acknowledged_unit acknowledge_verdict outstanding outcome pick refuse_if
acknowledge_verdict-holds a s u = by_kind (eqb a.kind clock_kind) (eqb a.kind key_kind) where
  by_kind : (t k : Bool)
      → (pick t (clock_acknowledged_unit s u) (pick k (key_acknowledged_unit a.number s u) (outcome s (Err NothingOutstanding) u silent))).verdict
      ≡ refuse_if (not (pick t (is_up u.clock.sent) (pick k (both (leb 1 a.number) (eqb a.number u.keys.offered)) false)))
      NothingOutstanding no_refusal
  by_kind true k = refl
  by_kind false true = refl
  by_kind false false = refl

---- keys

pub offer_keeps : (llid : ℕ) (key : List ℕ) → Keeps (offer_unit llid key)
unfolding offer_unit unit_offered keys_offered with_keys with_confirmation
offer_keeps llid key = unit_call _ (λ s u. unit_offered u key) _ (λ s u. refl) (λ s u a r. let b = offer_accepted u key a in search arith)

pub retry_keeps : (llid : ℕ) → Keeps (retry_unit llid)
unfolding retry_unit
retry_keeps llid = unit_call _ (λ s u. u) _ (λ s u. refl) (λ s u a r. r)

clock_acknowledged_keeps : Keeps clock_acknowledged_unit
unfolding clock_acknowledged_unit
clock_acknowledged_keeps = clock_call _ _ _ (λ s c r. search arith)

key_acknowledged_keeps : (number : ℕ) → Keeps (key_acknowledged_unit number)
unfolding key_acknowledged_unit with_confirmation
key_acknowledged_keeps number = unit_call _ _ _ (λ s u. refl) (λ s u a r. search arith)

---- acknowledgements by kind

pub key_kind-holds : (a : Acknowledgement) (s : Shared) (u : UnitRecord) → a.kind ≡ key_kind
    → acknowledge_unit a s u ≡ key_acknowledged_unit a.number s u
unfolding acknowledge_unit pick
key_kind-holds a s u e = rw e

pub clock_kind-holds : (a : Acknowledgement) (s : Shared) (u : UnitRecord) → a.kind ≡ clock_kind → acknowledge_unit a s u ≡ clock_acknowledged_unit s u
unfolding acknowledge_unit pick
clock_kind-holds a s u e = rw e

pub no_kind : (a : Acknowledgement) (s : Shared) (u : UnitRecord) → eqb a.kind clock_kind ≡ false → eqb a.kind key_kind ≡ false
    → acknowledge_unit a s u ≡ outcome s (Err NothingOutstanding) u silent
unfolding acknowledge_unit
no_kind a s u e f = pick_false _ _ e ∙ pick_false _ _ f

-- what holds of an acknowledgement of either kind, and of one of neither, holds of each
by_kinds : (a : Acknowledgement) (P : (Shared → UnitRecord → Outcome Silence) → Type 0) → P clock_acknowledged_unit
    → P (key_acknowledged_unit a.number) → P (λ s u. outcome s (Err NothingOutstanding) u silent) → P (acknowledge_unit a)
unfolding acknowledge_unit pick
by_kinds a P p q r = by_kind (eqb a.kind clock_kind) (eqb a.kind key_kind) where
  by_kind : (t k : Bool)
      → P (λ s u. pick t (clock_acknowledged_unit s u) (pick k (key_acknowledged_unit a.number s u) (outcome s (Err NothingOutstanding) u silent)))
  by_kind true k = p
  by_kind false true = q
  by_kind false false = r

pub acknowledge_keeps : (a : Acknowledgement) → Keeps (acknowledge_unit a)
acknowledge_keeps a =
    by_kinds a Keeps clock_acknowledged_keeps (key_acknowledged_keeps a.number) (unit_call _ _ _ (λ s u. refl) (λ s u e r. r))

pub acknowledged_channels : (a : Acknowledgement) (s : Shared) (u : UnitRecord) → (acknowledge_unit a s u).channels ≡ s.channels
unfolding clock_acknowledged_unit key_acknowledged_unit outcome
acknowledged_channels a s u = by_kinds a (λ call. (call s u).channels ≡ s.channels) refl refl refl

-- an acknowledgement again is as the first
pub acknowledged_again : (a : Acknowledgement) (s : Shared) (u : UnitRecord) → acknowledge_unit a s (acknowledge_unit a s u).unit ≡ acknowledge_unit a s u
unfolding clock_acknowledged_unit key_acknowledged_unit outcome with_clock with_confirmation
acknowledged_again a s u = by_kinds a (λ call. call s (call s u).unit ≡ call s u) refl refl refl
