-- Laws of the OLT's calls: a valid OLT stays valid, its places stay as many, a refused call leaves it, and the code is that of the
-- call's order. Assumes nothing.
use mathlib.Core.Path.{◌≡◌, refl, ◌∙◌, ap}
use mathlib.Core.Bool.{Bool, true, false, not}
use mathlib.Core.List.{List}
use Prim.Native.Nat.{ℕ, ◌<◌}
use native.Mathlib.Omega.{arith}
use lib.ListN.{length, length-replicate}
use lib.Dec.{leb}
use borrow.Author.Tests.{leb-true, ltb-true, not-false}
use Rattle.octets.specs.Lists.{all}
use Rattle.octets.proofs.Choice.{both_left, both_right}
use Rattle.refusal.specs.Number.{verdict_number}
use Rattle.refusal.specs.declared.Refusal.{Refusal}
use Rattle.refusal.specs.declared.Refusal.TheVariants.{OutOfRange}
use Rattle.clock.specs.Ticks.{clock_turn, max_round_trip}
use Rattle.ends.specs.Limits.{max_units}
use Rattle.refusal.specs.Order.{refuse_if, and_then}
use Rattle.protocol.specs.Replies.{on_valid, silent}
use Rattle.protocol.specs.Messages.{no_stamps, no_key_message}
use Rattle.ends.specs.Identities.{distinct, valid_mac}
use Rattle.ends.specs.Records.{no_unit, new_olt}
use Rattle.ends.specs.Table.{table_llids, unit_named, find}
use Rattle.ends.specs.Validity.{valid_olt}
use Rattle.protocol.specs.Lift.{outcome}
use Rattle.protocol.specs.UnitCalls.{capture_unit, measure_unit, clock_send_unit, offer_unit, retry_unit, acknowledge_unit}
use Rattle.protocol.specs.OltCalls.{olt_answer, clock_sent, key_sent, fresh_olt_of, registering, register_of, advancing_olt, advance_olt_of, capture_order, capture_of, measure_order, measure_of, clock_send_order, clock_send_of, offer_order, offer_of, retry_order, retry_of, acknowledge_order, acknowledge_of}
use Rattle.ends.specs.declared.Identity.{Identity}
use Rattle.ends.specs.declared.Olt.{Olt}
use Rattle.protocol.specs.declared.Acknowledgement.{Acknowledgement}
use Rattle.protocol.specs.declared.OltAnswer.{OltAnswer}
use Rattle.protocol.specs.declared.ClockSent.{ClockSent}
use Rattle.protocol.specs.declared.KeySent.{KeySent}
use Rattle.refusal.proofs.Order.{refuse_accepted}
use Rattle.refusal.proofs.Numbers.{number_accepted}
use Rattle.protocol.proofs.Replies.{number_refused, reply_keeps, reply_untouched}
use Rattle.ends.proofs.Occupancy.{free_valid}
use Rattle.ends.proofs.Table.{with_itself}
use Rattle.ends.proofs.Validity.{shared_valid, olt_valid}
use Rattle.protocol.proofs.Lift.{lift_verdict, lift_keeps, lift_valid, lift_again, lift_untouched}
use Rattle.protocol.proofs.UnitCalls.{capture_keeps, measure_keeps, clock_send_keeps, offer_keeps, acknowledge_verdict-holds, acknowledge_keeps, acknowledged_channels, acknowledged_again}
use Rattle.refusal.specs.Verdict.{Verdict, no_refusal}

---- fresh

pub new_olt_valid : (mac clock : ℕ) → valid_mac mac ≡ true → clock < clock_turn → valid_olt (new_olt mac clock) ≡ true
unfolding new_olt all table_llids distinct
new_olt_valid mac clock m c =
    let shared = shared_valid (new_olt mac clock).shared (search (free_valid, arith)) in
    olt_valid (new_olt mac clock) (search arith)

-- the end of zeros that a refused fresh gives is valid
pub zeros_valid : valid_olt (new_olt 0 0) ≡ true
unfolding valid_mac
zeros_valid = new_olt_valid 0 0 refl (omega arith)

-- whether it was accepted or not
pub fresh_valid : (mac clock : ℕ) → valid_olt (fresh_olt_of mac clock).olt ≡ true
unfolding fresh_olt_of olt_answer
fresh_valid mac clock =
    reply_keeps (λ (o : Olt). valid_olt o ≡ true) _ (new_olt 0 0) silent (new_olt mac clock) silent zeros_valid
    (λ a.
    let b = not-false _ (refuse_accepted _ _ _ a).0 in
    new_olt_valid mac clock (both_left _ _ b) (ltb-true _ _ (both_right _ _ b)))

-- one cause goes on with the list that follows it
one_then : (cause : Bool) (r : Refusal) (v : Verdict) → and_then (refuse_if cause r no_refusal) v ≡ refuse_if cause r v
unfolding and_then refuse_if
one_then true r v = refl
one_then false r v = refl

---- calls on one unit

pub capture_valid : (o : Olt) (llid : ℕ) → valid_olt o ≡ true → valid_olt (capture_of o llid).olt ≡ true
unfolding capture_of olt_answer
capture_valid o llid v = lift_valid o silent no_refusal llid capture_unit (λ a. capture_keeps) v

pub measure_valid : (o : Olt) (llid trip : ℕ) → valid_olt o ≡ true → valid_olt (measure_of o llid trip).olt ≡ true
unfolding measure_of olt_answer
measure_valid o llid trip v =
    lift_valid o silent _ llid (measure_unit trip) (λ a. measure_keeps trip (leb-true _ _ (not-false _ (refuse_accepted _ _ _ a).0))) v

pub clock_send_valid : (o : Olt) (llid : ℕ) → valid_olt o ≡ true → valid_olt (clock_send_of o llid).olt ≡ true
unfolding clock_send_of clock_sent
clock_send_valid o llid v = lift_valid o no_stamps no_refusal llid clock_send_unit (λ a. clock_send_keeps) v

pub offer_valid : (o : Olt) (llid : ℕ) (key : List ℕ) → valid_olt o ≡ true → valid_olt (offer_of o llid key).olt ≡ true
unfolding offer_of key_sent
offer_valid o llid key v = lift_valid o no_key_message no_refusal llid (offer_unit llid key) (λ a. offer_keeps llid key) v

pub acknowledge_valid : (o : Olt) (llid : ℕ) (a : Acknowledgement) → valid_olt o ≡ true → valid_olt (acknowledge_of o llid a).olt ≡ true
unfolding acknowledge_of olt_answer
acknowledge_valid o llid a v = lift_valid o silent no_refusal llid (acknowledge_unit a) (λ p. acknowledge_keeps a) v

-- a retry, accepted or not, leaves the OLT as it was
pub retry_same : (o : Olt) (llid : ℕ) → (retry_of o llid).olt ≡ o
unfolding retry_of key_sent retry_unit outcome
retry_same o llid =
    lift_keeps o no_key_message no_refusal llid (retry_unit llid) (λ (p : Olt). p ≡ o) refl (λ l. with_itself o l.at)

pub retry_valid : (o : Olt) (llid : ℕ) → valid_olt o ≡ true → valid_olt (retry_of o llid).olt ≡ true
retry_valid o llid v = ap valid_olt (retry_same o llid) ∙ v

-- an acknowledgement repeated, by any LLID of the unit, is answered as the first, and leaves what the first left
pub acknowledge_again : (o : Olt) (llid other : ℕ) (a : Acknowledgement) → find o other ≡ find o llid → (acknowledge_of o llid a).number ≡ 0
    → acknowledge_of (acknowledge_of o llid a).olt other a ≡ acknowledge_of o llid a
unfolding acknowledge_of olt_answer
acknowledge_again o llid other a f e =
    ap olt_answer
    (lift_again o silent no_refusal llid (acknowledge_unit a) (acknowledge_keeps a) (acknowledged_channels a) (acknowledged_again a) other f
    (number_accepted _ e))

---- the places

pub fresh_places : (mac clock : ℕ) → length (fresh_olt_of mac clock).olt.units ≡ max_units
unfolding fresh_olt_of olt_answer new_olt
fresh_places mac clock =
    reply_keeps (λ (o : Olt). length o.units ≡ max_units) _ (new_olt 0 0) silent (new_olt mac clock) silent (length-replicate max_units no_unit)
    (λ a. length-replicate max_units no_unit)

---- refused: the very OLT that was lent, and nothing

pub fresh_refused : (mac clock : ℕ) → ((fresh_olt_of mac clock).number ≡ 0 → ⊥) → (fresh_olt_of mac clock).olt ≡ new_olt 0 0
unfolding fresh_olt_of olt_answer
fresh_refused mac clock n = (number_refused (new_olt 0 0) silent _ (λ x e. reply_untouched _ (new_olt 0 0) silent _ silent x e) n).end

pub register_refused : (o : Olt) (i : Identity) (trip interval : ℕ) → ((register_of o i trip interval).number ≡ 0 → ⊥)
    → (register_of o i trip interval).olt ≡ o
unfolding register_of registering olt_answer
register_refused o i trip interval n = (number_refused o silent _ (λ x e. reply_untouched _ o silent _ silent x e) n).end

pub advance_olt_refused : (o : Olt) (n : ℕ) → ((advance_olt_of o n).number ≡ 0 → ⊥) → (advance_olt_of o n).olt ≡ o
unfolding advance_olt_of advancing_olt olt_answer
advance_olt_refused o n h = (number_refused o silent _ (λ x e. reply_untouched _ o silent _ silent x e) h).end

pub capture_refused : (o : Olt) (llid : ℕ) → ((capture_of o llid).number ≡ 0 → ⊥) → (capture_of o llid).olt ≡ o
unfolding capture_of olt_answer
capture_refused o llid n = (number_refused o silent _ (lift_untouched o silent no_refusal llid capture_unit) n).end

pub measure_refused : (o : Olt) (llid trip : ℕ) → ((measure_of o llid trip).number ≡ 0 → ⊥) → (measure_of o llid trip).olt ≡ o
unfolding measure_of olt_answer
measure_refused o llid trip n = (number_refused o silent _ (lift_untouched o silent _ llid (measure_unit trip)) n).end

pub clock_send_refused : (o : Olt) (llid : ℕ) → ((clock_send_of o llid).number ≡ 0 → ⊥)
    → ((clock_send_of o llid).olt ≡ o) × ((clock_send_of o llid).message ≡ no_stamps)
unfolding clock_send_of clock_sent
clock_send_refused o llid n = search (number_refused o no_stamps _ (lift_untouched o no_stamps no_refusal llid clock_send_unit) n)

pub offer_refused : (o : Olt) (llid : ℕ) (key : List ℕ) → ((offer_of o llid key).number ≡ 0 → ⊥)
    → ((offer_of o llid key).olt ≡ o) × ((offer_of o llid key).message ≡ no_key_message)
unfolding offer_of key_sent
offer_refused o llid key n = search (number_refused o no_key_message _ (lift_untouched o no_key_message no_refusal llid (offer_unit llid key)) n)

pub retry_refused : (o : Olt) (llid : ℕ) → ((retry_of o llid).number ≡ 0 → ⊥)
    → ((retry_of o llid).olt ≡ o) × ((retry_of o llid).message ≡ no_key_message)
unfolding retry_of key_sent
retry_refused o llid n = search (number_refused o no_key_message _ (lift_untouched o no_key_message no_refusal llid (retry_unit llid)) n)

pub acknowledge_refused : (o : Olt) (llid : ℕ) (a : Acknowledgement) → ((acknowledge_of o llid a).number ≡ 0 → ⊥)
    → (acknowledge_of o llid a).olt ≡ o
unfolding acknowledge_of olt_answer
acknowledge_refused o llid a n = (number_refused o silent _ (lift_untouched o silent no_refusal llid (acknowledge_unit a)) n).end

---- the code is that of the first refusal in the call's order, for an answer r as the definition has it

pub capture_ordered : (o : Olt) (llid : ℕ) (r : OltAnswer) → r ≡ capture_of o llid
    → (r ≡ capture_of o llid) × (r.number ≡ verdict_number (capture_order o llid))
unfolding capture_of olt_answer capture_order capture_unit outcome and_then
capture_ordered o llid r e = (e, rw e (ap verdict_number (lift_verdict o silent no_refusal llid capture_unit)))

pub measure_ordered : (o : Olt) (llid trip : ℕ) (r : OltAnswer) → r ≡ measure_of o llid trip
    → (r ≡ measure_of o llid trip) × (r.number ≡ verdict_number (measure_order o llid trip))
unfolding measure_of olt_answer measure_order measure_unit outcome
measure_ordered o llid trip r e =
    let chain = lift_verdict o silent _ llid (measure_unit trip) ∙ ap (on_valid (valid_olt o)) (one_then (not (leb trip max_round_trip)) OutOfRange _) in
    (e, rw e (ap verdict_number chain))

pub clock_send_ordered : (o : Olt) (llid : ℕ) (r : ClockSent) → r ≡ clock_send_of o llid
    → (r ≡ clock_send_of o llid) × (r.number ≡ verdict_number (clock_send_order o llid))
unfolding clock_send_of clock_sent clock_send_order clock_send_unit outcome and_then
clock_send_ordered o llid r e = (e, rw e (ap verdict_number (lift_verdict o no_stamps no_refusal llid clock_send_unit)))

pub offer_ordered : (o : Olt) (llid : ℕ) (key : List ℕ) (r : KeySent) → r ≡ offer_of o llid key
    → (r ≡ offer_of o llid key) × (r.number ≡ verdict_number (offer_order o llid key))
unfolding offer_of key_sent offer_order offer_unit outcome and_then
offer_ordered o llid key r e = (e, rw e (ap verdict_number (lift_verdict o no_key_message no_refusal llid (offer_unit llid key))))

pub retry_ordered : (o : Olt) (llid : ℕ) (r : KeySent) → r ≡ retry_of o llid
    → (r ≡ retry_of o llid) × (r.number ≡ verdict_number (retry_order o llid))
unfolding retry_of key_sent retry_order retry_unit outcome and_then
retry_ordered o llid r e = (e, rw e (ap verdict_number (lift_verdict o no_key_message no_refusal llid (retry_unit llid))))

pub acknowledge_ordered : (o : Olt) (llid : ℕ) (a : Acknowledgement) (r : OltAnswer) → r ≡ acknowledge_of o llid a
    → (r ≡ acknowledge_of o llid a) × (r.number ≡ verdict_number (acknowledge_order o llid a))
unfolding acknowledge_of olt_answer acknowledge_order and_then
acknowledge_ordered o llid a r e =
    (e, rw (e, ← acknowledge_verdict-holds a o.shared (unit_named o llid)) (ap verdict_number (lift_verdict o silent no_refusal llid (acknowledge_unit a))))
