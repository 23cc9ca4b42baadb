-- Send and receive of the OLT keep it valid, their verdict is that of their order, and the flag stays up until a switch. Assumes nothing.
use Rattle.std.specs.Prelude.{Err, Some}
use mathlib.Core.Path.{◌≡◌, refl, sym, ap, ◌∙◌}
use mathlib.Core.Bool.{Bool, true, false, not}
use Prim.Native.Nat.{ℕ, ◌≤◌}
use Rattle.octets.specs.Choice.{both}
use Rattle.octets.specs.Eqs.{max_eqs}
use Rattle.octets.proofs.Choice.{both_true, not_of_true}
use Rattle.refusal.specs.declared.Refusal.{Refusal}
use Rattle.refusal.specs.declared.Refusal.TheVariants.{OutOfRange, BadLength}
use Rattle.refusal.specs.Order.{refuse_if}
use Rattle.protocol.specs.Replies.{on_valid}
use Rattle.envelope.specs.Channels.{downstream, upstream}
use Rattle.ends.specs.Table.{find, unit_at}
use Rattle.ends.specs.Validity.{valid_olt}
use Rattle.protocol.specs.Lift.{outcome}
use Rattle.protocol.specs.Headers.{valid_header, no_passage, no_sending}
use Rattle.protocol.specs.UnitTraffic.{switches, send_unit, receive_unit}
use Rattle.protocol.specs.OltTraffic.{send_order, sending_olt, receive_order, receiving_olt}
use Rattle.ends.specs.declared.Olt.{Olt}
use Rattle.ends.specs.declared.UnitRecord.{UnitRecord}
use Rattle.protocol.specs.declared.Header.{Header}
use Rattle.refusal.proofs.Order.{refuse_accepted, refuse_passed, two_then}
use Rattle.protocol.proofs.Replies.{Untouched}
use Rattle.protocol.proofs.Lift.{Lifted, lift_verdict, lift_accepts, lift_untouched, lift_valid, lift_part}
use Rattle.protocol.proofs.UnitTraffic.{timer_stays, send_keeps, receive_keeps}
use Rattle.protocol.proofs.UnitChoices.{Receives, receive_accepts}
use Rattle.refusal.specs.Verdict.{Verdict, no_refusal}

-- what a send refuses ahead of 2
abbrev pub send_ahead : Bool → ℕ → Verdict
send_ahead misfit channel = refuse_if misfit BadLength (refuse_if (not (downstream channel)) OutOfRange no_refusal)

-- what a receipt refuses ahead of 2
abbrev pub receive_ahead : Bool → Header → Verdict
receive_ahead misfit h = refuse_if misfit BadLength (refuse_if (not (both (upstream h.channel) (valid_header h))) OutOfRange no_refusal)

---- the timer

-- the flag stays up until a switch: a send that is refused, to another unit or no switch leaves a unit's timer
pub flag_stays : (o : Olt) (misfit : Bool) (llid channel eqs i : ℕ)
    → ((sending_olt o misfit llid channel eqs).verdict ≡ no_refusal → find o llid ≡ Some i → switches (unit_at o i) ≡ false)
    → (unit_at (sending_olt o misfit llid channel eqs).end i).keys.timer ≡ (unit_at o i).keys.timer
unfolding sending_olt
flag_stays o misfit llid channel eqs i stays =
    lift_part o no_sending (send_ahead misfit channel) llid (send_unit llid channel eqs) (λ (u : UnitRecord). u.keys.timer) i
    (λ l same. timer_stays llid channel eqs o.shared (unit_at o l.at) (rw same at (stays l.verdict (l.found ∙ ap Some (sym same)))))

---- validity

-- a payload whose length is not refused has at most the most EQs
pub sending_valid : (o : Olt) (misfit : Bool) (llid channel eqs : ℕ) → (misfit ≡ false → eqs ≤ max_eqs) → valid_olt o ≡ true
    → valid_olt (sending_olt o misfit llid channel eqs).end ≡ true
unfolding sending_olt
sending_valid o misfit llid channel eqs h v =
    lift_valid o no_sending _ llid (send_unit llid channel eqs) (λ a. send_keeps llid channel eqs (h (refuse_accepted _ _ _ a).0)) v

pub receiving_valid : (o : Olt) (misfit : Bool) (h : Header) → valid_olt o ≡ true → valid_olt (receiving_olt o misfit h).end ≡ true
unfolding receiving_olt
receiving_valid o misfit h v = lift_valid o no_passage _ h.llid (receive_unit h) (λ a. receive_keeps h) v

pub receiving_untouched : (o : Olt) (misfit : Bool) (h : Header) (r : Refusal) → (receiving_olt o misfit h).verdict ≡ Err r
    → Untouched o no_passage (receiving_olt o misfit h)
unfolding receiving_olt
receiving_untouched o misfit h r e = lift_untouched o no_passage _ h.llid (receive_unit h) r e

---- what an accepted call has met

-- an envelope that names a registered unit, of the right direction and with a buffer that fits, is taken as its unit takes it
pub receiving_accepts : (o : Olt) (h : Header) (i : ℕ) → valid_olt o ≡ true → upstream h.channel ≡ true → valid_header h ≡ true
    → find o h.llid ≡ Some i
    → Receives o.shared (unit_at o i) h → Lifted o no_passage (receive_ahead false h) h.llid (receive_unit h)
unfolding receive_unit outcome
receiving_accepts o h i v u w f r =
    lift_accepts o no_passage (receive_ahead false h) h.llid (receive_unit h) i v
    (refuse_passed false BadLength _ refl ∙ refuse_passed _ OutOfRange _ (not_of_true (both_true u w)))
    f (receive_accepts o.shared (unit_at o i) h r)

---- the verdict is that of the call's order

pub send_order-holds : (o : Olt) (misfit : Bool) (llid channel eqs : ℕ)
    → (sending_olt o misfit llid channel eqs).verdict ≡ send_order o misfit llid channel
unfolding sending_olt send_order send_unit
send_order-holds o misfit llid channel eqs =
    lift_verdict o no_sending (send_ahead misfit channel) llid (send_unit llid channel eqs)
    ∙ ap (on_valid (valid_olt o)) (two_then misfit BadLength (not (downstream channel)) OutOfRange _)

pub receive_order-holds : (o : Olt) (misfit : Bool) (h : Header) → (receiving_olt o misfit h).verdict ≡ receive_order o misfit h
unfolding receiving_olt receive_order receive_unit outcome
receive_order-holds o misfit h =
    lift_verdict o no_passage (receive_ahead misfit h) h.llid (receive_unit h)
    ∙ ap (on_valid (valid_olt o)) (two_then misfit BadLength (not (both (upstream h.channel) (valid_header h))) OutOfRange _)
