-- Send and receive of the ONU keep it valid, and leave it where they are refused. Assumes nothing.
use Rattle.std.specs.Prelude.{Err}
use mathlib.Core.Path.{◌≡◌}
use mathlib.Core.Bool.{Bool, true, false}
use Prim.Native.Nat.{ℕ, ◌≤◌}
use native.Mathlib.Omega.{arith}
use borrow.Author.Tests.{lt-leb}
use Rattle.octets.specs.Choice.{both, either}
use Rattle.octets.specs.Eqs.{max_eqs}
use Rattle.octets.proofs.Choice.{both_true}
use Rattle.refusal.specs.declared.Refusal.{Refusal}
use Rattle.refusal.specs.declared.Refusal.TheVariants.{OutOfRange, UnknownLlid, BadLength}
use Rattle.refusal.specs.Order.{refuse_if}
use Rattle.envelope.specs.Channels.{downstream, upstream}
use Rattle.ends.specs.Identities.{has}
use Rattle.ends.specs.Travels.{travel_spent}
use Rattle.ends.specs.Records.{with_onu_keys, with_onu_first, with_travel, with_onu_channels}
use Rattle.ends.specs.Validity.{valid_onu_keys, valid_onu}
use Rattle.protocol.specs.Headers.{valid_header, no_passage, no_sending}
use Rattle.protocol.specs.OnuTraffic.{onu_send_choice, onu_send_verdict, onu_noted, onu_after_send, sending_onu, onu_receive_choice, onu_receive_verdict, onu_moved, onu_after_receipt, receiving_onu}
use Rattle.ends.specs.declared.Onu.{Onu}
use Rattle.protocol.specs.declared.Header.{Header}
use Rattle.protocol.specs.declared.KeyChoice.{KeyChoice}
use Rattle.protocol.specs.declared.KeyChoice.TheVariants.{Clear, Current, Next, Barred}
use Rattle.refusal.proofs.Order.{refuse_accepted}
use Rattle.protocol.proofs.Replies.{Untouched}
use Rattle.ends.proofs.Keys.{first_send_flag}
use Rattle.envelope.proofs.Channels.{upstream_between}
use Rattle.ends.proofs.Occupancy.{occupied_valid}
use Rattle.ends.proofs.Validity.{onu_in_range, onu_valid}
use Rattle.protocol.proofs.OnuCalls.{onu_untouched, onu_keeps}

---- validity

noted_valid : (choice : KeyChoice) (eqs : ℕ) (o : Onu) → valid_onu o ≡ true → valid_onu (onu_noted choice eqs o) ≡ true
unfolding onu_noted with_onu_first with_travel travel_spent
noted_valid Clear eqs o v = v
noted_valid (Next n) eqs o v = v
noted_valid (Barred r) eqs o v = v
noted_valid (Current n) eqs o v = let r = onu_in_range o v in onu_valid _ (search first_send_flag)

pub onu_sent_valid : (o : Onu) (channel eqs : ℕ) → eqs ≤ max_eqs → valid_onu o ≡ true → valid_onu (onu_after_send o channel eqs) ≡ true
unfolding onu_after_send with_onu_channels
onu_sent_valid o channel eqs h v =
    let r = onu_in_range o v in
    let q = onu_in_range _ (noted_valid (onu_send_choice o.keys) eqs o v) in
    onu_valid (onu_after_send o channel eqs) (search occupied_valid)

pub sending_onu_valid : (o : Onu) (misfit : Bool) (llid channel eqs : ℕ) → (misfit ≡ false → eqs ≤ max_eqs) → valid_onu o ≡ true
    → valid_onu (sending_onu o misfit llid channel eqs).end ≡ true
unfolding sending_onu onu_send_verdict
sending_onu_valid o misfit llid channel eqs h v =
    onu_keeps (λ (p : Onu). valid_onu p ≡ true) o no_sending _ _ _ v (λ w a. onu_sent_valid o channel eqs (h (refuse_accepted _ _ _ a).0) w)

pub onu_moved_valid : (o : Onu) → valid_onu o ≡ true → valid_onu (onu_moved o) ≡ true
unfolding onu_moved with_onu_first with_onu_keys valid_onu_keys either
onu_moved_valid o v = let r = onu_in_range o v in onu_valid (onu_moved o) (search (both_true, arith))

received_valid : (choice : KeyChoice) (o : Onu) → valid_onu o ≡ true → valid_onu (onu_after_receipt choice o) ≡ true
unfolding onu_after_receipt
received_valid Clear o v = v
received_valid (Current n) o v = v
received_valid (Next n) o v = onu_moved_valid o v
received_valid (Barred r) o v = v

pub receiving_onu_valid : (o : Onu) (misfit : Bool) (h : Header) → valid_onu o ≡ true → valid_onu (receiving_onu o misfit h).end ≡ true
unfolding receiving_onu
receiving_onu_valid o misfit h v =
    onu_keeps (λ (p : Onu). valid_onu p ≡ true) o no_passage _ _ _ v (λ w a. received_valid (onu_receive_choice o.keys h) o w)

---- refused: the very ONU that was lent, and nothing

pub sending_onu_untouched : (o : Onu) (misfit : Bool) (llid channel eqs : ℕ) (r : Refusal) → (sending_onu o misfit llid channel eqs).verdict ≡ Err r
    → Untouched o no_sending (sending_onu o misfit llid channel eqs)
unfolding sending_onu
sending_onu_untouched o misfit llid channel eqs r e = onu_untouched o no_sending _ _ _ r e

pub receiving_onu_untouched : (o : Onu) (misfit : Bool) (h : Header) (r : Refusal) → (receiving_onu o misfit h).verdict ≡ Err r
    → Untouched o no_passage (receiving_onu o misfit h)
unfolding receiving_onu
receiving_onu_untouched o misfit h r e = onu_untouched o no_passage _ _ _ r e

---- overheard envelopes

-- an envelope for another unit is refused 2 and an upstream one 1, after 14
pub overheard_down-holds : (o : Onu) (misfit : Bool) (h : Header) → downstream h.channel ≡ true → valid_header h ≡ true
    → has o.identity h.llid ≡ false
    → onu_receive_verdict o misfit h ≡ refuse_if misfit BadLength (Err UnknownLlid)
unfolding onu_receive_verdict refuse_if both
overheard_down-holds o misfit h d v n = rw (d, v, n)

pub overheard_up-holds : (o : Onu) (misfit : Bool) (h : Header) → upstream h.channel ≡ true
    → onu_receive_verdict o misfit h ≡ refuse_if misfit BadLength (Err OutOfRange)
unfolding onu_receive_verdict refuse_if both downstream
overheard_up-holds o misfit h u = rw (lt-leb h.channel 1 (omega (arith, (upstream_between h.channel u).0)))
