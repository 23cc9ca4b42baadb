-- Send and receive of the OLT, but for the octets: what the payload is sealed or opened with is handed over in their place.
-- `misfit` says that the lengths of payload and output are refused 14 (01, Keys; 'When the reader says no'). Assumes nothing.
use Rattle.std.specs.Prelude.{Bool, not, ℕ}
use Rattle.octets.specs.Choice.{both}
use Rattle.refusal.specs.declared.Refusal.TheVariants.{OutOfRange, UnknownLlid, BadLength}
use Rattle.refusal.specs.Order.{refuse_if}
use Rattle.protocol.specs.Replies.{on_valid, Reply}
use Rattle.envelope.specs.Channels.{downstream, upstream}
use Rattle.ends.specs.Table.{is_registered, unit_named}
use Rattle.ends.specs.Validity.{valid_olt}
use Rattle.protocol.specs.Lift.{lift}
use Rattle.protocol.specs.Headers.{valid_header, no_passage, no_sending}
use Rattle.protocol.specs.UnitTraffic.{unit_send_verdict, send_unit, unit_receive_verdict, receive_unit}
use Rattle.ends.specs.declared.Olt.{Olt}
use Rattle.protocol.specs.declared.Header.{Header}
use Rattle.protocol.specs.declared.Passage.{Passage}
use Rattle.protocol.specs.declared.Sending.{Sending}
use Rattle.refusal.specs.Verdict.{Verdict, no_refusal}

---- send: 14, 1, 2, 5, 12, 13

unfoldable pub send_order : Olt → Bool → ℕ → ℕ → Verdict
send_order o misfit llid channel =
    on_valid (valid_olt o)
    (refuse_if misfit BadLength  -- 14
    (refuse_if (not (downstream channel)) OutOfRange  -- 1
    (refuse_if (not (is_registered o llid)) UnknownLlid  -- 2
    (unit_send_verdict o.shared (unit_named o llid) channel))))  -- 5, 12, 13

unfoldable pub sending_olt : Olt → Bool → ℕ → ℕ → ℕ → Reply Olt Sending
sending_olt o misfit llid channel eqs =
    lift o no_sending (refuse_if misfit BadLength (refuse_if (not (downstream channel)) OutOfRange no_refusal)) llid (send_unit llid channel eqs)

---- receive: 14, 1, 2, 10, 11, 9

unfoldable pub receive_order : Olt → Bool → Header → Verdict
receive_order o misfit h =
    on_valid (valid_olt o)
    (refuse_if misfit BadLength  -- 14
    (refuse_if (not (both (upstream h.channel) (valid_header h))) OutOfRange  -- 1
    (refuse_if (not (is_registered o h.llid)) UnknownLlid  -- 2
    (unit_receive_verdict o.shared (unit_named o h.llid) h))))  -- 10, 11, 9

unfoldable pub receiving_olt : Olt → Bool → Header → Reply Olt Passage
receiving_olt o misfit h =
    lift o no_passage (refuse_if misfit BadLength (refuse_if (not (both (upstream h.channel) (valid_header h))) OutOfRange no_refusal)) h.llid
    (receive_unit h)
