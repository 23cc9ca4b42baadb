-- Send and receive of a head end: code, end, header, count, runs and output together (02, C-14). p is the payload, out the output as it
-- was lent. Assumes nothing.
use Rattle.std.specs.Prelude.{not, List, ℕ, length, Err, Option, Some, None}
use Rattle.octets.specs.Choice.{both, pick}
use Rattle.envelope.specs.ControlMask.{eqs_of}
use Rattle.octets.specs.Output.{WithOutput, with_output}
use Rattle.refusal.specs.Number.{verdict_number, number_of}
use Rattle.refusal.specs.Order.{refuse_if}
use Rattle.refusal.specs.declared.Refusal.TheVariants.{OutOfRange, BadLength, GroupLlid}
use Rattle.envelope.specs.Acceptance.{lengths_fit}
use Rattle.envelope.specs.Channels.{downstream, upstream}
use Rattle.protocol.specs.Headers.{valid_header, no_sending}
use Rattle.protocol.specs.Replies.{Reply, on_valid}
use Rattle.protocol.specs.declared.Header.{Header}
use Rattle.protocol.specs.declared.Sending.{Sending}
use Rattle.traffic.specs.Passages.{misfit, passed, passed_count, passed_runs, output_after}
use Rattle.traffic.specs.Sends.{olt_send_of}
use Rattle.traffic.specs.Receipts.{olt_receive_of}
use Rattle.traffic.specs.declared.OltSent.{OltSent}
use Rattle.traffic.specs.declared.OltReceived.{OltReceived}
use Rattle.group_protocol.specs.Head.{find_group, with_olt, valid_groups, valid_head}
use Rattle.group_protocol.specs.GroupCalls.{send_group}
use Rattle.group_protocol.specs.declared.HeadEnd.{HeadEnd}
use Rattle.group_protocol.specs.Naming.{by_llid, group_lift}
use Rattle.headend.specs.HeadCalls.{parts_of}
use Rattle.headend.specs.declared.HeadSendDone.{HeadSendDone}
use Rattle.headend.specs.declared.HeadSent.{HeadSent}
use Rattle.headend.specs.declared.HeadReceiptDone.{HeadReceiptDone}
use Rattle.headend.specs.declared.HeadReceived.{HeadReceived}
use Rattle.refusal.specs.Verdict.{Verdict, no_refusal}

---- send: 14, 1, 2, 5, 12, 13

-- refused: the end as it was lent, a header of zeros, nothing counted
abbrev pub head_not_sent : HeadEnd → ℕ → HeadSent
head_not_sent h number = record { number = number; head = h; header = no_sending.header; count = 0; runs = 0 }

-- what the OLT answers stands in the head end; where the groups are not valid it is 1
unfoldable pub olt_sent_in : HeadEnd → WithOutput OltSent → List ℕ → WithOutput HeadSent
olt_sent_in h r out =
    pick (valid_groups h)
    (with_output
    (record {
      number = r.answer.number;
      head = with_olt h r.answer.olt;
      header = r.answer.header;
      count = r.answer.count;
      runs = r.answer.runs;
    })
    r.output)
    (with_output (head_not_sent h (number_of OutOfRange)) out)

unfoldable pub head_sent : Reply HeadEnd Sending → ℕ → List ℕ → List ℕ → WithOutput HeadSent
head_sent r channel p out =
    with_output
    (record {
      number = verdict_number r.verdict;
      head = r.end;
      header = r.handed.header;
      count = passed_count r.handed.passage p;
      runs = passed_runs r.handed.passage p;
    })
    (output_after r.verdict (passed channel r.handed.passage p) out)

-- what a send refuses ahead of 2
abbrev pub send_ahead : List ℕ → List ℕ → ℕ → Verdict
send_ahead p out channel = refuse_if (misfit p out) BadLength (refuse_if (not (downstream channel)) OutOfRange no_refusal)

abbrev pub group_send_of : HeadEnd → ℕ → ℕ → List ℕ → List ℕ → ℕ → WithOutput HeadSent
group_send_of h llid channel p out i =
    head_sent (group_lift h no_sending (send_ahead p out channel) (λ o g. send_group llid channel (eqs_of p) o.shared g) i) channel p out

unfoldable pub head_send_of : HeadEnd → ℕ → ℕ → List ℕ → List ℕ → WithOutput HeadSent
head_send_of h llid channel p out =
    by_llid (find_group h llid) (olt_sent_in h (olt_send_of h.olt llid channel p out) out) (group_send_of h llid channel p out)

-- the same in parts
abbrev pub head_send_done : HeadSent → HeadSendDone
head_send_done r = record { parts = parts_of r.head; header = r.header; count = r.count; runs = r.runs; number = r.number }

abbrev pub send_done : WithOutput HeadSent → WithOutput HeadSendDone
send_done r = with_output (head_send_done r.answer) r.output

abbrev pub head_send_done_of : HeadEnd → ℕ → ℕ → List ℕ → List ℕ → WithOutput HeadSendDone
head_send_done_of h llid channel p out = send_done (head_send_of h llid channel p out)

---- receive: 14, 1, 2, 20, 10, 11, 9

abbrev pub head_not_received : HeadEnd → ℕ → HeadReceived
head_not_received h number = record { number = number; head = h; count = 0; runs = 0 }

unfoldable pub olt_received_in : HeadEnd → WithOutput OltReceived → List ℕ → WithOutput HeadReceived
olt_received_in h r out =
    pick (valid_groups h)
    (with_output
    (record { number = r.answer.number; head = with_olt h r.answer.olt; count = r.answer.count; runs = r.answer.runs })
    r.output)
    (with_output (head_not_received h (number_of OutOfRange)) out)

-- on a group's LLID the OLT receives nothing: 14, 1, 20; n and m are the lengths of payload and output
unfoldable pub group_receive_verdict : HeadEnd → Header → ℕ → ℕ → Verdict
group_receive_verdict h header n m =
    on_valid (valid_head h)
    (refuse_if (not (lengths_fit n m)) BadLength
    (refuse_if (not (both (upstream header.channel) (valid_header header))) OutOfRange (Err GroupLlid)))

unfoldable pub head_receive_of : HeadEnd → Header → List ℕ → List ℕ → WithOutput HeadReceived
head_receive_of h header p out =
    by_llid (find_group h header.llid) (olt_received_in h (olt_receive_of h.olt header p out) out)
    (λ i. with_output (head_not_received h (verdict_number (group_receive_verdict h header (length p) (length out)))) out)

-- the same in parts
abbrev pub head_receipt_done : HeadReceived → HeadReceiptDone
head_receipt_done r = record { parts = parts_of r.head; count = r.count; runs = r.runs; number = r.number }

abbrev pub receipt_done : WithOutput HeadReceived → WithOutput HeadReceiptDone
receipt_done r = with_output (head_receipt_done r.answer) r.output

abbrev pub head_receipt_of : HeadEnd → Header → List ℕ → List ℕ → WithOutput HeadReceiptDone
head_receipt_of h header p out = receipt_done (head_receive_of h header p out)

-- what a receipt is refused behind its own 14 and 1, by the group that has its LLID
abbrev pub own_llid : Option ℕ → Verdict
own_llid None = no_refusal
own_llid (Some i) = Err GroupLlid
