-- Send and receive of a subscriber: code, end, header, count, runs and output together (02, C-14). p is the payload, out the output as
-- it was lent. Assumes nothing.
use Rattle.std.specs.Prelude.{Bool, not, List, ℕ, Err}
use Rattle.octets.specs.Choice.{pick}
use Rattle.octets.specs.Output.{WithOutput, with_output}
use Rattle.refusal.specs.Number.{verdict_number, number_of}
use Rattle.refusal.specs.Order.{refuse_if}
use Rattle.refusal.specs.declared.Refusal.TheVariants.{OutOfRange, BadLength, GroupLlid}
use Rattle.envelope.specs.Channels.{upstream}
use Rattle.protocol.specs.Headers.{no_sending, no_passage}
use Rattle.protocol.specs.Replies.{Reply, on_valid}
use Rattle.protocol.specs.declared.Header.{Header}
use Rattle.protocol.specs.declared.Passage.{Passage}
use Rattle.traffic.specs.Passages.{misfit, passed, passed_count, passed_runs, output_after}
use Rattle.traffic.specs.Sends.{onu_send_of}
use Rattle.traffic.specs.Receipts.{onu_receive_of}
use Rattle.traffic.specs.declared.OnuSent.{OnuSent}
use Rattle.traffic.specs.declared.OnuReceived.{OnuReceived}
use Rattle.group_protocol.specs.Subscriber.{find_joined, with_onu, valid_memberships, valid_subscriber}
use Rattle.group_protocol.specs.JoinedCalls.{receive_joined}
use Rattle.group_protocol.specs.declared.Subscriber.{Subscriber}
use Rattle.group_protocol.specs.Naming.{by_llid}
use Rattle.subscriber.specs.SubscriberCalls.{joined_lift}
use Rattle.subscriber.specs.declared.SubscriberSent.{SubscriberSent}
use Rattle.subscriber.specs.declared.SubscriberReceived.{SubscriberReceived}
use Rattle.refusal.specs.Verdict.{Verdict}

---- send: 14, 1, 2, 20, 5, 12, 13

-- refused: the end as it was lent, a header of zeros, nothing counted
abbrev pub subscriber_not_sent : Subscriber → ℕ → SubscriberSent
subscriber_not_sent s number = record { number = number; subscriber = s; header = no_sending.header; count = 0; runs = 0 }

-- what the unit answers stands in the subscriber
unfoldable pub own_sent : Subscriber → WithOutput OnuSent → WithOutput SubscriberSent
own_sent s r =
    with_output
    (record {
      number = r.answer.number;
      subscriber = with_onu s r.answer.onu;
      header = r.answer.header;
      count = r.answer.count;
      runs = r.answer.runs;
    })
    r.output

unfoldable pub unit_send_of : Subscriber → ℕ → ℕ → List ℕ → List ℕ → WithOutput SubscriberSent
unit_send_of s llid channel p out = own_sent s (onu_send_of s.onu llid channel p out)

-- a send of the unit's own: where the groups that it joined are not valid it is 1
unfoldable pub own_send_of : Subscriber → ℕ → ℕ → List ℕ → List ℕ → WithOutput SubscriberSent
own_send_of s llid channel p out =
    pick (valid_memberships s) (unit_send_of s llid channel p out) (with_output (subscriber_not_sent s (number_of OutOfRange)) out)

-- on a group's LLID a unit sends nothing: 14, 1, 20
unfoldable pub group_send_verdict : Subscriber → ℕ → Bool → Verdict
group_send_verdict s channel misfit =
    on_valid (valid_subscriber s)
    (refuse_if misfit BadLength (refuse_if (not (upstream channel)) OutOfRange (Err GroupLlid)))

unfoldable pub subscriber_send_of : Subscriber → ℕ → ℕ → List ℕ → List ℕ → WithOutput SubscriberSent
subscriber_send_of s llid channel p out =
    by_llid (find_joined s llid) (own_send_of s llid channel p out)
    (λ i. with_output (subscriber_not_sent s (verdict_number (group_send_verdict s channel (misfit p out)))) out)

---- receive: 14, 1, 2, 10, 5, 11, 9

abbrev pub subscriber_not_received : Subscriber → SubscriberReceived
subscriber_not_received s = record { number = number_of OutOfRange; subscriber = s; count = 0; runs = 0 }

unfoldable pub own_received : Subscriber → WithOutput OnuReceived → WithOutput SubscriberReceived
own_received s r =
    with_output
    (record { number = r.answer.number; subscriber = with_onu s r.answer.onu; count = r.answer.count; runs = r.answer.runs })
    r.output

unfoldable pub unit_receive_of : Subscriber → Header → List ℕ → List ℕ → WithOutput SubscriberReceived
unit_receive_of s h p out = own_received s (onu_receive_of s.onu h p out)

unfoldable pub own_receive_of : Subscriber → Header → List ℕ → List ℕ → WithOutput SubscriberReceived
own_receive_of s h p out = pick (valid_memberships s) (unit_receive_of s h p out) (with_output (subscriber_not_received s) out)

unfoldable pub subscriber_received : Reply Subscriber Passage → ℕ → List ℕ → List ℕ → WithOutput SubscriberReceived
subscriber_received r channel p out =
    with_output
    (record {
      number = verdict_number r.verdict;
      subscriber = r.end;
      count = passed_count r.handed p;
      runs = passed_runs r.handed p;
    })
    (output_after r.verdict (passed channel r.handed p) out)

-- an envelope of the group at place i
unfoldable pub group_receive_of : Subscriber → ℕ → Header → List ℕ → List ℕ → WithOutput SubscriberReceived
group_receive_of s i h p out = subscriber_received (joined_lift s no_passage (receive_joined (misfit p out) h) i) h.channel p out

unfoldable pub subscriber_receive_of : Subscriber → Header → List ℕ → List ℕ → WithOutput SubscriberReceived
subscriber_receive_of s h p out = by_llid (find_joined s h.llid) (own_receive_of s h p out) (λ i. group_receive_of s i h p out)
