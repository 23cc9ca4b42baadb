-- A call on one group as the code answers it (01, 'When the reader says no'; D113). Assumes nothing.
use Rattle.refusal.specs.Order.{and_then}
use Rattle.ends.specs.declared.Shared.{Shared}
use Rattle.protocol.specs.Replies.{on_valid}
use Rattle.protocol.specs.declared.Sending.{Sending}
use Rattle.unit.specs.Reached.{if_accepted}
use Rattle.unit.specs.declared.Decided.{Decided}
use Rattle.group_protocol.specs.GroupCalls.{GroupOutcome}
use Rattle.group_protocol.specs.Subscriber.{valid_joined}
use Rattle.group_protocol.specs.JoinedCalls.{JoinedOutcome}
use Rattle.group_protocol.specs.declared.GroupRecord.{GroupRecord}
use Rattle.group_protocol.specs.declared.Joined.{Joined}
use Rattle.groups.specs.declared.GroupSent.{GroupSent}
use Rattle.refusal.specs.Verdict.{Verdict}

---- of the OLT: `way` is the verdict on the way to the group; refused there or by the group, group and channels stay, and nothing is handed
---- over

unfoldable pub reached_group : {H : Type 0} → Verdict → H → Shared → GroupRecord → GroupOutcome H → GroupOutcome H
reached_group way nothing s g c =
    record {
      verdict = and_then way c.verdict;
      group = if_accepted (and_then way c.verdict) c.group g;
      channels = if_accepted (and_then way c.verdict) c.channels s.channels;
      handed = if_accepted (and_then way c.verdict) c.handed nothing;
    }

-- the answer of a send; the other calls leave the channels, and their answers go without
unfoldable pub group_sent_outcome : GroupSent → GroupOutcome Sending
group_sent_outcome r = record { verdict = r.verdict; group = r.group; channels = r.channels; handed = r.sending }

---- of a unit: 1 for a group that is not valid; refused, the group stays, and nothing is handed over

unfoldable pub reached_joined : {H : Type 0} → H → Joined → JoinedOutcome H → JoinedOutcome H
reached_joined nothing j c =
    record {
      verdict = on_valid (valid_joined j) c.verdict;
      joined = if_accepted (on_valid (valid_joined j) c.verdict) c.joined j;
      handed = if_accepted (on_valid (valid_joined j) c.verdict) c.handed nothing;
    }

unfoldable pub joined_decided : {H : Type 0} → JoinedOutcome H → Decided Joined H
joined_decided c = record { verdict = c.verdict; after = c.joined; handed = c.handed }
