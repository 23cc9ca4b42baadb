-- Each call as one thing: a verdict ahead of 2 that does not depend on the record, what the party that it names decides of its own part and
-- of what it sees beside it, and what that makes of the answer. Assumes nothing.
use Rattle.std.specs.Prelude.{ℕ, Err, Option, None}
use mathlib.Core.Bool.{Bool, false, not}
use lib.Dec.{leb}
use Rattle.octets.specs.Choice.{both}
use Rattle.refusal.specs.Number.{verdict_number}
use Rattle.refusal.specs.Order.{and_then, refuse_if}
use Rattle.refusal.specs.declared.Refusal.TheVariants.{BadLength, GroupLlid, OutOfRange, UnknownLlid}
use Rattle.clock.specs.Ticks.{max_round_trip}
use Rattle.envelope.specs.Channels.{upstream}
use Rattle.envelope.specs.ControlMask.{eqs_of}
use Rattle.ends.specs.Table.{unit_at, with_olt_channels, with_unit}
use Rattle.ends.specs.declared.Channels.{Channels}
use Rattle.ends.specs.declared.Olt.{Olt}
use Rattle.ends.specs.declared.Shared.{Shared}
use Rattle.ends.specs.declared.UnitRecord.{UnitRecord}
use Rattle.protocol.specs.Headers.{no_passage, no_sending, valid_header}
use Rattle.protocol.specs.Lift.{Outcome}
use Rattle.protocol.specs.Messages.{no_key_message, no_stamps}
use Rattle.protocol.specs.Replies.{Silence, silent}
use Rattle.protocol.specs.UnitCalls.{acknowledge_unit, capture_unit, clock_send_unit, measure_unit, offer_unit, retry_unit}
use Rattle.protocol.specs.UnitTraffic.{receive_unit, send_unit}
use Rattle.protocol.specs.declared.Passage.{Passage}
use Rattle.protocol.specs.declared.Sending.{Sending}
use Rattle.protocol.specs.declared.KeyMessage.{KeyMessage}
use Rattle.clock.specs.declared.Stamps.{Stamps}
use Rattle.traffic.specs.Passages.{misfit, output_after, passed, passed_count, passed_runs}
use Rattle.unit.specs.Reached.{if_accepted}
use Rattle.group_protocol.specs.GroupCalls.{GroupOutcome, acknowledge_group, group_outcome, member_named, members_set, offer_group, retry_group, send_group}
use Rattle.group_protocol.specs.Head.{group_at, with_group, with_olt}
use Rattle.group_protocol.specs.declared.GroupRecord.{GroupRecord}
use Rattle.group_protocol.specs.declared.HeadEnd.{HeadEnd}
use Rattle.group_protocol.specs.declared.Members.{Members}
use Rattle.headend.specs.HeadCalls.{own_acknowledgement}
use Rattle.headend.specs.HeadTraffic.{send_ahead}
use Rattle.orders.specs.Calls.{Call, Made, Told, capture, measure, clock_send, offer, retry, acknowledge, send, receive, answered, clock_sent, key_sent, sent, received}
use Rattle.orders.specs.Parties.{Party, group, nobody, unit}
use Rattle.refusal.specs.Verdict.{Verdict, no_refusal}

---- what a call is made of

-- what it hands over, and what stands for nothing; what it refuses ahead of 2; what it decides on a unit and on a group, given whether every
-- member's clock is acknowledged and which member is named; which that is; what it answers
pub record Shape : Type 1 where
  pub Handed : Type 0
  pub nothing : Handed
  pub ahead : Verdict
  pub on_unit : Shared → UnitRecord → Outcome Handed
  pub on_group : (set : Bool) (member : Option ℕ) → Shared → GroupRecord → GroupOutcome Handed
  pub names : Olt → Members → Option ℕ
  pub tell : Verdict → Handed → Told

-- a clock call on a group's LLID is 2
abbrev no_clock : {H : Type 0} → H → Bool → Option ℕ → Shared → GroupRecord → GroupOutcome H
no_clock nothing set member s g = group_outcome s (Err UnknownLlid) g nothing

abbrev names_nobody : Olt → Members → Option ℕ
names_nobody o m = None

abbrev pub shape : Call → Shape
shape (capture llid) =
    record {
      Handed = Silence;
      nothing = silent;
      ahead = no_refusal;
      on_unit = capture_unit;
      on_group = no_clock silent;
      names = names_nobody;
      tell = λ v q. answered (verdict_number v);
    }
shape (measure llid trip) =
    record {
      Handed = Silence;
      nothing = silent;
      ahead = refuse_if (not (leb trip max_round_trip)) OutOfRange no_refusal;
      on_unit = measure_unit trip;
      on_group = no_clock silent;
      names = names_nobody;
      tell = λ v q. answered (verdict_number v);
    }
shape (clock_send llid) =
    record {
      Handed = Stamps;
      nothing = no_stamps;
      ahead = no_refusal;
      on_unit = clock_send_unit;
      on_group = no_clock no_stamps;
      names = names_nobody;
      tell = λ v q. clock_sent (verdict_number v) q;
    }
shape (offer llid key) =
    record {
      Handed = KeyMessage;
      nothing = no_key_message;
      ahead = no_refusal;
      on_unit = offer_unit llid key;
      on_group = λ set member s g. offer_group llid key set s g;
      names = names_nobody;
      tell = λ v q. key_sent (verdict_number v) q;
    }
shape (retry llid) =
    record {
      Handed = KeyMessage;
      nothing = no_key_message;
      ahead = no_refusal;
      on_unit = retry_unit llid;
      on_group = λ set member s g. retry_group llid s g;
      names = names_nobody;
      tell = λ v q. key_sent (verdict_number v) q;
    }
shape (acknowledge llid answer) =
    record {
      Handed = Silence;
      nothing = silent;
      ahead = no_refusal;
      on_unit = acknowledge_unit (own_acknowledgement answer);
      on_group = λ set member s g. acknowledge_group answer member s g;
      names = λ o m. member_named o m answer;
      tell = λ v q. answered (verdict_number v);
    }
shape (send llid channel payload output) =
    record {
      Handed = Sending;
      nothing = no_sending;
      ahead = send_ahead payload output channel;
      on_unit = send_unit llid channel (eqs_of payload);
      on_group = λ set member s g. send_group llid channel (eqs_of payload) s g;
      names = names_nobody;
      tell = λ v q.
          sent (verdict_number v) q.header (passed_count q.passage payload) (passed_runs q.passage payload)
          (output_after v (passed channel q.passage payload) output);
    }
shape (receive header payload output) =
    record {
      Handed = Passage;
      nothing = no_passage;
      ahead =
          refuse_if (misfit payload output) BadLength
          (refuse_if (not (both (upstream header.channel) (valid_header header))) OutOfRange no_refusal);
      on_unit = receive_unit header;
      on_group = λ set member s g. group_outcome s (Err GroupLlid) g no_passage;
      names = names_nobody;
      tell = λ v q.
          received (verdict_number v) (passed_count q payload) (passed_runs q payload)
          (output_after v (passed header.channel q payload) output);
    }

---- the party's own part, and what it sees beside it

abbrev pub Own : Party → Type 0
Own (unit i) = UnitRecord
Own (group i) = GroupRecord
Own nobody = Unit {0}

abbrev pub own_of : HeadEnd → (p : Party) → Own p
own_of h (unit i) = unit_at h.olt i
own_of h (group i) = group_at h i
own_of h nobody = tt

pub record Seen : Type 0 where
  pub shared : Shared
  pub set : Bool
  pub member : Option ℕ

-- what only a group sees: whether all its members' clocks are acknowledged, and which member is named
abbrev pub set_seen : HeadEnd → Party → Bool
set_seen h (unit i) = false
set_seen h (group i) = members_set h.olt (group_at h i).members
set_seen h nobody = false

abbrev pub member_seen : HeadEnd → Party → Call → Option ℕ
member_seen h (unit i) c = None
member_seen h (group i) c = (shape c).names h.olt (group_at h i).members
member_seen h nobody c = None

abbrev pub seen : HeadEnd → Party → Call → Seen
seen h p c = record { shared = h.olt.shared; set = set_seen h p; member = member_seen h p c }

-- the head end with the channels and the party's own part replaced
unfoldable pub put : HeadEnd → (p : Party) → Channels → Own p → HeadEnd
put h (unit i) c u = with_olt h (with_unit h.olt i c u)
put h (group i) c g = with_group h i c g
put h nobody c n = with_olt h (with_olt_channels h.olt c)

---- its decision

pub record Decided (A H : Type 0) : Type 0 where
  pub verdict : Verdict
  pub own : A
  pub channels : Channels
  pub handed : H

-- by the verdict: refused, own part and channels stay and nothing is handed over
unfoldable pub by_verdict : {A H : Type 0} → Verdict → H → Channels → A → Decided A H → Decided A H
by_verdict v nothing c own x =
    record {
      verdict = v;
      own = if_accepted v x.own own;
      channels = if_accepted v x.channels c;
      handed = if_accepted v x.handed nothing;
    }

unfoldable pub asked : (c : Call) (p : Party) → Seen → Own p → Decided (Own p) (shape c).Handed
asked c (unit i) s u =
    let x = (shape c).on_unit s.shared u in
    record { verdict = x.verdict; own = x.unit; channels = x.channels; handed = x.handed }
asked c (group i) s g =
    let x = (shape c).on_group s.set s.member s.shared g in
    record { verdict = x.verdict; own = x.group; channels = x.channels; handed = x.handed }
asked c nobody s n = record { verdict = Err UnknownLlid; own = n; channels = s.shared.channels; handed = (shape c).nothing }

abbrev pub decided : (c : Call) (p : Party) → Seen → Own p → Decided (Own p) (shape c).Handed
decided c p s own =
    by_verdict (and_then (shape c).ahead (asked c p s own).verdict) (shape c).nothing s.shared.channels own (asked c p s own)

-- what that makes of a call on the head end
abbrev pub made_by : HeadEnd → (c : Call) (p : Party) → Decided (Own p) (shape c).Handed → Made
made_by h c p d = record { told = (shape c).tell d.verdict d.handed; head = put h p d.channels d.own }
