-- `group_receive` meets its contract: what the group decides, put where it stands, and what is then carried. Assumes nothing.
use mathlib.Core.Path.{◌≡◌, sym, ◌∙◌, ap}
use mathlib.Core.Bool.{Bool, true, not}
use Prim.Native.Nat.{◌<◌}
use borrow.Author.Rules.{rules}
use Rattle.octets.specs.Choice.{pick}
use Rattle.protocol.specs.Headers.{choice_enciphered, no_passage}
use Rattle.sealing.specs.Seal.{count_carried, runs_carried}
use Rattle.traffic.specs.Passages.{misfit, passed_count, passed_runs, output_after}
use Rattle.group_protocol.specs.Limits.{max_joined}
use Rattle.group_protocol.specs.Subscriber.{past_joined, joined_at, valid_subscriber}
use Rattle.group_protocol.specs.JoinedCalls.{receive_joined}
use Rattle.group_protocol.proofs.Subscribers.{found_below-holds, valid_joins}
use Rattle.groups.specs.Reached.{joined_decided, reached_joined}
use Rattle.subscriber.specs.SubscriberTraffic.{group_receive_of, subscriber_received}
use Rattle.subscriber.proofs.SubscriberLift.{lift_invalid}
use Rattle.subscriber.proofs.SubscriberTraffic.{receive_reached, group_receive_done}
use Rattle.subscriber.proofs.subscriber_traffic.group_receive.Goals as goal

pub returns-then-not-valid_subscriber : goal.returns-then-not-valid_subscriber
unfolding group_receive_of subscriber_received output_after passed_count passed_runs choice_enciphered count_carried runs_carried pick
returns-then-not-valid_subscriber c =
    let a = c.args in
    rw (
      lift_invalid a.subscriber no_passage (receive_joined (misfit a.octets.now a.output.now) a.header) a.i
          (sym c.valid_subscriber.ensures ∙ c.if-not-valid_subscriber.true),
      c.not_received.ensures,
    )

pub offset_bounds-table-i : goal.offset_bounds-table-i
offset_bounds-table-i c =
    let v : valid_subscriber c.args.subscriber ≡ true = sym c.valid_subscriber.ensures ∙ c.if-not-valid_subscriber.false in
    let h : c.args.i < max_joined =
    found_below-holds c.args.subscriber c.args.header.llid c.args.i (valid_joins c.args.subscriber v) c.requires
    in
    search rules

pub bounds-table-i : goal.bounds-table-i
bounds-table-i c =
    let v : valid_subscriber c.args.subscriber ≡ true = sym c.valid_subscriber.ensures ∙ c.if-not-valid_subscriber.false in
    let h : c.args.i < max_joined =
    found_below-holds c.args.subscriber c.args.header.llid c.args.i (valid_joins c.args.subscriber v) c.requires
    in
    h

pub with_joined-next-requires : goal.with_joined-next-requires
with_joined-next-requires c =
    let v : valid_subscriber c.args.subscriber ≡ true = sym c.valid_subscriber.ensures ∙ c.if-not-valid_subscriber.false in
    let h : c.args.i < max_joined =
    found_below-holds c.args.subscriber c.args.header.llid c.args.i (valid_joins c.args.subscriber v) c.requires
    in
    h

pub returns : goal.returns
unfolding joined_decided misfit past_joined
returns c =
    let a = c.args in
    let j = joined_at a.subscriber a.i in
    let v : valid_subscriber c.args.subscriber ≡ true = sym c.valid_subscriber.ensures ∙ c.if-not-valid_subscriber.false in
    -- what is decided
    let decided : c.receive-decided.result ≡ joined_decided (receive_reached a.subscriber a.header a.octets.now a.output.now a.i v) =
    c.receive-decided.ensures.value
    ∙ ap (λ (t : Bool). joined_decided (reached_joined no_passage j (receive_joined (not t) a.header a.subscriber.onu j))) c.lengths_fit-misfit.ensures
    in
    rw (c.verdict_number.ensures, c.with_joined-next.ensures, decided)
    (group_receive_done a.subscriber a.header a.octets.now a.output.now a.i v c.requires _ _
    (rw decided at c.carry_fitting-work.ensures))
