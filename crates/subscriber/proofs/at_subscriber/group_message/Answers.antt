-- `group_message` meets its contract: what the group decides, put where it stands. Assumes nothing.
use mathlib.Core.Path.{◌≡◌, sym, ◌∙◌}
use mathlib.Core.Bool.{true}
use Prim.Native.Nat.{◌<◌}
use borrow.Author.Rules.{rules}
use Rattle.group_protocol.specs.Limits.{max_joined}
use Rattle.group_protocol.specs.Subscriber.{past_joined, valid_subscriber}
use Rattle.group_protocol.specs.JoinedCalls.{message_joined, no_answer}
use Rattle.group_protocol.proofs.Subscribers.{found_below-holds, valid_joins}
use Rattle.groups.specs.Reached.{joined_decided}
use Rattle.subscriber.specs.SubscriberCalls.{not_acknowledged, subscriber_acknowledged}
use Rattle.subscriber.proofs.SubscriberLift.{lift_invalid, lift_reached}
use Rattle.subscriber.proofs.at_subscriber.group_message.Goals as goal

pub returns-then-not-valid_subscriber : goal.returns-then-not-valid_subscriber
unfolding subscriber_acknowledged not_acknowledged
returns-then-not-valid_subscriber c =
    let a = c.args in
    let invalid = sym c.valid_subscriber.ensures ∙ c.if-not-valid_subscriber.true in
    rw (lift_invalid a.subscriber no_answer (message_joined a.message) a.i invalid)
    c.not_acknowledged.ensures

pub offset_bounds-table-i : goal.offset_bounds-table-i
offset_bounds-table-i c =
    let v : valid_subscriber c.args.subscriber ≡ true = sym c.valid_subscriber.ensures ∙ c.if-not-valid_subscriber.false in
    let h : c.args.i < max_joined =
    found_below-holds c.args.subscriber c.args.message.llid c.args.i (valid_joins c.args.subscriber v) c.requires
    in
    search rules

pub bounds-table-i : goal.bounds-table-i
bounds-table-i c =
    let v : valid_subscriber c.args.subscriber ≡ true = sym c.valid_subscriber.ensures ∙ c.if-not-valid_subscriber.false in
    let h : c.args.i < max_joined =
    found_below-holds c.args.subscriber c.args.message.llid c.args.i (valid_joins c.args.subscriber v) c.requires
    in
    h

pub with_joined-next-requires : goal.with_joined-next-requires
with_joined-next-requires c =
    let v : valid_subscriber c.args.subscriber ≡ true = sym c.valid_subscriber.ensures ∙ c.if-not-valid_subscriber.false in
    let h : c.args.i < max_joined =
    found_below-holds c.args.subscriber c.args.message.llid c.args.i (valid_joins c.args.subscriber v) c.requires
    in
    h

pub returns : goal.returns
unfolding subscriber_acknowledged joined_decided past_joined
returns c =
    let a = c.args in
    let v : valid_subscriber c.args.subscriber ≡ true = sym c.valid_subscriber.ensures ∙ c.if-not-valid_subscriber.false in
    rw (
      lift_reached a.subscriber no_answer (message_joined a.message) a.i a.message.llid v c.requires,
      c.verdict_number.ensures,
      c.with_joined-next.ensures,
      c.message-decided.ensures.value,
    )
