-- The worked values of groups: each row computes from the definitions. Assumes nothing.
use Rattle.octets.specs.Choice.{both, either, pick}
use Rattle.octets.specs.Lists.{all, same}
use Rattle.refusal.specs.Order.{refuse_if}
use Rattle.envelope.specs.Channels.{downstream, on_zero}
use Rattle.ends.specs.Identities.{among, distinct}
use Rattle.ends.specs.Keys.{key_in, with_key, only_key}
use Rattle.ends.specs.Occupancy.{free_from, taken}
use Rattle.ends.specs.Records.{with_slots}
use Rattle.protocol.specs.Headers.{choice_aged, choice_number, choice_verdict, key_for, passage_of, sending_of, valid_header}
use Rattle.protocol.specs.UnitTraffic.{keys_after_send, keys_switched}
use Rattle.group_protocol.specs.Members.{fresh_members, marks_of, places_of, valid_members}
use Rattle.group_protocol.specs.Head.{with_group_keys}
use Rattle.group_protocol.specs.GroupCalls.{group_keys_after_send, group_send_choice, group_switches, send_group, wiped_at_switch}
use Rattle.group_protocol.specs.Subscriber.{fresh_joined}
use Rattle.group_protocol.specs.JoinedCalls.{highest_held, holds, held_again, new_number, joined_message_verdict, joined_taken, joined_after_message, joined_choice, joined_receive_verdict, joined_moved, joined_after_receipt}
use Rattle.group_protocol.specs.Worked.{MemberRows, SwitchRows, MessageRows, ReceiptRows}

pub member_rows : MemberRows
unfolding both either pick all among distinct fresh_members marks_of places_of valid_members
member_rows = search

pub switch_rows : SwitchRows
unfolding both pick refuse_if on_zero only_key with_key free_from taken with_slots choice_aged choice_number key_for passage_of sending_of
    keys_after_send
    keys_switched key_in with_group_keys group_keys_after_send group_send_choice group_switches send_group wiped_at_switch
switch_rows = search

pub message_rows : MessageRows
unfolding both either pick same refuse_if key_in with_key only_key fresh_joined highest_held holds held_again new_number
    joined_message_verdict joined_taken
    joined_after_message joined_choice joined_moved joined_after_receipt
message_rows = search

pub receipt_rows : ReceiptRows
unfolding both either pick refuse_if downstream key_in with_key only_key valid_header choice_verdict choice_number key_for fresh_joined
    highest_held holds
    new_number joined_taken joined_after_message joined_choice joined_receive_verdict joined_moved joined_after_receipt
receipt_rows = search
