-- What a call computes with, groups included: every definition but those of the cipher's octets, module by module in the order of the imports.
-- Assumes nothing.
use Rattle.refusal.specs.Order.{and_then}
use Rattle.ends.specs.Table.{with_olt_channels}
use Rattle.group_protocol.specs.Members.{places_of, marks_of, roster_llids, place_from, member_at, fresh_members, unmarked, marked, valid_members}
use Rattle.group_protocol.specs.Head.{with_group_keys, with_members, fresh_group, no_group, group_llids, group_from, find_group, past_group, with_olt, with_group, with_one_group_more, no_groups, valid_group_numbers, valid_group, apart_llids, valid_groups, valid_head}
use Rattle.group_protocol.specs.GroupCalls.{group_outcome, group_advanced, members_set, group_offer_verdict, group_offered, offer_group, retry_group, member_found, member_named, answers_offer, is_found, group_acknowledge_verdict, group_marked, acknowledge_group, group_switches, group_send_choice, wiped_at_switch, group_keys_after_send, send_group}
use Rattle.group_protocol.specs.Subscriber as joined
use Rattle.group_protocol.specs.Subscriber.{fresh_joined, joined_llids, find_joined, past_joined, with_onu, with_joined, with_one_joined_more, no_memberships, valid_joined, valid_groups_of, valid_memberships, valid_subscriber}
use Rattle.group_protocol.specs.JoinedCalls.{highest_held, holds, held_again, new_number, joined_message_verdict, joined_taken, joined_after_message, group_answer, message_joined, joined_choice, joined_receive_verdict, joined_moved, joined_after_receipt, receive_joined}
use Rattle.group_protocol.specs.Naming.{by_llid, put_group, group_lift}
use Rattle.headend.specs.HeadCalls.{head_answer, head_key_sent, olt_answered, olt_clock_sent, olt_key_sent, fresh_head_of, unit_verdict, head_register_of, place_found, roster_members, valid_group_registration, group_verdict, register_group_of, groups_advanced, head_advanced, head_advance_of, head_capture_of, head_measure_of, head_clock_send_of, head_offer_of, head_retry_of, own_acknowledgement, head_acknowledge_of}
use Rattle.headend.specs.HeadTraffic.{olt_sent_in, head_sent, head_send_of, olt_received_in, group_receive_verdict, head_receive_of}
use Rattle.subscriber.specs.SubscriberCalls.{subscriber_answer, subscriber_acknowledged, own_answer, put_joined, joined_lift, own_answered, onu_answered, not_acknowledged, own_acknowledged, onu_acknowledged_in, fresh_subscriber_of, join_verdict, join_of, subscriber_advance_of, subscriber_new_time_of, subscriber_clock_message_of, subscriber_key_message_of}
use Rattle.subscriber.specs.SubscriberTraffic.{own_sent, unit_send_of, own_send_of, group_send_verdict, subscriber_send_of, own_received, unit_receive_of, own_receive_of, subscriber_received, group_receive_of, subscriber_receive_of}
use Rattle.unicast.proofs.Opened as units
use Rattle.line.specs.History as history
use Rattle.line.specs.History.{is_member, group_switching, group_number, group_with, leaving_for, group_leaving, group_sent, group_taken, group_answered, group_arrived, answer_again, group_moved, is_joined, has_taken, joining, taking}
use Rattle.line.specs.Run.{alone, fresh_subscriber, start, no_subscriber, no_group_lane, noted_for, at_head, at_unit, at_unit_alone, advancing, registering, new_group_lane, registering_group, clock_sent_alone, key_sent_alone, clock_sending_to, offering_to, retrying_to, head_passage, envelope_down, sending_down, joining_at, envelope_up, sending_up, answer_alone, message_arriving, receipt_down, in_flight_arriving, group_message_arriving, group_passage, group_receipt, group_in_flight_arriving, receipt_up, arriving_up, answering, changing_path, subscriber_after, head_after, step, runs}
use Rattle.line.specs.Example.{registrations, joins, clocks, first_key, overheard, missed_key, next_key, back_again, joined_stranger, path_change, synced_again, over_the_new_path}

unfoldable pub opened : Unit {0}
unfolding
    units.opened
    and_then
    with_olt_channels
    places_of marks_of roster_llids place_from member_at fresh_members unmarked marked valid_members
    with_group_keys with_members fresh_group no_group group_llids group_from find_group past_group with_olt with_group with_one_group_more no_groups
    valid_group_numbers valid_group apart_llids valid_groups valid_head
    group_outcome group_advanced members_set group_offer_verdict group_offered offer_group retry_group member_found member_named answers_offer is_found
    group_acknowledge_verdict group_marked acknowledge_group group_switches group_send_choice wiped_at_switch group_keys_after_send send_group
    joined.alone fresh_joined joined_llids find_joined past_joined with_onu with_joined with_one_joined_more no_memberships valid_joined valid_groups_of
    valid_memberships valid_subscriber
    highest_held holds held_again new_number joined_message_verdict joined_taken joined_after_message group_answer message_joined joined_choice
    joined_receive_verdict joined_moved joined_after_receipt receive_joined
    by_llid put_group group_lift
    head_answer head_key_sent olt_answered olt_clock_sent olt_key_sent fresh_head_of unit_verdict head_register_of place_found
    roster_members valid_group_registration
    group_verdict register_group_of groups_advanced head_advanced head_advance_of head_capture_of head_measure_of head_clock_send_of head_offer_of head_retry_of
    own_acknowledgement head_acknowledge_of
    olt_sent_in head_sent head_send_of olt_received_in group_receive_verdict head_receive_of
    subscriber_answer subscriber_acknowledged own_answer put_joined joined_lift own_answered onu_answered not_acknowledged own_acknowledged onu_acknowledged_in
    fresh_subscriber_of join_verdict join_of subscriber_advance_of subscriber_new_time_of subscriber_clock_message_of subscriber_key_message_of
    own_sent unit_send_of own_send_of group_send_verdict subscriber_send_of own_received unit_receive_of own_receive_of subscriber_received group_receive_of
    subscriber_receive_of
    history.group_offered is_member group_switching group_number group_with leaving_for group_leaving group_sent group_taken group_answered group_arrived
    answer_again group_moved is_joined has_taken joining taking
    alone fresh_subscriber start no_subscriber no_group_lane noted_for at_head at_unit at_unit_alone advancing registering new_group_lane registering_group
    clock_sent_alone key_sent_alone clock_sending_to offering_to retrying_to head_passage envelope_down sending_down joining_at envelope_up
    sending_up answer_alone
    message_arriving receipt_down in_flight_arriving group_message_arriving group_passage group_receipt group_in_flight_arriving receipt_up
    arriving_up answering
    changing_path
    subscriber_after head_after step runs
    registrations joins clocks first_key overheard missed_key next_key back_again joined_stranger path_change synced_again over_the_new_path
opened = tt
