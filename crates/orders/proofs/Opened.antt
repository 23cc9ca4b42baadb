-- What the example computes with, module by module in the order of the imports. Assumes nothing.
use Rattle.octets.specs.Choice.{both, either, pick}
use Rattle.octets.specs.Lists.{all, same}
use Rattle.refusal.specs.Order.{and_then, refuse_if}
use Rattle.clock.specs.Stamping.{captured_at}
use Rattle.envelope.specs.Acceptance.{lengths_fit}
use Rattle.envelope.specs.Channels.{downstream, on_zero}
use Rattle.ends.specs.Identities.{among, distinct, has, kept, llids_of, meets, valid_identity, valid_mac}
use Rattle.ends.specs.Keys.{first_send, key_in, valid_first, with_key}
use Rattle.ends.specs.Occupancy.{free_from, occupied, taken, valid_channels}
use Rattle.ends.specs.Records.{fresh_unit, new_olt, new_onu, no_unit, with_channels, with_clock, with_keys, with_onu_clock, with_travel}
use Rattle.ends.specs.Table.{find, find_from, past_unit, table_llids, with_olt_channels, with_one_more, with_unit}
use Rattle.ends.specs.Timers.{fresh_timer, valid_interval, valid_timer}
use Rattle.ends.specs.Travels.{shift_of, travel_changed, travel_of, valid_changes}
use Rattle.ends.specs.Validity.{valid_keys, valid_numbers, valid_olt, valid_onu, valid_onu_clock, valid_onu_keys, valid_shared, valid_unit, valid_unit_clock}
use Rattle.protocol.specs.Headers.{choice_aged, choice_enciphered, choice_number, envelope_header, key_for, passage_of, sending_of}
use Rattle.protocol.specs.Lift.{after, at_unit, lift, outcome, put_back}
use Rattle.protocol.specs.OltCalls.{acknowledge_of, capture_of, clock_send_of, clock_sent, fresh_olt_of, key_sent, measure_of, olt_answer, retry_of, valid_registration}
use Rattle.protocol.specs.OltTraffic.{sending_olt}
use Rattle.protocol.specs.OnuCalls.{advance_onu_of, advancing_onu, changes_after, fresh_onu_of, fresh_onu_verdict, near_time, new_time_of, new_time_verdict, onu_answer, onu_reply, onu_retimed, time_ahead}
use Rattle.protocol.specs.Replies.{advance_verdict, reply}
use Rattle.protocol.specs.UnitCalls.{acknowledge_unit, capture_unit, clock_acknowledged_unit, clock_after_send, clock_captured, clock_message_of, clock_send_unit, clock_send_verdict, key_message_of, keys_offered, measure_unit, retry_unit, retry_verdict}
use Rattle.protocol.specs.UnitTraffic.{keys_after_send, send_unit, switches, unit_send_choice, unit_send_verdict}
use Rattle.sealing.specs.Seal.{carried, count_carried, runs_carried}
use Rattle.traffic.specs.Passages.{misfit, output_after, passed, passed_count, passed_runs}
use Rattle.traffic.specs.Sends.{olt_send_of, olt_sent}
use Rattle.group_protocol.specs.GroupCalls.{group_offer_verdict, group_offered, group_outcome, members_set, offer_group}
use Rattle.group_protocol.specs.Head.{apart_llids, find_group, fresh_group, group_from, group_llids, no_group, no_groups, past_group, valid_group, valid_group_numbers, valid_groups, valid_head, with_group, with_group_keys, with_members, with_olt, with_one_group_more}
use Rattle.group_protocol.specs.Members.{fresh_members, marks_of, places_of, roster_llids, unmarked, valid_members}
use Rattle.group_protocol.specs.Subscriber.{alone, fresh_joined, joined_llids, no_memberships, valid_groups_of, valid_joined, valid_memberships, valid_subscriber, with_one_joined_more, with_onu}
use Rattle.headend.specs.HeadCalls.{fresh_head_of, group_verdict, head_acknowledge_of, head_advance_of, head_answer, head_capture_of, head_clock_send_of, head_key_sent, head_measure_of, head_offer_of, head_register_of, head_retry_of, olt_answered, olt_clock_sent, olt_key_sent, own_acknowledgement, place_found, register_group_of, roster_members, unit_verdict, valid_group_registration}
use Rattle.headend.specs.HeadTraffic.{head_send_of, olt_sent_in}
use Rattle.group_protocol.specs.Naming.{by_llid, group_lift, put_group}
use Rattle.subscriber.specs.SubscriberCalls.{fresh_subscriber_of, join_of, join_verdict, onu_answered, own_answered, subscriber_advance_of, subscriber_answer, subscriber_new_time_of}
use Rattle.orders.specs.Calls.{made, told_number}
use Rattle.orders.specs.Example.{example, subscriber, swapped}
use Rattle.orders.specs.Locality.{member_parts}
use Rattle.orders.specs.Parties.{excepted, member_of, one_channel, party_of, same_party, unit_party}

unfoldable pub opened : Unit {0}
unfolding
    both either pick all same
    and_then refuse_if
    captured_at
    lengths_fit downstream on_zero
    among distinct has kept llids_of meets valid_identity valid_mac
    first_send key_in valid_first with_key
    free_from occupied taken valid_channels
    fresh_unit new_olt new_onu no_unit with_channels with_clock with_keys with_onu_clock with_travel
    find find_from past_unit table_llids with_olt_channels with_one_more with_unit
    fresh_timer valid_interval valid_timer
    shift_of travel_changed travel_of valid_changes
    valid_keys valid_numbers valid_olt valid_onu valid_onu_clock valid_onu_keys valid_shared valid_unit valid_unit_clock
    choice_aged choice_enciphered choice_number envelope_header key_for passage_of sending_of
    after at_unit lift outcome put_back
    acknowledge_of capture_of clock_send_of clock_sent fresh_olt_of key_sent measure_of olt_answer retry_of valid_registration
    sending_olt
    advance_onu_of advancing_onu changes_after fresh_onu_of fresh_onu_verdict near_time new_time_of new_time_verdict onu_answer onu_reply onu_retimed time_ahead
    advance_verdict reply
    acknowledge_unit capture_unit clock_acknowledged_unit clock_after_send clock_captured clock_message_of clock_send_unit
    clock_send_verdict key_message_of keys_offered
    measure_unit retry_unit retry_verdict
    keys_after_send send_unit switches unit_send_choice unit_send_verdict
    carried count_carried runs_carried
    misfit output_after passed passed_count passed_runs
    olt_send_of olt_sent
    group_offer_verdict group_offered group_outcome members_set offer_group
    apart_llids find_group fresh_group group_from group_llids no_group no_groups past_group valid_group valid_group_numbers valid_groups valid_head with_group
    with_group_keys with_members with_olt with_one_group_more
    fresh_members marks_of places_of roster_llids unmarked valid_members
    alone fresh_joined joined_llids no_memberships valid_groups_of valid_joined valid_memberships valid_subscriber with_one_joined_more with_onu
    fresh_head_of group_verdict head_acknowledge_of head_advance_of head_answer head_capture_of head_clock_send_of head_key_sent head_measure_of head_offer_of
    head_register_of head_retry_of olt_answered olt_clock_sent olt_key_sent own_acknowledgement place_found register_group_of
    roster_members unit_verdict valid_group_registration
    head_send_of olt_sent_in
    by_llid group_lift put_group
    fresh_subscriber_of join_of join_verdict onu_answered own_answered subscriber_advance_of subscriber_answer subscriber_new_time_of
    made told_number example swapped subscriber member_parts
    excepted member_of one_channel party_of same_party unit_party
opened = tt
