-- What a call computes with: every definition but those of the cipher's octets, module by module in the order of the imports. Assumes nothing.
use lib.Count.{ones}
use Rattle.octets.specs.Choice.{both, either, pick}
use Rattle.octets.specs.Lists.{same, all}
use Rattle.clock.specs.Stamping.{captured_at, raise_of, moved_by, raised_to}
use Rattle.envelope.specs.ControlMask.{count_enciphered}
use Rattle.envelope.specs.Acceptance.{lengths_fit}
use Rattle.sealing.specs.Payload.{sealed}
use Rattle.sealing.specs.Seal.{carried, count_carried}
use Rattle.protocol.specs.Headers.{choice_enciphered, valid_header, choice_number, choice_verdict, choice_aged, envelope_header, key_for, passage_of, sending_of}
use Rattle.ends.specs.Identities.{among, meets, distinct, llids_of, has, kept, valid_mac, valid_identity}
use Rattle.ends.specs.Keys.{key_in, with_key, only_key, first_send, aged, valid_first}
use Rattle.protocol.specs.Lift.{outcome, put_back, at_unit, after, lift}
use Rattle.envelope.specs.Channels.{downstream, upstream, on_zero}
use Rattle.ends.specs.Occupancy.{free_from, taken, occupied, valid_channels}
use Rattle.protocol.specs.OltCalls.{olt_answer, clock_sent, key_sent, fresh_olt_of, valid_registration, register_verdict, registering, register_of, shared_advanced, olt_advanced, advancing_olt, advance_olt_of, capture_of, measure_of, clock_send_of, offer_of, retry_of, acknowledge_of}
use Rattle.protocol.specs.OltTraffic.{sending_olt, receiving_olt}
use Rattle.protocol.specs.OnuCalls.{onu_answer, onu_acknowledged, onu_reply, fresh_onu_verdict, fresh_onu_of, onu_clock_advanced, onu_advanced, advancing_onu, advance_onu_of, time_ahead, near_time, changes_after, new_time_verdict, onu_retimed, new_time_of, clock_message_verdict, clock_from, onu_synced, clock_message_to, clock_message_at, new_key, held_key, active_key, key_message_verdict, keys_taken, key_message_to, key_message_at}
use Rattle.protocol.specs.OnuTraffic.{onu_send_choice, busy_up, onu_send_verdict, onu_noted, onu_after_send, sending_onu, onu_receive_choice, onu_receive_verdict, onu_moved, onu_after_receipt, receiving_onu}
use Rattle.ends.specs.Records.{with_keys, with_confirmation, with_clock, with_timer, with_slots, with_first, fresh_unit, no_unit, with_channels, new_olt, with_onu_clock, with_onu_keys, with_onu_first, with_travel, with_onu_channels, new_onu}
use Rattle.ends.specs.Travels.{shift_of, valid_changes, travel_of, travel_spent, travel_changed, waits}
use Rattle.refusal.specs.Order.{refuse_if}
use Rattle.protocol.specs.Replies.{reply, advance_verdict}
use Rattle.ends.specs.Table.{table_llids, find_from, find, past_unit, with_unit, with_one_more}
use Rattle.ends.specs.Timers.{fresh_timer, timer_advanced, timer_fallen, valid_interval, valid_timer}
use Rattle.protocol.specs.UnitCalls.{unit_advanced, clock_captured, capture_unit, measure_unit, clock_send_verdict, clock_after_send, clock_message_of, clock_send_unit, offer_verdict, keys_offered, unit_offered, key_message_of, offer_unit, retry_verdict, retry_unit, clock_acknowledged_unit, key_acknowledged_unit, acknowledge_unit}
use Rattle.protocol.specs.UnitTraffic.{switches, unit_send_choice, unit_send_verdict, keys_switched, keys_after_send, send_unit, unit_receive_choice, unit_receive_verdict, unit_confirmed, unit_after_receipt, receive_unit}
use Rattle.ends.specs.Validity.{valid_numbers, valid_keys, valid_unit_clock, valid_unit, valid_shared, valid_olt, valid_onu_keys, valid_onu_clock, valid_onu}
use Rattle.traffic.specs.Passages.{misfit, passed, passed_count, output_after}
use Rattle.traffic.specs.Receipts.{olt_received, olt_receive_of, onu_received, onu_receive_of}
use Rattle.traffic.specs.Sends.{olt_sent, olt_send_of, onu_sent, onu_send_of}
use Rattle.unicast.specs.Example.{key_from, eq_from, payload_from, blank, first_key_a, second_unit, second_key_a, second_key_b}
use Rattle.unicast.specs.History.{due, switching, number_down, lane_with, lane_registered, lane_captured, leaving, lane_leaving, lane_offered, lane_acknowledged, sending, lane_sent_down, lane_sent_up, lane_taken, lane_answered, arriving, lane_arrived_down, lane_arrived_up, leaves_again, key_answers, clock_answered, lane_moved}
use Rattle.unicast.specs.Run.{fresh_lane, fresh_onu, start, noted, named, with_lanes, at_olt, at_onu, at_olt_for, advancing, entering, clock_sending, offering, retrying, envelope_down, sending_down, envelope_up, sending_up, message_arriving, receipt_down, envelope_arriving, in_flight_arriving, no_envelope, receipt_up, arriving_up, answering, changing, unit_after, olt_after, step, run}

unfoldable pub opened : Unit {0}
unfolding
    ones
    both either pick same all
    captured_at raise_of moved_by raised_to
    count_enciphered lengths_fit
    sealed carried count_carried
    valid_header choice_number choice_verdict choice_aged envelope_header key_for passage_of sending_of
    among meets distinct llids_of has kept valid_mac valid_identity
    key_in with_key only_key first_send aged valid_first
    outcome put_back at_unit after lift
    downstream upstream on_zero free_from taken occupied valid_channels
    olt_answer clock_sent key_sent fresh_olt_of valid_registration register_verdict registering register_of shared_advanced olt_advanced advancing_olt
    advance_olt_of capture_of measure_of clock_send_of offer_of retry_of acknowledge_of
    sending_olt receiving_olt
    onu_answer onu_acknowledged onu_reply fresh_onu_verdict fresh_onu_of onu_clock_advanced onu_advanced advancing_onu advance_onu_of time_ahead near_time
    changes_after new_time_verdict onu_retimed new_time_of clock_message_verdict clock_from
    onu_synced clock_message_to clock_message_at new_key held_key active_key key_message_verdict keys_taken key_message_to key_message_at
    onu_send_choice busy_up onu_send_verdict onu_noted onu_after_send sending_onu onu_receive_choice onu_receive_verdict onu_moved
    onu_after_receipt receiving_onu
    with_keys with_confirmation with_clock with_timer with_slots with_first fresh_unit no_unit with_channels new_olt with_onu_clock with_onu_keys with_onu_first
    with_travel with_onu_channels new_onu
    shift_of valid_changes travel_of travel_spent travel_changed waits
    refuse_if reply advance_verdict
    table_llids find_from find past_unit with_unit with_one_more
    fresh_timer timer_advanced timer_fallen valid_interval valid_timer
    unit_advanced clock_captured capture_unit measure_unit clock_send_verdict clock_after_send clock_message_of clock_send_unit
    offer_verdict keys_offered unit_offered
    key_message_of offer_unit retry_verdict retry_unit clock_acknowledged_unit key_acknowledged_unit acknowledge_unit
    switches unit_send_choice unit_send_verdict keys_switched keys_after_send send_unit unit_receive_choice unit_receive_verdict
    unit_confirmed unit_after_receipt
    receive_unit
    valid_numbers valid_keys valid_unit_clock valid_unit valid_shared valid_olt valid_onu_keys valid_onu_clock valid_onu
    misfit choice_enciphered passed passed_count output_after
    olt_received olt_receive_of onu_received onu_receive_of
    olt_sent olt_send_of onu_sent onu_send_of
    key_from eq_from payload_from blank first_key_a second_unit second_key_a second_key_b
    due switching number_down lane_with lane_registered lane_captured leaving lane_leaving lane_offered lane_acknowledged sending lane_sent_down lane_sent_up
    lane_taken lane_answered arriving lane_arrived_down lane_arrived_up leaves_again key_answers clock_answered lane_moved
    fresh_lane fresh_onu start noted named with_lanes at_olt at_onu at_olt_for advancing entering clock_sending offering retrying envelope_down sending_down
    envelope_up sending_up message_arriving receipt_down envelope_arriving in_flight_arriving no_envelope receipt_up arriving_up answering
    changing unit_after olt_after
    step
    run
opened = tt
