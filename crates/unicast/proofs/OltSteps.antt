-- The calls on the OLT keep the invariant: captures, clock messages, retries, acknowledgements, sends, and refused receipts. Assumes nothing.
use mathlib.Core.Path.{◌≡◌, refl, sym, ◌∙◌, ap}
use mathlib.Core.Bool.{false}
use mathlib.Core.List.{List, Memᴰ}
use Prim.Native.Nat.{ℕ, ◌+◌}
use native.Mathlib.Nat.{le_refl}
use native.Mathlib.Omega.{arith}
use borrow.Author.Tests.{not-false}
use Rattle.octets.proofs.Members.{mem_at}
use Rattle.envelope.specs.ControlMask.{eqs_of}
use Rattle.ends.specs.Records.{with_channels}
use Rattle.protocol.specs.Replies.{silent}
use Rattle.ends.specs.Table.{unit_at}
use Rattle.protocol.specs.Lift.{outcome}
use Rattle.protocol.specs.Headers.{no_passage, no_sending}
use Rattle.protocol.specs.Messages.{no_stamps, no_key_message}
use Rattle.protocol.specs.UnitCalls.{capture_unit, clock_send_unit, retry_unit, acknowledge_unit}
use Rattle.protocol.specs.UnitTraffic.{switches, send_unit}
use Rattle.protocol.specs.OltCalls.{olt_answer, clock_sent, key_sent, capture_of, clock_send_of, retry_of, acknowledge_of}
use Rattle.protocol.specs.OltTraffic.{sending_olt, receiving_olt}
use Rattle.protocol.specs.declared.Acknowledgement.{Acknowledgement}
use Rattle.protocol.specs.declared.Header.{Header}
use Rattle.ends.specs.declared.UnitRecord.{UnitRecord}
use Rattle.refusal.proofs.Order.{refuse_accepted}
use Rattle.protocol.proofs.Replies.{number_refused}
use Rattle.ends.proofs.Table.{find_at}
use Rattle.protocol.proofs.Lift.{unit_at_valid, lift_itself}
use Rattle.protocol.proofs.UnitCalls.{acknowledged_channels}
use Rattle.protocol.proofs.OltCalls.{capture_valid, clock_send_valid, retry_valid, acknowledge_valid, acknowledge_refused}
use Rattle.protocol.proofs.OltTraffic.{send_ahead, flag_stays, sending_valid, receiving_untouched}
use Rattle.traffic.specs.Passages.{misfit}
use Rattle.traffic.specs.Receipts.{olt_received, olt_receive_of}
use Rattle.traffic.specs.Sends.{olt_sent, olt_send_of}
use Rattle.traffic.proofs.Passages.{few_eqs}
use Rattle.unicast.specs.Setting.{Setting}
use Rattle.unicast.specs.History.{clock_message, key_message, Lane, number_down, lane_with, lane_captured, lane_leaving, lane_acknowledged, lane_sent_down}
use Rattle.unicast.specs.Events.{capture, clock_send, retry, send_down, arrive_answer, stray_answer, stray_up}
use Rattle.unicast.specs.Run.{State, lane_at, onu_at, answer_at, fresh_lane, clock_sending, retrying, envelope_down, sending_down, answering, olt_after, step}
use Rattle.unicast.specs.Premises.{Fits}
use Rattle.unicast.proofs.Invariant.{Invariant}
use Rattle.unicast.proofs.ClockSteps.{capture_keeps, clock_send_keeps}
use Rattle.unicast.proofs.KeySteps.{retry_keeps}
use Rattle.unicast.proofs.AnswerSteps.{answer_keeps}
use Rattle.unicast.proofs.SendDownSteps.{send_down_keeps, send_channels, send_frees, envelope_down_is}
use Rattle.unicast.proofs.Places.{held_once, held_found, at_once}
use Rattle.unicast.proofs.Alive.{alive_held, answered_alive}
use Rattle.unicast.specs.Bounds.{longest}
use Rattle.unicast.proofs.LiftSteps.{keys_named, call_right}
use Rattle.refusal.specs.Verdict.{no_refusal}

---- captures

pub capture_right : (w : Setting) (s : State) (llid : ℕ) → Invariant w s → Fits w s (capture llid) → Invariant w (step s (capture llid))
unfolding step capture_of olt_answer capture_unit outcome with_channels lane_captured
capture_right w s llid i fits =
    call_right w s silent no_refusal llid capture_unit (λ x. lane_captured s.history.now) i
    (search (capture_valid, keys_named, i.keys, i.shared.free, arith))
    (λ l u h e. capture_keeps w s.olt.shared s.history.now (lane_at s u) (unit_at s.olt l.at) (onu_at s u) i.shared)

---- clock messages, retries

pub clock_send_right : (w : Setting) (s : State) (llid : ℕ) → Invariant w s → Fits w s (clock_send llid) → Invariant w (step s (clock_send llid))
unfolding step clock_sending clock_send_of clock_sent clock_send_unit outcome with_channels lane_leaving lane_with
clock_send_right w s llid i fits =
    call_right w s no_stamps no_refusal llid clock_send_unit (λ x l. lane_leaving (clock_message x l.captured s.history.now) l) i
    (search (clock_send_valid, keys_named, i.keys, i.shared.free, arith))
    (λ l u h e j.
    clock_send_keeps w s.olt.shared s.history.now (lane_at s u) (unit_at s.olt l.at) (onu_at s u) i.shared j l.accepts)

pub retry_right : (w : Setting) (s : State) (llid : ℕ) → Invariant w s → Fits w s (retry llid) → Invariant w (step s (retry llid))
unfolding step retrying retry_of key_sent retry_unit outcome with_channels lane_leaving lane_with
retry_right w s llid i fits =
    call_right w s no_key_message no_refusal llid (retry_unit llid) (λ x. lane_leaving (key_message x s.history.now)) i
    (search (retry_valid, keys_named, i.keys, i.shared.free, arith))
    (λ l u h e j.
    retry_keeps w s.olt.shared s.history.now (lane_at s u) (unit_at s.olt l.at) (onu_at s u) llid i.shared j e l.accepts)

---- acknowledgements

pub answer_right : (w : Setting) (s : State) (u k llid : ℕ) → Invariant w s → Fits w s (arrive_answer u k llid)
    → Invariant w (step s (arrive_answer u k llid))
unfolding step answering acknowledge_of olt_answer with_channels lane_acknowledged lane_with fresh_lane
answer_right w s u k llid i d =
    let a = (answer_at s u k).acknowledgement in
    let alive = answered_alive w s u i k d.some in
    let found = held_found w s (lane_at s u).entry.place u llid i (alive_held w s u alive) d.named in
    call_right w s silent no_refusal llid (acknowledge_unit a) (λ x. lane_acknowledged a) i
    (search (acknowledge_valid, acknowledged_channels, keys_named, i.keys, i.shared.free, le_refl))
    (λ l v h e j.
    let place = at_once _ _ (sym found ∙ l.found) in
    let same : v ≡ u = held_once w s l.at v u i h (record { known = alive.known; registered = alive.registered; place = place }) in
    let mem : Memᴰ (answer_at s u k) (lane_at s v).transit.answered = rw same (mem_at (lane_at s u).transit.answered k _ d.some) in
    rw (acknowledged_channels a s.olt.shared (unit_at s.olt l.at))
    (answer_keeps w s.olt.shared s.history.now (lane_at s v) (unit_at s.olt l.at) (onu_at s v) a (answer_at s u k) i.shared j mem refl
    l.accepts))

---- sends

pub send_down_right : (w : Setting) (s : State) (llid channel : ℕ) (p out : List ℕ) → Invariant w s → Fits w s (send_down llid channel p out)
    → Invariant w (step s (send_down llid channel p out))
unfolding step sending_down olt_send_of olt_sent sending_olt lane_sent_down lane_with
send_down_right w s llid channel p out i fits =
    let sh = s.olt.shared in
    let now = s.history.now in
    let call = send_unit llid channel (eqs_of p) in
    let f : Lane → Lane =
    λ l. lane_sent_down now (envelope_down now l.path s.olt llid channel p out (number_down l now)) l in
    call_right w s no_sending (send_ahead (misfit p out) channel) llid call (λ x. f) i
    (record {
      valid = sending_valid s.olt (misfit p out) llid channel (eqs_of p) (few_eqs p out) i.valid;
      rises = λ u a k. send_channels llid channel (eqs_of p) sh u a k;
      frees = λ l k.
          send_frees llid channel (eqs_of p) sh (unit_at s.olt l.at) k (now + longest)
          (omega (arith, few_eqs p out (refuse_accepted _ _ _ l.passed).0, i.shared.tick)) (i.shared.free k);
      site = λ x l. refl;
      path = λ x l. refl;
      entry = λ x l. refl;
      keys = λ l. keys_named llid f s.history.lanes (λ y. refl) i.keys;
    })
    (λ l u h e j.
    let x = unit_at s.olt l.at in
    let met = refuse_accepted _ _ _ l.passed in
    let stays : switches x ≡ false → (call sh x).unit.keys.timer ≡ x.keys.timer =
    λ no.
    ap (λ (y : UnitRecord). y.keys.timer) (sym (lift_itself s.olt no_sending (send_ahead (misfit p out) channel) llid call l))
    ∙ flag_stays s.olt (misfit p out) llid channel (eqs_of p) l.at (λ a b. no) in
    rw (envelope_down_is s.olt now (lane_at s u).path llid channel p out (number_down (lane_at s u) now) (call sh x).handed l.verdict l.handed)
    (send_down_keeps w sh now (lane_at s u) x (onu_at s u) llid channel (eqs_of p) p out i.shared j
    (unit_at_valid s.olt llid l.at i.valid (find_at s.olt llid l.at l.found))
    e (not-false _ (refuse_accepted _ _ _ met.1).0) met.0 l.accepts stays))

---- refused receipts

pub stray_answer_right : (w : Setting) (s : State) (llid : ℕ) (a : Acknowledgement) → Invariant w s → Fits w s (stray_answer llid a)
    → Invariant w (step s (stray_answer llid a))
unfolding step olt_after
stray_answer_right w s llid a i n = rw (acknowledge_refused s.olt llid a n) i

pub stray_up_right : (w : Setting) (s : State) (h : Header) (p out : List ℕ) → Invariant w s → Fits w s (stray_up h p out)
    → Invariant w (step s (stray_up h p out))
unfolding step olt_after olt_receive_of olt_received
stray_up_right w s h p out i n =
    rw (number_refused s.olt no_passage (receiving_olt s.olt (misfit p out) h) (receiving_untouched s.olt (misfit p out) h) n).end i
