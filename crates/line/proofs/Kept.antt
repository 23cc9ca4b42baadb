-- What a call on the OLT keeps of what groups rest on: who is registered, the tick, and that no channel is free earlier. Assumes nothing.
use mathlib.Core.Path.{◌≡◌, refl}
use mathlib.Core.List.{List}
use Prim.Native.Nat.{ℕ, ◌≤◌}
use native.Mathlib.Omega.{arith}
use Rattle.envelope.specs.ControlMask.{eqs_of}
use Rattle.ends.specs.Occupancy.{free_from}
use Rattle.ends.specs.Records.{with_clock}
use Rattle.ends.specs.Table.{unit_at}
use Rattle.ends.specs.declared.Olt.{Olt}
use Rattle.ends.specs.declared.Shared.{Shared}
use Rattle.ends.specs.declared.UnitRecord.{UnitRecord}
use Rattle.ends.proofs.Table.{SameUnits, with_channels-holds}
use Rattle.protocol.specs.Lift.{Outcome, outcome, lift}
use Rattle.protocol.specs.Headers.{no_passage, no_sending}
use Rattle.protocol.specs.Messages.{no_stamps, no_key_message}
use Rattle.protocol.specs.Replies.{silent}
use Rattle.protocol.specs.UnitCalls.{capture_unit, measure_unit, clock_send_unit, offer_unit, retry_unit, acknowledge_unit}
use Rattle.protocol.specs.UnitTraffic.{send_unit, receive_unit}
use Rattle.protocol.specs.OltCalls.{olt_answer, clock_sent, key_sent, capture_of, measure_of, clock_send_of, offer_of, retry_of, acknowledge_of}
use Rattle.protocol.specs.OltTraffic.{sending_olt, receiving_olt}
use Rattle.protocol.specs.declared.Acknowledgement.{Acknowledgement}
use Rattle.protocol.specs.declared.Header.{Header}
use Rattle.protocol.proofs.Lift.{lift_keeps, lift_beside, lift_same_units}
use Rattle.protocol.proofs.UnitCalls.{capture_keeps, clock_send_keeps, offer_keeps, retry_keeps, acknowledge_keeps, acknowledged_channels}
use Rattle.protocol.proofs.UnitTraffic.{receive_keeps}
use Rattle.traffic.specs.Receipts.{olt_received, olt_receive_of}
use Rattle.traffic.specs.Sends.{olt_sent, olt_send_of}
use Rattle.headend.proofs.HeadSteps.{send_identity}
use Rattle.unicast.proofs.SendDownSteps.{send_channels}
use Rattle.refusal.specs.Verdict.{Verdict, no_refusal}

pub record OltKept (o p : Olt) : Type 0 where
  pub units : SameUnits p o
  pub tick : p.shared.tick ≡ o.shared.tick
  pub rises : (k : ℕ) → free_from o.shared.channels k ≤ free_from p.shared.channels k

lift_kept : {H : Type 0} (o : Olt) (nothing : H) (ahead : Verdict) (llid : ℕ) (call : Shared → UnitRecord → Outcome H)
    → ((s : Shared) (u : UnitRecord) → (call s u).unit.identity ≡ u.identity)
    → ((u : UnitRecord) → (call o.shared u).verdict ≡ no_refusal → (k : ℕ) → free_from o.shared.channels k
    ≤ free_from (call o.shared u).channels k)
    → OltKept o (lift o nothing ahead llid call).end
lift_kept o nothing ahead llid call identity rises =
    record {
      units = lift_same_units o nothing ahead llid call identity;
      tick = (lift_beside o nothing ahead llid call).tick;
      rises =
          lift_keeps o nothing ahead llid call (λ (p : Olt). (k : ℕ) → free_from o.shared.channels k ≤ free_from p.shared.channels k)
          (λ k. omega arith)
          (λ l k. rw (with_channels-holds o l.at _ _) (rises (unit_at o l.at) l.accepts k));
    }

pub capture_kept : (o : Olt) (llid : ℕ) → OltKept o (capture_of o llid).olt
unfolding capture_of olt_answer capture_unit outcome
capture_kept o llid = lift_kept o silent no_refusal llid capture_unit capture_keeps.identity (λ u a k. omega arith)

pub measure_kept : (o : Olt) (llid trip : ℕ) → OltKept o (measure_of o llid trip).olt
unfolding measure_of olt_answer measure_unit outcome with_clock
measure_kept o llid trip = lift_kept o silent _ llid (measure_unit trip) (λ s u. refl) (λ u a k. omega arith)

pub clock_send_kept : (o : Olt) (llid : ℕ) → OltKept o (clock_send_of o llid).olt
unfolding clock_send_of clock_sent clock_send_unit outcome
clock_send_kept o llid = lift_kept o no_stamps no_refusal llid clock_send_unit clock_send_keeps.identity (λ u a k. omega arith)

pub offer_kept : (o : Olt) (llid : ℕ) (key : List ℕ) → OltKept o (offer_of o llid key).olt
unfolding offer_of key_sent offer_unit outcome
offer_kept o llid key = lift_kept o no_key_message no_refusal llid (offer_unit llid key) (offer_keeps llid key).identity (λ u a k. omega arith)

pub retry_kept : (o : Olt) (llid : ℕ) → OltKept o (retry_of o llid).olt
unfolding retry_of key_sent retry_unit outcome
retry_kept o llid = lift_kept o no_key_message no_refusal llid (retry_unit llid) (retry_keeps llid).identity (λ u a k. omega arith)

pub acknowledge_kept : (o : Olt) (llid : ℕ) (a : Acknowledgement) → OltKept o (acknowledge_of o llid a).olt
unfolding acknowledge_of olt_answer
acknowledge_kept o llid a =
    lift_kept o silent no_refusal llid (acknowledge_unit a) (acknowledge_keeps a).identity
    (λ u e k. rw (acknowledged_channels a o.shared u) (omega arith))

pub send_kept : (o : Olt) (llid channel : ℕ) (p out : List ℕ) → OltKept o (olt_send_of o llid channel p out).answer.olt
unfolding olt_send_of olt_sent sending_olt
send_kept o llid channel p out =
    lift_kept o no_sending _ llid (send_unit llid channel (eqs_of p)) (send_identity llid channel (eqs_of p))
    (λ u a k. send_channels llid channel (eqs_of p) o.shared u a k)

pub receive_kept : (o : Olt) (h : Header) (p out : List ℕ) → OltKept o (olt_receive_of o h p out).answer.olt
unfolding olt_receive_of olt_received receiving_olt receive_unit outcome
receive_kept o h p out = lift_kept o no_passage _ h.llid (receive_unit h) (receive_keeps h).identity (λ u a k. omega arith)
