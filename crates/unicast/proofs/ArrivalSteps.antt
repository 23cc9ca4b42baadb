-- An envelope that arrives at the OLT keeps the invariant. Assumes nothing.
use mathlib.Core.Path.{◌≡◌, refl, sym, ◌∙◌, ap}
use mathlib.Core.Bool.{Bool, true, false}
use mathlib.Core.List.{List}
use Prim.Native.Nat.{ℕ}
use native.Mathlib.Omega.{arith}
use lib.ListN.{set}
use Rattle.ends.specs.Records.{with_channels}
use Rattle.protocol.specs.Replies.{Reply}
use Rattle.ends.specs.Table.{unit_at, with_unit}
use Rattle.ends.specs.Validity.{valid_olt}
use Rattle.protocol.specs.Lift.{outcome}
use Rattle.protocol.specs.Headers.{no_passage}
use Rattle.protocol.specs.UnitTraffic.{receive_unit}
use Rattle.protocol.specs.OltTraffic.{receiving_olt}
use Rattle.ends.specs.declared.Olt.{Olt}
use Rattle.protocol.specs.declared.Passage.{Passage}
use Rattle.protocol.proofs.Lift.{Lifted}
use Rattle.protocol.proofs.OltTraffic.{receive_ahead, receiving_valid, receiving_accepts}
use Rattle.traffic.specs.Passages.{misfit}
use Rattle.traffic.specs.Receipts.{olt_received, olt_receive_of}
use Rattle.unicast.specs.Setting.{Setting}
use Rattle.unicast.specs.History.{Envelope, lane_with, lane_arrived_up}
use Rattle.unicast.specs.Events.{arrive_up}
use Rattle.unicast.specs.Run.{State, lane_at, onu_at, envelope_at, fresh_lane, no_envelope, at_olt_for, receipt_up, arriving_up, step}
use Rattle.unicast.specs.Premises.{Fits}
use Rattle.unicast.proofs.Invariant.{Joined, Invariant}
use Rattle.unicast.proofs.Envelopes.{arrival_of}
use Rattle.unicast.proofs.ReceiptUpSteps.{arrive_up-holds, arrive_up_named, arrive_up_receives, receipt_up_is}
use Rattle.unicast.proofs.Places.{Held, joined_at-holds, held_found, at_once}
use Rattle.unicast.proofs.Alive.{alive_held, from_alive}
use Rattle.unicast.proofs.LiftSteps.{replaced_right, told_for}

-- the accepted receipt of the envelope, as the unit's record takes it
arrived_right : (w : Setting) (s : State) (u k : ℕ) (out : List ℕ) (e : Envelope) → Invariant w s → misfit e.octets out ≡ false
    → (l : Lifted s.olt no_passage (receive_ahead false e.header) e.header.llid (receive_unit e.header)) → Held s l.at u
    → Joined w s.olt.shared s.history.now
    (lane_arrived_up k (arrival_of e (receive_unit e.header s.olt.shared (unit_at s.olt l.at)).handed) (lane_at s u))
    (receive_unit e.header s.olt.shared (unit_at s.olt l.at)).unit (onu_at s u)
    → Invariant w (arriving_up s u k e out)
unfolding arriving_up at_olt_for olt_receive_of olt_received receiving_olt receive_unit outcome with_channels lane_arrived_up lane_with
arrived_right w s u k out e i fit l h j =
    let sh = s.olt.shared in
    let x = unit_at s.olt l.at in
    let call = receive_unit e.header in
    let r = receiving_olt s.olt (misfit e.octets out) e.header in
    let same : r ≡ receiving_olt s.olt false e.header = ap (λ (b : Bool). receiving_olt s.olt b e.header) fit in
    let end : r.end ≡ with_unit s.olt l.at (call sh x).channels (call sh x).unit = ap (λ (y : Reply Olt Passage). y.end) same ∙ l.end in
    let receipt : receipt_up s e out ≡ arrival_of e (call sh x).handed =
    receipt_up_is s e out (call sh x).handed (ap (λ (y : Reply Olt Passage). y.verdict) same ∙ l.verdict)
    (ap (λ (y : Reply Olt Passage). y.handed) same ∙ l.handed) in
    let lane = lane_arrived_up k (arrival_of e (call sh x).handed) (lane_at s u) in
    let valid : valid_olt (with_unit s.olt l.at (call sh x).channels (call sh x).unit) ≡ true =
    rw end at (receiving_valid s.olt (misfit e.octets out) e.header i.valid) in
    rw (end, receipt)
    (replaced_right w s l.at (call sh x).channels (call sh x).unit (set s.history.lanes u lane) i
    (told_for w s l.at u (call sh x).channels (call sh x).unit lane i h valid (λ n. omega arith) i.shared.free refl refl refl refl j))

pub arrive_up_right : (w : Setting) (s : State) (u k : ℕ) (out : List ℕ) → Invariant w s → Fits w s (arrive_up u k out)
    → Invariant w (step s (arrive_up u k out))
unfolding step fresh_lane
arrive_up_right w s u k out i d =
    let sh = s.olt.shared in
    let now = s.history.now in
    let e = envelope_at s u k in
    let place = (lane_at s u).entry.place in
    let alive = from_alive w s u i k d.some in
    let j = alive.joined in
    let x = arrive_up_named w sh now (lane_at s u) (unit_at s.olt place) (onu_at s u) i.shared j k no_envelope e d.some refl d.now in
    let found = held_found w s place u e.header.llid i (alive_held w s u alive) (sym (j.llids e.header.llid) ∙ x.has) in
    let l =
    receiving_accepts s.olt e.header place i.valid x.upstream x.header found
    (arrive_up_receives w sh now (lane_at s u) (unit_at s.olt place) (onu_at s u) i.shared j k no_envelope e d.some refl d.now) in
    let own : Held s l.at u = record { known = alive.known; registered = alive.registered; place = at_once _ _ (sym found ∙ l.found) } in
    arrived_right w s u k out e i (x.fits out d.buffer) l own
    (arrive_up-holds w sh now (lane_at s u) (unit_at s.olt l.at) (onu_at s u) i.shared (joined_at-holds w s l.at u i own).1 k no_envelope e
    d.some refl d.now)
