-- An envelope of a unit that arrives at the OLT keeps the invariant. Assumes nothing.
use mathlib.Core.Path.{◌≡◌, refl, ◌∙◌, ap}
use mathlib.Core.Bool.{true}
use mathlib.Core.List.{List}
use Prim.Native.Nat.{ℕ}
use lib.ListN.{length-set}
use Rattle.ends.specs.Identities.{has}
use Rattle.ends.specs.declared.Olt.{Olt}
use Rattle.protocol.specs.Headers.{envelope_header}
use Rattle.protocol.specs.declared.Header.{Header}
use Rattle.group_protocol.specs.Head.{with_olt}
use Rattle.unicast.specs.Setting.{Setting}
use Rattle.unicast.specs.History.{Entry, Lane, lane_with, lane_arrived_up}
use Rattle.unicast.specs.Events as events
use Rattle.unicast.specs.Run.{lane_at, at_olt_for, fresh_lane, no_site, no_envelope, with_lanes, envelope_at}
use Rattle.unicast.specs.Premises.{DueUp}
use Rattle.unicast.proofs.Alive.{from_alive}
use Rattle.unicast.proofs.Queues.{from_taken}
use Rattle.unicast.proofs.Theorem.{step_right}
use Rattle.line.specs.Events.{arrive_up}
use Rattle.line.specs.Run.{State, alone, at_head, receipt_up, arriving_up, step}
use Rattle.line.proofs.Invariant.{Invariant}
use Rattle.line.proofs.AloneHead.{receive_olt, arrive_up_alone}
use Rattle.line.proofs.Kept.{OltKept, receive_kept}
use Rattle.line.proofs.Beside.{Beside, head_kept, unit_itself, beside_right}
use Rattle.line.proofs.Lines.{unit_no_group}
use Rattle.line.proofs.Places.{set_field}

-- its header has an LLID of its unit
pub up_llid : (w : Setting) (s : State) (u k : ℕ) (out : List ℕ) → Invariant w s → DueUp (alone s) u k out
    → has (lane_at (alone s) u).site.identity (envelope_at (alone s) u k).header.llid ≡ true
unfolding envelope_header
up_llid w s u k out i due =
    let a = from_alive w (alone s) u i.units k due.some in
    let j = a.joined in
    let under = (from_taken (lane_at (alone s) u) _ _ (lane_at (alone s) u).transit.from k no_envelope (envelope_at (alone s) u k) due.some refl j.from).0 in
    ap (λ (h : Header). has (lane_at (alone s) u).site.identity h.llid) (j.passing.sent (envelope_at (alone s) u k) under.sent).header
    ∙ under.named

told_beside : (w : Setting) (s : State) (u : ℕ) (o : Olt) (f : Lane → Lane) → Invariant w s → OltKept s.head.olt o
    → ((l : Lane) → (f l).site ≡ l.site)
    → ((l : Lane) → (f l).entry ≡ l.entry) → Beside s (at_head s (with_olt s.head o) (at_olt_for (alone s) u o f).history s.history.groups)
unfolding at_head alone with_olt at_olt_for with_lanes
told_beside w s u o f i k site entry =
    let ls = s.history.units.lanes in
    let l = lane_at (alone s) u in
    record {
      groups = refl;
      valid = head_kept s.head o k i.valid;
      rises = k.rises;
      ticks = refl;
      paired = length-set ls u (f l);
      site = set_field (λ (x : Lane). x.site) ls u (f l) (fresh_lane no_site) (site l);
      entry = λ v e. ap (λ (x : Entry). x.registered) (set_field (λ (x : Lane). x.entry) ls u (f l) (fresh_lane no_site) (entry l) v) ∙ e;
      unit = λ v. unit_itself _;
      joined = refl;
      lines = refl;
    }

pub arrive_up_right : (w : Setting) (s : State) (u k : ℕ) (out : List ℕ) → Invariant w s → DueUp (alone s) u k out
    → Invariant w (step s (arrive_up u k out))
unfolding step arriving_up at_head alone with_olt at_olt_for lane_arrived_up lane_with with_lanes
arrive_up_right w s u k out i due =
    let a = from_alive w (alone s) u i.units k due.some in
    let e = envelope_at (alone s) u k in
    let none = unit_no_group w s i u e.header.llid a.registered (up_llid w s u k out i due) in
    let is = receive_olt s.head i.valid e.header e.octets out none in
    beside_right w s (step s (arrive_up u k out)) i
    (rw is (told_beside w s u _ (lane_arrived_up k (receipt_up s e out)) i (receive_kept s.head.olt e.header e.octets out) (λ l. refl) (λ l. refl)))
    (rw (arrive_up_alone s i.valid u k out none) (step_right w (alone s) (events.arrive_up u k out) i.units due))
    (λ v g m n p q z.
    let stay = set_field (λ (x : Lane). x.keys.offers) s.history.units.lanes u
    (lane_arrived_up k (receipt_up s e out) (lane_at (alone s) u)) (fresh_lane no_site) refl v in
    i.mixed v g m n (rw stay at p) q (rw stay at z))
