-- An envelope that arrives at the OLT is accepted and opened, and keeps the invariant of its lane. Assumes nothing.
use mathlib.Core.Path.{◌≡◌, refl, sym, ◌∙◌, ap, subst}
use mathlib.Core.Bool.{true, false}
use mathlib.Core.List.{List, Memᴰ}
use Prim.Native.Nat.{ℕ, suc, ◌+◌, ◌%◌, ◌<◌, ◌≤◌}
use native.Mathlib.Omega.{arith}
use lib.ListN.{length, get_or, drop}
use Rattle.octets.proofs.Members.{mem_at}
use Rattle.clock.specs.Ticks.{clock_turn}
use Rattle.protocol.specs.Headers.{valid_header, envelope_header, key_for, passage_of}
use Rattle.ends.specs.Identities.{has}
use Rattle.ends.specs.Keys.{key_in}
use Rattle.protocol.specs.Lift.{outcome}
use Rattle.envelope.specs.Channels.{upstream}
use Rattle.protocol.specs.OltTraffic.{receiving_olt}
use Rattle.ends.specs.Records.{with_keys, with_confirmation, with_slots}
use Rattle.protocol.specs.UnitTraffic.{unit_receive_choice, receive_unit}
use Rattle.protocol.specs.declared.Header.{Header}
use Rattle.protocol.specs.declared.KeyChoice.{KeyChoice}
use Rattle.ends.specs.declared.Onu.{Onu}
use Rattle.protocol.specs.declared.Passage.{Passage}
use Rattle.ends.specs.declared.Shared.{Shared}
use Rattle.ends.specs.declared.UnitRecord.{UnitRecord}
use Rattle.protocol.proofs.Headers.{header_valid, key_for-holds}
use Rattle.protocol.proofs.UnitChoices.{Receives}
use Rattle.traffic.specs.Passages.{misfit, output_after}
use Rattle.traffic.specs.Receipts.{olt_received, olt_receive_of}
use Rattle.unicast.specs.Setting.{Setting, clock_up}
use Rattle.unicast.specs.History.{downward, upward, Envelope, Arrival, Lane, key_of, lane_with, arriving, lane_arrived_up}
use Rattle.unicast.specs.Run.{State, receipt_up}
use Rattle.unicast.specs.Claim.{PassageRight, SentRight, ArrivedRight}
use Rattle.unicast.proofs.Invariant.{Under, From, Joined, AtTick}
use Rattle.unicast.specs.Bounds.{goes}
use Rattle.unicast.proofs.Pace.{rising_dropped, highest_other, highest_own}
use Rattle.unicast.proofs.Queues.{Knows, dropped_among, towards_moved, from_moved, from_taken}
use Rattle.unicast.proofs.Envelopes.{ways_apart, arrival_of, opens_right, octets_fit}
use Rattle.unicast.proofs.Past.{passing_arrived}
use Rattle.unicast.proofs.ReceiptChoices.{confirmed_at, TakenUp, taken_up}
use Rattle.refusal.specs.Verdict.{no_refusal}

---- its lane

module _ (w : Setting) (sh : Shared) (now : ℕ) (l : Lane) (u : UnitRecord) (o : Onu) (j : Joined w sh now l u o) where
  -- the unit's keys and confirmation after an arrival
  arrived_up_joined : (choice : KeyChoice) (k : ℕ) (r : Arrival) (t : TakenUp u choice r.envelope.number)
      → Under l.site.identity l.past.sent upward u.confirmation.confirmed o.keys.active r.envelope
      → From l r.envelope.number o.keys.active (drop (suc k) l.transit.from)
      → ArrivedRight w l r → Joined w sh now (lane_arrived_up k r l) (confirmed_at u t.slots r.envelope.number) o
  unfolding lane_arrived_up lane_with arriving with_confirmation with_keys with_slots
  arrived_up_joined choice k r t e rest right =
      let n = j.numbers in
      let m = lane_arrived_up k r l in
      let knows : (top : ℕ) → Knows l m top = λ top. search in
      let heard = sym (highest_own upward l.past.arrived r (ap (goes upward) e.that_way) (omega (arith, e.above, j.heard))) in
      let told = j.told ∙ sym (highest_other downward l.past.arrived r (ap (goes downward) e.that_way)) in
      let order = rising_dropped (λ (x : Envelope). x.left) 0 now l.transit.from (suc k) j.order.from in
      let next : u.keys.offered ≤ r.envelope.number + 1 = omega (arith, n.next, e.above) in
      let slots : (x : ℕ) → 1 ≤ x → r.envelope.number ≤ x → x ≤ u.keys.offered → key_in t.slots x ≡ key_of l.keys x =
      λ x p q s. t.stored x q s ∙ j.stored.olt x p (omega (arith, q, e.above)) s in
      let towards =
      towards_moved w.first l.path l m o.keys.active u.keys.active u.keys.offered l.transit.towards (knows u.keys.offered)
      j.towards in
      let from = from_moved l m 0 r.envelope.number o.keys.active (drop (suc k) l.transit.from) (knows 0) rest in
      let passing =
      passing_arrived w l m r u.confirmation.confirmed r.envelope.number o.keys.active o.keys.active knows refl refl
      e.above (omega arith) right (λ q. ways_apart (sym q ∙ e.that_way)) (λ q. omega arith) j.passing in
      search (j.under_way.present, dropped_among)

---- its receipt

module _ (w : Setting) (sh : Shared) (now : ℕ) (l : Lane) (u : UnitRecord) (o : Onu) (at : AtTick w now sh) (j : Joined w sh now l u o) (k : ℕ)
    (d e : Envelope) (some : k < length l.transit.from) (is : get_or l.transit.from k d ≡ e) (due : e.left + l.path.up ≡ now) where
  queue_up : Under l.site.identity l.past.sent upward u.confirmation.confirmed o.keys.active e
      × From l e.number o.keys.active (drop (suc k) l.transit.from)
  queue_up = from_taken l u.confirmation.confirmed o.keys.active l.transit.from k d e some is j.from

  right_up : SentRight w l e
  right_up = j.passing.sent e queue_up.0.sent

  -- the sender's clock when it left is the OLT's when it arrives
  clock_up-holds : clock_up w.first e.up e.left ≡ sh.clock
  clock_up-holds =
      let present = j.under_way.present e (subst (λ (x : Envelope). Memᴰ x l.transit.from) is (mem_at l.transit.from k d some)) in
      let same : w.first + e.left + e.up ≡ w.first + now = omega (arith, due, present) in
      ap (λ (x : ℕ). x % clock_turn) same ∙ sym at.clock

  header_up : e.header ≡ envelope_header e.number e.channel e.llid sh.clock
  header_up =
      rw queue_up.0.that_way at right_up.header
      ∙ ap (envelope_header e.number e.channel e.llid) clock_up-holds

  chosen_at_olt : TakenUp u (unit_receive_choice u e.header) e.number
  chosen_at_olt =
      let n = j.numbers in
      taken_up u e.header e.number e.channel e.llid sh.clock header_up queue_up.0.above (omega (arith, queue_up.0.most, n.mid))
      (omega (arith, n.high, n.top)) n.next

  opens_up : PassageRight w l e e.header.channel (receive_unit e.header sh u).handed
  unfolding receive_unit outcome passage_of envelope_header
  opens_up =
      let t = chosen_at_olt in
      let n = j.numbers in
      record {
        enciphered = t.takes.enciphered;
        key = λ h.
            ap (λ (x : ℕ). key_for x u.keys.slots) t.takes.chosen
            ∙ key_for-holds e.number u.keys.slots h
            ∙ j.stored.olt e.number h queue_up.0.above (omega (arith, queue_up.0.most, n.mid, n.high, n.top));
        nonce = λ h.
            let channel : e.header.channel ≡ e.channel = ap (λ (x : Header). x.channel) header_up in
            rw (channel, j.mac, sym clock_up-holds, queue_up.0.that_way);
      }

  -- the unit that the envelope names, and the ways and ranges of its header
  pub record NamedUp : Type 0 where
    pub upstream : upstream e.header.channel ≡ true
    pub header : valid_header e.header ≡ true
    pub named : e.header.llid ≡ e.llid
    pub has : has u.identity e.header.llid ≡ true
    pub fits : (out : List ℕ) → length out ≡ length e.octets → misfit e.octets out ≡ false

  pub arrive_up_named : NamedUp
  unfolding envelope_header
  arrive_up_named =
      let h = header_up in
      let llid : e.header.llid ≡ e.llid = ap (λ (x : Header). x.llid) h in
      record {
        upstream = rw (ap (λ (x : Header). x.channel) h) (j.spending.ups e queue_up.0.sent queue_up.0.that_way).0;
        header = ap valid_header h ∙ header_valid e.number e.channel e.llid sh.clock;
        named = llid;
        has = ap (has u.identity) llid ∙ j.llids e.llid ∙ queue_up.0.named;
        fits = λ out buffer. octets_fit w l e out right_up (j.passing.fits e queue_up.0.sent) buffer;
      }

  pub arrive_up_receives : Receives sh u e.header
  unfolding envelope_header
  arrive_up_receives = record { epam = ap (λ (x : Header). x.epam) header_up; choice = chosen_at_olt.takes.accepts }

  -- the lane of its unit is kept
  pub arrive_up-holds : Joined w sh now (lane_arrived_up k (arrival_of e (receive_unit e.header sh u).handed) l) (receive_unit e.header sh u).unit o
  unfolding receive_unit outcome
  arrive_up-holds =
      let t = chosen_at_olt in
      let q = (receive_unit e.header sh u).handed in
      subst (λ (x : UnitRecord). Joined w sh now (lane_arrived_up k (arrival_of e q) l) x o) (sym t.after)
      (arrived_up_joined w sh now l u o j (unit_receive_choice u e.header) k (arrival_of e q) t queue_up.0 queue_up.1
      (opens_right w l e q queue_up.0.sent right_up opens_up))

-- the receipt that the OLT makes of it
pub receipt_up_is : (s : State) (e : Envelope) (out : List ℕ) (q : Passage)
    → (receiving_olt s.olt (misfit e.octets out) e.header).verdict ≡ no_refusal
    → (receiving_olt s.olt (misfit e.octets out) e.header).handed ≡ q → receipt_up s e out ≡ arrival_of e q
unfolding receipt_up olt_receive_of olt_received output_after
receipt_up_is s e out q a h = rw (a, h)
