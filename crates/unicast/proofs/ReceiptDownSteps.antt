-- An envelope that arrives at its unit is accepted and opened, and keeps the invariant of its lane. Assumes nothing.
use mathlib.Core.Path.{◌≡◌, refl, sym, ◌∙◌, ap, subst}
use mathlib.Core.Bool.{true}
use mathlib.Core.List.{List, Memᴰ}
use Prim.Native.Nat.{ℕ, suc, ◌+◌, ◌<◌, ◌≤◌}
use native.Mathlib.Omega.{arith}
use lib.ListN.{length, get_or, drop}
use Rattle.octets.proofs.Members.{mem_at}
use Rattle.clock.specs.Ticks.{epam_of}
use Rattle.clock.specs.Aligned.{Aligned}
use Rattle.clock.specs.declared.Stamps.{Stamps}
use Rattle.protocol.specs.Headers.{valid_header, envelope_header, key_for, passage_of, no_passage}
use Rattle.ends.specs.Identities.{has}
use Rattle.ends.specs.Keys.{key_in}
use Rattle.ends.specs.Limits.{max_changes}
use Rattle.ends.specs.Travels.{travel_of}
use Rattle.protocol.specs.OnuTraffic.{onu_receive_choice, onu_moved, onu_after_receipt, receiving_onu}
use Rattle.ends.specs.Records.{with_onu_keys, with_onu_first}
use Rattle.ends.specs.declared.FirstSend.{FirstSend}
use Rattle.protocol.specs.declared.Header.{Header}
use Rattle.protocol.specs.declared.KeyChoice.{KeyChoice}
use Rattle.protocol.specs.declared.KeyChoice.TheVariants.{Clear, Current, Next, Barred}
use Rattle.ends.specs.declared.Onu.{Onu}
use Rattle.ends.specs.declared.Shared.{Shared}
use Rattle.ends.specs.declared.UnitRecord.{UnitRecord}
use Rattle.protocol.proofs.Headers.{header_clear, header_valid, key_for-holds}
use Rattle.protocol.proofs.OnuCalls.{onu_accepts, onu_keeps}
use Rattle.protocol.proofs.OnuTraffic.{onu_moved_valid}
use Rattle.protocol.proofs.OnuChoices.{OnuReceives, onu_receive_accepts}
use Rattle.traffic.specs.Passages.{misfit, output_after}
use Rattle.traffic.specs.Receipts.{onu_received, onu_receive_of}
use Rattle.unicast.specs.Setting.{Setting, clock_down}
use Rattle.unicast.specs.History.{downward, upward, Envelope, InFlight, envelope, left_at, Arrival, Lane, key_of, lane_with, arriving, lane_taken, lane_arrived_down}
use Rattle.unicast.specs.Claim.{PassageRight, SentRight, ArrivedRight}
use Rattle.unicast.proofs.Cases.{same_or_not}
use Rattle.unicast.proofs.Invariant.{reach_of, Numbers, Answers, SpentUp, SentUnder, FirstSends, Under, Towards, Joined, Common}
use Rattle.unicast.specs.Bounds.{goes}
use Rattle.unicast.proofs.Pace.{rising_dropped, highest_other, highest_own}
use Rattle.unicast.proofs.Queues.{Knows, dropped_among, towards_carried, towards_taken, from_carried}
use Rattle.unicast.proofs.Frames.{common_moved}
use Rattle.unicast.proofs.Envelopes.{ways_apart, arrival_of, opens_right, octets_fit}
use Rattle.unicast.proofs.SendChoices.{timing_stayed}
use Rattle.unicast.proofs.Past.{passing_arrived}
use Rattle.unicast.proofs.Spending.{unnoted}
use Rattle.unicast.proofs.ReceiptChoices.{TakenDown, taken_down}
use Rattle.refusal.specs.Verdict.{no_refusal}

---- its lane

-- of a unit whose number stays the first send does, and one that moves on has none
first_taken : (P : FirstSend → ℕ → Type 0) (n old new : ℕ) (f g : FirstSend) → new ≡ n → (n ≡ old → g ≡ f)
    → ((n ≡ old → ⊥) → g.noted ≡ 0)
    → (f.noted ≡ 1 → P f old) → g.noted ≡ 1 → P g new
first_taken P n old new f g active stays unsent was one =
    same_or_not n old
    (λ is. let first = stays is in rw (first, active ∙ is) (was (sym (ap (λ (x : FirstSend). x.noted) first) ∙ one)))
    (λ other. absurd (omega (arith, one, unsent other)))

module _ (w : Setting) (sh : Shared) (now : ℕ) (l : Lane) (u : UnitRecord) (o : Onu) (j : Joined w sh now l u o) where
  -- the unit's keys and first send after an arrival
  arrived_down_joined : (choice : KeyChoice) (k : ℕ) (r : Arrival) (t : TakenDown o choice r.envelope.number)
      → Under l.site.identity l.past.sent downward o.keys.active u.keys.active r.envelope
      → Towards w.first l.path l r.envelope.number u.keys.active u.keys.offered (drop (suc k) l.transit.towards)
      → ArrivedRight w l r → Joined w sh now (lane_arrived_down r (lane_taken k l)) u (with_onu_first (with_onu_keys o t.keys) t.first)
  unfolding lane_arrived_down lane_taken lane_with arriving with_onu_first with_onu_keys
  arrived_down_joined choice k r t e rest right =
      let n = j.numbers in
      let m = lane_arrived_down r (lane_taken k l) in
      let knows : (top : ℕ) → Knows l m top = λ top. search in
      let low : o.keys.active ≤ t.keys.active = omega (arith, e.above, t.active) in
      let firsts : FirstSends l.keys.switches l.keys.switched l.site.up l.past.sent u.keys.first t.first t.keys.active =
      record {
        olt = j.firsts.olt;
        onu = λ least each.
            first_taken (λ f a. a ≡ l.keys.switches → l.keys.switched + least + max_changes ≤ f.at + l.site.up) r.envelope.number
            o.keys.active t.keys.active o.first t.first t.active t.stays t.unsent (j.firsts.onu least each);
        some =
            first_taken (λ f. SentUnder l.past.sent) r.envelope.number o.keys.active t.keys.active o.first t.first t.active
            t.stays t.unsent j.firsts.some;
      } in
      let heard = j.heard ∙ sym (highest_other upward l.past.arrived r (ap (goes upward) e.that_way)) in
      let told =
      sym (highest_own downward l.past.arrived r (ap (goes downward) e.that_way) (omega (arith, e.above, j.told, n.last))) in
      let order = rising_dropped left_at 0 now l.transit.towards (suc k) j.order.towards in
      let numbers : Numbers m.keys u.keys.active u.keys.offered u.confirmation.confirmed u.confirmation.acknowledged t.keys =
      let taken : l.keys.acknowledged ≡ true → u.keys.offered ≤ reach_of t.keys = λ q. let was = n.taken q in omega (arith, was, t.reach) in
      search arith in
      let slots : (x : ℕ) → 1 ≤ x → t.keys.active ≤ x → x ≤ reach_of t.keys → key_in t.keys.slots x ≡ key_of l.keys x =
      λ x p q s.
      t.slots x (omega (arith, q, t.active)) (omega (arith, s, t.reach))
      ∙ j.stored.onu x p (omega (arith, q, low)) (omega (arith, s, t.reach)) in
      let timing = timing_stayed l.entry l.keys m.keys now u.keys.timer refl j.timing in
      let answers : Answers now t.keys o.clock l.transit.answered =
      record {
        each = λ x i. let was = j.answers.each x i in (was.0, λ q. let held = was.1 q in omega (arith, held, t.reach));
        set = j.answers.set;
      } in
      let towards =
      towards_carried w.first l.path l m r.envelope.number t.keys.active u.keys.active u.keys.active u.keys.offered
      u.keys.offered
      (drop (suc k) l.transit.towards) (knows u.keys.offered) (omega (arith, t.active)) (omega arith) (omega arith) rest in
      let from =
      from_carried l m 0 u.confirmation.confirmed u.confirmation.confirmed o.keys.active t.keys.active l.transit.from (knows 0)
      (omega arith) low j.from in
      let ups : (x : Envelope) → Memᴰ x l.past.sent
      → SpentUp o.channels t.first t.keys.active l.site.up l.path.up o.travel x =
      λ x i q.
      let was = j.spending.ups x i q in
      let s = was.1 in (
        was.0,
        record {
          most = omega (arith, s.most, low);
          passed = s.passed;
          noted = λ p f.
              let same : r.envelope.number ≡ o.keys.active = omega (arith, f, s.most, e.above, t.active) in
              rw (t.stays same) (s.noted p (f ∙ t.active ∙ same));
        },
        was.2,
      ) in
      let passing =
      passing_arrived w l m r u.confirmation.confirmed u.confirmation.confirmed o.keys.active t.keys.active knows refl refl
      (omega arith) low right (λ q. omega (arith, t.active)) (λ q. ways_apart (sym e.that_way ∙ q)) j.passing in
      search (j.asked.under, j.under_way.sealed, dropped_among)

---- its receipt

-- the Rx clock of a synced unit is the OLT's at the tick when what arrives left
pub rx_at : (first now left up down : ℕ) (s : Stamps) → Aligned (first + now) up down s → left + down ≡ now → s.rx ≡ clock_down first left
rx_at first now left up down s a e = omega (arith, a.rx, a.below)

-- the receipt of an envelope that arrived for the unit
abbrev pub arrival_down : Onu → Envelope → List ℕ → Arrival
arrival_down o e out =
    record {
      envelope = e;
      number = (onu_receive_of o e.header e.octets out).answer.number;
      count = (onu_receive_of o e.header e.octets out).answer.count;
      runs = (onu_receive_of o e.header e.octets out).answer.runs;
      output = (onu_receive_of o e.header e.octets out).output;
      passage = (receiving_onu o (misfit e.octets out) e.header).handed;
    }

module _ (w : Setting) (sh : Shared) (now : ℕ) (l : Lane) (u : UnitRecord) (o : Onu) (c : Common w now l o) (j : Joined w sh now l u o) (k : ℕ)
    (d : InFlight) (e : Envelope) (out : List ℕ) (some : k < length l.transit.towards) (is : get_or l.transit.towards k d ≡ envelope e)
    (due : e.left + l.path.down ≡ now) (buffer : length out ≡ length e.octets) where
  queue_down : Under l.site.identity l.past.sent downward o.keys.active u.keys.active e
      × Towards w.first l.path l e.number u.keys.active u.keys.offered (drop (suc k) l.transit.towards)
  queue_down =
      towards_taken w.first l.path l o.keys.active u.keys.active u.keys.offered l.transit.towards k d (envelope e) some is j.towards

  right_down : SentRight w l e
  right_down = j.passing.sent e queue_down.0.sent

  header_down : e.header ≡ envelope_header e.number e.channel e.llid (clock_down w.first e.left)
  header_down = rw queue_down.0.that_way at right_down.header

  chosen_at_unit : TakenDown o (onu_receive_choice o.keys e.header) e.number
  chosen_at_unit =
      let n = j.numbers in
      taken_down o e.header e.number e.channel e.llid (clock_down w.first e.left) header_down queue_down.0.above
      (omega (arith, queue_down.0.most, n.high)) n.flag

  synced_down : 1 ≤ e.number → o.clock.synced ≡ 1
  synced_down h = j.under_way.sealed e (subst (λ (x : InFlight). Memᴰ x l.transit.towards) is (mem_at l.transit.towards k d some)) h

  rx_down : o.clock.synced ≡ 1 → o.clock.rx ≡ clock_down w.first e.left
  rx_down h = rx_at w.first now e.left l.path.up l.path.down _ (j.clocks.synced h) due

  opens_down : PassageRight w l e e.header.channel (passage_of (onu_receive_choice o.keys e.header) o.keys.slots o.oltmac o.clock.rx)
  unfolding passage_of envelope_header
  opens_down =
      let t = chosen_at_unit in
      let n = j.numbers in
      record {
        enciphered = t.takes.enciphered;
        key = λ h.
            ap (λ (x : ℕ). key_for x o.keys.slots) t.takes.chosen
            ∙ key_for-holds e.number o.keys.slots h
            ∙ j.stored.onu e.number h queue_down.0.above (omega (arith, queue_down.0.most, n.high));
        nonce = λ h.
            let channel : e.header.channel ≡ e.channel = ap (λ (x : Header). x.channel) header_down in
            rw (channel, c.oltmac ∙ j.oltmac, rx_down (synced_down h), queue_down.0.that_way);
      }

  receives_down : OnuReceives o (misfit e.octets out) e.header
  unfolding envelope_header
  receives_down =
      let h = header_down in
      record {
        fits = octets_fit w l e out right_down (j.passing.fits e queue_down.0.sent) buffer;
        downstream = rw (ap (λ (x : Header). x.channel) h) (j.spending.downs e queue_down.0.sent queue_down.0.that_way).0;
        header = ap valid_header h ∙ header_valid e.number e.channel e.llid (clock_down w.first e.left);
        has = ap (λ (x : Header). has o.identity x.llid) h ∙ c.llids e.llid ∙ queue_down.0.named;
        epam = λ s. ap (λ (x : Header). x.epam) h ∙ ap epam_of (sym (rx_down s));
        synced = λ s.
            same_or_not e.number 0
            (λ none.
            let clear = header_clear e.number e.channel e.llid (clock_down w.first e.left) none in
            let zero : e.header.encenabled ≡ 0 = ap (λ (x : Header). x.encenabled) h ∙ clear in
            absurd (omega (arith, s, zero)))
            (λ some. synced_down (omega arith));
        choice = chosen_at_unit.takes.accepts;
      }

  accepted_down : receiving_onu o (misfit e.octets out) e.header
      ≡ record {
        verdict = no_refusal;
        end = onu_after_receipt (onu_receive_choice o.keys e.header) o;
        handed = passage_of (onu_receive_choice o.keys e.header) o.keys.slots o.oltmac o.clock.rx;
      }
  unfolding receiving_onu
  accepted_down = onu_accepts o no_passage _ _ _ c.valid (onu_receive_accepts o (misfit e.octets out) e.header receives_down)

  -- the lane of its unit is kept
  pub arrive_down-holds : Joined w sh now (lane_arrived_down (arrival_down o e out) (lane_taken k l)) u (onu_receive_of o e.header e.octets out).answer.onu
  unfolding onu_receive_of onu_received output_after
  arrive_down-holds =
      let choice = onu_receive_choice o.keys e.header in
      let q = passage_of choice o.keys.slots o.oltmac o.clock.rx in
      let t = chosen_at_unit in
      let right = opens_right w l e q queue_down.0.sent right_down opens_down in
      rw accepted_down
      (subst (λ (x : Onu). Joined w sh now (lane_arrived_down (arrival_of e q) (lane_taken k l)) u x) (sym t.after)
      (arrived_down_joined w sh now l u o j choice k (arrival_of e q) t queue_down.0 queue_down.1 right))

---- the unit itself

received_common : (w : Setting) (now : ℕ) (m : Lane) (o : Onu) (choice : KeyChoice) → Common w now m o → Common w now m (onu_after_receipt choice o)
unfolding onu_after_receipt onu_moved with_onu_first with_onu_keys travel_of
received_common w now m o Clear c = c
received_common w now m o (Current n) c = c
received_common w now m o (Barred r) c = c
received_common w now m o (Next n) c = search (onu_moved_valid, unnoted)

-- it stays valid, at its tick, and who it is
pub receive_common : (w : Setting) (now : ℕ) (l m : Lane) (o : Onu) (h : Header) (p out : List ℕ) → l.site ≡ m.site → l.path ≡ m.path
    → Common w now l o
    → Common w now m (onu_receive_of o h p out).answer.onu
unfolding onu_receive_of onu_received receiving_onu
receive_common w now l m o h p out s q c =
    let kept = common_moved w now l m o s q c in
    onu_keeps (Common w now m) o no_passage _ _ _ kept (λ v a. received_common w now m o (onu_receive_choice o.keys h) kept)
