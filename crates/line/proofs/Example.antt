-- The list of Example meets the premises, by a test that computes, and what the theorem says of it. Assumes nothing.
use mathlib.Core.Path.{◌≡◌, refl, sym, ◌∙◌, ap}
use mathlib.Core.Bool.{Bool, true, false}
use mathlib.Core.List.{List}
use Prim.Native.Nat.{ℕ}
use native.Mathlib.Omega.{arith}
use lib.Dec.{eqb, ltb}
use lib.ListN.{length}
use borrow.Author.Tests.{ltb-true, leb-true, eqb-true}
use Rattle.octets.proofs.Choice.{true_false}
use Rattle.octets.proofs.Members.{mem_at}
use Rattle.octets.specs.Output.{WithOutput}
use Rattle.refusal.specs.Number.{number_of}
use Rattle.refusal.specs.declared.Refusal.TheVariants.{ClockNotSet}
use Rattle.envelope.specs.declared.Nonce.{Nonce}
use Rattle.cipher.specs.KeyExpansion.{key_expansion}
use Rattle.sealing.specs.Seal.{carried, count_carried}
use Rattle.traffic.specs.Passages.{misfit}
use Rattle.subscriber.specs.declared.SubscriberReceived.{SubscriberReceived}
use Rattle.unicast.specs.History.{Envelope, InFlight, clock_message, key_message, envelope, downward, upward, key_of, is_synced}
use Rattle.unicast.specs.Run.{lane_at, no_envelope}
use Rattle.unicast.specs.Premises.{Fresh}
use Rattle.unicast.specs.Claim.{is_sealed, overheard_for}
use Rattle.unicast.specs.Example.{blank}
use Rattle.unicast.proofs.Example.{nonce_is, header_is, carried_is, numbered, agreed}
use Rattle.unicast.proofs.Tested.{fresh_true}
use Rattle.line.specs.History.{GroupArrival, GroupLane, is_joined}
use Rattle.line.specs.Run.{State, alone, start, joined_by, group_lane_at, group_sent_at, group_in_flight_at, group_answer_at, group_receipt}
use Rattle.line.specs.Premises.{Meets}
use Rattle.line.specs.Claim.{group_nonce, GroupOpened, Sender, unit, group, sent_by, sent_by_at, not_received, Claim}
use Rattle.line.specs.Example.{example, group_llid, to_first_key, to_missed, to_return, to_unsynced, to_synced, events}
use Rattle.line.specs.Course.{after, played, arrival_number, call_number, refusals, Course}
use Rattle.line.specs.Demand.{arrival_at, HandedClear, Handed, Opens, Passed, Delivered, NotOpened, Apart, Back, Unsynced, Overheard, Left, Shown, Demand}
use Rattle.line.proofs.Opened.{opened}
use Rattle.line.proofs.Tested.{tested, meets, meets_true, meets_start, due_of_group, due_of_group_true, overhears_group, overhears_group_true}
use Rattle.line.proofs.Theorem.{line_holds}
use Rattle.line.proofs.Unchanged.{unchanged}
use Rattle.line.proofs.Without.{without_groups}

---- the premises

pub example_fresh : Fresh example
unfolding opened tested
example_fresh = fresh_true example refl

example_passes : meets example (start example) events ≡ true
unfolding opened tested
example_passes = refl

pub example_meets : Meets example (start example) events
example_meets = meets_true example (start example) events example_passes

course : Course
unfolding opened arrival_number call_number refusals
course =
    record {
      refused = refl;
      sent = refl;
      arrived_at = refl;
      arrived = refl;
      answered = refl;
      acknowledged_by = refl;
      acknowledged = refl;
      joined_a = refl;
      joined_b = refl;
      sent_a = refl;
      arrived_a = refl;
      ended = eqb-true _ _ refl;
    }

---- what the theorem says of it: the history alone is computed

-- of a receipt
opens_as : {g : GroupLane} {r : GroupArrival} {key : List ℕ} {n : Nonce} {payload : List ℕ} {count : ℕ} → GroupOpened example g r
    → is_sealed r.envelope ≡ true → key_of g.keys r.envelope.number ≡ key
    → eqb (group_nonce example r.envelope).channel n.channel ≡ true
    → eqb (group_nonce example r.envelope).mac n.mac ≡ true
    → eqb (group_nonce example r.envelope).clock n.clock ≡ true
    → r.envelope.payload ≡ payload → r.envelope.count ≡ count → Opens r key n payload count
opens_as {n = n} o sealed hkey hchannel hmac hclock hpayload hcount =
    let under = leb-true _ _ sealed in
    record {
      accepted = o.accepted;
      enciphered = o.passage.enciphered ∙ sealed;
      key = o.passage.key under ∙ hkey;
      nonce = o.passage.nonce under ∙ nonce_is _ n hchannel hmac hclock;
      payload = o.payload ∙ hpayload;
      reported = o.count ∙ hcount;
      as_often = o.runs;
    }

-- of the whole list
module _ (c : Claim example played) where
  handed_clear : (i : ℕ) {channel clock : ℕ} {payload : List ℕ} → ltb i (length (group_lane_at played 0).sent) ≡ true
      → is_sealed (group_sent_at played 0 i) ≡ false → eqb (group_sent_at played 0 i).number 0 ≡ true → (group_sent_at played 0 i).channel ≡ channel
      → (group_sent_at played 0 i).llid ≡ group_llid → eqb (group_nonce example (group_sent_at played 0 i)).clock clock ≡ true
      → ((x : List ℕ) (n : Nonce) → carried (is_sealed (group_sent_at played 0 i)) (key_expansion x) n (group_sent_at played 0 i).payload ≡ payload)
      → eqb (count_carried (is_sealed (group_sent_at played 0 i)) (group_sent_at played 0 i).payload) 0 ≡ true → HandedClear i channel clock payload
  handed_clear i {channel} {clock} some hsealed clear hchannel hllid hclock hpayload hcount =
      let below = ltb-true _ _ some in
      let r = c.group_sent 0 (group_sent_at played 0 i) (mem_at (group_lane_at played 0).sent i _ below) in
      record {
        some = below;
        clear = r.passage.enciphered ∙ hsealed;
        header = r.header ∙ header_is _ 0 _ channel _ group_llid _ clock (eqb-true _ _ clear) hchannel hllid (eqb-true _ _ hclock);
        octets = r.octets ∙ hpayload _ _;
        count = r.count ∙ eqb-true _ _ hcount;
      }

  handed : (i : ℕ) {number : ℕ} {key : List ℕ} {n : Nonce} {payload : List ℕ} {count : ℕ} → ltb i (length (group_lane_at played 0).sent) ≡ true
      → is_sealed (group_sent_at played 0 i) ≡ true → (group_sent_at played 0 i).number ≡ number → (group_sent_at played 0 i).llid ≡ group_llid
      → key_of (group_lane_at played 0).keys (group_sent_at played 0 i).number ≡ key
      → eqb (group_nonce example (group_sent_at played 0 i)).channel n.channel ≡ true
      → eqb (group_nonce example (group_sent_at played 0 i)).mac n.mac ≡ true
      → eqb (group_nonce example (group_sent_at played 0 i)).clock n.clock ≡ true
      → (group_sent_at played 0 i).payload ≡ payload
      → count_carried (is_sealed (group_sent_at played 0 i)) (group_sent_at played 0 i).payload ≡ count
      → Handed i number key n payload count
  handed i {number} {key} {n} {payload} some sealed hnumber hllid hkey hchannel hmac hclock hpayload hcount =
      let below = ltb-true _ _ some in
      let r = c.group_sent 0 (group_sent_at played 0 i) (mem_at (group_lane_at played 0).sent i _ below) in
      let under = leb-true _ _ sealed in
      record {
        some = below;
        enciphered = r.passage.enciphered ∙ sealed;
        key = r.passage.key under ∙ hkey;
        nonce = r.passage.nonce under ∙ nonce_is _ n hchannel hmac hclock;
        header = r.header ∙ header_is _ number _ n.channel _ group_llid _ n.clock hnumber (eqb-true _ _ hchannel) hllid (eqb-true _ _ hclock);
        octets = r.octets ∙ carried_is _ _ key _ n _ payload sealed hkey (nonce_is _ n hchannel hmac hclock) hpayload;
        reported = r.count ∙ hcount;
      }

  passed : (k u : ℕ) {payload : List ℕ} → ltb k (length (group_lane_at played 0).arrived) ≡ true → (arrival_at k).unit ≡ u
      → (arrival_at k).joined ≡ true → eqb (arrival_at k).envelope.number 0 ≡ true → is_sealed (arrival_at k).envelope ≡ false
      → (arrival_at k).envelope.payload ≡ payload
      → count_carried (is_sealed (arrival_at k).envelope) (arrival_at k).envelope.payload ≡ 0
      → Passed k u payload
  passed k u some there member clear hsealed hpayload hcount =
      let below = ltb-true _ _ some in
      let r = c.group_arrived 0 (arrival_at k) (mem_at (group_lane_at played 0).arrived k _ below) in
      let o = r.clear member (eqb-true _ _ clear) in
      record {
        some = below;
        there = there;
        passes =
            record {
              accepted = o.accepted;
              clear = o.passage.enciphered ∙ hsealed;
              payload = o.payload ∙ hpayload;
              count = o.count ∙ (c.group_sent 0 (arrival_at k).envelope r.sent).count ∙ hcount;
            };
      }

  delivered : (k u : ℕ) {key : List ℕ} {n : Nonce} {payload : List ℕ} {count : ℕ} → ltb k (length (group_lane_at played 0).arrived) ≡ true
      → (arrival_at k).unit ≡ u → (arrival_at k).took ≡ true → (arrival_at k).synced ≡ true → is_sealed (arrival_at k).envelope ≡ true
      → key_of (group_lane_at played 0).keys (arrival_at k).envelope.number ≡ key
      → eqb (group_nonce example (arrival_at k).envelope).channel n.channel ≡ true
      → eqb (group_nonce example (arrival_at k).envelope).mac n.mac ≡ true
      → eqb (group_nonce example (arrival_at k).envelope).clock n.clock ≡ true
      → (arrival_at k).envelope.payload ≡ payload
      → count_carried (is_sealed (arrival_at k).envelope) (arrival_at k).envelope.payload ≡ count
      → Delivered k u key n payload count
  delivered k u some there took synced sealed hkey hchannel hmac hclock hpayload hcount =
      let below = ltb-true _ _ some in
      let r = c.group_arrived 0 (arrival_at k) (mem_at (group_lane_at played 0).arrived k _ below) in
      let sent = c.group_sent 0 (arrival_at k).envelope r.sent in
      record {
        some = below;
        there = there;
        opens = opens_as (r.sealed took synced (leb-true _ _ sealed)) sealed hkey hchannel hmac hclock hpayload (sent.count ∙ hcount);
      }

  not_opened : (k u : ℕ) {number : ℕ} → ltb k (length (group_lane_at played 0).arrived) ≡ true → (arrival_at k).unit ≡ u
      → (arrival_at k).joined ≡ true → (arrival_at k).synced ≡ false → is_sealed (arrival_at k).envelope ≡ true → number_of ClockNotSet ≡ number
      → NotOpened k u number
  not_opened k u some there member unsynced sealed hnumber =
      let below = ltb-true _ _ some in
      let r = c.group_arrived 0 (arrival_at k) (mem_at (group_lane_at played 0).arrived k _ below) in
      record { some = below; there = there; refused = r.unsynced member unsynced (leb-true _ _ sealed) ∙ hnumber }

  apart : (x : Sender) (i : ℕ) (y : Sender) (j : ℕ) → ltb i (length (sent_by played x)) ≡ true → ltb j (length (sent_by played y)) ≡ true
      → is_sealed (sent_by_at played x i) ≡ true → is_sealed (sent_by_at played y j) ≡ true → ((x ≡ y) × (i ≡ j) → ⊥) → Apart x i y j
  apart x i y j first second sealed sealed' two =
      record {
        first = ltb-true _ _ first;
        second = ltb-true _ _ second;
        blocks =
            λ a b ha hb key e.
            let one = c.blocks x y i j a b (ltb-true _ _ first) (ltb-true _ _ second) (leb-true _ _ sealed) (leb-true _ _ sealed') key ha hb e in
            two (one.0, one.1.0);
      }

-- what is under way, where it is an envelope
unfoldable pub is_envelope : InFlight → Bool
is_envelope (clock_message m c t) = false
is_envelope (key_message m t) = false
is_envelope (envelope e) = true

unfoldable pub envelope_in : InFlight → Envelope
envelope_in (clock_message m c t) = no_envelope
envelope_in (key_message m t) = no_envelope
envelope_in (envelope e) = e

envelope_in-holds : (x : InFlight) → is_envelope x ≡ true → x ≡ envelope (envelope_in x)
unfolding is_envelope envelope_in
envelope_in-holds (clock_message m c t) h = true_false (sym h)
envelope_in-holds (key_message m t) h = true_false (sym h)
envelope_in-holds (envelope e) h = refl

-- of a state that it comes to
module _ {s : State} (c : Claim example s) where
  -- its jth acknowledgement of the group's keys was that of the key of the envelope that is due
  back_as : (u k j : ℕ) {out key : List ℕ} {n : Nonce} {payload : List ℕ} {count : ℕ} → due_of_group s u 0 k out ≡ true
      → is_envelope (group_in_flight_at s u 0 k) ≡ true → ltb j (length (group_lane_at s 0).answered) ≡ true → (group_answer_at s 0 j).unit ≡ u
      → eqb (group_answer_at s 0 j).answer.number (envelope_in (group_in_flight_at s u 0 k)).number ≡ true
      → is_synced (lane_at (alone s) u) ≡ true → is_sealed (envelope_in (group_in_flight_at s u 0 k)) ≡ true
      → key_of (group_lane_at s 0).keys (envelope_in (group_in_flight_at s u 0 k)).number ≡ key
      → eqb (group_nonce example (envelope_in (group_in_flight_at s u 0 k))).channel n.channel ≡ true
      → eqb (group_nonce example (envelope_in (group_in_flight_at s u 0 k))).mac n.mac ≡ true
      → eqb (group_nonce example (envelope_in (group_in_flight_at s u 0 k))).clock n.clock ≡ true
      → (envelope_in (group_in_flight_at s u 0 k)).payload ≡ payload → (envelope_in (group_in_flight_at s u 0 k)).count ≡ count
      → Back s u k out key n payload count
  unfolding group_receipt
  back_as u k j {out} due some answered who number synced sealed hkey hchannel hmac hclock hpayload hcount =
      let e = envelope_in (group_in_flight_at s u 0 k) in
      let d = due_of_group_true s u 0 k out due in
      let comes = envelope_in-holds (group_in_flight_at s u 0 k) some in
      let a = mem_at (group_lane_at s 0).answered j _ (ltb-true _ _ answered) in
      let o = c.back u 0 k out e (group_answer_at s 0 j) d comes a who (eqb-true _ _ number) synced (leb-true _ _ sealed) in
      record {
        arriving = e;
        due = comes;
        opens = opens_as o sealed hkey hchannel hmac hclock hpayload hcount;
        untouched = c.untouched u 0 k out d;
      }

  unsynced_as : (u k : ℕ) {out : List ℕ} {number : ℕ} → due_of_group s u 0 k out ≡ true → is_envelope (group_in_flight_at s u 0 k) ≡ true
      → is_joined (joined_by s u) (envelope_in (group_in_flight_at s u 0 k)).llid ≡ true → is_synced (lane_at (alone s) u) ≡ false
      → is_sealed (envelope_in (group_in_flight_at s u 0 k)) ≡ true → number_of ClockNotSet ≡ number → Unsynced s u k out number
  unfolding not_received
  unsynced_as u k {out} due some member unsynced sealed hnumber =
      let comes = envelope_in-holds (group_in_flight_at s u 0 k) some in
      let e = c.unsynced u 0 k out _ (due_of_group_true s u 0 k out due) comes member unsynced (leb-true _ _ sealed) in
      record {
        arriving = envelope_in (group_in_flight_at s u 0 k);
        due = comes;
        refused = ap (λ (r : WithOutput SubscriberReceived). r.answer.number) e ∙ hnumber;
        count = ap (λ (r : WithOutput SubscriberReceived). r.answer.count) e;
        runs = ap (λ (r : WithOutput SubscriberReceived). r.answer.runs) e;
        unit = ap (λ (r : WithOutput SubscriberReceived). r.answer.subscriber) e;
        buffer = ap (λ (r : WithOutput SubscriberReceived). r.output) e;
      }

  overheard_as : (u k : ℕ) {out : List ℕ} {number : ℕ} → overhears_group s u 0 k ≡ true
      → is_joined (joined_by s u) (group_sent_at s 0 k).llid ≡ false
      → number_of (overheard_for (misfit (group_sent_at s 0 k).octets out) (group_sent_at s 0 k).direction) ≡ number → Overheard s u k out number
  unfolding not_received
  overheard_as u k {out} hears stranger hnumber =
      let e = (c.overheard_of_group u 0 k out (overhears_group_true s u 0 k hears)).refused stranger in
      record {
        refused = ap (λ (r : WithOutput SubscriberReceived). r.answer.number) e ∙ hnumber;
        count = ap (λ (r : WithOutput SubscriberReceived). r.answer.count) e;
        runs = ap (λ (r : WithOutput SubscriberReceived). r.answer.runs) e;
        unit = ap (λ (r : WithOutput SubscriberReceived). r.answer.subscriber) e;
        buffer = ap (λ (r : WithOutput SubscriberReceived). r.output) e;
      }

  left_as : (u k : ℕ) {out : List ℕ} → overhears_group s u 0 k ≡ true → Left s u k out
  left_as u k {out} hears = record { unit = (c.overheard_of_group u 0 k out (overhears_group_true s u 0 k hears)).left }

shown : Claim example (after to_first_key) → Claim example (after to_return) → Claim example (after to_unsynced) → Claim example (after to_synced)
    → Claim example played → Shown
unfolding opened tested is_envelope envelope_in
shown first before unsynced synced whole =
    record {
      sent_clear = handed_clear whole 0 refl refl refl refl refl refl (λ x n. refl) refl;
      clear_b = passed whole 0 1 refl refl refl refl refl refl refl;
      clear_a = passed whole 1 0 refl refl refl refl refl refl refl;
      sent1 = handed whole 1 refl refl refl refl refl refl refl refl refl refl;
      down_b1 = delivered whole 2 1 refl refl refl refl refl refl refl refl refl refl refl;
      down_a1 = delivered whole 3 0 refl refl refl refl refl refl refl refl refl refl refl;
      sent2 = handed whole 2 refl refl refl refl refl refl refl refl refl refl;
      down_a2 = delivered whole 5 0 refl refl refl refl refl refl refl refl refl refl refl;
      lost2 = handed whole 3 refl refl refl refl refl refl refl refl refl refl;
      sent3 = handed whole 4 refl refl refl refl refl refl refl refl refl refl;
      down_b3 = delivered whole 6 1 refl refl refl refl refl refl refl refl refl refl refl;
      down_a3 = delivered whole 7 0 refl refl refl refl refl refl refl refl refl refl refl;
      back = back_as before 1 1 4 {out = blank} refl refl refl refl refl refl refl refl refl refl refl refl refl;
      unsynced = unsynced_as unsynced 1 0 {out = blank} refl refl refl refl refl refl;
      not_opened_b3 = not_opened whole 8 1 refl refl refl refl refl refl;
      on_a3 = delivered whole 9 0 refl refl refl refl refl refl refl refl refl refl refl;
      again_b3 = delivered whole 10 1 refl refl refl refl refl refl refl refl refl refl refl;
      back_synced = back_as synced 1 0 7 {out = blank} refl refl refl refl refl refl refl refl refl refl refl refl refl;
      down_b4 = delivered whole 11 1 refl refl refl refl refl refl refl refl refl refl refl;
      down_a4 = delivered whole 12 0 refl refl refl refl refl refl refl refl refl refl refl;
      apart_ticks = apart whole (group 0) 2 (group 0) 3 refl refl refl refl (λ one. omega (arith, one.1));
      apart_lines = apart whole (group 0) 1 (unit 0) 0 refl refl refl refl (λ one. true_false cc);
      agreed =
          agreed whole.units 0 1 refl refl refl refl refl (numbered whole.units 0 0 1 downward refl refl refl)
          (numbered whole.units 0 1 1 upward refl refl refl);
      overheard = overheard_as first 2 1 refl refl refl;
      left = left_as whole 2 0 refl;
    }

---- the starts of the list

synced_meets : Meets example (start example) to_synced
synced_meets = meets_start example (start example) to_synced _ example_meets

pub unsynced_meets : Meets example (start example) to_unsynced
unsynced_meets = meets_start example (start example) to_unsynced _ synced_meets

return_meets : Meets example (start example) to_return
return_meets = meets_start example (start example) to_return _ unsynced_meets

pub missed_meets : Meets example (start example) to_missed
missed_meets = meets_start example (start example) to_missed _ return_meets

first_meets : Meets example (start example) to_first_key
first_meets = meets_start example (start example) to_first_key _ missed_meets

---- the whole

pub demand : Demand
demand =
    record {
      theorem = line_holds;
      as_before = without_groups;
      unchanged = unchanged;
      fresh = example_fresh;
      meets = example_meets;
      course = course;
      shown =
          shown (line_holds example to_first_key example_fresh first_meets) (line_holds example to_return example_fresh return_meets)
          (line_holds example to_unsynced example_fresh unsynced_meets) (line_holds example to_synced example_fresh synced_meets)
          (line_holds example events example_fresh example_meets);
    }
