-- The list of Example meets the premises, by a test that computes, and what the theorem says of it. Assumes nothing.
use mathlib.Core.Path.{◌≡◌, refl, sym, ◌∙◌, ap}
use mathlib.Core.Bool.{Bool, true, false}
use mathlib.Core.List.{List}
use Prim.Native.Nat.{ℕ}
use native.Mathlib.Omega.{arith}
use lib.Dec.{eqb, leb, ltb}
use lib.ListN.{length}
use borrow.Author.Tests.{ltb-true, leb-true, eqb-true, eqb-false}
use Rattle.octets.proofs.Members.{mem_at}
use Rattle.octets.specs.Output.{WithOutput}
use Rattle.refusal.specs.Number.{number_of}
use Rattle.envelope.specs.declared.Nonce.{Nonce}
use Rattle.cipher.specs.KeyExpansion.{key_expansion}
use Rattle.sealing.specs.Seal.{carried, count_carried}
use Rattle.protocol.specs.Headers.{envelope_header}
use Rattle.ends.specs.declared.Identity.{Identity}
use Rattle.traffic.specs.Passages.{misfit}
use Rattle.traffic.specs.Receipts.{onu_not_received}
use Rattle.traffic.specs.declared.OnuReceived.{OnuReceived}
use Rattle.unicast.specs.Setting.{Setting}
use Rattle.unicast.specs.History.{Direction, downward, upward, key_of}
use Rattle.unicast.specs.Run.{State, lane_at, start, sent_at}
use Rattle.unicast.specs.Premises.{Fresh, Meets}
use Rattle.unicast.specs.Claim.{is_sealed, nonce_for, ArrivedNumbered, overheard_for, Claim}
use Rattle.unicast.specs.Example.{example, short, strangers, first_unit, refused_calls, refused_envelopes, overheard, changed_path_b, first_key_c, last_sends, full_table, last_tick, to_first_key, to_second_key, events}
use Rattle.unicast.specs.Course.{after, played, arrival_number, call_number, refusals, Course}
use Rattle.unicast.specs.Demand.{arrival_at, nonce, HandedClear, Handed, Passed, Delivered, Apart, Counted, Agreed, Overheard, Shown, Demand}
use Rattle.unicast.proofs.Opened.{opened}
use Rattle.unicast.proofs.Tested.{tested, fresh_true, meets, meets_true, meets_start}
use Rattle.unicast.proofs.Theorem.{line_holds}
use Rattle.unicast.proofs.Unchanged.{unchanged}

-- what the list computes with
unfoldable pub listed : Unit {0}
unfolding opened short strangers first_unit refused_calls refused_envelopes overheard changed_path_b first_key_c last_sends full_table last_tick
listed = tt

---- the premises

pub example_fresh : Fresh example
unfolding listed tested
example_fresh = fresh_true example refl

example_passes : meets example (start example) events ≡ true
unfolding listed tested
example_passes = refl

example_meets : Meets example (start example) events
example_meets = meets_true example (start example) events example_passes

pub nonce_is : (m n : Nonce) → eqb m.channel n.channel ≡ true → eqb m.mac n.mac ≡ true → eqb m.clock n.clock ≡ true → m ≡ n
nonce_is m n a b c = fields n.channel n.mac n.clock (eqb-true _ _ a) (eqb-true _ _ b) (eqb-true _ _ c) where
  fields : (channel mac clock : ℕ) → m.channel ≡ channel → m.mac ≡ mac → m.clock ≡ clock → m ≡ nonce channel mac clock
  fields channel mac clock a b c = rw (sym a, sym b, sym c) refl

course : Course
unfolding listed arrival_number call_number refusals
course =
    record {
      registered = refl;
      since = refl;
      refused = refl;
      sent_a = refl;
      arrived_a = refl;
      sent_b = refl;
      arrived_b = refl;
      sent_c = refl;
      arrived_c = refl;
      same_blocks = nonce_is _ _ refl refl refl;
      ended = eqb-true _ _ refl;
    }

---- what the theorem says of it: the history alone is computed

pub header_is : (n n' channel channel' llid llid' clock clock' : ℕ) → n ≡ n' → channel ≡ channel' → llid ≡ llid' → clock ≡ clock'
    → envelope_header n channel llid clock ≡ envelope_header n' channel' llid' clock'
header_is n n' channel channel' llid llid' clock clock' a b c d = rw (a, b, c, d) refl

pub carried_is : (t : Bool) (k k' : List ℕ) (n n' : Nonce) (p p' : List ℕ) → t ≡ true → k ≡ k' → n ≡ n' → p ≡ p'
    → carried t (key_expansion k) n p ≡ carried true (key_expansion k') n' p'
carried_is t k k' n n' p p' a b c d = rw (a, b, c, d) refl

-- of the whole list
module _ (c : Claim example played) where
  handed_clear : (u i : ℕ) {llid channel clock : ℕ} {payload : List ℕ} → let x = sent_at played u i in
      ltb i (length (lane_at played u).past.sent) ≡ true → is_sealed x ≡ false → eqb x.number 0 ≡ true → x.channel ≡ channel → x.llid ≡ llid
      → eqb (nonce_for example (lane_at played u).site x).clock clock ≡ true
      → ((k : List ℕ) (n : Nonce) → carried (is_sealed x) (key_expansion k) n x.payload ≡ payload)
      → eqb (count_carried (is_sealed x) x.payload) 0 ≡ true → HandedClear u i llid channel clock payload
  handed_clear u i {llid} {channel} {clock} some hsealed clear hchannel hllid hclock hpayload hcount =
      let below = ltb-true _ _ some in
      let r = c.sent u (sent_at played u i) (mem_at (lane_at played u).past.sent i _ below) in
      record {
        some = below;
        clear = r.passage.enciphered ∙ hsealed;
        header = r.header ∙ header_is _ 0 _ channel _ llid _ clock (eqb-true _ _ clear) hchannel hllid (eqb-true _ _ hclock);
        octets = r.octets ∙ hpayload _ _;
        count = r.count ∙ eqb-true _ _ hcount;
      }

  handed : (u i : ℕ) {number llid : ℕ} {key : List ℕ} {n : Nonce} {payload : List ℕ} {count : ℕ} → let x = sent_at played u i in
      let m = nonce_for example (lane_at played u).site x in
      ltb i (length (lane_at played u).past.sent) ≡ true → is_sealed x ≡ true → x.number ≡ number → x.llid ≡ llid
      → key_of (lane_at played u).keys x.number ≡ key → eqb m.channel n.channel ≡ true → eqb m.mac n.mac ≡ true
      → eqb m.clock n.clock ≡ true → x.payload ≡ payload → count_carried (is_sealed x) x.payload ≡ count
      → Handed u i number llid key n payload count
  handed u i {number} {llid} {key} {n} {payload} some sealed hnumber hllid hkey hchannel hmac hclock hpayload hcount =
      let below = ltb-true _ _ some in
      let r = c.sent u (sent_at played u i) (mem_at (lane_at played u).past.sent i _ below) in
      let under = leb-true _ _ sealed in
      record {
        some = below;
        enciphered = r.passage.enciphered ∙ sealed;
        key = r.passage.key under ∙ hkey;
        nonce = r.passage.nonce under ∙ nonce_is _ n hchannel hmac hclock;
        header =
            r.header ∙ header_is _ number _ n.channel _ llid _ n.clock hnumber (eqb-true _ _ hchannel) hllid (eqb-true _ _ hclock);
        octets = r.octets ∙ carried_is _ _ key _ n _ payload sealed hkey (nonce_is _ n hchannel hmac hclock) hpayload;
        reported = r.count ∙ hcount;
      }

  passed : (u k : ℕ) {payload : List ℕ} → let x = (arrival_at played u k).envelope in
      ltb k (length (lane_at played u).past.arrived) ≡ true → is_sealed x ≡ false → x.payload ≡ payload
      → count_carried (is_sealed x) x.payload ≡ 0 → Passed u k payload
  passed u k some clear hpayload hcount =
      let below = ltb-true _ _ some in
      let r = c.arrived u (arrival_at played u k) (mem_at (lane_at played u).past.arrived k _ below) in
      record {
        some = below;
        accepted = r.accepted;
        clear = r.passage.enciphered ∙ clear;
        payload = r.payload ∙ hpayload;
        count = r.count ∙ (c.sent u (arrival_at played u k).envelope r.sent).count ∙ hcount;
      }

  delivered : (u k : ℕ) {key : List ℕ} {n : Nonce} {payload : List ℕ} {count : ℕ} → let x = (arrival_at played u k).envelope in
      let m = nonce_for example (lane_at played u).site x in
      ltb k (length (lane_at played u).past.arrived) ≡ true → is_sealed x ≡ true → key_of (lane_at played u).keys x.number ≡ key
      → eqb m.channel n.channel ≡ true → eqb m.mac n.mac ≡ true → eqb m.clock n.clock ≡ true → x.payload ≡ payload
      → count_carried (is_sealed x) x.payload ≡ count → Delivered u k key n payload count
  delivered u k {n = n} some sealed hkey hchannel hmac hclock hpayload hcount =
      let below = ltb-true _ _ some in
      let r = c.arrived u (arrival_at played u k) (mem_at (lane_at played u).past.arrived k _ below) in
      let number = leb-true _ _ sealed in
      record {
        some = below;
        accepted = r.accepted;
        enciphered = r.passage.enciphered ∙ sealed;
        key = r.passage.key number ∙ hkey;
        nonce = r.passage.nonce number ∙ nonce_is _ n hchannel hmac hclock;
        payload = r.payload ∙ hpayload;
        reported = r.count ∙ (c.sent u (arrival_at played u k).envelope r.sent).count ∙ hcount;
        as_often = r.runs;
      }

  apart : (u i v j : ℕ) → ltb i (length (lane_at played u).past.sent) ≡ true → ltb j (length (lane_at played v).past.sent) ≡ true
      → is_sealed (sent_at played u i) ≡ true → is_sealed (sent_at played v j) ≡ true → ((u ≡ v) × (i ≡ j) → ⊥) → Apart u i v j
  apart u i v j first second sealed sealed' two =
      record {
        first = ltb-true _ _ first;
        second = ltb-true _ _ second;
        blocks =
            λ a b ha hb key e.
            let one = c.blocks u v i j a b (ltb-true _ _ first) (ltb-true _ _ second) (leb-true _ _ sealed) (leb-true _ _ sealed') key ha hb e in
            two (one.0, one.1.0);
      }

  counted : (u i : ℕ) → ltb i (length (lane_at played u).past.sent) ≡ true → is_sealed (sent_at played u i) ≡ true → Counted u i
  counted u i some sealed =
      let below = ltb-true _ _ some in
      let under = leb-true _ _ sealed in
      record { some = below; blocks = λ a b ha hb e. (c.blocks u u i i a b below below under under refl ha hb e).1.1 }

-- of a state that it comes to
module _ {w : Setting} {s : State} (c : Claim w s) where
  pub numbered : (u k n : ℕ) (direction : Direction) → ltb k (length (lane_at s u).past.arrived) ≡ true
      → (arrival_at s u k).envelope.direction ≡ direction
      → (arrival_at s u k).envelope.number ≡ n → ArrivedNumbered (lane_at s u) direction n
  numbered u k n direction some that_way number =
      record {
        arrival = arrival_at s u k;
        among = mem_at (lane_at s u).past.arrived k _ (ltb-true _ _ some);
        that_way = that_way;
        numbered = number;
      }

  pub agreed : (u n : ℕ) {place : ℕ} {key : List ℕ} {i : Identity} → leb 1 n ≡ true → (lane_at s u).site.identity ≡ i
      → (lane_at s u).entry.place ≡ place → (lane_at s u).keys.switches ≡ n
      → key_of (lane_at s u).keys n ≡ key → ArrivedNumbered (lane_at s u) downward n → ArrivedNumbered (lane_at s u) upward n
      → Agreed s u place n key i
  agreed u n {i = i} some who at switches hkey down up =
      let h = c.held u n (leb-true _ _ some) switches down up in
      rw (sym at) (search (h.llids, h.olt_key, h.onu_key, who, hkey))

  overheard_as : (u v k : ℕ) {out : List ℕ} {number : ℕ} → (lane_at s u).entry.registered ≡ true → eqb u v ≡ false
      → ltb k (length (lane_at s v).past.sent) ≡ true
      → number_of (overheard_for (misfit (sent_at s v k).octets out) (sent_at s v k).direction) ≡ number
      → Overheard s u v k out number
  unfolding onu_not_received
  overheard_as u v k {out} registered other some hnumber =
      let e = c.overheard u v k out (record { registered = registered; apart = eqb-false u v other; some = ltb-true _ _ some }) in
      record {
        refused = ap (λ (r : WithOutput OnuReceived). r.answer.number) e ∙ hnumber;
        count = ap (λ (r : WithOutput OnuReceived). r.answer.count) e;
        runs = ap (λ (r : WithOutput OnuReceived). r.answer.runs) e;
        unit = ap (λ (r : WithOutput OnuReceived). r.answer.onu) e;
        buffer = ap (λ (r : WithOutput OnuReceived). r.output) e;
      }

shown : Claim example (after to_first_key) → Claim example (after to_second_key) → Claim example played → Shown
unfolding listed
shown first second whole =
    record {
      sent_down = handed_clear whole 0 0 refl refl refl refl refl refl (λ x n. refl) refl;
      sent_up = handed_clear whole 0 1 refl refl refl refl refl refl (λ x n. refl) refl;
      clear_down = passed whole 0 0 refl refl refl refl;
      clear_up = passed whole 0 1 refl refl refl refl;
      lost_down = handed whole 0 2 refl refl refl refl refl refl refl refl refl refl;
      lost_up = handed whole 0 4 refl refl refl refl refl refl refl refl refl refl;
      down_a1 = delivered whole 0 2 refl refl refl refl refl refl refl refl;
      up_a1 = delivered whole 0 3 refl refl refl refl refl refl refl refl;
      down_a2 = delivered whole 0 4 refl refl refl refl refl refl refl refl;
      up_a2 = delivered whole 0 5 refl refl refl refl refl refl refl refl;
      empty_a2 = handed whole 0 8 refl refl refl refl refl refl refl refl refl refl;
      last_down_a2 = delivered whole 0 6 refl refl refl refl refl refl refl refl;
      last_up_a2 = delivered whole 0 7 refl refl refl refl refl refl refl refl;
      down_b1 = delivered whole 1 0 refl refl refl refl refl refl refl refl;
      up_b1 = delivered whole 1 1 refl refl refl refl refl refl refl refl;
      down_b2 = delivered whole 1 2 refl refl refl refl refl refl refl refl;
      up_b2 = delivered whole 1 3 refl refl refl refl refl refl refl refl;
      lost_b2 = handed whole 1 4 refl refl refl refl refl refl refl refl refl refl;
      again_b2 = delivered whole 1 4 refl refl refl refl refl refl refl refl;
      other_b2 = delivered whole 1 5 refl refl refl refl refl refl refl refl;
      down_b3 = delivered whole 1 6 refl refl refl refl refl refl refl refl;
      up_b3 = delivered whole 1 7 refl refl refl refl refl refl refl refl;
      clear_c = passed whole 2 0 refl refl refl refl;
      down_c1 = delivered whole 2 1 refl refl refl refl refl refl refl refl;
      up_c1 = delivered whole 2 2 refl refl refl refl refl refl refl refl;
      again_c1 = delivered whole 2 3 refl refl refl refl refl refl refl refl;
      apart_down = apart whole 0 2 0 3 refl refl refl refl (λ one. omega (arith, one.1));
      apart_up = apart whole 0 7 0 9 refl refl refl refl (λ one. omega (arith, one.1));
      apart_ways = apart whole 0 6 0 7 refl refl refl refl (λ one. omega (arith, one.1));
      apart_paths = apart whole 1 4 1 5 refl refl refl refl (λ one. omega (arith, one.1));
      counted_up = counted whole 0 7 refl refl;
      apart_units = apart whole 0 6 2 3 refl refl refl refl (λ one. omega (arith, one.0));
      agreed_a1 =
          agreed first 0 1 refl refl refl refl refl (numbered first 0 2 1 downward refl refl refl) (numbered first 0 3 1 upward refl refl refl);
      agreed_a2 =
          agreed second 0 2 refl refl refl refl refl (numbered second 0 4 2 downward refl refl refl) (numbered second 0 5 2 upward refl refl refl);
      agreed_b1 =
          agreed second 1 1 refl refl refl refl refl (numbered second 1 0 1 downward refl refl refl) (numbered second 1 1 1 upward refl refl refl);
      agreed_b3 =
          agreed whole 1 3 refl refl refl refl refl (numbered whole 1 6 3 downward refl refl refl) (numbered whole 1 7 3 upward refl refl refl);
      agreed_c1 =
          agreed whole 2 1 refl refl refl refl refl (numbered whole 2 1 1 downward refl refl refl) (numbered whole 2 2 1 upward refl refl refl);
      overheard_down = overheard_as second 1 0 6 refl refl refl refl;
      overheard_up = overheard_as second 0 1 1 refl refl refl refl;
      overheard_short = overheard_as second 1 0 2 refl refl refl refl;
      overheard_unsynced = overheard_as second 2 1 0 refl refl refl refl;
    }

---- the whole

second_meets : Meets example (start example) to_second_key
second_meets = meets_start example (start example) to_second_key _ example_meets

first_meets : Meets example (start example) to_first_key
first_meets = meets_start example (start example) to_first_key _ second_meets

pub demand : Demand
demand =
    record {
      holds = line_holds;
      unchanged = unchanged;
      fresh = example_fresh;
      meets = example_meets;
      course = course;
      shown =
          shown (line_holds example to_first_key example_fresh first_meets) (line_holds example to_second_key example_fresh second_meets)
          (line_holds example events example_fresh example_meets);
    }
