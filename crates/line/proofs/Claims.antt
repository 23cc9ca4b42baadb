-- The claim follows from the invariant. Assumes nothing.
use mathlib.Core.Path.{◌≡◌, refl, sym, ◌∙◌, ap, subst}
use mathlib.Core.Bool.{Bool, true, false}
use mathlib.Core.List.{List, [], Memᴰ}
use Prim.Native.Nat.{ℕ, ◌+◌, ◌-◌, ◌<◌, ◌≤◌, ◌^◌}
use native.Mathlib.Nat.{mod-lt}
use native.Mathlib.Omega.{arith}
use lib.Dec.{ltb}
use lib.ListN.{length, get_or}
use borrow.Author.Tests.{ltb-true, ltb-false}
use Rattle.octets.proofs.Members.{mem_at, none_in}
use Rattle.clock.proofs.Ticks.{clocks_differ}
use Rattle.envelope.specs.CounterBlock.{counter_block}
use Rattle.envelope.proofs.CounterBlock.{counter_block_injective}
use Rattle.protocol.specs.declared.Passage.{Passage}
use Rattle.unicast.specs.Setting.{Site, Setting, clock_down}
use Rattle.unicast.specs.History.{downward, Envelope, envelope, is_synced}
use Rattle.unicast.specs.Run.{lane_at, sent_at, no_site, no_envelope}
use Rattle.unicast.specs.Claim.{nonce_for, index_turn, PassageRight, SentRight, ArrivedRight}
use Rattle.unicast.proofs.Alive.{sent_alive}
use Rattle.unicast.proofs.Claims as units
use Rattle.unicast.proofs.Claims.{olt_mac_below, offer_below}
use Rattle.line.specs.History.{GroupAnswered, GroupArrival, GroupLane, has_taken}
use Rattle.line.specs.Run.{State, alone, joined_by, group_lane_at, no_group_lane, group_sent_at, group_in_flight_at, group_receipt}
use Rattle.line.specs.Claim.{group_nonce, GroupPassageRight, GroupSentRight, GroupOpened, GroupArrivedRight, unit, group, BlocksApart, Claim}
use Rattle.line.specs.Premises.{DueOfGroup}
use Rattle.line.proofs.AnswerSteps.{known_line}
use Rattle.line.proofs.GroupArrivalSteps.{arrive_group_untouched}
use Rattle.line.proofs.GroupEnvelopeSteps.{send, arrived_right, unsynced_refused}
use Rattle.line.proofs.Invariant.{lane_of, arrival_in, Invariant}
use Rattle.line.proofs.OverheardSteps.{unit_overheard, group_overheard}

---- what was sent, and what arrived

nonce_is : (w : Setting) (s : Site) (e : Envelope) → e.direction ≡ downward → nonce_for w s e ≡ group_nonce w e
nonce_is w s e d = rw d

passage_claim : (w : Setting) (g : GroupLane) (e : Envelope) (channel : ℕ) (q : Passage) → e.direction ≡ downward
    → PassageRight w (lane_of g) e channel q
    → GroupPassageRight w g e channel q
passage_claim w g e channel q d r =
    record { enciphered = r.enciphered; key = r.key; nonce = λ h. r.nonce h ∙ nonce_is w no_site e d }

sent_claim : (w : Setting) (g : GroupLane) (e : Envelope) → e.direction ≡ downward → SentRight w (lane_of g) e → GroupSentRight w g e
sent_claim w g e d r =
    record {
      passage = passage_claim w g e e.channel e.passage d r.passage;
      header = rw d at r.header;
      octets = rw (nonce_is w no_site e d) at r.octets;
      count = r.count;
      runs = r.runs;
    }

opened_claim : (w : Setting) (g : GroupLane) (r : GroupArrival) → r.envelope.direction ≡ downward → ArrivedRight w (lane_of g) (arrival_in r)
    → GroupOpened w g r
opened_claim w g r d a =
    record {
      accepted = a.accepted;
      passage = passage_claim w g r.envelope r.envelope.header.channel r.passage d a.passage;
      payload = a.payload;
      count = a.count;
      runs = a.runs;
    }

module _ (w : Setting) (s : State) (i : Invariant w s) where
  -- a group to which something has happened is registered
  known_by : {A : Type 0} (part : GroupLane → List A) (g : ℕ) (x : A) → (part no_group_lane ≡ []) → Memᴰ x (part (group_lane_at s g))
      → g < length s.history.groups
  known_by part g x none m = known_line s g (λ e. none_in (part (group_lane_at s g)) x (ap part e ∙ none) m)

  sent_known : (g : ℕ) (e : Envelope) → Memᴰ e (group_lane_at s g).sent → g < length s.history.groups
  unfolding no_group_lane
  sent_known g e m = known_by (λ (y : GroupLane). y.sent) g e refl m

  arrived_known : (g : ℕ) (r : GroupArrival) → Memᴰ r (group_lane_at s g).arrived → g < length s.history.groups
  unfolding no_group_lane
  arrived_known g r m = known_by (λ (y : GroupLane). y.arrived) g r refl m

  answered_known : (g : ℕ) (a : GroupAnswered) → Memᴰ a (group_lane_at s g).answered → g < length s.history.groups
  unfolding no_group_lane
  answered_known g a m = known_by (λ (y : GroupLane). y.answered) g a refl m

  group_sent-holds : (g : ℕ) (e : Envelope) → Memᴰ e (group_lane_at s g).sent → GroupSentRight w (group_lane_at s g) e
  group_sent-holds g e m = let q = (i.group g (sent_known g e m)).sends e m in sent_claim w (group_lane_at s g) e q.direction q.right

  group_arrived-holds : (g : ℕ) (r : GroupArrival) → Memᴰ r (group_lane_at s g).arrived → GroupArrivedRight w (group_lane_at s g) r
  group_arrived-holds g r m =
      let j = i.group g (arrived_known g r m) in
      let a = j.arrived r m in
      let direction = (j.sends r.envelope a.sent).direction in
      record {
        sent = a.sent;
        clear = λ p q. opened_claim w (group_lane_at s g) r direction (a.clear p q);
        sealed = λ p t q. opened_claim w (group_lane_at s g) r direction (a.sealed p t q);
        unsynced = a.unsynced;
      }

  ---- counter blocks

  at_sent : (g k : ℕ) → k < length (group_lane_at s g).sent → Memᴰ (group_sent_at s g k) (group_lane_at s g).sent
  at_sent g k h = mem_at (group_lane_at s g).sent k no_envelope h

  -- a sealed envelope's number is that of an offer
  group_offer_below : (g k : ℕ) → k < length (group_lane_at s g).sent → 1 ≤ (group_sent_at s g k).number
      → (group_sent_at s g k).number - 1 < length (group_lane_at s g).keys.offers
  group_offer_below g k h sealed =
      let m = at_sent g k h in
      let j = i.group g (sent_known g (group_sent_at s g k) m) in
      omega (arith, sealed, (j.sends (group_sent_at s g k) m).spent.most, j.mid, j.listed)

  -- of two sends under one key, the later has another channel index or clock
  later_differs : (g a b : ℕ) → a < b → b < length (group_lane_at s g).sent → 1 ≤ (group_sent_at s g a).number
      → (group_sent_at s g a).number ≡ (group_sent_at s g b).number → (group_sent_at s g a).channel ≡ (group_sent_at s g b).channel
      → clock_down w.first (group_sent_at s g a).left ≡ clock_down w.first (group_sent_at s g b).left → ⊥
  later_differs g a b before below sealed number channel clock =
      let x = group_sent_at s g a in
      let y = group_sent_at s g b in
      let here = at_sent g b below in
      let j = i.group g (sent_known g y here) in
      let first = (j.sends x (at_sent g a (omega (arith, before, below)))).direction in
      let t = j.spaced.down a b before below first (j.sends y here).direction sealed number channel in
      clocks_differ w.first x.left x.left y.left (omega arith) t.0 t.1 clock

  one_send : (g m n a b : ℕ) → m < length (group_lane_at s g).sent → n < length (group_lane_at s g).sent → 1 ≤ (group_sent_at s g m).number
      → (group_sent_at s g m).number ≡ (group_sent_at s g n).number → a < index_turn → b < index_turn
      → counter_block (group_nonce w (group_sent_at s g m)) a ≡ counter_block (group_nonce w (group_sent_at s g n)) b → (m ≡ n) × (a ≡ b)
  one_send g m n a b hm hn sealed number ha hb e = (by (ltb m n) (ltb n m) refl refl, fields.3) where
    below : w.mac < 2 ^ 48
    below = olt_mac_below w (alone s) i.units

    clocks : (t : ℕ) → clock_down w.first t < 2 ^ 48
    clocks t = mod-lt (w.first + t) (omega arith)

    fields : ((group_sent_at s g m).channel ≡ (group_sent_at s g n).channel)
        × (w.mac ≡ w.mac)
        × (clock_down w.first (group_sent_at s g m).left ≡ clock_down w.first (group_sent_at s g n).left)
        × (a ≡ b)
    fields =
        counter_block_injective (group_nonce w (group_sent_at s g m)) (group_nonce w (group_sent_at s g n)) a b below below
        (clocks (group_sent_at s g m).left) (clocks (group_sent_at s g n).left) ha hb e

    by : (x y : Bool) → ltb m n ≡ x → ltb n m ≡ y → m ≡ n
    by true y p q = absurd (later_differs g m n (ltb-true m n p) hn sealed number fields.0 fields.2)
    by false true p q =
        absurd (later_differs g n m (ltb-true n m q) hm (omega (arith, sealed, number)) (sym number) (sym fields.0) (sym fields.2))
    by false false p q = omega (arith, ltb-false m n p, ltb-false n m q)

  group_blocks : (g h m n a b : ℕ) → m < length (group_lane_at s g).sent → n < length (group_lane_at s h).sent
      → 1 ≤ (group_sent_at s g m).number → 1 ≤ (group_sent_at s h n).number
      → get_or (group_lane_at s g).keys.offers ((group_sent_at s g m).number - 1) []
      ≡ get_or (group_lane_at s h).keys.offers ((group_sent_at s h n).number - 1) []
      → a < index_turn → b < index_turn
      → counter_block (group_nonce w (group_sent_at s g m)) a ≡ counter_block (group_nonce w (group_sent_at s h n)) b
      → (group g ≡ group h) × ((m ≡ n) × (a ≡ b))
  group_blocks g h m n a b hm hn pm pn key ha hb e =
      let q = i.keys g h ((group_sent_at s g m).number - 1) ((group_sent_at s h n).number - 1) (group_offer_below g m hm pm)
      (group_offer_below h n hn pn) key in
      let number : (group_sent_at s g m).number ≡ (group_sent_at s h n).number = omega (arith, pm, pn, q.1) in (
        ap group q.0,
        subst (λ (z : ℕ). n < length (group_lane_at s z).sent → (group_sent_at s g m).number ≡ (group_sent_at s z n).number
            → counter_block (group_nonce w (group_sent_at s g m)) a ≡ counter_block (group_nonce w (group_sent_at s z n)) b → (m ≡ n) × (a ≡ b))
            q.0 (λ k same f. one_send g m n a b hm k pm same ha hb f) hn number e,
      )

  mixed_blocks : {P : Type 0} (u g m n : ℕ) → m < length (lane_at (alone s) u).past.sent → n < length (group_lane_at s g).sent
      → 1 ≤ (sent_at (alone s) u m).number → 1 ≤ (group_sent_at s g n).number
      → get_or (lane_at (alone s) u).keys.offers ((sent_at (alone s) u m).number - 1) []
      ≡ get_or (group_lane_at s g).keys.offers ((group_sent_at s g n).number - 1) [] → P
  mixed_blocks u g m n hm hn pm pn key =
      let x = sent_alive w (alone s) u i.units (sent_at (alone s) u m) (mem_at _ m no_envelope hm) in
      absurd
      (i.mixed u g ((sent_at (alone s) u m).number - 1) ((group_sent_at s g n).number - 1) (offer_below w (alone s) u m x hm pm)
      (group_offer_below g n hn pn) key)

  blocks_apart : BlocksApart w s
  blocks_apart (unit u) (unit v) m n a b hm hn pm pn key ha hb e =
      let q = (units.claim_holds w (alone s) i.units).blocks u v m n a b hm hn pm pn key ha hb e in
      (ap unit q.0, q.1)
  blocks_apart (unit u) (group g) m n a b hm hn pm pn key ha hb e = mixed_blocks u g m n hm hn pm pn key
  blocks_apart (group g) (unit v) m n a b hm hn pm pn key ha hb e = mixed_blocks v g n m hn hm pn pm (sym key)
  blocks_apart (group g) (group h) m n a b hm hn pm pn key ha hb e = group_blocks g h m n a b hm hn pm pn key ha hb e

  -- an envelope under a key that the unit acknowledged
  back : (u g k : ℕ) (out : List ℕ) (e : Envelope) (a : GroupAnswered) → DueOfGroup s u g k out → group_in_flight_at s u g k ≡ envelope e
      → Memᴰ a (group_lane_at s g).answered → a.unit ≡ u → a.answer.number ≡ e.number → is_synced (lane_at (alone s) u) ≡ true
      → 1 ≤ e.number → GroupOpened w (group_lane_at s g) (group_receipt s u e out)
  unfolding group_receipt
  back u g k out e a d is m who number synced sealed =
      let q = send w s u g k out i d e is in
      let took : has_taken (joined_by s u) e.llid e.number ≡ true =
      rw (who, number, ← q.llid) at (i.answered g a (answered_known g a m) m) in
      opened_claim w (group_lane_at s g) (group_receipt s u e out) q.direction ((arrived_right w s u g k out i d e is).sealed took synced sealed)

  pub claim_holds : Claim w s
  claim_holds =
      record {
        units = units.claim_holds w (alone s) i.units;
        blocks = blocks_apart;
        overheard = λ u v k out h. unit_overheard w s i u v k out h;
        overheard_of_group = λ u g k out h. group_overheard w s i u g k out h;
        group_sent = group_sent-holds;
        group_arrived = group_arrived-holds;
        answered = λ g a m. i.answered g a (answered_known g a m) m;
        unsynced = λ u g k out e d is joined down some. unsynced_refused w s u g k out i d e is joined down some;
        back = back;
        untouched = arrive_group_untouched w s i;
      }
