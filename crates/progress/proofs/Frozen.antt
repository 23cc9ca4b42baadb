-- A frozen line: what of it counts, and what the calls on it return. Assumes nothing.
use Rattle.std.specs.Prelude.{Err, Option, Some}
use mathlib.Core.Path.{◌≡◌, refl, sym, ◌∙◌, ap}
use mathlib.Core.Bool.{Bool, true, false, not}
use mathlib.Core.List.{List, Memᴰ}
use mathlib.Core.Logic.{⊎_elim}
use Prim.Native.Nat.{ℕ, ◌+◌, ◌≤◌}
use native.Mathlib.Omega.{arith}
use lib.ListN.{set}
use borrow.Author.Tests.{eq-eqb, ne_eqb, le-leb, lt-ltb}
use Rattle.octets.specs.Choice.{both}
use Rattle.octets.proofs.Choice.{true_false, both_true, both_false_left, both_false_right, either_right, not_of_true, pick_false}
use Rattle.refusal.specs.Number.{verdict_number}
use Rattle.refusal.specs.Order.{refuse_if}
use Rattle.refusal.specs.declared.Refusal.TheVariants.{OutOfRange, UnknownLlid, ClockNotSet, OfferPending, NothingOutstanding, ChannelTaken, KeyTooOld, BadLength}
use Rattle.refusal.proofs.Order.{refuse_accepted, refuse_passed, refuse_stopped, refused_accepts}
use Rattle.refusal.proofs.Numbers.{number_accepted}
use Rattle.clock.specs.Ticks.{key_life}
use Rattle.envelope.specs.Channels.{downstream, upstream}
use Rattle.envelope.specs.ControlMask.{eqs_of}
use Rattle.ends.specs.Flags.{is_up}
use Rattle.ends.specs.Identities.{has}
use Rattle.ends.specs.Keys.{aged}
use Rattle.ends.specs.Occupancy.{taken}
use Rattle.ends.specs.Table.{find, is_registered, unit_at, unit_found, unit_named}
use Rattle.ends.specs.Travels.{travel_of}
use Rattle.ends.specs.Validity.{valid_olt}
use Rattle.ends.specs.declared.FirstSend.{FirstSend}
use Rattle.ends.specs.declared.Olt.{Olt}
use Rattle.ends.specs.declared.OnuKeys.{OnuKeys}
use Rattle.ends.specs.declared.UnitRecord.{UnitRecord}
use Rattle.ends.proofs.Table.{registered_found}
use Rattle.protocol.specs.Headers.{choice_enciphered, choice_aged, clock_channel_key, no_sending}
use Rattle.protocol.specs.OltCalls.{offer_order, offer_of, retry_order, retry_of}
use Rattle.protocol.specs.OltTraffic.{send_order}
use Rattle.protocol.specs.OnuCalls.{onu_reply}
use Rattle.protocol.specs.OnuTraffic.{onu_send_choice, busy_up, onu_send_verdict, sending_onu}
use Rattle.protocol.specs.Replies.{on_valid}
use Rattle.protocol.specs.UnitCalls.{offer_verdict, retry_verdict}
use Rattle.protocol.specs.UnitTraffic.{switches, unit_send_choice, unit_send_verdict}
use Rattle.protocol.specs.declared.KeyChoice.{KeyChoice}
use Rattle.protocol.specs.declared.KeyChoice.TheVariants.{Current}
use Rattle.protocol.proofs.OltCalls.{offer_ordered, retry_ordered}
use Rattle.protocol.proofs.OltTraffic.{send_order-holds}
use Rattle.protocol.proofs.Replies.{reply_verdict}
use Rattle.traffic.specs.Passages.{misfit}
use Rattle.traffic.specs.Sends.{olt_sent, olt_send_of, onu_sent, onu_send_of}
use Rattle.unicast.specs.Setting.{Delays, Site, Setting}
use Rattle.unicast.specs.History.{upward, Envelope, envelope, Arrival, Entry, Lane}
use Rattle.unicast.specs.Run.{State, lane_at, onu_at}
use Rattle.unicast.specs.Bounds.{highest}
use Rattle.unicast.proofs.Invariant.{Invariant}
use Rattle.unicast.proofs.Places.{held_found}
use Rattle.unicast.proofs.Alive.{Alive, registered_alive}
use Rattle.progress.specs.Progress.{confirmed_by}
use Rattle.progress.specs.Frozen.{Untold, Silent, Stopped, FrozenLine, record_at, Frozen, Refuses}
use Rattle.refusal.specs.Verdict.{Verdict}

---- lines of which only a part changes

-- what a frozen line is told by: no envelope more is under way, and none more has arrived
pub record Kept (l m : Lane) : Type 0 where
  pub site : m.site ≡ l.site
  pub path : m.path ≡ l.path
  pub entry : m.entry ≡ l.entry
  pub switches : m.keys.switches ≡ l.keys.switches
  pub number : m.keys.number ≡ l.keys.number
  pub arrived : m.past.arrived ≡ l.past.arrived
  pub towards : (e : Envelope) → Memᴰ (envelope e) m.transit.towards → Memᴰ (envelope e) l.transit.towards
  pub from : (e : Envelope) → Memᴰ e m.transit.from → Memᴰ e l.transit.from

-- where all but the queues is the same
pub kept_rest : (l m : Lane) → m.site ≡ l.site → m.path ≡ l.path → m.entry ≡ l.entry → m.keys.switches ≡ l.keys.switches
    → m.keys.number ≡ l.keys.number → m.past.arrived ≡ l.past.arrived
    → ((e : Envelope) → Memᴰ (envelope e) m.transit.towards → Memᴰ (envelope e) l.transit.towards)
    → ((e : Envelope) → Memᴰ e m.transit.from → Memᴰ e l.transit.from) → Kept l m
kept_rest l m site path entry switches number arrived towards from =
    record {
      site = site;
      path = path;
      entry = entry;
      switches = switches;
      number = number;
      arrived = arrived;
      towards = towards;
      from = from;
    }

pub kept_same : (l : Lane) → Kept l l
kept_same l = kept_rest l l refl refl refl refl refl refl (λ e i. i) (λ e i. i)

-- the unit has not answered, or it has
pub by_answer : (b : Bool) (now : ℕ) (l : Lane) (up : FirstSend) → Stopped b now l up → (P : Type 0) → (b ≡ false → Untold now l → P)
    → (b ≡ true → Silent now l up → P) → P
by_answer false now l up y P p q = p refl y
by_answer true now l up y P p q = q refl y

pub still_untold : (b : Bool) (now : ℕ) (l : Lane) (up : FirstSend) → b ≡ false → Untold now l → Stopped b now l up
still_untold b now l up e y = rw e y

pub still_silent : (b : Bool) (now : ℕ) (l : Lane) (up : FirstSend) → b ≡ true → Silent now l up → Stopped b now l up
still_silent b now l up e y = rw e y

pub frozen_kept : (b : Bool) (llid now later : ℕ) (l m : Lane) (down up : FirstSend) → now ≤ later → Kept l m → FrozenLine b llid now l down up
    → FrozenLine b llid later m down up
frozen_kept b llid now later l m down up h k f =
    let switched = k.switches in
    let path = k.path in
    record {
      registered = ap (λ (x : Entry). x.registered) k.entry ∙ f.registered;
      named = ap (λ (x : Site). has x.identity llid) k.site ∙ f.named;
      unconfirmed = k.switches ∙ f.unconfirmed ∙ sym (ap (λ (x : List Arrival). highest upward x + 1) k.arrived);
      begun = f.begun;
      old = omega (arith, h, f.old);
      lost = λ e i n. let was = f.lost e (k.from e i) (n ∙ switched) in omega (arith, h, was, ap (λ (x : Delays). x.up) path);
      unit =
          by_answer b now l up f.unit (Stopped b later m up)
          (λ q x.
          still_untold b later m up q
          (record {
            behind = omega (arith, x.behind, switched, k.number);
            lost = λ e i n.
                let was = x.lost e (k.towards e i) (n ∙ switched) in omega (arith, h, was, ap (λ (y : Delays). y.down) path);
          }))
          (λ q x.
          still_silent b later m up q
          (record {
            told = k.number ∙ x.told ∙ sym switched;
            begun = x.begun;
            old = omega (arith, h, x.old, ap (λ (y : Site). y.up) k.site, ap (λ (y : Delays). y.up) path);
          }));
    }

-- a state, by its tick, the lane and the two first sends
pub frozen_at : (b : Bool) (t : State) (u llid now : ℕ) (l : Lane) (down up : FirstSend) → t.history.now ≡ now → lane_at t u ≡ l
    → (unit_at t.olt l.entry.place).keys.first ≡ down → (onu_at t u).first ≡ up → FrozenLine b llid now l down up
    → Frozen b t u llid
frozen_at b t u llid now l down up tick lane first own z = rw (tick, lane, first, own) z

---- what the calls return

is_aged : (f : FirstSend) (now : ℕ) → f.noted ≡ 1 → f.at + key_life ≤ now → aged f now ≡ true
unfolding aged
is_aged f now begun old = both_true (eq-eqb f.noted 1 begun) (le-leb (f.at + key_life) now old)

chosen_up : (k : OnuKeys) → 1 ≤ k.active → onu_send_choice k ≡ Current k.active
unfolding onu_send_choice
chosen_up k some = pick_false _ _ (ne_eqb k.active 0 (λ q. omega (arith, q, some)))

-- under a key that is too old: 5, 12, 13
old_refused : (set busy : Bool) (choice : KeyChoice) (n : ℕ) (first : FirstSend) (now : ℕ) → choice ≡ Current n → aged first now ≡ true
    → clock_channel_key set busy choice first now ≡ refuse_if (not set) ClockNotSet (refuse_if busy ChannelTaken (Err KeyTooOld))
unfolding choice_enciphered choice_aged refuse_if both
old_refused set busy choice n first now chosen old = rw (chosen, old) (by_set set) where
  by_set : (t : Bool)
      → refuse_if (both (not t) true) ClockNotSet (refuse_if busy ChannelTaken (Err KeyTooOld))
      ≡ refuse_if (not t) ClockNotSet (refuse_if busy ChannelTaken (Err KeyTooOld))
  by_set true = refl
  by_set false = refl

module _ (b : Bool) (w : Setting) (s : State) (u llid : ℕ) (v : Invariant w s) (z : Frozen b s u llid) where
  abbrev line : Lane
  line = lane_at s u

  abbrev o : Olt
  o = s.olt

  abbrev x : UnitRecord
  x = record_at s u

  alive : Alive w s u
  alive = registered_alive w s u v z.registered

  found : find o llid ≡ Some line.entry.place
  found =
      held_found w s line.entry.place u llid v (record { known = alive.known; registered = z.registered; place = refl }) z.named

  active_is : x.keys.active ≡ x.confirmation.confirmed + 1
  active_is = alive.joined.numbers.counted ∙ z.unconfirmed ∙ sym (ap (λ (n : ℕ). n + 1) alive.joined.heard)

  offered_is : x.keys.offered ≡ x.keys.active
  offered_is = let n = alive.joined.numbers in omega (arith, active_is, n.high, n.top, n.next)

  choice_is : unit_send_choice x ≡ Current x.keys.active
  unfolding unit_send_choice switches
  choice_is =
      pick_false _ _ (both_false_right _ (both_false_left _ (ne_eqb x.keys.offered (x.keys.active + 1) (λ e. omega (arith, e, offered_is)))))
      ∙ pick_false _ _ (ne_eqb x.keys.active 0 (λ e. omega (arith, e, active_is)))

  -- what the unit decides, past 1 for the end and 2
  past_llid : (d : UnitRecord → Verdict) → on_valid (valid_olt o) (refuse_if (not (is_registered o llid)) UnknownLlid (d (unit_named o llid))) ≡ d x
  unfolding unit_found
  past_llid d =
      refuse_passed _ OutOfRange _ (not_of_true v.valid)
      ∙ refuse_passed _ UnknownLlid _ (not_of_true (registered_found o llid _ found))
      ∙ ap (λ (f : Option ℕ). d (unit_found o f)) found

  sends_refused : (channel : ℕ) (p out : List ℕ) → (olt_send_of o llid channel p out).answer.number
      ≡ verdict_number
      (refuse_if (misfit p out) BadLength
      (refuse_if (not (downstream channel)) OutOfRange
      (refuse_if (not (is_up x.clock.acknowledged)) ClockNotSet
      (refuse_if (taken o.shared.channels channel o.shared.tick) ChannelTaken (Err KeyTooOld)))))
  unfolding olt_send_of olt_sent send_order unit_found unit_send_verdict
  sends_refused channel p out =
      ap verdict_number
      (send_order-holds o (misfit p out) llid channel (eqs_of p)
      ∙ refuse_passed _ OutOfRange _ (not_of_true v.valid)
      ∙ ap (λ (r : Verdict). refuse_if (misfit p out) BadLength (refuse_if (not (downstream channel)) OutOfRange r))
      (refuse_passed _ UnknownLlid _ (not_of_true (registered_found o llid _ found))
      ∙ ap (λ (f : Option ℕ). unit_send_verdict o.shared (unit_found o f) channel) found
      ∙ old_refused (is_up x.clock.acknowledged) (taken o.shared.channels channel o.shared.tick) (unit_send_choice x) x.keys.active
      x.keys.first o.shared.tick choice_is
      (is_aged x.keys.first o.shared.tick z.begun (omega (arith, z.old, v.shared.tick)))))

  offers_refused : (key : List ℕ) → (offer_of o llid key).number
      ≡ verdict_number (refuse_if (not (is_up x.clock.acknowledged)) ClockNotSet (Err OfferPending))
  unfolding offer_order offer_verdict
  offers_refused key =
      (offer_ordered o llid key _ refl).1
      ∙ ap verdict_number
      (past_llid (λ (y : UnitRecord). offer_verdict y key)
      ∙ ap (λ (r : Verdict). refuse_if (not (is_up x.clock.acknowledged)) ClockNotSet r)
      (refuse_stopped _ OfferPending _ (either_right _ (lt-ltb x.confirmation.confirmed x.keys.active (omega (arith, active_is))))))

  retries_refused : (retry_of o llid).number ≡ 8
  unfolding retry_order retry_verdict
  retries_refused =
      (retry_ordered o llid _ refl).1
      ∙ ap verdict_number
      (past_llid (λ (y : UnitRecord). retry_verdict y.keys)
      ∙ refuse_stopped _ NothingOutstanding _ (eq-eqb x.keys.offered x.keys.active offered_is))

  -- under key A the unit's own sends are refused too
  answers_refused : Silent s.history.now line (onu_at s u).first → (other channel : ℕ) (p out : List ℕ)
      → (onu_send_of (onu_at s u) other channel p out).answer.number
      ≡ verdict_number
      (refuse_if (misfit p out) BadLength
      (refuse_if (not (upstream channel)) OutOfRange
      (refuse_if (not (has (onu_at s u).identity other)) UnknownLlid
      (refuse_if (not (is_up (onu_at s u).clock.synced)) ClockNotSet
      (refuse_if (busy_up (onu_at s u) channel) ChannelTaken (Err KeyTooOld))))))
  unfolding onu_send_of onu_sent sending_onu onu_reply onu_send_verdict
  answers_refused y other channel p out =
      let n = onu_at s u in
      let active : n.keys.active ≡ confirmed_by line + 1 = alive.joined.numbers.last ∙ y.told ∙ z.unconfirmed in
      let chosen = chosen_up n.keys (omega (arith, active)) in
      let old = is_aged n.first (travel_of n) y.begun (omega (arith, y.old, alive.common.travel)) in
      ap verdict_number
      (reply_verdict _ n no_sending _ _
      ∙ refuse_passed _ OutOfRange _ (not_of_true alive.common.valid)
      ∙ ap
      (λ (r : Verdict).
      refuse_if (misfit p out) BadLength (refuse_if (not (upstream channel)) OutOfRange (refuse_if (not (has n.identity other)) UnknownLlid r)))
      (old_refused (is_up n.clock.synced) (busy_up n channel) (onu_send_choice n.keys) n.keys.active n.first (travel_of n) chosen old))

  pub refuses : Refuses b s u llid
  refuses =
      record {
        sends = sends_refused;
        offers = offers_refused;
        retries = retries_refused;
        answers = λ e.
            by_answer b s.history.now line (onu_at s u).first z.unit _ (λ q y. true_false (sym e ∙ q)) (λ q y. answers_refused y);
        still = λ key m.
            ⊎_elim (λ e. omega (arith, e, z.unconfirmed))
            (λ h. let switched = alive.joined.firsts.olt z.begun in omega (arith, h, switched, z.old)) m.recent;
      }

  -- so none is accepted
  pub not_sent : (channel : ℕ) (p out : List ℕ) → (olt_send_of o llid channel p out).answer.number ≡ 0 → ⊥
  not_sent channel p out e =
      let a = number_accepted _ (sym (sends_refused channel p out) ∙ e) in
      refused_accepts KeyTooOld (refuse_accepted _ _ _ (refuse_accepted _ _ _ (refuse_accepted _ _ _ (refuse_accepted _ _ _ a).1).1).1).1

  pub not_answered : Silent s.history.now line (onu_at s u).first → (other channel : ℕ) (p out : List ℕ)
      → (onu_send_of (onu_at s u) other channel p out).answer.number ≡ 0 → ⊥
  not_answered y other channel p out e =
      let a = number_accepted _ (sym (answers_refused y other channel p out) ∙ e) in
      let c = (refuse_accepted _ _ _ (refuse_accepted _ _ _ (refuse_accepted _ _ _ a).1).1).1 in
      refused_accepts KeyTooOld (refuse_accepted _ _ _ (refuse_accepted _ _ _ c).1).1
