-- The key's round: an offer or a retry, its arrival and its acknowledgement; and the rest of the interval, after which the next envelope
-- down is a switch. Assumes nothing.
use mathlib.Core.Path.{◌≡◌, refl, sym, ◌∙◌, ap, subst}
use mathlib.Core.Bool.{Bool, true, false}
use mathlib.Core.List.{List, [], ◌∷◌, ◌++◌}
use Prim.Native.Nat.{ℕ, ◌+◌, ◌-◌, ◌/◌, ◌%◌, ◌<◌, ◌≤◌}
use native.Mathlib.Nat.{add-mul, div-add-mod', div-mul-le_self, le-div_iff_mul-le, mod-lt}
use native.Mathlib.Omega.{arith}
use lib.Dec.{leb, ltb}
use lib.ListN.{length, length-append}
use borrow.Author.Tests.{leb-true, ltb-true, ltb-false, lt-ltb, eq-eqb}
use Rattle.octets.specs.Choice.{pick}
use Rattle.octets.specs.Lists.{same}
use Rattle.octets.proofs.Choice.{both_true, then_both_false, pick_true}
use Rattle.octets.proofs.Lists.{same_true}
use Rattle.clock.specs.Ticks.{max_tick}
use Rattle.ends.specs.Keys.{key_in}
use Rattle.ends.specs.Limits.{max_key_number}
use Rattle.protocol.specs.Lift.{outcome}
use Rattle.protocol.specs.Messages.{of_key}
use Rattle.protocol.specs.UnitCalls.{keys_offered, key_message_of, offer_unit, retry_unit}
use Rattle.protocol.specs.declared.Acknowledgement.{Acknowledgement}
use Rattle.protocol.specs.declared.KeyMessage.{KeyMessage}
use Rattle.protocol.proofs.UnitCalls.{Offers}
use Rattle.unicast.specs.Setting.{Delays, Setting}
use Rattle.unicast.specs.History.{key_message, Entry, Keys, Transit, Lane, due, lane_with, leaving, lane_leaving, lane_offered, lane_taken, lane_answered, lane_acknowledged, is_synced}
use Rattle.unicast.specs.Events.{Event, advance, offer, retry, arrive_down, arrive_answer}
use Rattle.unicast.specs.Run.{State, lane_at, onu_at, step, run, answer_at}
use Rattle.unicast.specs.Premises.{NewKey}
use Rattle.unicast.proofs.Frames.{clock_some, clock_more}
use Rattle.progress.specs.Progress.{trip_of, Keeps, answered_round, key_round}
use Rattle.progress.proofs.Going.{Here, Step, here_after, alive, unit, offer_goes, retry_goes, key_answer_goes}
use Rattle.progress.proofs.Arriving.{key_arrival_goes}
use Rattle.progress.proofs.Whole.{Quiet}
use Rattle.progress.proofs.Rounds.{Goes, goes_cons, answered_round-holds}
use Rattle.progress.proofs.ClockRound.{step_as}

-- key c + 1 is offered and acknowledged
pub record Offered (c : ℕ) (l m : Lane) : Type 0 where
  pub site : m.site ≡ l.site
  pub path : m.path ≡ l.path
  pub entry : m.entry ≡ l.entry
  pub past : m.past ≡ l.past
  pub switches : m.keys.switches ≡ l.keys.switches
  pub switched : m.keys.switched ≡ l.keys.switched
  pub number : m.keys.number ≡ l.keys.number
  pub offers : length m.keys.offers ≡ c + 1
  pub acknowledged : m.keys.acknowledged ≡ true
  pub synced : is_synced m ≡ true

pub record KeyDone (w : Setting) (u llid c : ℕ) (s : State) (es : List Event) (now : ℕ) : Type 0 where
  pub lane : Lane
  pub goes : Goes w u llid s es lane now
  pub offered : Offered c (lane_at s u) lane

-- a unit that has answered a clock message of its present path is synced
pub synced_onu : (w : Setting) (u llid : ℕ) (s : State) → Here w u llid s → is_synced (lane_at s u) ≡ true → (onu_at s u).clock.synced ≡ 1
synced_onu w u llid s h e =
    let a = (alive w u llid s h).joined.answers in
    clock_some (lane_at s u).transit.answered (λ x m. (a.each x m).0) e

not_same : (a b : List ℕ) → (a ≡ b → ⊥) → same a b ≡ false
not_same a b n = by_test (same a b) refl where
  by_test : (t : Bool) → same a b ≡ t → same a b ≡ false
  by_test true e = absurd (n (same_true a b e))
  by_test false e = e

-- once the rest of an interval has passed, one multiple more is reached
interval_passed : (i s x y : ℕ) → 1 ≤ i → s ≤ x → y ≡ x + (i - x % i) → ltb (s / i) (y / i) ≡ true
interval_passed i s x y some before is =
    let pos : 0 < i = omega (arith, some) in
    let was : s / i ≤ x / i = (le-div_iff_mul-le pos).1 (omega (arith, div-mul-le_self s i, before)) in
    let more : x / i + 1 ≤ y / i =
    (le-div_iff_mul-le pos).1 (omega (arith, add-mul (x / i) 1 i, div-add-mod' x i, mod-lt x pos, is)) in
    lt-ltb (s / i) (y / i) (omega (arith, was, more))

module _ (w : Setting) (u llid c : ℕ) (s : State) (h : Here w u llid s) (below : c < max_key_number) (synced : is_synced (lane_at s u) ≡ true)
    (number : (lane_at s u).keys.number ≡ c) (most : s.history.now + trip_of (lane_at s u) ≤ max_tick)
    (quiet : Quiet (lane_at s u) s.history.now) where
  abbrev l : Lane
  l = lane_at s u

  -- once the message of key c + 1 has left: k is the lane but for that
  message_round : (e : Event) (m : KeyMessage) (k : Lane) → m.number ≡ c + 1
      → Step w u s e (lane_leaving (key_message m s.history.now) k) s.history.now
      → k.site ≡ l.site → k.path ≡ l.path → k.entry ≡ l.entry → k.past ≡ l.past → k.transit ≡ l.transit
      → k.keys.switches ≡ l.keys.switches → k.keys.switched ≡ l.keys.switched → k.keys.number ≡ l.keys.number
      → length k.keys.offers ≡ c + 1 → Keeps s u e
      → KeyDone w u llid c s (e ∷ answered_round u llid l) (s.history.now + trip_of l)
  unfolding run answered_round lane_leaving leaving lane_with lane_taken lane_answered lane_acknowledged
  message_round e m k is t site path entry past transit switches switched same offers keeps =
      let now = s.history.now in
      let x = key_message m now in
      let a = of_key m.number in
      let l1 = lane_leaving x k in
      let s1 = step s e in
      let h1 = here_after w u llid s e l1 now h t site entry in
      let arrival = s1.history.now + k.path.down in
      let rest =
      answered_round-holds w u llid s1 l1 a k.transit.towards x (λ (z : State). Unit {0}) h1 t.lane refl
      (omega (arith, most, t.tick, ap (λ (y : Delays). y.up) path, ap (λ (y : Delays). y.down) path)) (sym t.tick)
      (rw (t.tick, path, transit) quiet.down) (rw (t.tick, path, transit) quiet.up)
      (λ z hz lane tick some found.
      let mine = (alive w u llid z hz).joined.numbers.last in
      step_as w u z _ _ _ _ _
      (key_arrival_goes w u llid z hz (length k.transit.towards) m now some found
      (omega (arith, tick, t.tick, ap (λ (y : Lane). y.path.down) lane))
      (synced_onu w u llid z hz (rw (lane, transit) synced))
      (omega (arith, mine, ap (λ (y : Lane). y.keys.number) lane, same, number, below)))
      (rw (lane, tick)) tick)
      (λ z hz lane due answer.
      let listed = (alive w u llid z hz).joined.numbers.listed in
      let n : (answer_at z u (length k.transit.answered)).acknowledgement.number ≡ m.number = ap (λ (y : Acknowledgement). y.number) answer in
      let goes = key_answer_goes w u llid z hz (length k.transit.answered) due (ap (λ (y : Acknowledgement). y.kind) answer) (omega (arith, n, is))
      (omega (arith, n, is, listed, ap (λ (y : Lane). length y.keys.offers) lane, offers)) in
      (step_as w u z _ _ _ _ _ goes (rw (answer, lane)) refl, tt)) in
      let end = lane_acknowledged a (lane_answered a arrival (lane_taken (length k.transit.towards) l1)) in
      let listed : Delays → Transit → List Event =
      λ p y.
      advance p.down ∷ arrive_down u (length y.towards) [] ∷ advance p.up ∷ arrive_answer u (length y.answered) llid ∷ [] in
      let here : Goes w u llid s1 (listed l.path l.transit) end (s1.history.now + trip_of l) =
      subst (λ (p : Delays). Goes w u llid s1 (listed p l.transit) end (s1.history.now + (p.up + p.down))) path
      (subst (λ (y : Transit). Goes w u llid s1 (listed k.path y) end (s1.history.now + trip_of k)) transit rest.0) in
      record {
        lane = end;
        goes =
            goes_cons w u llid s e _ l1 end now _ t keeps
            (record {
              meets = here.meets;
              here = here.here;
              lane = here.lane;
              tick = omega (arith, here.tick, t.tick);
              whole = here.whole;
              quiet = subst (λ (n : ℕ). Quiet end n) (ap (λ (n : ℕ). n + trip_of l) t.tick) here.quiet;
            });
        offered =
            record {
              site = site;
              path = path;
              entry = entry;
              past = past;
              switches = switches;
              switched = switched;
              number = same;
              offers = offers;
              acknowledged = pick_true true k.keys.acknowledged (both_true refl (eq-eqb m.number (length k.keys.offers) (is ∙ sym offers)));
              synced = clock_more k.transit.answered _ (rw transit synced);
            };
      }

  again : l.keys.switches ≡ c → l.keys.switches < length l.keys.offers
      → KeyDone w u llid c s (retry llid ∷ answered_round u llid l) (s.history.now + trip_of l)
  unfolding retry_unit outcome key_message_of
  again switches more =
      let j = (alive w u llid s h).joined in
      let n = j.numbers in
      let x = unit w u llid s h in
      let one : length l.keys.offers ≡ c + 1 = omega (arith, switches, more, n.listed, n.next, n.low, n.last, number) in
      let t = retry_goes w u llid s h (λ e. omega (arith, e, n.counted, n.listed, more)) in
      message_round (retry llid) (retry_unit llid s.olt.shared x).handed l (n.listed ∙ one) t refl refl refl refl refl refl refl refl one tt

  anew : (key : List ℕ) → NewKey s key → l.keys.switches ≡ c → (unit w u llid s h).confirmation.confirmed ≡ c
      → (unit w u llid s h).clock.acknowledged ≡ 1 → length l.keys.offers ≤ l.keys.switches
      → KeyDone w u llid c s (offer llid key ∷ answered_round u llid l) (s.history.now + trip_of l)
  unfolding offer_unit outcome key_message_of keys_offered lane_offered lane_with
  anew key new switches confirmed acknowledged none =
      let j = (alive w u llid s h).joined in
      let n = j.numbers in
      let x = unit w u llid s h in
      let other : leb 1 x.keys.active ≡ true → same key (key_in x.keys.slots x.keys.active) ≡ false =
      λ some.
      let one : 1 ≤ x.keys.active = leb-true 1 x.keys.active some in
      let stored = j.stored.olt x.keys.active one (omega (arith, n.low, n.mid)) (omega (arith, n.high, n.top)) in
      not_same key (key_in x.keys.slots x.keys.active)
      (λ e. new.unused u (x.keys.active - 1) (omega (arith, one, n.listed, n.high, n.top)) (sym (e ∙ stored))) in
      let offers : Offers x key =
      record {
        set = acknowledged;
        settled = omega (arith, n.listed, n.counted, none);
        confirmed = omega (arith, n.counted, switches, confirmed);
        new = then_both_false _ _ other;
        below = omega (arith, n.counted, switches, below);
      } in
      let t = offer_goes w u llid s h key offers new in
      let one : length (l.keys.offers ++ (key ∷ [])) ≡ c + 1 =
      omega (arith, length-append l.keys.offers (key ∷ []), none, switches, n.counted, n.listed, n.high, n.top) in
      message_round (offer llid key) (offer_unit llid key s.olt.shared x).handed (lane_offered key l) (omega (arith, n.counted, switches)) t
      refl refl refl refl refl refl refl refl one tt

  pub key_round-holds : (key : List ℕ) → NewKey s key → l.keys.switches ≡ c → (unit w u llid s h).confirmation.confirmed ≡ c
      → (unit w u llid s h).clock.acknowledged ≡ 1 → KeyDone w u llid c s (key_round u llid key s) (s.history.now + trip_of l)
  unfolding key_round pick
  key_round-holds key new switches confirmed acknowledged = by_offer (ltb l.keys.switches (length l.keys.offers)) refl where
    by_offer : (t : Bool) → ltb l.keys.switches (length l.keys.offers) ≡ t
        → KeyDone w u llid c s (pick t (retry llid) (offer llid key) ∷ answered_round u llid l) (s.history.now + trip_of l)
    by_offer true e = again switches (ltb-true _ _ e)
    by_offer false e = anew key new switches confirmed acknowledged (ltb-false _ _ e)

---- the rest of the interval

pub interval_due : (r : Entry) (k : Keys) (now : ℕ) → 1 ≤ r.interval → r.since ≤ k.switched → k.switched ≤ now
    → due r k (now + (r.interval - (now - r.since) % r.interval)) ≡ true
unfolding due
interval_due r k now some since before = interval_passed r.interval (k.switched - r.since) (now - r.since)
    (now + (r.interval - (now - r.since) % r.interval) - r.since) some (omega (arith, since, before))
    (let pos : 0 < r.interval = omega (arith, some) in let below = mod-lt (now - r.since) pos in omega (arith, since, before, below))
