-- Each step of a play is a few events that meet the premises and leave both ends as the step does. Assumes nothing.
use Rattle.std.specs.Prelude.{Ok, Err}
use mathlib.Core.Path.{◌≡◌, refl, sym, ap, ◌∙◌}
use mathlib.Core.Bool.{Bool, true, false, not}
use mathlib.Core.List.{List, [], ◌∷◌, ◌++◌}
use mathlib.Core.Logic.{⊎_elim}
use Prim.Native.Nat.{ℕ, zero, suc, ◌+◌, ◌≤◌, ◌<◌}
use native.Mathlib.Omega.{arith}
use lib.Dec.{eqb}
use lib.ListN.{length, get_or, length-append}
use lib.Seq.{get_or_at}
use borrow.Author.Tests.{eqb-true, eqb-false}
use Rattle.octets.specs.Choice.{either, pick}
use Rattle.octets.proofs.Choice.{both_right, either_false, pick_holds, true_false}
use Rattle.protocol.specs.declared.Acknowledgement.{Acknowledgement}
use Rattle.protocol.specs.declared.KeyMessage.{KeyMessage}
use Rattle.ends.specs.declared.Olt.{Olt}
use Rattle.ends.specs.declared.Onu.{Onu}
use Rattle.clock.specs.declared.Stamps.{Stamps}
use Rattle.protocol.specs.Messages.{no_acknowledgement}
use Rattle.protocol.specs.Replies.{reply}
use Rattle.protocol.specs.OltCalls.{advance_olt_of, capture_of, clock_send_of, offer_of, retry_of, acknowledge_of}
use Rattle.protocol.specs.OnuCalls.{onu_acknowledged, onu_reply, clock_message_to, clock_message_at, key_message_to, key_message_at}
use Rattle.sealing.proofs.Seal.{carried_length}
use Rattle.traffic.specs.Passages.{passed, output_after}
use Rattle.traffic.specs.Sends.{olt_sent, onu_sent, olt_send_of, onu_send_of}
use Rattle.traffic.specs.Receipts.{olt_receive_of, onu_receive_of}
use Rattle.unicast.specs.Events.{Event, advance, capture, clock_send, offer, retry, send_down, send_up, arrive_down, arrive_up, arrive_answer}
use Rattle.unicast.specs.History.{Lane, Envelope, InFlight, clock_message, key_message, envelope, lane_captured, lane_leaving, lane_offered, lane_taken, lane_answered, lane_acknowledged, lane_sent_down, lane_sent_up, lane_arrived_down, lane_arrived_up, lane_with, leaving, number_down}
use Rattle.unicast.specs.Premises.{NewKey, DueDown, DueAnswer, Meets}
use Rattle.unicast.specs.Run.{State, step, run, accepted, noted, named, with_lanes, at_olt, at_onu, at_olt_for, lane_at, in_flight_at, envelope_at, clock_sending, offering, retrying, sending_down, sending_up, envelope_down, envelope_up, message_arriving, in_flight_arriving, envelope_arriving, receipt_down, receipt_up, arriving_up, answering, advancing, fresh_lane, no_envelope}
use Rattle.unicast.proofs.Run.{run_append, meets_append}
use Rattle.exercise.specs.declared.Play.{Play}
use Rattle.exercise.specs.Play.{unit_llid, key_of_step, channel_down, channel_up, with_olt, with_onu, with_clock_answer, with_key_answer, arrives, clock_answered, clock_sent, clock_stepped, key_answered, key_sent, answered, sent_down, sent_up, advanced}
use Rattle.exercise.specs.Listed.{setting}
use Rattle.exercise.proofs.Lanes.{no_delay, Given, Latest, Kept, kept_on, clock_given, key_given, clock_none, key_none, key_offered, noted_either, named_either, noted_on, named_on, unit_has}
use Rattle.refusal.specs.Verdict.{Verdict}

-- the state of a list in which the ends are those of a play, at the tick n, with the one line l
abbrev pub at : Play → ℕ → ℕ → Lane → State
at p n r l = record { olt = p.olt; onus = p.onu ∷ []; history = record { now = n; registrations = r; lanes = l ∷ [] } }

-- events that bring the play p to the play q, which is k steps on
pub record Goes (p : Play) (n r : ℕ) (l : Lane) (q : Play) (k : ℕ) : Type 0 where
  pub events : List Event
  pub now : ℕ
  pub lane : Lane
  pub meets : Meets setting (at p n r l) events
  pub runs : run (at p n r l) events ≡ at q now r lane
  pub kept : Kept lane now k q.clock q.key

---- what is handed over last is the last under way

last_some : {A : Type 0} (xs : List A) (x : A) → length xs < length (xs ++ (x ∷ []))
last_some xs x = omega (arith, length-append xs (x ∷ []))

---- a message of the OLT arrives

-- the unit's answer: none where it refuses
silent : (v : Verdict) (o next : Onu) (h : Acknowledgement) → eqb (onu_acknowledged (reply v o no_acknowledgement next h)).number 0 ≡ false
    → (onu_acknowledged (reply v o no_acknowledgement next h)).acknowledgement.kind ≡ 0
unfolding onu_acknowledged reply
silent (Ok tt) o next h e = true_false e
silent (Err r) o next h e = refl

silent_clock : (o : Onu) (m : Stamps) → eqb (clock_message_at o m).number 0 ≡ false → (clock_message_at o m).acknowledgement.kind ≡ 0
unfolding clock_message_at clock_message_to onu_reply
silent_clock o m e = silent _ o _ _ e

silent_key : (o : Onu) (m : KeyMessage) → eqb (key_message_at o m).number 0 ≡ false → (key_message_at o m).acknowledgement.kind ≡ 0
unfolding key_message_at key_message_to onu_reply
silent_key o m e = silent _ o _ _ e

-- the last of what is under way to the unit
last_in_flight : (p : Play) (n r : ℕ) (l : Lane) (x : InFlight) → in_flight_at (at p n r (lane_leaving x l)) 0 (length l.transit.towards) ≡ x
unfolding lane_leaving lane_with leaving
last_in_flight p n r l x = get_or_at l.transit.towards x [] (envelope no_envelope) (length l.transit.towards) refl

due_clock : (p : Play) (n r : ℕ) (l : Lane) (m : Stamps) (c : ℕ) → l.path ≡ no_delay
    → DueDown (at p n r (lane_leaving (clock_message m c n) l)) 0 (length l.transit.towards) []
unfolding lane_leaving lane_with leaving
due_clock p n r l m c e =
    let x = last_in_flight p n r l (clock_message m c n) in
    record { some = last_some l.transit.towards (clock_message m c n); now = rw (x, e) (omega arith); buffer = rw x tt }

due_key : (p : Play) (n r : ℕ) (l : Lane) (m : KeyMessage) → l.path ≡ no_delay
    → DueDown (at p n r (lane_leaving (key_message m n) l)) 0 (length l.transit.towards) []
unfolding lane_leaving lane_with leaving
due_key p n r l m e =
    let x = last_in_flight p n r l (key_message m n) in
    record { some = last_some l.transit.towards (key_message m n); now = rw (x, e) (omega arith); buffer = rw x tt }

-- what left and what arrived change nothing that is kept
left_kept : (l : Lane) (x : InFlight) (n k : ℕ) (a b : Acknowledgement) → Kept l n k a b → Kept (lane_leaving x l) n k a b
unfolding lane_leaving lane_with leaving
left_kept l x n k a b h = kept_on l _ n n k k a b refl refl refl refl refl (omega arith) (omega arith) h

taken_kept : (l : Lane) (j n k : ℕ) (a b : Acknowledgement) → Kept l n k a b → Kept (lane_taken j l) n k a b
unfolding lane_taken lane_with
taken_kept l j n k a b h = kept_on l _ n n k k a b refl refl refl refl refl (omega arith) (omega arith) h

-- an answer where the code is 0, none where it is not
answer_kept : (P : Lane → Type 0) (number : ℕ) (f : Lane → Lane) (l : Lane) → (eqb number 0 ≡ true → P (f l)) → (eqb number 0 ≡ false → P l)
    → P (noted number f l)
unfolding noted
answer_kept P number f l x y = pick_holds P (eqb number 0) (f l) l x y

clock_arrives : (p : Play) (n r k : ℕ) (l : Lane) (m : Stamps) (c : ℕ) → Kept l n k p.clock p.key
    → Goes p n r (lane_leaving (clock_message m c n) l) (clock_answered p (clock_message_at p.onu m)) k
unfolding lane_leaving lane_with leaving step run clock_answered with_clock_answer with_onu in_flight_arriving message_arriving at_onu with_lanes
clock_arrives p n r k l m c x =
    let j = length l.transit.towards in
    let a = clock_message_at p.onu m in
    let t = taken_kept _ j n k _ _ (left_kept l (clock_message m c n) n k _ _ x) in
    record {
      events = arrive_down 0 j [] ∷ [];
      now = n;
      lane = noted a.number (lane_answered a.acknowledgement n) (lane_taken j (lane_leaving (clock_message m c n) l));
      meets = (due_clock p n r l m c x.path, tt);
      runs = rw (last_in_flight p n r l (clock_message m c n)) refl;
      kept =
          answer_kept (λ (z : Lane). Kept z n k a.acknowledgement p.key) a.number _ _
          (λ _. clock_given _ n k p.clock p.key a.acknowledgement t)
          (λ e. clock_none _ n k p.clock p.key a.acknowledgement (silent_clock p.onu m e) t);
    }

key_arrives : (p : Play) (n r k : ℕ) (l : Lane) (m : KeyMessage) → Kept l n k p.clock p.key
    → Goes p n r (lane_leaving (key_message m n) l) (key_answered p (key_message_at p.onu m)) k
unfolding lane_leaving lane_with leaving step run key_answered with_key_answer with_onu in_flight_arriving message_arriving at_onu with_lanes
key_arrives p n r k l m x =
    let j = length l.transit.towards in
    let a = key_message_at p.onu m in
    let t = taken_kept _ j n k _ _ (left_kept l (key_message m n) n k _ _ x) in
    record {
      events = arrive_down 0 j [] ∷ [];
      now = n;
      lane = noted a.number (lane_answered a.acknowledgement n) (lane_taken j (lane_leaving (key_message m n) l));
      meets = (due_key p n r l m x.path, tt);
      runs = rw (last_in_flight p n r l (key_message m n)) refl;
      kept =
          answer_kept (λ (z : Lane). Kept z n k p.clock a.acknowledgement) a.number _ _
          (λ _. key_given _ n k p.clock p.key a.acknowledgement t)
          (λ e. key_none _ n k p.clock p.key a.acknowledgement (silent_key p.onu m e) t);
    }

captured_kept : (l : Lane) (n k : ℕ) (a b : Acknowledgement) → Kept l n k a b → Kept (lane_captured n l) n k a b
unfolding lane_captured
captured_kept l n k a b h = kept_on l _ n n k k a b refl refl refl refl refl (omega arith) (omega arith) h

acknowledged_kept : (c : Acknowledgement) (l : Lane) (n k : ℕ) (a b : Acknowledgement) → Kept l n k a b → Kept (lane_acknowledged c l) n k a b
unfolding lane_acknowledged lane_with
acknowledged_kept c l n k a b h = kept_on l _ n n k k a b refl refl refl refl refl (omega arith) (omega arith) h

---- events after others

pub then : {p q z : Play} {n r j k : ℕ} {l : Lane} (g : Goes p n r l q j) → Goes q g.now r g.lane z k → Goes p n r l z k
then {p} {q} {z} {n} {r} {j} {k} {l} g h =
    record {
      events = g.events ++ h.events;
      now = h.now;
      lane = h.lane;
      meets = meets_append setting (at p n r l) g.events h.events g.meets (rw g.runs h.meets);
      runs = run_append (at p n r l) g.events h.events ∙ rw g.runs h.runs;
      kept = h.kept;
    }

-- a step later
pub later : {p q : Play} {n r k : ℕ} {l : Lane} → Goes p n r l q k → Goes p n r l q (suc k)
later {p} {q} {n} {r} {k} {l} g =
    record {
      events = g.events;
      now = g.now;
      lane = g.lane;
      meets = g.meets;
      runs = g.runs;
      kept = kept_on g.lane g.lane g.now g.now k (suc k) _ _ refl refl refl refl refl (omega arith) (omega arith) g.kept;
    }

-- by whether what was sent arrives
pub by_arrival : (p : Play) (n r k : ℕ) (l : Lane) (number : ℕ) (lost : Bool) (x y : Play) → (number ≡ 0 → Goes p n r l x k) → Goes p n r l y k
    → Goes p n r l (pick (arrives number lost) x y) k
by_arrival p n r k l number lost x y g h =
    pick_holds (λ (z : Play). Goes p n r l z k) (arrives number lost) x y (λ e. g (eqb-true number 0 (both_right (not lost) _ e))) (λ _. h)

---- a clock message: captured, sent, and taken unless it is lost

module _ (p : Play) (n r k : ℕ) (l : Lane) (x : Kept l n k p.clock p.key) where
  first : Lane
  first = noted (capture_of p.olt unit_llid).number (named unit_llid (lane_captured n)) l

  first_kept : Kept first n k p.clock p.key
  unfolding first
  first_kept =
      named_either (λ (z : Lane). Kept z n k p.clock p.key) (capture_of p.olt unit_llid).number unit_llid (lane_captured n) l x
      (captured_kept l n k p.clock p.key x)

  clock_lost : Goes p n r l (with_clock_answer (with_olt p (clock_send_of (capture_of p.olt unit_llid).olt unit_llid).olt) no_acknowledgement) k
  unfolding step run with_olt with_clock_answer at_olt with_lanes clock_sending first
  clock_lost =
      let q = clock_send_of (capture_of p.olt unit_llid).olt unit_llid in
      record {
        events = capture unit_llid ∷ clock_send unit_llid ∷ [];
        now = n;
        lane = noted q.number (named unit_llid (λ (z : Lane). lane_leaving (clock_message q.message z.captured n) z)) first;
        meets = (tt, (tt, tt));
        runs = refl;
        kept =
            clock_none _ n k p.clock p.key no_acknowledgement refl
            (named_either (λ (z : Lane). Kept z n k p.clock p.key) q.number unit_llid _ first first_kept
            (left_kept _ _ n k p.clock p.key first_kept));
      }

  clock_leaves : (clock_send_of (capture_of p.olt unit_llid).olt unit_llid).number ≡ 0
      → Goes p n r l (with_olt p (clock_send_of (capture_of p.olt unit_llid).olt unit_llid).olt) k
  unfolding step run with_olt at_olt with_lanes clock_sending first
  clock_leaves e =
      let q = clock_send_of (capture_of p.olt unit_llid).olt unit_llid in
      record {
        events = capture unit_llid ∷ clock_send unit_llid ∷ [];
        now = n;
        lane = lane_leaving (clock_message q.message first.captured n) first;
        meets = (tt, (tt, tt));
        runs = rw (named_on q.number (λ (z : Lane). lane_leaving (clock_message q.message z.captured n) z) first e first_kept.place
            first_kept.registered) refl;
        kept = left_kept first _ n k p.clock p.key first_kept;
      }

  pub clock_stepped-holds : (lost : Bool) → Goes p n r l (clock_stepped p lost) k
  unfolding clock_stepped clock_sent with_olt clock_leaves lane_leaving clock_answered
  clock_stepped-holds lost =
      by_arrival p n r k l _ lost _ _
      (λ e. then (clock_leaves e) (clock_arrives _ n r k first _ _ first_kept))
      clock_lost

---- a key message of an offer or of a retry

-- the step offers a key that no step before it did
step_keys : (j k : ℕ) → key_of_step j ≡ key_of_step k → j ≡ k
unfolding key_of_step
step_keys j k e = ap (λ (xs : List ℕ). get_or xs 0 0) e

new_key-holds : (p : Play) (n r k : ℕ) (l : Lane) → Kept l n k p.clock p.key → NewKey (at p n r l) (key_of_step (suc k))
unfolding fresh_lane
new_key-holds p n r k l x = record { unused = none } where
  none : (u i : ℕ) → i < length (lane_at (at p n r l) u).keys.offers → get_or (lane_at (at p n r l) u).keys.offers i [] ≡ key_of_step (suc k) → ⊥
  none zero i h e =
      let o = x.offered i h in
      let q : o.step ≡ suc k = step_keys o.step (suc k) (sym o.same ∙ e) in
      absurd (omega (arith, q, o.before))
  none (suc u) i h e = absurd (omega (arith, h))

module _ (p : Play) (n r k : ℕ) (l : Lane) (x : Kept l n k p.clock p.key) where
  offer_kept : Kept (lane_offered (key_of_step (suc k)) l) n (suc k) p.clock p.key
  offer_kept = key_offered l n k p.clock p.key x

  offer_lost : Goes p n r l (with_key_answer (with_olt p (offer_of p.olt unit_llid (key_of_step (suc k))).olt) no_acknowledgement) (suc k)
  unfolding step run with_olt with_key_answer at_olt with_lanes offering
  offer_lost =
      let q = offer_of p.olt unit_llid (key_of_step (suc k)) in
      record {
        events = offer unit_llid (key_of_step (suc k)) ∷ [];
        now = n;
        lane = noted q.number (named unit_llid (λ (z : Lane). lane_leaving (key_message q.message n) (lane_offered (key_of_step (suc k)) z))) l;
        meets = ((λ _. new_key-holds p n r k l x), tt);
        runs = refl;
        kept =
            key_none _ n (suc k) p.clock p.key no_acknowledgement refl
            (named_either (λ (z : Lane). Kept z n (suc k) p.clock p.key) q.number unit_llid _ l
            (kept_on l l n n k (suc k) p.clock p.key refl refl refl refl refl (omega arith) (omega arith) x)
            (left_kept _ _ n (suc k) p.clock p.key offer_kept));
      }

  offer_leaves : (offer_of p.olt unit_llid (key_of_step (suc k))).number ≡ 0
      → Goes p n r l (with_olt p (offer_of p.olt unit_llid (key_of_step (suc k))).olt) (suc k)
  unfolding step run with_olt at_olt with_lanes offering
  offer_leaves e =
      let q = offer_of p.olt unit_llid (key_of_step (suc k)) in
      record {
        events = offer unit_llid (key_of_step (suc k)) ∷ [];
        now = n;
        lane = lane_leaving (key_message q.message n) (lane_offered (key_of_step (suc k)) l);
        meets = ((λ _. new_key-holds p n r k l x), tt);
        runs = rw (named_on q.number (λ (z : Lane). lane_leaving (key_message q.message n) (lane_offered (key_of_step (suc k)) z)) l e x.place
            x.registered) refl;
        kept = left_kept _ _ n (suc k) p.clock p.key offer_kept;
      }

  pub offer_stepped : (lost : Bool) → Goes p n r l (key_sent p (offer_of p.olt unit_llid (key_of_step (suc k))) lost) (suc k)
  unfolding key_sent with_olt offer_leaves lane_leaving key_answered
  offer_stepped lost =
      by_arrival p n r (suc k) l _ lost _ _ (λ e. then (offer_leaves e) (key_arrives _ n r (suc k) _ _ offer_kept)) offer_lost

  retry_lost : Goes p n r l (with_key_answer (with_olt p (retry_of p.olt unit_llid).olt) no_acknowledgement) k
  unfolding step run with_olt with_key_answer at_olt with_lanes retrying
  retry_lost =
      let q = retry_of p.olt unit_llid in
      record {
        events = retry unit_llid ∷ [];
        now = n;
        lane = noted q.number (named unit_llid (lane_leaving (key_message q.message n))) l;
        meets = (tt, tt);
        runs = refl;
        kept =
            key_none _ n k p.clock p.key no_acknowledgement refl
            (named_either (λ (z : Lane). Kept z n k p.clock p.key) q.number unit_llid _ l x (left_kept l _ n k p.clock p.key x));
      }

  retry_leaves : (retry_of p.olt unit_llid).number ≡ 0 → Goes p n r l (with_olt p (retry_of p.olt unit_llid).olt) k
  unfolding step run with_olt at_olt with_lanes retrying
  retry_leaves e =
      let q = retry_of p.olt unit_llid in
      record {
        events = retry unit_llid ∷ [];
        now = n;
        lane = lane_leaving (key_message q.message n) l;
        meets = (tt, tt);
        runs = rw (named_on q.number (lane_leaving (key_message q.message n)) l e x.place x.registered) refl;
        kept = left_kept l _ n k p.clock p.key x;
      }

  pub retry_stepped : (lost : Bool) → Goes p n r l (key_sent p (retry_of p.olt unit_llid) lost) k
  unfolding key_sent with_olt retry_leaves lane_leaving key_answered
  retry_stepped lost = by_arrival p n r k l _ lost _ _ (λ e. then (retry_leaves e) (key_arrives _ n r k l _ x)) retry_lost

  ---- an acknowledgement

  due_answer-holds : (a : Acknowledgement) (g : Given l.transit.answered n a) → DueAnswer (at p n r l) 0 g.place unit_llid
  due_answer-holds a g = record { some = g.some; left = rw (g.same, x.path) (omega (arith, g.by)); named = unit_has l x.place }

  answer_arrives : (a : Acknowledgement) → Given l.transit.answered n a → Goes p n r l (with_olt p (acknowledge_of p.olt unit_llid a).olt) k
  unfolding step run with_olt at_olt with_lanes answering
  answer_arrives a g =
      record {
        events = arrive_answer 0 g.place unit_llid ∷ [];
        now = n;
        lane = noted (acknowledge_of p.olt unit_llid a).number (named unit_llid (lane_acknowledged a)) l;
        meets = (due_answer-holds a g, tt);
        runs = rw g.same refl;
        kept = named_either (λ (z : Lane). Kept z n k p.clock p.key) _ unit_llid (lane_acknowledged a) l x (acknowledged_kept a l n k _ _ x);
      }

  pub stays : Goes p n r l p k
  unfolding run
  stays = record { events = []; now = n; lane = l; meets = tt; runs = refl; kept = x }

  pub answer_stepped : (a : Acknowledgement) (lost : Bool) → Latest l.transit.answered n a → Goes p n r l (answered p a lost) k
  unfolding answered
  answer_stepped a lost h =
      pick_holds (λ (z : Play). Goes p n r l z k) (either lost (eqb a.kind 0)) _ _ (λ _. stays)
      (λ e. ⊎_elim (λ q. absurd (eqb-false a.kind 0 (either_false lost _ e).1 q)) (λ g. answer_arrives a g) h)

---- an envelope

-- an envelope of no EQs is handed over with no octets
no_octets : (xs : List ℕ) → length xs ≡ 0 → xs ≡ []
no_octets [] e = refl
no_octets (y ∷ ys) e = absurd (omega (arith, e))

nothing_left : (v : Verdict) (xs : List ℕ) → length xs ≡ 0 → output_after v xs [] ≡ []
unfolding output_after
nothing_left (Ok tt) xs e = no_octets xs e
nothing_left (Err r) xs e = refl

down_octets : (o : Olt) → (olt_send_of o unit_llid channel_down [] []).output ≡ []
unfolding olt_send_of olt_sent passed
down_octets o = nothing_left _ _ (carried_length _ _ _ [])

up_octets : (o : Onu) → (onu_send_of o unit_llid channel_up [] []).output ≡ []
unfolding onu_send_of onu_sent passed
up_octets o = nothing_left _ _ (carried_length _ _ _ [])

sent_down_kept : (e : Envelope) (l : Lane) (n k : ℕ) (a b : Acknowledgement) → Kept l n k a b → Kept (lane_sent_down n e l) n k a b
unfolding lane_sent_down lane_with leaving
sent_down_kept e l n k a b h = kept_on l _ n n k k a b refl refl refl refl refl (omega arith) (omega arith) h

sent_up_kept : (e : Envelope) (l : Lane) (n k : ℕ) (a b : Acknowledgement) → Kept l n k a b → Kept (lane_sent_up e l) n k a b
unfolding lane_sent_up lane_with
sent_up_kept e l n k a b h = kept_on l _ n n k k a b refl refl refl refl refl (omega arith) (omega arith) h

module _ (p : Play) (n r k : ℕ) (l : Lane) (x : Kept l n k p.clock p.key) where
  -- the envelope down, and its line
  down : Lane → Envelope
  down z = envelope_down n z.path p.olt unit_llid channel_down [] [] (number_down z n)

  down_lost : Goes p n r l (with_olt p (olt_send_of p.olt unit_llid channel_down [] []).answer.olt) k
  unfolding step run with_olt at_olt with_lanes sending_down down
  down_lost =
      let q = (olt_send_of p.olt unit_llid channel_down [] []).answer in
      record {
        events = send_down unit_llid channel_down [] [] ∷ [];
        now = n;
        lane = noted q.number (named unit_llid (λ (z : Lane). lane_sent_down n (down z) z)) l;
        meets = (tt, tt);
        runs = refl;
        kept = named_either (λ (z : Lane). Kept z n k p.clock p.key) q.number unit_llid _ l x (sent_down_kept (down l) l n k _ _ x);
      }

  down_leaves : (olt_send_of p.olt unit_llid channel_down [] []).answer.number ≡ 0
      → Goes p n r l (with_olt p (olt_send_of p.olt unit_llid channel_down [] []).answer.olt) k
  unfolding step run with_olt at_olt with_lanes sending_down down
  down_leaves e =
      let q = (olt_send_of p.olt unit_llid channel_down [] []).answer in
      record {
        events = send_down unit_llid channel_down [] [] ∷ [];
        now = n;
        lane = lane_sent_down n (down l) l;
        meets = (tt, tt);
        runs = rw (named_on q.number (λ (z : Lane). lane_sent_down n (down z) z) l e x.place x.registered) refl;
        kept = sent_down_kept (down l) l n k _ _ x;
      }

  last_down : in_flight_at (at p n r (lane_sent_down n (down l) l)) 0 (length l.transit.towards) ≡ envelope (down l)
  unfolding lane_sent_down lane_with leaving
  last_down = get_or_at l.transit.towards (envelope (down l)) [] (envelope no_envelope) (length l.transit.towards) refl

  down_arrives : Goes (with_olt p (olt_send_of p.olt unit_llid channel_down [] []).answer.olt) n r (lane_sent_down n (down l) l)
      (with_onu (with_olt p (olt_send_of p.olt unit_llid channel_down [] []).answer.olt)
      (onu_receive_of p.onu (olt_send_of p.olt unit_llid channel_down [] []).answer.header [] []).answer.onu) k
  unfolding step run with_olt with_onu in_flight_arriving envelope_arriving at_onu with_lanes lane_sent_down lane_with leaving lane_taken
      lane_arrived_down down envelope_down
  down_arrives =
      let j = length l.transit.towards in
      record {
        events = arrive_down 0 j [] ∷ [];
        now = n;
        lane = lane_arrived_down
            (receipt_down (at (with_olt p (olt_send_of p.olt unit_llid channel_down [] []).answer.olt) n r (lane_sent_down n (down l) l)) 0 (down l) [])
            (lane_taken j (lane_sent_down n (down l) l));
        meets = (
          record {
            some = last_some l.transit.towards (envelope (down l));
            now = rw (last_down, x.path) (omega arith);
            buffer = rw (last_down, down_octets p.olt) refl;
          },
          tt,
        );
        runs = rw (last_down, down_octets p.olt) refl;
        kept = kept_on l _ n n k k _ _ refl refl refl refl refl (omega arith) (omega arith) x;
      }

  pub down_stepped : (lost : Bool) → Goes p n r l (sent_down p (olt_send_of p.olt unit_llid channel_down [] []).answer lost) k
  unfolding sent_down down_leaves
  down_stepped lost = by_arrival p n r k l _ lost _ _ (λ e. then (down_leaves e) down_arrives) down_lost

  -- the envelope up
  up : Lane → Envelope
  up z = envelope_up n z.path p.onu unit_llid channel_up [] [] z.keys.number

  up_lost : Goes p n r l (with_onu p (onu_send_of p.onu unit_llid channel_up [] []).answer.onu) k
  unfolding step run with_onu at_onu with_lanes sending_up up
  up_lost =
      let q = (onu_send_of p.onu unit_llid channel_up [] []).answer in
      record {
        events = send_up 0 unit_llid channel_up [] [] ∷ [];
        now = n;
        lane = noted q.number (λ (z : Lane). lane_sent_up (up z) z) l;
        meets = ((λ _. x.registered), tt);
        runs = refl;
        kept = noted_either (λ (z : Lane). Kept z n k p.clock p.key) q.number _ l x (sent_up_kept (up l) l n k _ _ x);
      }

  up_leaves : (onu_send_of p.onu unit_llid channel_up [] []).answer.number ≡ 0
      → Goes p n r l (with_onu p (onu_send_of p.onu unit_llid channel_up [] []).answer.onu) k
  unfolding step run with_onu at_onu with_lanes sending_up up
  up_leaves e =
      let q = (onu_send_of p.onu unit_llid channel_up [] []).answer in
      record {
        events = send_up 0 unit_llid channel_up [] [] ∷ [];
        now = n;
        lane = lane_sent_up (up l) l;
        meets = ((λ _. x.registered), tt);
        runs = rw (noted_on q.number (λ (z : Lane). lane_sent_up (up z) z) l e) refl;
        kept = sent_up_kept (up l) l n k _ _ x;
      }

  last_up : envelope_at (at p n r (lane_sent_up (up l) l)) 0 (length l.transit.from) ≡ up l
  unfolding lane_sent_up lane_with
  last_up = get_or_at l.transit.from (up l) [] no_envelope (length l.transit.from) refl

  up_arrives : Goes (with_onu p (onu_send_of p.onu unit_llid channel_up [] []).answer.onu) n r (lane_sent_up (up l) l)
      (with_olt (with_onu p (onu_send_of p.onu unit_llid channel_up [] []).answer.onu)
      (olt_receive_of p.olt (onu_send_of p.onu unit_llid channel_up [] []).answer.header [] []).answer.olt) k
  unfolding step run with_olt with_onu arriving_up at_olt_for with_lanes lane_sent_up lane_with lane_arrived_up up envelope_up
  up_arrives =
      let j = length l.transit.from in
      record {
        events = arrive_up 0 j [] ∷ [];
        now = n;
        lane = lane_arrived_up j (receipt_up (at (with_onu p (onu_send_of p.onu unit_llid channel_up [] []).answer.onu) n r (lane_sent_up (up l) l)) (up l) [])
            (lane_sent_up (up l) l);
        meets = (
          record {
            some = last_some l.transit.from (up l);
            now = rw (last_up, x.path) (omega arith);
            buffer = rw (last_up, up_octets p.onu) refl;
          },
          tt,
        );
        runs = rw (last_up, up_octets p.onu) refl;
        kept = kept_on l _ n n k k _ _ refl refl refl refl refl (omega arith) (omega arith) x;
      }

  pub up_stepped : (lost : Bool) → Goes p n r l (sent_up p (onu_send_of p.onu unit_llid channel_up [] []).answer lost) k
  unfolding sent_up up_leaves
  up_stepped lost = by_arrival p n r k l _ lost _ _ (λ e. then (up_leaves e) up_arrives) up_lost

  ---- an advance

  advance_tick : (m : ℕ) → n ≤ pick (accepted (advance_olt_of p.olt m).number) (n + m) n
  advance_tick m = pick_holds (λ (t : ℕ). n ≤ t) _ (n + m) n (λ _. omega arith) (λ _. omega arith)

  pub advance_stepped : (m : ℕ) → Goes p n r l (advanced p m) k
  unfolding step run with_olt with_onu advanced advancing
  advance_stepped m =
      record {
        events = advance m ∷ [];
        now = pick (accepted (advance_olt_of p.olt m).number) (n + m) n;
        lane = l;
        meets = (tt, tt);
        runs = refl;
        kept = kept_on l l n _ k k _ _ refl refl refl refl refl (advance_tick m) (omega arith) x;
      }
