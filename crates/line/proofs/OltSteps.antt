-- The calls of the OLT on a unit keep the invariant. Assumes nothing.
use Rattle.std.specs.Prelude.{None}
use mathlib.Core.Path.{◌≡◌, refl, ◌∙◌, ap}
use mathlib.Core.List.{List}
use Prim.Native.Nat.{ℕ}
use lib.ListN.{length, length-map}
use Rattle.ends.specs.declared.Olt.{Olt}
use Rattle.protocol.specs.OltCalls.{capture_of, clock_send_of, retry_of, acknowledge_of}
use Rattle.traffic.specs.Sends.{olt_send_of}
use Rattle.group_protocol.specs.Head.{find_group, with_olt}
use Rattle.group_protocol.specs.Naming.{by_llid}
use Rattle.headend.specs.HeadCalls.{head_capture_of, head_clock_send_of}
use Rattle.unicast.specs.Setting.{Setting}
use Rattle.unicast.specs.History as history
use Rattle.unicast.specs.History.{Lane, lane_with, lane_captured, lane_leaving, lane_sent_down, lane_acknowledged}
use Rattle.unicast.specs.Events as events
use Rattle.unicast.specs.Run as run
use Rattle.unicast.specs.Run.{at_olt, noted, named, with_lanes, clock_sending, retrying, answer_at}
use Rattle.unicast.specs.Premises as premises
use Rattle.unicast.proofs.Alive.{answered_alive}
use Rattle.unicast.proofs.Stays.{at_olt_keeps}
use Rattle.unicast.proofs.Theorem.{step_right}
use Rattle.line.specs.History.{GroupLane}
use Rattle.line.specs.Events.{capture, clock_send, retry, send_down, arrive_answer}
use Rattle.line.specs.Run.{State, alone, at_head, clock_sent_alone, key_sent_alone, clock_sending_to, retrying_to, head_passage, envelope_down, sending_down, answering, step}
use Rattle.line.specs.Premises.{Fits}
use Rattle.line.proofs.Invariant.{Invariant}
use Rattle.line.proofs.AloneHead.{answered_olt, clock_sent_olt, retry_olt, acknowledge_olt, send_olt}
use Rattle.line.proofs.Kept.{OltKept, capture_kept, clock_send_kept, retry_kept, acknowledge_kept, send_kept}
use Rattle.line.proofs.Beside.{Beside, head_kept, unit_itself, beside_right}
use Rattle.line.proofs.Lines.{noted_none, unit_no_group}

---- what a lane keeps

named_length : (s : run.State) (o : Olt) (number llid : ℕ) (f : Lane → Lane)
    → length (at_olt s o number llid f).history.lanes ≡ length s.history.lanes
unfolding at_olt with_lanes
named_length s o number llid f = length-map s.history.lanes (noted number (named llid f))

named_ticks : (s : run.State) (o : Olt) (number llid : ℕ) (f : Lane → Lane) → (at_olt s o number llid f).history.now ≡ s.history.now
unfolding at_olt with_lanes
named_ticks s o number llid f = refl

---- the groups beside such a call

-- the lane that f makes is of the same site, entry and offers
pub record LaneKept (f : Lane → Lane) : Type 0 where
  pub site : (l : Lane) → (f l).site ≡ l.site
  pub entry : (l : Lane) → (f l).entry ≡ l.entry

pub named_beside : (w : Setting) (s : State) (o : Olt) (number llid : ℕ) (f : Lane → Lane) (gs : List GroupLane) → Invariant w s
    → OltKept s.head.olt o
    → LaneKept f → gs ≡ s.history.groups → Beside s (at_head s (with_olt s.head o) (at_olt (alone s) o number llid f).history gs)
unfolding at_head alone with_olt
named_beside w s o number llid f gs i k f-keeps same =
    record {
      groups = refl;
      valid = head_kept s.head o k i.valid;
      rises = k.rises;
      ticks = named_ticks (alone s) o number llid f;
      paired = named_length (alone s) o number llid f;
      site = at_olt_keeps (λ (l : Lane). l.site) (alone s) o number llid f f-keeps.site;
      entry = λ u e. ap (λ (x : history.Entry). x.registered) (at_olt_keeps (λ (l : Lane). l.entry) (alone s) o number llid f f-keeps.entry u) ∙ e;
      unit = λ u. unit_itself _;
      joined = refl;
      lines = same;
    }

-- it offers no key
pub named_right : (w : Setting) (s : State) (o : Olt) (number llid : ℕ) (f : Lane → Lane) (gs : List GroupLane) → Invariant w s
    → OltKept s.head.olt o
    → LaneKept f → ((l : Lane) → (f l).keys.offers ≡ l.keys.offers) → gs ≡ s.history.groups → (e : events.Event)
    → at_olt (alone s) o number llid f ≡ run.step (alone s) e → premises.Fits w (alone s) e
    → Invariant w (at_head s (with_olt s.head o) (at_olt (alone s) o number llid f).history gs)
unfolding at_head alone with_olt at_olt
named_right w s o number llid f gs i k f-keeps offers same e is fits =
    beside_right w s _ i (named_beside w s o number llid f gs i k f-keeps same)
    (rw is (step_right w (alone s) e i.units fits))
    (λ u g m n p q z.
    let stay = at_olt_keeps (λ (l : Lane). l.keys.offers) (alone s) o number llid f offers u in
    i.mixed u g m n (rw stay at p) q (rw stay at z))

---- captures, clock messages

pub capture_right : (w : Setting) (s : State) (llid : ℕ) → Invariant w s → Invariant w (step s (capture llid))
unfolding step head_capture_of run.step alone with_olt lane_captured
capture_right w s llid i =
    rw (answered_olt s.head i.valid (capture_of s.head.olt llid))
    (named_right w s (capture_of s.head.olt llid).olt (capture_of s.head.olt llid).number llid (lane_captured (alone s).history.now)
    s.history.groups i (capture_kept s.head.olt llid) (record { site = λ l. refl; entry = λ l. refl }) (λ l. refl) refl
    (events.capture llid) refl tt)

pub clock_send_right : (w : Setting) (s : State) (llid : ℕ) → Invariant w s → Invariant w (step s (clock_send llid))
unfolding step head_clock_send_of clock_sending_to clock_sent_alone clock_sending run.step alone with_olt lane_leaving lane_with
clock_send_right w s llid i =
    rw (clock_sent_olt s.head i.valid (clock_send_of s.head.olt llid))
    (named_right w s (clock_send_of s.head.olt llid).olt (clock_send_of s.head.olt llid).number llid _
    s.history.groups i (clock_send_kept s.head.olt llid) (record { site = λ l. refl; entry = λ l. refl }) (λ l. refl) refl
    (events.clock_send llid) refl tt)

---- where no group has the LLID

module _ (w : Setting) (s : State) (llid : ℕ) (i : Invariant w s) (none : find_group s.head llid ≡ None) where
  pub unit_retry_right : Invariant w (step s (retry llid))
  unfolding step retrying_to key_sent_alone retrying run.step alone with_olt lane_leaving lane_with
  unit_retry_right =
      rw (retry_olt s.head i.valid llid none)
      (named_right w s (retry_of s.head.olt llid).olt (retry_of s.head.olt llid).number llid _
      _ i (retry_kept s.head.olt llid) (record { site = λ l. refl; entry = λ l. refl }) (λ l. refl) (noted_none w s i _ llid _ none)
      (events.retry llid) refl tt)

  pub unit_send_right : (channel : ℕ) (p out : List ℕ) → Invariant w (step s (send_down llid channel p out))
  unfolding step sending_down run.sending_down envelope_down run.envelope_down head_passage by_llid run.step alone with_olt lane_sent_down lane_with
  unit_send_right channel p out =
      let r = olt_send_of s.head.olt llid channel p out in
      rw (none, send_olt s.head i.valid llid none channel p out)
      (named_right w s r.answer.olt r.answer.number llid _
      _ i (send_kept s.head.olt llid channel p out) (record { site = λ l. refl; entry = λ l. refl }) (λ l. refl) (noted_none w s i _ llid _ none)
      (events.send_down llid channel p out) refl tt)

  pub unit_answer_right : (u k : ℕ) → premises.DueAnswer (alone s) u k llid → Invariant w (step s (arrive_answer u k llid))
  unfolding step answering run.answering run.step alone with_olt lane_acknowledged lane_with
  unit_answer_right u k due =
      let a = (answer_at (alone s) u k).acknowledgement in
      rw (acknowledge_olt s.head i.valid llid none a)
      (named_right w s (acknowledge_of s.head.olt llid a).olt (acknowledge_of s.head.olt llid a).number llid _
      s.history.groups i (acknowledge_kept s.head.olt llid a) (record { site = λ l. refl; entry = λ l. refl }) (λ l. refl) refl
      (events.arrive_answer u k llid) refl due)

-- an acknowledgement of a unit names one of its LLIDs
pub answer_right : (w : Setting) (s : State) (u k llid : ℕ) → Invariant w s → Fits w s (arrive_answer u k llid)
    → Invariant w (step s (arrive_answer u k llid))
answer_right w s u k llid i due =
    let a = answered_alive w (alone s) u i.units k due.some in
    unit_answer_right w s llid i (unit_no_group w s i u llid a.registered due.named) u k due
