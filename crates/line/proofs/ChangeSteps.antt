-- A path change keeps the invariant (02, C-16): the ends and the units' own lines are as without groups, and what is under way of groups to
-- the unit is lost. Either call alone is refused. Assumes nothing.
use mathlib.Core.Path.{◌≡◌, refl, sym, ◌∙◌, ap, subst}
use mathlib.Core.Bool.{Bool, true, false}
use mathlib.Core.List.Memᴰ
use mathlib.Core.List.{List, [], ◌∷◌, map, Memᴰ}
use mathlib.Core.Logic.{⊎_elim}
use Prim.Native.Nat.{ℕ, ◌+◌, ◌<◌}
use native.Mathlib.Omega.{arith}
use lib.Dec.{eqb}
use lib.ListN.{length, get_or, set, length-set, length-map, get_or-map}
use lib.Seq.{get_or-set_same, get_or-set_other}
use borrow.Author.Tests.{eqb-true, eqb-false}
use Rattle.octets.proofs.Choice.{pick_holds}
use Rattle.ends.specs.declared.Channels.{Channels}
use Rattle.ends.specs.declared.Onu.{Onu}
use Rattle.protocol.specs.OltCalls.{measure_of}
use Rattle.protocol.specs.OnuCalls.{new_time_of}
use Rattle.protocol.proofs.OltCalls.{measure_refused}
use Rattle.protocol.proofs.NewTimes.{new_time_refused}
use Rattle.group_protocol.specs.Head.{group_at, with_olt, valid_groups}
use Rattle.group_protocol.specs.Subscriber.{with_onu, valid_memberships}
use Rattle.group_protocol.specs.declared.GroupRecord.{GroupRecord}
use Rattle.group_protocol.specs.declared.HeadEnd.{HeadEnd}
use Rattle.group_protocol.specs.declared.Joined.{Joined}
use Rattle.group_protocol.specs.declared.Subscriber.{Subscriber}
use Rattle.headend.specs.HeadCalls.{head_measure_of}
use Rattle.subscriber.specs.SubscriberCalls.{subscriber_new_time_of}
use Rattle.headend.specs.declared.HeadAnswer.{HeadAnswer}
use Rattle.subscriber.specs.declared.SubscriberAnswer.{SubscriberAnswer}
use Rattle.subscriber.proofs.SubscriberSteps.{new_time_identity}
use Rattle.unicast.specs.Setting.{Delays, Setting}
use Rattle.unicast.specs.History.{InFlight, Entry, Lane, lane_moved}
use Rattle.unicast.specs.Events as events
use Rattle.unicast.specs.Run as run
use Rattle.unicast.specs.Run.{lane_at, fresh_lane, no_site, with_lanes, changing}
use Rattle.unicast.specs.Premises as premises
use Rattle.unicast.proofs.Theorem.{step_right}
use Rattle.line.specs.History.{GroupAnswered, GroupLane, Membership, is_member, has_taken, answer_again, group_moved}
use Rattle.line.specs.Events.{change_path, measure, new_time}
use Rattle.line.specs.Run.{State, alone, no_subscriber, subscriber_at, joined_by, no_group_lane, group_lane_at, now, lanes, changing_path, step}
use Rattle.line.specs.Premises.{Changes, Fits}
use Rattle.line.proofs.Invariant.{Recorded, joined_for, Follows, Stranger, Joins, Invariant}
use Rattle.line.proofs.Alone.{onu_alone}
use Rattle.line.proofs.AloneHead.{answered_olt}
use Rattle.line.proofs.AloneUnit.{new_time_onu}
use Rattle.line.proofs.AnswerSteps.{same_head}
use Rattle.line.proofs.Beside.{Beside, UnitKept, head_kept, with_onu_kept, unit_itself, beside_right}
use Rattle.line.proofs.Frames.{follows_moved, send_moved, arrived_moved}
use Rattle.line.proofs.GroupSteps.{member_same}
use Rattle.line.proofs.Kept.{measure_kept}
use Rattle.line.proofs.Lines.{memberships_right}
use Rattle.line.proofs.OverheardSteps.{subscriber_stays}
use Rattle.line.proofs.Places.{map_set, set_field, set_holds}
use Rattle.line.proofs.Queues.{Grown}

---- what is under way of groups to a unit is lost

-- what holds of each element's image holds of what is mapped
each_mapped : {A B : Type 0} (P : B → Type 0) (f : A → B) (l : List A) → ((x : A) → Memᴰ x l → P (f x)) → (y : B)
    → Memᴰ y (map f l) → P y
each_mapped P f [] h y m = absurd (Memᴰ.not-nil m)
each_mapped P f (x ∷ l) h y m =
    ⊎_elim (λ e. subst P (sym e) (h x (Memᴰ.head refl))) (λ t. each_mapped P f l (λ z q. h z (Memᴰ.tail q)) y t)
    (Memᴰ.cases_cons m)

-- an acknowledgement that may leave again is that of the same unit and key
again_same : (P : ℕ → ℕ → Type 0) (u now : ℕ) (a : GroupAnswered) → P a.unit a.answer.number
    → P (answer_again u now a).unit (answer_again u now a).answer.number
unfolding answer_again
again_same P u now a p =
    pick_holds (λ (x : GroupAnswered). P x.unit x.answer.number) (eqb a.unit u) (record { unit = a.unit; answer = a.answer; tick = now }) a
    (λ t. p) (λ t. p)

grown : (u now : ℕ) (g : GroupLane) (top : ℕ) → Grown g (group_moved u now g) top
unfolding group_moved
grown u now g top = record { llid = refl; sent = λ e m. m; keys = λ n a b. refl }

member_moved : (u now : ℕ) (g : GroupLane) (l : Lane) → is_member (group_moved u now g) l ≡ is_member g l
unfolding group_moved
member_moved u now g l = member_same g (group_moved u now g) l refl

recorded_moved : (w : Setting) (u : ℕ) (c : Channels) (now : ℕ) (g : GroupLane) (r : GroupRecord) → Recorded w c now g r
    → Recorded w c now (group_moved u now g) r
unfolding group_moved
recorded_moved w u c now g r q =
    record {
      llid = q.llid;
      counted = q.counted;
      listed = q.listed;
      mid = q.mid;
      next = q.next;
      stored = q.stored;
      timing = q.timing;
      sends = λ e m.
          send_moved w c c r.keys.first r.keys.active g (group_moved u now g) e r.keys.active (grown u now g r.keys.active) (omega arith)
          (λ k. omega arith) (q.sends e m);
      spaced = q.spaced;
      arrived = λ a m.
          arrived_moved w g (group_moved u now g) a a.envelope.number (grown u now g a.envelope.number) (omega arith) (q.arrived a m);
    }

-- nothing is under way
emptied : (g : GroupLane) (active offered : ℕ) (member : Bool) (ms : List Membership) (j : Joined) (xs : List InFlight)
    → Follows g active offered member ms j xs → Follows g active offered member ms j []
emptied g active offered member ms j xs f =
    record { low = f.low; kept = f.kept; held = f.held; took = f.took; queue = tt; stranger = λ e. refl }

module _ (w : Setting) (s : State) (u : ℕ) (i : Invariant w s) where
  abbrev gs : List GroupLane
  gs = map (group_moved u (now s)) s.history.groups

  abbrev lost : State
  lost =
      record {
        head = s.head;
        subscribers = s.subscribers;
        history = record { units = s.history.units; joined = s.history.joined; groups = map (group_moved u (now s)) s.history.groups };
      }

  line_at : (g : ℕ) → get_or gs g no_group_lane ≡ group_moved u (now s) (group_lane_at s g)
  unfolding no_group_lane group_moved
  line_at g = get_or-map (group_moved u (now s)) s.history.groups g no_group_lane

  lines : length gs ≡ length s.history.groups
  lines = length-map s.history.groups (group_moved u (now s))

  llid_at-holds : (g : ℕ) → (get_or gs g no_group_lane).llid ≡ (group_lane_at s g).llid
  unfolding group_moved
  llid_at-holds g = ap (λ (y : GroupLane). y.llid) (line_at g)

  offers_at : (g : ℕ) → (get_or gs g no_group_lane).keys.offers ≡ (group_lane_at s g).keys.offers
  unfolding group_moved
  offers_at g = ap (λ (y : GroupLane). y.keys.offers) (line_at g)

  was_stranger : (y : Lane) (llid : ℕ) → Stranger gs y llid → Stranger s.history.groups y llid
  was_stranger y llid n k q e =
      sym (ap (λ (z : GroupLane). is_member z y) (line_at k) ∙ member_moved u (now s) (group_lane_at s k) y)
      ∙ n k (omega (arith, q, lines)) (llid_at-holds k ∙ e)

  joins_lost : (v : ℕ) → v < length (lanes s) → Joins gs (lane_at (alone s) v) (subscriber_at s v) (joined_by s v)
  joins_lost v h =
      let j = i.joins v h in
      record {
        valid = j.valid;
        places = j.places;
        llids = j.llids;
        stranger = λ llid n. j.stranger llid (was_stranger (lane_at (alone s) v) llid n);
        untaken = λ llid n. j.untaken llid (was_stranger (lane_at (alone s) v) llid n);
      }

  -- the unit's queue is empty, those of others stay
  queue_at : (v g : ℕ) → v < length (lanes s) → g < length s.history.groups → (P : List InFlight → Type 0) → P []
      → P (get_or (group_lane_at s g).towards v [])
      → P (get_or (set (group_lane_at s g).towards u []) v [])
  queue_at v g h k P none old = by_test (eqb v u) refl where
    by_test : (t : Bool) → eqb v u ≡ t → P (get_or (set (group_lane_at s g).towards u []) v [])
    by_test true e =
        let z : v ≡ u = eqb-true v u e in
        subst (λ (n : ℕ). P (get_or (set (group_lane_at s g).towards u []) n [])) (sym z)
        (subst P (sym (get_or-set_same (group_lane_at s g).towards u [] [] (omega (arith, h, z, i.queues g k)))) none)
    by_test false e = subst P (sym (get_or-set_other (group_lane_at s g).towards u v [] [] (eqb-false v u e))) old

  abbrev Pair : ℕ → ℕ → GroupLane → List InFlight → Type 0
  Pair v g l xs =
      Follows l (group_at s.head g).keys.active (group_at s.head g).keys.offered (is_member l (lane_at (alone s) v)) (joined_by s v)
      (joined_for (subscriber_at s v) l.llid) xs

  pair_moved : (v g : ℕ) (l : GroupLane) (xs : List InFlight) → Pair v g l xs → Pair v g (group_moved u (now s) l) xs
  unfolding group_moved
  pair_moved v g l xs f =
      follows_moved l (group_moved u (now s) l) _ _ _ _ _ _ (joined_by s v) _ xs (grown u (now s) l _) (omega arith) (omega arith)
      (λ e. sym (member_moved u (now s) l (lane_at (alone s) v)) ∙ e) f

  follows_lost : (v g : ℕ) → v < length (lanes s) → g < length s.history.groups
      → Pair v g (group_moved u (now s) (group_lane_at s g)) (get_or (group_moved u (now s) (group_lane_at s g)).towards v [])
  unfolding group_moved
  follows_lost v g h k =
      let l = group_lane_at s g in
      let f = i.follows v g h k in
      queue_at v g h k (Pair v g (group_moved u (now s) l)) (pair_moved v g l [] (emptied l _ _ _ (joined_by s v) _ _ f)) (pair_moved v g l _ f)

  answered_lost : (g : ℕ) (a : GroupAnswered) → g < length s.history.groups → Memᴰ a (group_moved u (now s) (group_lane_at s g)).answered
      → has_taken (joined_by s a.unit) (group_lane_at s g).llid a.answer.number ≡ true
  unfolding group_moved
  answered_lost g a k m =
      each_mapped (λ (x : GroupAnswered). has_taken (joined_by s x.unit) (group_lane_at s g).llid x.answer.number ≡ true) (answer_again u (now s))
      (group_lane_at s g).answered
      (λ x q.
      again_same (λ (v n : ℕ). has_taken (joined_by s v) (group_lane_at s g).llid n ≡ true) u (now s) x (i.answered g x k q))
      a m

  lost_right : Invariant w lost
  unfolding alone group_moved
  lost_right =
      record {
        units = i.units;
        valid = i.valid;
        places = i.places;
        count = i.count ∙ sym lines;
        paired = i.paired;
        queues = λ g h. rw (line_at g) (length-set (group_lane_at s g).towards u [] ∙ i.queues g (omega (arith, h, lines)));
        group = λ g h. rw (line_at g) (recorded_moved w u _ (now s) (group_lane_at s g) _ (i.group g (omega (arith, h, lines))));
        joins = joins_lost;
        follows = λ v g h k. rw (line_at g) (follows_lost v g h (omega (arith, k, lines)));
        answered = λ g a h m. rw (llid_at-holds g) (answered_lost g a (omega (arith, h, lines)) (rw (line_at g) at m));
        keys = λ g h m n a b e. i.keys g h m n (rw (offers_at g) at a) (rw (offers_at h) at b) (rw (offers_at g, offers_at h) at e);
        mixed = λ v g m n a b e. i.mixed v g m n a (rw (offers_at g) at b) (rw (offers_at g) at e);
      }

---- both ends are told

pub change_alone : (s : State) (u llid time : ℕ) (p : Delays) → valid_groups s.head ≡ true → valid_memberships (subscriber_at s u) ≡ true
    → alone (changing_path s u llid time p) ≡ changing (alone s) u llid time p
unfolding changing_path changing head_measure_of alone with_olt with_onu
change_alone s u llid time p v m =
    rw (
      answered_olt s.head v (measure_of s.head.olt llid (p.up + p.down)),
      map_set (λ (y : Subscriber). y.onu) s.subscribers u _,
      new_time_onu (subscriber_at s u) m time,
      onu_alone s u,
    )

module _ (w : Setting) (s : State) (u llid time : ℕ) (p : Delays) (i : Invariant w s) (d : Changes w s u llid time p) where
  abbrev x : Subscriber
  x = subscriber_at s u

  abbrev trip : ℕ
  trip = p.up + p.down

  -- before what is under way of groups is lost
  abbrev told : State
  told =
      record {
        head = (head_measure_of s.head llid (p.up + p.down)).head;
        subscribers = set s.subscribers u (subscriber_new_time_of (subscriber_at s u) time).subscriber;
        history = record { units = (changing (alone s) u llid time p).history; joined = s.history.joined; groups = s.history.groups };
      }

  head_is : head_measure_of s.head llid trip
      ≡ record { number = (measure_of s.head.olt llid trip).number; head = with_olt s.head (measure_of s.head.olt llid trip).olt }
  unfolding head_measure_of
  head_is = answered_olt s.head i.valid (measure_of s.head.olt llid trip)

  unit_is : subscriber_new_time_of x time ≡ record { number = (new_time_of x.onu time).number; subscriber = with_onu x (new_time_of x.onu time).onu }
  unit_is = new_time_onu x (memberships_right w s i u) time

  fits : premises.Changes w (alone s) u llid time p
  unfolding alone
  fits =
      record {
        registered = d.registered;
        named = d.named;
        measured = sym (ap (λ (r : HeadAnswer). r.number) head_is) ∙ d.measured;
        retimed =
            ap (λ (o : Onu). (new_time_of o time).number) (onu_alone s u)
            ∙ sym (ap (λ (r : SubscriberAnswer). r.number) unit_is)
            ∙ d.retimed;
        follows = d.follows;
      }

  told_alone : alone told ≡ run.step (alone s) (events.change_path u llid time p)
  unfolding run.step changing_path alone
  told_alone = change_alone s u llid time p i.valid (memberships_right w s i u)

  told_beside : Beside s told
  unfolding changing with_lanes alone with_olt lane_moved
  told_beside =
      let kept = measure_kept s.head.olt llid trip in
      let ls = s.history.units.lanes in
      let l = lane_moved p (now s) (lane_at (alone s) u) in
      record {
        groups = ap (λ (r : HeadAnswer). r.head.groups) head_is;
        valid = rw head_is (head_kept s.head _ kept i.valid);
        rises = rw head_is kept.rises;
        ticks = refl;
        paired = length-set ls u l;
        site = set_field (λ (y : Lane). y.site) ls u l (fresh_lane no_site) refl;
        entry = λ v e. ap (λ (y : Entry). y.registered) (set_field (λ (y : Lane). y.entry) ls u l (fresh_lane no_site) refl v) ∙ e;
        unit =
            set_holds (λ (v : ℕ) (y : Subscriber). UnitKept (subscriber_at s v) y) s.subscribers u _ no_subscriber
            (λ v. unit_itself (subscriber_at s v)) (rw unit_is (with_onu_kept x _ (new_time_identity x.onu time)));
        joined = refl;
        lines = refl;
      }

  offers_stay : (v : ℕ) → (lane_at (alone told) v).keys.offers ≡ (lane_at (alone s) v).keys.offers
  unfolding changing with_lanes alone lane_moved
  offers_stay =
      set_field (λ (y : Lane). y.keys.offers) s.history.units.lanes u (lane_moved p (now s) (lane_at (alone s) u)) (fresh_lane no_site) refl

  told_right : Invariant w told
  told_right =
      beside_right w s told i told_beside (rw told_alone (step_right w (alone s) (events.change_path u llid time p) i.units fits))
      (λ v g m n a b e. let stay = offers_stay v in i.mixed v g m n (rw stay at a) b (rw stay at e))

pub change_path_right : (w : Setting) (s : State) (u llid time : ℕ) (p : Delays) → Invariant w s → Fits w s (change_path u llid time p)
    → Invariant w (step s (change_path u llid time p))
unfolding step changing_path changing with_lanes alone
change_path_right w s u llid time p i d = lost_right w (told w s u llid time p i d) u (told_right w s u llid time p i d)

---- either call alone, which is refused

pub head_refused : (h : HeadEnd) (llid trip : ℕ) → valid_groups h ≡ true → ((head_measure_of h llid trip).number ≡ 0 → ⊥)
    → (head_measure_of h llid trip).head ≡ h
unfolding head_measure_of with_olt
head_refused h llid trip v n =
    let is = answered_olt h v (measure_of h.olt llid trip) in
    ap (λ (r : HeadAnswer). r.head) is ∙ ap (with_olt h) (measure_refused h.olt llid trip (λ z. n (ap (λ (r : HeadAnswer). r.number) is ∙ z)))

pub time_refused : (x : Subscriber) (time : ℕ) → valid_memberships x ≡ true → ((subscriber_new_time_of x time).number ≡ 0 → ⊥)
    → (subscriber_new_time_of x time).subscriber ≡ x
unfolding with_onu
time_refused x time v n =
    let is = new_time_onu x v time in
    ap (λ (r : SubscriberAnswer). r.subscriber) is
    ∙ ap (with_onu x) (new_time_refused x.onu time (λ z. n (ap (λ (r : SubscriberAnswer). r.number) is ∙ z)))

pub measure_right : (w : Setting) (s : State) (llid trip : ℕ) → Invariant w s → Fits w s (measure llid trip) → Invariant w (step s (measure llid trip))
unfolding step
measure_right w s llid trip i n = rw (head_refused s.head llid trip i.valid n) (same_head w s i)

pub new_time_right : (w : Setting) (s : State) (u time : ℕ) → Invariant w s → Fits w s (new_time u time) → Invariant w (step s (new_time u time))
unfolding step
new_time_right w s u time i n = subscriber_stays w s u _ (time_refused (subscriber_at s u) time (memberships_right w s i u) n) i
