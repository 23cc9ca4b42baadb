-- The registration of a group keeps the invariant: nothing is under way of it, and whoever joined its LLID has taken nothing. Assumes
-- nothing.
use mathlib.Core.Path.{◌≡◌, refl, sym, ◌∙◌, ap}
use mathlib.Core.Bool.{Bool, true, false}
use mathlib.Core.List.{List, [], ◌∷◌, ◌++◌, Memᴰ}
use Prim.Native.Nat.{ℕ, ◌+◌, ◌-◌, ◌/◌, ◌<◌, ◌≤◌}
use native.Mathlib.Omega.{arith}
use native.Mathlib.Nat.{zero-mod}
use lib.Dec.{eqb, ltb}
use lib.ListN.{length, get_or, set, replicate, length-set, length-append, length-replicate, get_or-replicate, get_or-append, get_or-eq_default}
use lib.Seq.{get_or_at, get_or-set_same, get_or-set_other}
use borrow.Author.Tests.{eqb-true, eqb-false, ne_eqb, ltb-true, ltb-false, leb-true, leb-false, le-ltb, not-false}
use Rattle.octets.specs.Choice.{pick}
use Rattle.octets.proofs.Choice.{both_left, both_right, either_false, true_false}
use Rattle.octets.proofs.Members.{none_in}
use Rattle.refusal.proofs.Numbers.{number_accepted}
use Rattle.refusal.proofs.Order.{refuse_accepted}
use Rattle.ends.specs.Limits.{max_units}
use Rattle.ends.specs.Table.{is_registered}
use Rattle.ends.specs.Timers.{valid_interval, fresh_timer}
use Rattle.ends.specs.declared.Channels.{Channels}
use Rattle.protocol.specs.Replies.{silent}
use Rattle.protocol.proofs.Replies.{reply_verdict, reply_accepted, reply_untouched, number_refused}
use Rattle.group_protocol.specs.Head.{find_group, group_at, past_group, fresh_group, is_group, places_taken, with_one_group_more}
use Rattle.group_protocol.specs.Members.{valid_members}
use Rattle.group_protocol.specs.declared.GroupRecord.{GroupRecord}
use Rattle.group_protocol.specs.declared.HeadEnd.{HeadEnd}
use Rattle.group_protocol.specs.declared.Members.{Members}
use Rattle.group_protocol.specs.declared.Roster.{Roster}
use Rattle.group_protocol.proofs.GroupSteps.{fresh_group_valid}
use Rattle.group_protocol.proofs.HeadGroups.{more_groups_valid}
use Rattle.headend.specs.HeadCalls.{head_answer, roster_members, valid_group_registration, group_verdict, register_group_of}
use Rattle.unicast.specs.Setting.{Setting}
use Rattle.unicast.specs.History.{InFlight, due}
use Rattle.unicast.specs.Run.{lane_at}
use Rattle.unicast.proofs.Invariant.{flag_of, Timing}
use Rattle.line.specs.History.{GroupAnswered, GroupLane, is_member, has_taken}
use Rattle.line.specs.Events.{register_group}
use Rattle.line.specs.Run.{State, alone, subscriber_at, joined_by, no_group_lane, group_lane_at, now, lanes, at_head, new_group_lane, registering_group, step}
use Rattle.line.proofs.Invariant.{Recorded, joined_for, Follows, Stranger, Joins, Invariant}
use Rattle.line.proofs.Finding.{group_among}
use Rattle.line.proofs.Lines.{group_finds}

---- what an accepted registration has met, and answers with

pub record Accepts (h : HeadEnd) (llid ticks : ℕ) (r : Roster) : Type 0 where
  pub is : register_group_of h llid ticks r ≡ record { number = 0; head = with_one_group_more h (fresh_group llid ticks (roster_members h.olt r)) }
  pub interval : valid_interval ticks ≡ true
  pub members : valid_members h.olt.count (roster_members h.olt r) ≡ true
  pub unit : is_registered h.olt llid ≡ false
  pub group : is_group h llid ≡ false
  pub room : places_taken h < max_units

pub accepts : (h : HeadEnd) (llid interval : ℕ) (r : Roster) → (register_group_of h llid interval r).number ≡ 0 → Accepts h llid interval r
unfolding register_group_of head_answer group_verdict valid_group_registration
accepts h llid interval r e =
    let v = sym (reply_verdict _ h silent _ silent) ∙ number_accepted _ e in
    let a = refuse_accepted _ _ _ v in
    let b = refuse_accepted _ _ _ a.1 in
    let c = refuse_accepted _ _ _ b.1 in
    let d = refuse_accepted _ _ _ c.1 in
    let f = refuse_accepted _ _ _ d.1 in
    let llids = either_false _ _ d.0 in
    record {
      is = ap head_answer (reply_accepted _ h silent _ silent v);
      interval = both_right _ _ (not-false _ b.0);
      members = not-false _ c.0;
      unit = llids.0;
      group = llids.1;
      room = leb-false max_units (places_taken h) f.0;
    }

fresh_timing : (w : Setting) (s : State) (llid interval : ℕ) (r : Roster) → valid_interval interval ≡ true
    → Timing (new_group_lane s llid interval r).entry (new_group_lane s llid interval r).keys (now s) (fresh_timer interval)
unfolding new_group_lane fresh_timer due valid_interval
fresh_timing w s llid interval r v =
    let none : now s - now s ≡ 0 = omega arith in
    record {
      interval = refl;
      some = leb-true 1 interval (both_left _ _ v);
      since = omega arith;
      switched = omega arith;
      count = rw none (sym (zero-mod interval));
      flag = sym (ap flag_of (le-ltb ((now s - now s) / interval) ((now s - now s) / interval) (omega arith)));
    }

fresh_recorded : (w : Setting) (s : State) (c : Channels) (llid interval : ℕ) (r : Roster) (m : Members) → valid_interval interval ≡ true
    → Recorded w c (now s) (new_group_lane s llid interval r) (fresh_group llid interval m)
unfolding fresh_group new_group_lane
fresh_recorded w s c llid interval r m v =
    record {
      llid = refl;
      counted = refl;
      listed = refl;
      mid = omega arith;
      next = omega arith;
      stored = λ n a b d. absurd (omega arith);
      timing = fresh_timing w s llid interval r v;
      sends = λ e q. none_in [] e refl q;
      spaced = record { down = λ x y a b. absurd (omega (arith, b)); up = λ x y a b. absurd (omega (arith, b)) };
      arrived = λ a q. none_in [] a refl q;
    }

fresh_llid : (llid interval : ℕ) (m : Members) → (fresh_group llid interval m).llid ≡ llid
unfolding fresh_group
fresh_llid llid interval m = refl

new_queues : (s : State) (llid interval : ℕ) (r : Roster) → length (new_group_lane s llid interval r).towards ≡ length (lanes s)
unfolding new_group_lane
new_queues s llid interval r = length-replicate (length (lanes s)) []

none_answered : {P : Type 0} (s : State) (llid interval : ℕ) (r : Roster) (x : GroupAnswered) → Memᴰ x (new_group_lane s llid interval r).answered
    → P
unfolding new_group_lane
none_answered s llid interval r x m = none_in [] x refl m

---- one line more

module _ (w : Setting) (s : State) (llid interval : ℕ) (r : Roster) (i : Invariant w s) (a : Accepts s.head llid interval r) where
  abbrev gs : List GroupLane
  gs = s.history.groups

  abbrev new : GroupLane
  new = new_group_lane s llid interval r

  abbrev fresh : GroupRecord
  fresh = fresh_group llid interval (roster_members s.head.olt r)

  abbrev line_at : ℕ → GroupLane
  line_at k = get_or (gs ++ (new ∷ [])) k no_group_lane

  abbrev record_at : ℕ → GroupRecord
  record_at k = get_or (set s.head.groups.table s.head.groups.count fresh) k past_group

  place : s.head.groups.count < length s.head.groups.table
  place = omega (arith, a.room, i.places)

  longer : length (gs ++ (new ∷ [])) ≡ length gs + 1
  longer = length-append gs (new ∷ [])

  old_line : (k : ℕ) → k < length gs → line_at k ≡ group_lane_at s k
  old_line k h = get_or-append gs (new ∷ []) no_group_lane k h

  last_line : line_at (length gs) ≡ new
  last_line = get_or_at gs new [] no_group_lane (length gs) refl

  -- an old group, or the new one
  pub by_group : (P : GroupLane → GroupRecord → Type 0) (k : ℕ) → k < length (gs ++ (new ∷ [])) → P new fresh
      → (k < length gs → P (group_lane_at s k) (group_at s.head k)) → P (line_at k) (record_at k)
  by_group P k h own other = by_place (ltb k (length s.history.groups)) refl where
    by_place : (t : Bool) → ltb k (length s.history.groups) ≡ t → P (line_at k) (record_at k)
    by_place true e =
        let below = ltb-true k (length s.history.groups) e in
        let differs : k ≡ s.head.groups.count → ⊥ = λ z. omega (arith, below, i.count) in
        rw (old_line k below, get_or-set_other s.head.groups.table s.head.groups.count k fresh past_group differs) (other below)
    by_place false e =
        let last : k ≡ length s.history.groups = omega (arith, h, longer, ltb-false k (length s.history.groups) e) in
        let counted : k ≡ s.head.groups.count = last ∙ sym i.count in
        let line : line_at k ≡ new = ap line_at last ∙ last_line in
        let stored : record_at k ≡ fresh =
        ap record_at counted ∙ get_or-set_same s.head.groups.table s.head.groups.count fresh past_group place in
        rw (line, stored) own

  ---- the units

  was_stranger : (u x : ℕ) → Stranger (gs ++ (new ∷ [])) (lane_at (alone s) u) x → Stranger gs (lane_at (alone s) u) x
  was_stranger u x n k h e = rw (old_line k h) at (n k (omega (arith, h, longer)) (ap (λ (y : GroupLane). y.llid) (old_line k h) ∙ e))

  -- no group has had the LLID
  none_before : (u : ℕ) → Stranger gs (lane_at (alone s) u) llid
  none_before u k h e = true_false (sym (group_among s.head llid k (ap (find_group s.head) (sym e) ∙ group_finds w s i k h)) ∙ a.group)

  joins_stay : (u : ℕ) → u < length (lanes s) → Joins (gs ++ (new ∷ [])) (lane_at (alone s) u) (subscriber_at s u) (joined_by s u)
  joins_stay u h =
      let j = i.joins u h in
      record {
        valid = j.valid;
        places = j.places;
        llids = j.llids;
        stranger = λ x n. j.stranger x (was_stranger u x n);
        untaken = λ x n. j.untaken x (was_stranger u x n);
      }

  new_follows : (u : ℕ) → u < length (lanes s)
      → Follows new 0 0 (is_member new (lane_at (alone s) u)) (joined_by s u) (joined_for (subscriber_at s u) llid)
      (get_or new.towards u [])
  unfolding new_group_lane
  new_follows u h =
      let empty = (i.joins u h).stranger llid (none_before u) in
      let queue : get_or {A = List InFlight} (replicate (length (lanes s)) []) u [] ≡ [] = get_or-replicate (length (lanes s)) u [] [] h in
      record {
        low = omega (arith, empty.active);
        kept = λ e. absurd (omega (arith, e, empty.kept));
        held = λ e. absurd (omega (arith, e, empty.held));
        took = λ n t. true_false (sym t ∙ (i.joins u h).untaken llid (none_before u) n);
        queue = rw queue tt;
        stranger = λ e. queue;
      }

  fresh_follows : (u : ℕ) → u < length (lanes s)
      → Follows new fresh.keys.active fresh.keys.offered (is_member new (lane_at (alone s) u)) (joined_by s u)
      (joined_for (subscriber_at s u) new.llid) (get_or new.towards u [])
  unfolding fresh_group new_group_lane
  fresh_follows u h = new_follows u h

  ---- keys

  -- a group that offered keys is an old one
  offered_before : (k m : ℕ) → m < length (line_at k).keys.offers → line_at k ≡ group_lane_at s k
  unfolding new_group_lane no_group_lane
  offered_before k m h = by_place (ltb k (length s.history.groups)) (eqb k (length s.history.groups)) refl refl where
    by_place : (t z : Bool) → ltb k (length s.history.groups) ≡ t → eqb k (length s.history.groups) ≡ z → line_at k ≡ group_lane_at s k
    by_place true z e f = old_line k (ltb-true k (length s.history.groups) e)
    by_place false true e f =
        let line : line_at k ≡ new = ap line_at (eqb-true k (length s.history.groups) f) ∙ last_line in
        absurd (omega (arith, h, ap (λ (y : GroupLane). length y.keys.offers) line))
    by_place false false e f =
        let past : length (gs ++ (new ∷ [])) ≤ k = omega (
          arith,
          longer,
          ltb-false k (length s.history.groups) e,
          eqb-false k
              (length s.history.groups) f,
        ) in
        absurd (omega (arith, h, ap (λ (y : GroupLane). length y.keys.offers) (get_or-eq_default (gs ++ (new ∷ [])) no_group_lane past)))

  ---- the whole

  registered_right : Invariant w (at_head s (with_one_group_more s.head fresh) s.history.units (gs ++ (new ∷ [])))
  unfolding at_head alone with_one_group_more
  registered_right =
      let c = s.head.olt.shared.channels in
      record {
        units = i.units;
        valid =
            more_groups_valid s.head fresh a.room place (rw (fresh_llid llid interval (roster_members s.head.olt r)) a.group)
            (rw (fresh_llid llid interval (roster_members s.head.olt r)) a.unit)
            (fresh_group_valid s.head.olt.shared.tick s.head.olt.count llid interval (roster_members s.head.olt r) a.members a.interval)
            i.valid;
        places = length-set s.head.groups.table s.head.groups.count fresh ∙ i.places;
        count = omega (arith, i.count, longer);
        paired = i.paired;
        queues = λ k h. by_group (λ y z. length y.towards ≡ length (lanes s)) k h (new_queues s llid interval r) (i.queues k);
        group = λ k h. by_group (λ y z. Recorded w c (now s) y z) k h (fresh_recorded w s c llid interval r _ a.interval) (i.group k);
        joins = joins_stay;
        follows = λ u k h q.
            by_group (λ (y : GroupLane) (z : GroupRecord).
            Follows y z.keys.active z.keys.offered (is_member y (lane_at (alone s) u)) (joined_by s u)
            (joined_for (subscriber_at s u) y.llid) (get_or y.towards u []))
            k q (fresh_follows u h) (i.follows u k h);
        answered = λ k x h m.
            by_group (λ y z. Memᴰ x y.answered → has_taken (joined_by s x.unit) y.llid x.answer.number ≡ true) k h
            (none_answered s llid interval r x) (λ q. i.answered k x q) m;
        keys = λ k h m n p q e.
            let x = offered_before k m p in
            let y = offered_before h n q in
            i.keys k h m n (rw x at p) (rw y at q) (rw (x, y) at e);
        mixed = λ u k m n p q e.
            let x = offered_before k n q in
            i.mixed u k m n p (rw x at q) (rw x at e);
      }

---- the call

refused : (h : HeadEnd) (llid interval : ℕ) (r : Roster) → ((register_group_of h llid interval r).number ≡ 0 → ⊥)
    → (register_group_of h llid interval r).head ≡ h
unfolding register_group_of head_answer
refused h llid interval r n = (number_refused h silent _ (λ x e. reply_untouched _ h silent _ silent x e) n).end

pub refused_step : (s : State) (llid interval : ℕ) (r : Roster) → ((register_group_of s.head llid interval r).number ≡ 0 → ⊥)
    → step s (register_group llid interval r) ≡ s
unfolding step registering_group at_head pick
refused_step s llid interval r n = rw (refused s.head llid interval r n, ne_eqb _ _ n)

pub accepted_step : (s : State) (llid interval : ℕ) (r : Roster) → Accepts s.head llid interval r
    → step s (register_group llid interval r)
    ≡ at_head s (with_one_group_more s.head (fresh_group llid interval (roster_members s.head.olt r))) s.history.units
    (s.history.groups ++ (new_group_lane s llid interval r ∷ []))
unfolding step registering_group pick
accepted_step s llid interval r a = rw a.is

pub register_group_right : (w : Setting) (s : State) (llid interval : ℕ) (r : Roster) → Invariant w s
    → Invariant w (step s (register_group llid interval r))
register_group_right w s llid interval r i = by_number (eqb (register_group_of s.head llid interval r).number 0) refl where
  by_number : (t : Bool) → eqb (register_group_of s.head llid interval r).number 0 ≡ t → Invariant w (step s (register_group llid interval r))
  by_number true e =
      let a = accepts s.head llid interval r (eqb-true _ _ e) in
      rw (accepted_step s llid interval r a) (registered_right w s llid interval r i a)
  by_number false e = rw (refused_step s llid interval r (eqb-false _ _ e)) i
