-- A unit that joins a group keeps the invariant: it has of the group what it had before, nothing. Assumes nothing.
use Rattle.std.specs.Prelude.{Option, Some, None}
use mathlib.Core.Path.{◌≡◌, refl, sym, ◌∙◌, ap, subst}
use mathlib.Core.Bool.{Bool, true, false}
use mathlib.Core.List.{List, [], ◌∷◌, ◌++◌, map, map-append}
use Prim.Native.Nat.{ℕ, ◌+◌, ◌<◌}
use native.Mathlib.Numerals.{add-one}
use native.Mathlib.Omega.{arith}
use lib.Dec.{eqb, ltb}
use lib.ListN.{length, get_or, take, set, length-set, length-map, length-take, get_or-eq_default}
use lib.Seq.{set-get_or, get_or-set_same, get_or-set_other, take-suc-set}
use borrow.Author.Tests.{eqb-true, eqb-false, ne_eqb, leb-false, ltb-true, ltb-false, not-false}
use Rattle.octets.specs.Choice.{both, either, pick}
use Rattle.octets.proofs.Choice.{both_left, either_false, pick_true, pick_false, true_false}
use Rattle.refusal.proofs.Numbers.{number_accepted}
use Rattle.refusal.proofs.Order.{refuse_accepted}
use Rattle.ends.specs.Identities.{among, has}
use Rattle.ends.specs.Validity.{valid_onu}
use Rattle.protocol.specs.Replies.{silent}
use Rattle.protocol.proofs.OnuCalls.{zeros_invalid}
use Rattle.protocol.proofs.Replies.{reply_verdict, reply_accepted, reply_untouched, number_refused}
use Rattle.group_protocol.specs.Head.{group_at}
use Rattle.group_protocol.specs.Limits.{max_joined}
use Rattle.group_protocol.specs.Members.{place_from}
use Rattle.group_protocol.specs.Subscriber.{fresh_joined, joined_llids, joined_groups, has_joined, find_joined, joined_at, past_joined, with_one_joined_more, valid_subscriber}
use Rattle.group_protocol.specs.declared.Joined.{Joined}
use Rattle.group_protocol.specs.declared.Subscriber.{Subscriber}
use Rattle.group_protocol.proofs.Places.{place_at}
use Rattle.group_protocol.proofs.Subscribers.{one_more_valid, fresh_joined_valid}
use Rattle.group_protocol.specs.Naming.{by_llid}
use Rattle.subscriber.specs.SubscriberCalls.{subscriber_answer, join_verdict, join_of}
use Rattle.unicast.specs.Setting.{Setting}
use Rattle.unicast.specs.Run.{lane_at}
use Rattle.unicast.proofs.Invariant as units
use Rattle.line.specs.History.{Membership, is_member, has_taken, joining}
use Rattle.line.specs.Events.{join}
use Rattle.line.specs.Run.{State, alone, no_subscriber, subscriber_at, joined_by, group_lane_at, lanes, at_unit, joining_at, step}
use Rattle.line.proofs.Invariant.{joined_for, Follows, Joins, Invariant}
use Rattle.line.proofs.Finding.{place_before, place_last, joined_none}
use Rattle.line.proofs.Lines.{by_unit, subscribers_paired}
use Rattle.line.proofs.MemberSteps.{alone_stays}
use Rattle.line.proofs.Places.{set_holds}

---- a unit that has the same of every group

pub record Swapped (s : State) (u : ℕ) (x : Subscriber) (ms : List Membership) : Type 0 where
  pub onu : x.onu ≡ (subscriber_at s u).onu
  pub joins : u < length (lanes s) → Joins s.history.groups (lane_at (alone s) u) x ms
  pub same : (llid : ℕ) → joined_for x llid ≡ joined_for (subscriber_at s u) llid
  pub taken : (llid n : ℕ) → has_taken ms llid n ≡ has_taken (joined_by s u) llid n

module _ (w : Setting) (s : State) (u : ℕ) (x : Subscriber) (ms : List Membership) (i : Invariant w s) (p : Swapped s u x ms) where
  own_follows : (v g : ℕ) → v ≡ u → v < length (lanes s) → g < length s.history.groups
      → Follows (group_lane_at s g) (group_at s.head g).keys.active (group_at s.head g).keys.offered
      (is_member (group_lane_at s g) (lane_at (alone s) v)) ms (joined_for x (group_lane_at s g).llid)
      (get_or (group_lane_at s g).towards v [])
  own_follows v g e h k =
      let f = i.follows v g h k in
      let is : subscriber_at s v ≡ subscriber_at s u = ap (subscriber_at s) e in
      rw (p.same (group_lane_at s g).llid, ← is)
      (record {
        low = f.low;
        kept = f.kept;
        held = f.held;
        took = λ n t. f.took n (ap (λ (y : ℕ). has_taken (joined_by s y) (group_lane_at s g).llid n) e ∙ sym (p.taken (group_lane_at s g).llid n) ∙ t);
        queue = f.queue;
        stranger = f.stranger;
      })

  pub swapped_right : Invariant w (at_unit s u x s.history.units (set s.history.joined u ms) s.history.groups)
  unfolding at_unit alone
  swapped_right =
      record {
        units =
            subst (units.Invariant w) (sym (alone_stays s u x (set s.history.joined u ms) s.history.groups p.onu)) i.units;
        valid = i.valid;
        places = i.places;
        count = i.count;
        paired = length-set s.history.joined u ms ∙ i.paired;
        queues = i.queues;
        group = i.group;
        joins = λ v h.
            by_unit w s i u v x ms (Joins s.history.groups (lane_at (alone s) v)) h (λ e. rw e (p.joins (omega (arith, h, e)))) (λ n. i.joins v h);
        follows = λ v g h k.
            by_unit w s i u v x ms (λ (y : Subscriber) (js : List Membership).
            Follows (group_lane_at s g) (group_at s.head g).keys.active (group_at s.head g).keys.offered
            (is_member (group_lane_at s g) (lane_at (alone s) v)) js (joined_for y (group_lane_at s g).llid)
            (get_or (group_lane_at s g).towards v []))
            h (λ e. own_follows v g e h k) (λ n. i.follows v g h k);
        answered = λ g a h m.
            set_holds (λ (v : ℕ) (js : List Membership).
            has_taken (joined_by s v) (group_lane_at s g).llid a.answer.number ≡ true → has_taken js (group_lane_at s g).llid a.answer.number ≡ true)
            s.history.joined u ms [] (λ v e. e) (λ e. p.taken (group_lane_at s g).llid a.answer.number ∙ e) a.unit (i.answered g a h m);
        keys = i.keys;
        mixed = i.mixed;
      }

---- one group more

module _ (x : Subscriber) (llid : ℕ) (room : x.memberships.count < length x.memberships.table) where
  abbrev more : Subscriber
  more = with_one_joined_more x (fresh_joined llid)

  more_llids : joined_llids (joined_groups more) ≡ joined_llids (joined_groups x) ++ (llid ∷ [])
  unfolding with_one_joined_more joined_llids fresh_joined
  more_llids =
      let n = x.memberships.count in
      let l = x.memberships.table in
      let grown : take (n + 1) (set l n (fresh_joined llid)) ≡ take n l ++ (fresh_joined llid ∷ []) =
      rw (add-one, take-suc-set l n (fresh_joined llid) room) in
      ap joined_llids grown ∙ map-append (λ (y : Joined). y.llid) (take n l) (fresh_joined llid ∷ [])

  counted : length (joined_llids (joined_groups x)) ≡ x.memberships.count
  unfolding joined_llids
  counted =
      length-map (joined_groups x) (λ (y : Joined). y.llid) ∙ length-take x.memberships.count x.memberships.table
      ∙ omega (arith, room)

  more_at : (k : ℕ) → (k ≡ x.memberships.count → ⊥) → joined_at more k ≡ joined_at x k
  unfolding with_one_joined_more
  more_at k n = get_or-set_other x.memberships.table x.memberships.count k (fresh_joined llid) past_joined n

  more_last : joined_at more x.memberships.count ≡ fresh_joined llid
  unfolding with_one_joined_more
  more_last = get_or-set_same x.memberships.table x.memberships.count (fresh_joined llid) past_joined room

  -- what the unit has of every LLID stays
  more_same : find_joined x llid ≡ None → (y : ℕ) → joined_for more y ≡ joined_for x y
  unfolding joined_for find_joined by_llid
  more_same none y = by_found (place_from 0 (joined_llids (joined_groups x)) y) refl where
    had : (f : Option ℕ) → place_from 0 (joined_llids (joined_groups x)) y ≡ f → by_llid f (fresh_joined y) (joined_at x) ≡ joined_for x y
    had f e = ap (λ (z : Option ℕ). by_llid z (fresh_joined y) (joined_at x)) (sym e)

    has_now : (f : Option ℕ) → place_from 0 (joined_llids (joined_groups x) ++ (llid ∷ [])) y ≡ f
        → joined_for more y ≡ by_llid f (fresh_joined y) (joined_at more)
    has_now f e = ap (λ (z : Option ℕ). by_llid z (fresh_joined y) (joined_at more)) (ap (λ (l : List ℕ). place_from 0 l y) more_llids ∙ e)

    by_llid-holds : place_from 0 (joined_llids (joined_groups x)) y ≡ None → (t : Bool) → eqb llid y ≡ t → joined_for more y ≡ joined_for x y
    by_llid-holds e true f =
        let z : llid ≡ y = eqb-true llid y f in
        has_now (Some (0 + length (joined_llids (joined_groups x)))) (place_last 0 (joined_llids (joined_groups x)) llid y e ∙ pick_true _ _ f)
        ∙ ap (joined_at more) (omega (arith, counted)) ∙ more_last ∙ ap fresh_joined z ∙ had None e
    by_llid-holds e false f =
        has_now None (place_last 0 (joined_llids (joined_groups x)) llid y e ∙ pick_false _ _ f) ∙ had None e

    by_found : (f : Option ℕ) → place_from 0 (joined_llids (joined_groups x)) y ≡ f → joined_for more y ≡ joined_for x y
    by_found None e = by_llid-holds e (eqb llid y) refl
    by_found (Some k) e =
        let s = place_at 0 (joined_llids (joined_groups x)) y k e in
        has_now (Some k) (place_before 0 (joined_llids (joined_groups x)) (llid ∷ []) y k e)
        ∙ more_at k (λ z. omega (arith, z, s.below, counted)) ∙ had (Some k) e

-- a group just joined: nothing was taken
joining_taken : (llid y n : ℕ) (ms : List Membership) → has_taken (joining llid ms) y n ≡ has_taken ms y n
unfolding joining has_taken among both either
joining_taken llid y n [] = by_test (eqb llid y) where
  by_test : (t : Bool) → either (both t false) false ≡ false
  by_test true = refl
  by_test false = refl
joining_taken llid y n (m ∷ ms) = ap (either (both (eqb m.llid y) (among n m.took))) (joining_taken llid y n ms)

joining_llids : (llid : ℕ) (ms : List Membership) → map (λ (m : Membership). m.llid) (joining llid ms) ≡ map (λ (m : Membership). m.llid) ms
    ++ (llid ∷ [])
unfolding joining
joining_llids llid ms = map-append (λ (m : Membership). m.llid) ms _

---- the call

record Accepts (x : Subscriber) (llid : ℕ) : Type 0 where
  is : join_of x llid ≡ record { number = 0; subscriber = with_one_joined_more x (fresh_joined llid) }
  valid : valid_subscriber x ≡ true
  own : has x.onu.identity llid ≡ false
  new : has_joined x llid ≡ false
  room : x.memberships.count < max_joined

accepts : (x : Subscriber) (llid : ℕ) → (join_of x llid).number ≡ 0 → Accepts x llid
unfolding join_of subscriber_answer join_verdict
accepts x llid e =
    let v = sym (reply_verdict _ x silent _ silent) ∙ number_accepted _ e in
    let a = refuse_accepted _ _ _ v in
    let b = refuse_accepted _ _ _ a.1 in
    let c = refuse_accepted _ _ _ b.1 in
    let llids = either_false _ _ b.0 in
    record {
      is = ap subscriber_answer (reply_accepted _ x silent _ silent v);
      valid = not-false _ a.0;
      own = llids.0;
      new = llids.1;
      room = leb-false max_joined x.memberships.count c.0;
    }

refused : (x : Subscriber) (llid : ℕ) → ((join_of x llid).number ≡ 0 → ⊥) → (join_of x llid).subscriber ≡ x
unfolding join_of subscriber_answer
refused x llid n = (number_refused x silent _ (λ r e. reply_untouched _ x silent _ silent r e) n).end

none_valid : valid_onu no_subscriber.onu ≡ false
unfolding no_subscriber
none_valid = zeros_invalid

-- an end of zeros is not valid, so that who is called is a unit of the setting
pub valid_known : (w : Setting) (s : State) (u : ℕ) → Invariant w s → valid_subscriber (subscriber_at s u) ≡ true → u < length (lanes s)
unfolding valid_subscriber
valid_known w s u i v = by_length (ltb u (length s.subscribers)) refl where
  by_length : (t : Bool) → ltb u (length s.subscribers) ≡ t → u < length (lanes s)
  by_length true e = omega (arith, ltb-true u (length s.subscribers) e, subscribers_paired w s i)
  by_length false e =
      let zeros = get_or-eq_default s.subscribers no_subscriber (ltb-false u (length s.subscribers) e) in
      true_false (sym (both_left _ _ v) ∙ ap (λ (x : Subscriber). valid_onu x.onu) zeros ∙ none_valid)

accepted_right : (w : Setting) (s : State) (u llid : ℕ) → Invariant w s → Accepts (subscriber_at s u) llid → Invariant w (step s (join u llid))
unfolding step joining_at pick with_one_joined_more has fresh_joined
accepted_right w s u llid i a =
    let x = subscriber_at s u in
    let known = valid_known w s u i a.valid in
    let j = i.joins u known in
    let room : x.memberships.count < length x.memberships.table = omega (arith, a.room, j.places) in
    rw a.is
    (swapped_right w s u (with_one_joined_more x (fresh_joined llid)) (joining llid (joined_by s u)) i
    (record {
      onu = refl;
      joins = λ h.
          record {
            valid = one_more_valid x (fresh_joined llid) a.room room a.new a.own (fresh_joined_valid llid) j.valid;
            places = length-set x.memberships.table x.memberships.count (fresh_joined llid) ∙ j.places;
            llids = joining_llids llid (joined_by s u) ∙ ap (λ (l : List ℕ). l ++ (llid ∷ [])) j.llids ∙ sym (more_llids x llid room);
            stranger = λ y n. rw (more_same x llid room (joined_none x llid a.new) y) (j.stranger y n);
            untaken = λ y n k. joining_taken llid y k (joined_by s u) ∙ j.untaken y n k;
          };
      same = more_same x llid room (joined_none x llid a.new);
      taken = λ y n. joining_taken llid y n (joined_by s u);
    }))

refused_step : (s : State) (u llid : ℕ) → ((join_of (subscriber_at s u) llid).number ≡ 0 → ⊥) → step s (join u llid) ≡ s
unfolding step joining_at at_unit pick
refused_step s u llid n = rw (refused (subscriber_at s u) llid n, ne_eqb _ _ n, set-get_or s.subscribers u no_subscriber)

pub join_right : (w : Setting) (s : State) (u llid : ℕ) → Invariant w s → Invariant w (step s (join u llid))
join_right w s u llid i = by_number (eqb (join_of (subscriber_at s u) llid).number 0) refl where
  by_number : (t : Bool) → eqb (join_of (subscriber_at s u) llid).number 0 ≡ t → Invariant w (step s (join u llid))
  by_number true e = accepted_right w s u llid i (accepts (subscriber_at s u) llid (eqb-true _ _ e))
  by_number false e = rw (refused_step s u llid (eqb-false _ _ e)) i
