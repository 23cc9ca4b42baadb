-- An advance of all ends keeps the invariant. Assumes nothing.
use Rattle.std.specs.Prelude.{Ok, Err}
use mathlib.Core.Path.{◌≡◌, refl, sym, ◌∙◌, ap, subst}
use mathlib.Core.List.{map}
use Prim.Native.Nat.{ℕ, ◌+◌, ◌<◌}
use native.Mathlib.Omega.{arith}
use lib.ListN.{length, get_or, get_or-eq_default}
use borrow.Author.Tests.{ne_eqb}
use Rattle.octets.specs.Choice.{pick}
use Rattle.octets.proofs.Choice.{pick_false}
use Rattle.octets.proofs.Maps.{length_first, get_d_first}
use Rattle.ends.specs.Records.{with_timer}
use Rattle.ends.specs.declared.Olt.{Olt}
use Rattle.ends.specs.declared.Onu.{Onu}
use Rattle.protocol.specs.OltCalls.{olt_answer, olt_advanced, shared_advanced, advance_olt_of}
use Rattle.protocol.specs.OnuCalls.{advance_onu_of}
use Rattle.protocol.specs.Replies.{advance_verdict}
use Rattle.protocol.proofs.Replies.{advance_accepted, advance_accepts}
use Rattle.refusal.specs.Number.{number_of}
use Rattle.refusal.specs.declared.Refusal.{Refusal}
use Rattle.refusal.proofs.Order.{refused_accepts}
use Rattle.protocol.proofs.OltCalls.{advance_olt_refused}
use Rattle.protocol.proofs.OltAdvance.{advancing_accepted, advancing_accepts}
use Rattle.refusal.proofs.Numbers.{number_accepted}
use Rattle.group_protocol.specs.GroupCalls.{group_advanced}
use Rattle.group_protocol.specs.Head.{group_at, past_group, with_group_keys}
use Rattle.group_protocol.specs.Subscriber.{with_onu}
use Rattle.group_protocol.specs.declared.HeadEnd.{HeadEnd}
use Rattle.group_protocol.specs.declared.Subscriber.{Subscriber}
use Rattle.group_protocol.proofs.HeadValidity.{head_valid}
use Rattle.headend.specs.HeadCalls.{groups_advanced, head_advanced}
use Rattle.subscriber.specs.SubscriberCalls.{subscriber_advance_of}
use Rattle.subscriber.specs.declared.SubscriberAnswer.{SubscriberAnswer}
use Rattle.headend.proofs.HeadGrowth.{advanced_groups_valid, advance_moves}
use Rattle.subscriber.proofs.SubscriberSteps.{advance_identity}
use Rattle.unicast.specs.Setting.{Setting}
use Rattle.unicast.specs.Events as events
use Rattle.unicast.specs.Run as run
use Rattle.unicast.specs.Run.{lane_at}
use Rattle.unicast.proofs.AdvanceSteps.{timing_advanced}
use Rattle.unicast.proofs.Theorem.{step_right}
use Rattle.line.specs.Events.{advance}
use Rattle.line.specs.Run.{State, alone, subscriber_at, no_subscriber, joined_by, group_lane_at, now, lanes, advancing, step}
use Rattle.line.proofs.Invariant.{Recorded, Joins, Invariant}
use Rattle.line.proofs.AloneHead.{advance_stays}
use Rattle.line.proofs.AloneUnit.{advance_onu}
use Rattle.line.proofs.Beside.{UnitKept, with_onu_kept, unit_itself, memberships_kept, beside_right}
use Rattle.line.proofs.Frames.{follows_moved, joined_for_same}
use Rattle.line.proofs.Lines.{memberships_right, group_stands}
use Rattle.line.proofs.Places.{map_square, map_holds}
use Rattle.line.proofs.Queues.{itself}
use Rattle.refusal.specs.Verdict.{Verdict, no_refusal}

olt_accepted : (o : Olt) (n : ℕ) → (advance_olt_of o n).number ≡ 0 → advance_verdict o.shared.tick n ≡ no_refusal
unfolding advance_olt_of olt_answer
olt_accepted o n z = advance_accepts o.shared.tick n (advancing_accepted o n (number_accepted _ z)).1

---- the groups

groups_places : (h : HeadEnd) (n : ℕ) → length (groups_advanced h.groups n).table ≡ length h.groups.table
unfolding groups_advanced
groups_places h n = length_first (group_advanced n) h.groups.count h.groups.table

groups_count : (h : HeadEnd) (n : ℕ) → (groups_advanced h.groups n).count ≡ h.groups.count
unfolding groups_advanced
groups_count h n = refl

channels_stay : (h : HeadEnd) (n : ℕ) → (olt_advanced h.olt n).shared.channels ≡ h.olt.shared.channels
unfolding olt_advanced shared_advanced
channels_stay h n = refl

abbrev moved : ℕ → Subscriber → Subscriber
moved n x = (subscriber_advance_of x n).subscriber

module _ (w : Setting) (s : State) (n : ℕ) (i : Invariant w s) where
  ---- the units

  moved_onu : (u : ℕ) → (moved n (subscriber_at s u)).onu ≡ (advance_onu_of (subscriber_at s u).onu n).onu
  unfolding with_onu
  moved_onu u = ap (λ (r : SubscriberAnswer). r.subscriber.onu) (advance_onu (subscriber_at s u) (memberships_right w s i u) n)

  moved_kept : (u : ℕ) → UnitKept (subscriber_at s u) (moved n (subscriber_at s u))
  moved_kept u =
      subst (λ (r : SubscriberAnswer). UnitKept (subscriber_at s u) r.subscriber) (sym (advance_onu (subscriber_at s u) (memberships_right w s i u) n))
      (with_onu_kept (subscriber_at s u) _ (advance_identity (subscriber_at s u).onu n))

  onus_moved : map (λ (x : Subscriber). x.onu) (map (moved n) s.subscribers)
      ≡ map (λ (o : Onu). (advance_onu_of o n).onu) (map (λ (x : Subscriber). x.onu) s.subscribers)
  onus_moved =
      map_square (λ (x : Subscriber). x.onu) (moved n) (λ (o : Onu). (advance_onu_of o n).onu) (λ (x : Subscriber). x.onu) s.subscribers no_subscriber
      (λ u h. moved_onu u)

  units_kept : (u : ℕ) → UnitKept (subscriber_at s u) (get_or (map (moved n) s.subscribers) u no_subscriber)
  units_kept =
      map_holds (λ (u : ℕ) (x : Subscriber). UnitKept (subscriber_at s u) x) (moved n) s.subscribers no_subscriber no_subscriber (λ u h. moved_kept u)
      (λ u h. rw (get_or-eq_default s.subscribers no_subscriber h) (unit_itself no_subscriber))

  ---- all stay where the OLT does

  stayed_right : (r : Refusal) → advance_verdict s.head.olt.shared.tick n ≡ Err r → Invariant w (advancing s n)
  unfolding advancing alone run.step run.advancing
  stayed_right r e =
      let refused : (advance_olt_of s.head.olt n).number ≡ 0 → ⊥ = λ z. refused_accepts r (sym e ∙ olt_accepted s.head.olt n z) in
      let late : number_of r ≡ 0 → ⊥ = λ z. refused_accepts r (number_accepted (Err r) z) in
      rw (advance_stays s.head i.valid n r i.units.valid e, pick_false (now s + n) (now s) (ne_eqb _ _ late))
      (beside_right w s _ i
      (record {
        groups = refl;
        valid = i.valid;
        rises = λ k. omega arith;
        ticks = refl;
        paired = refl;
        site = λ u. refl;
        entry = λ u e. e;
        unit = units_kept;
        joined = refl;
        lines = refl;
      })
      (rw onus_moved
      (rw (pick_false (now s + n) (now s) (ne_eqb _ _ refused), advance_olt_refused s.head.olt n refused)
      at (step_right w (alone s) (events.advance n) i.units tt)))
      i.mixed)

  ---- and move where it does

  group_moved-holds : (g : ℕ) → g < length s.history.groups → get_or (groups_advanced s.head.groups n).table g past_group
      ≡ group_advanced n (group_at s.head g)
  unfolding groups_advanced
  group_moved-holds g h =
      let r = group_stands w s i g h in
      get_d_first (group_advanced n) s.head.groups.count s.head.groups.table g past_group r.used r.place

  recorded_moved : (g : ℕ) → g < length s.history.groups
      → Recorded w s.head.olt.shared.channels (now s + n) (group_lane_at s g) (group_advanced n (group_at s.head g))
  unfolding group_advanced with_group_keys with_timer
  recorded_moved g h =
      let r = i.group g h in
      record {
        llid = r.llid;
        counted = r.counted;
        listed = r.listed;
        mid = r.mid;
        next = r.next;
        stored = r.stored;
        timing = timing_advanced (group_lane_at s g).entry (group_lane_at s g).keys (now s) n (group_at s.head g).keys.timer r.timing;
        sends = r.sends;
        spaced = r.spaced;
        arrived = r.arrived;
      }

  joins_moved : (u : ℕ) → u < length (lanes s)
      → Joins s.history.groups (lane_at (alone s) u) (get_or (map (moved n) s.subscribers) u no_subscriber) (joined_by s u)
  joins_moved u h =
      let x = subscriber_at s u in
      let y = get_or (map (moved n) s.subscribers) u no_subscriber in
      let j = i.joins u h in
      let k = units_kept u in
      record {
        valid = memberships_kept x y k j.valid;
        places = rw k.memberships j.places;
        llids = rw k.memberships j.llids;
        stranger = λ llid e. rw (joined_for_same y x llid k.memberships) (j.stranger llid e);
        untaken = j.untaken;
      }

  advanced_right : advance_verdict s.head.olt.shared.tick n ≡ no_refusal → Invariant w (advancing s n)
  unfolding advancing alone run.step run.advancing head_advanced group_advanced with_group_keys with_timer pick advance_olt_of olt_answer
  advanced_right e =
      let olt = advancing_accepts s.head.olt n i.units.valid (advance_accepted s.head.olt.shared.tick n e) in
      rw (advance_moves s.head n (head_valid s.head (record { olt = i.units.valid; groups = i.valid })) e)
      (record {
        units =
            rw onus_moved
            (rw olt at (step_right w (alone s) (events.advance n) i.units tt));
        valid = advanced_groups_valid s.head n i.valid;
        places = groups_places s.head n ∙ i.places;
        count = groups_count s.head n ∙ i.count;
        paired = i.paired;
        queues = i.queues;
        group = λ g h. rw (group_moved-holds g h, channels_stay s.head n) (recorded_moved g h);
        joins = joins_moved;
        follows = λ u g h k.
            rw (
              group_moved-holds g k,
              joined_for_same (get_or (map (moved n) s.subscribers) u no_subscriber) (subscriber_at s u) (group_lane_at s g).llid (units_kept u).memberships,
            )
            (follows_moved (group_lane_at s g) (group_lane_at s g) _ _ _ _ _ _ (joined_by s u) _ _ (itself (group_lane_at s g) _) (omega arith) (omega arith)
            (λ q. q) (i.follows u g h k));
        answered = i.answered;
        keys = i.keys;
        mixed = i.mixed;
      })

moved_alone : (w : Setting) (s : State) (n : ℕ) (i : Invariant w s) → advance_verdict s.head.olt.shared.tick n ≡ no_refusal
    → alone (advancing s n) ≡ run.step (alone s) (events.advance n)
unfolding advancing alone run.step run.advancing head_advanced pick advance_olt_of olt_answer
moved_alone w s n i e =
    rw (
      advance_moves s.head n (head_valid s.head (record { olt = i.units.valid; groups = i.valid })) e,
      onus_moved w s n i,
      advancing_accepts s.head.olt n i.units.valid (advance_accepted s.head.olt.shared.tick n e),
    )

stayed_alone : (w : Setting) (s : State) (n : ℕ) (i : Invariant w s) (r : Refusal) → advance_verdict s.head.olt.shared.tick n ≡ Err r
    → alone (advancing s n) ≡ run.step (alone s) (events.advance n)
unfolding advancing alone run.step run.advancing pick
stayed_alone w s n i r e =
    let refused : (advance_olt_of s.head.olt n).number ≡ 0 → ⊥ = λ z. refused_accepts r (sym e ∙ olt_accepted s.head.olt n z) in
    let late : number_of r ≡ 0 → ⊥ = λ z. refused_accepts r (number_accepted (Err r) z) in
    rw (
      advance_stays s.head i.valid n r i.units.valid e,
      ne_eqb _ _ late,
      onus_moved w s n i,
      ne_eqb _ _ refused,
      advance_olt_refused s.head.olt n refused,
    )

-- the units and the OLT move as without groups
pub advance_alone : (w : Setting) (s : State) (n : ℕ) → Invariant w s → alone (step s (advance n)) ≡ run.step (alone s) (events.advance n)
unfolding step
advance_alone w s n i = by_verdict-holds (advance_verdict s.head.olt.shared.tick n) refl where
  by_verdict-holds : (v : Verdict) → advance_verdict s.head.olt.shared.tick n ≡ v → alone (advancing s n) ≡ run.step (alone s) (events.advance n)
  by_verdict-holds (Ok tt) e = moved_alone w s n i e
  by_verdict-holds (Err r) e = stayed_alone w s n i r e

pub advance_right : (w : Setting) (s : State) (n : ℕ) → Invariant w s → Invariant w (step s (advance n))
unfolding step
advance_right w s n i = by_verdict-holds (advance_verdict s.head.olt.shared.tick n) refl where
  by_verdict-holds : (v : Verdict) → advance_verdict s.head.olt.shared.tick n ≡ v → Invariant w (advancing s n)
  by_verdict-holds (Ok tt) e = advanced_right w s n i e
  by_verdict-holds (Err r) e = stayed_right w s n i r e
