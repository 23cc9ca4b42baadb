-- What a call of the OLT on a group leaves: refused, all as it was; accepted, that group's record and line, and the channels. Assumes nothing.
use Rattle.std.specs.Prelude.{Ok, Err, Some}
use mathlib.Core.Path.{◌≡◌, refl, ◌∙◌, ap}
use mathlib.Core.Bool.{Bool, true}
use mathlib.Core.List.{List, [], ◌∷◌, ◌++◌}
use Prim.Native.Nat.{ℕ, ◌<◌, ◌≤◌}
use native.Mathlib.Omega.{arith}
use lib.ListN.{length, get_or, set}
use borrow.Author.Tests.{ne_eqb}
use Rattle.octets.specs.Choice.{pick}
use Rattle.octets.proofs.Choice.{not_of_true, pick_false, pick_holds}
use Rattle.octets.proofs.Lists.{tabulate_length, tabulate_at}
use Rattle.octets.proofs.Maps.{map_fixed}
use Rattle.refusal.specs.Order.{and_then}
use Rattle.refusal.specs.declared.Refusal.{Refusal}
use Rattle.refusal.specs.declared.Refusal.TheVariants.{OutOfRange}
use Rattle.refusal.proofs.Order.{refuse_accepted, refuse_passed, then_accepted}
use Rattle.ends.specs.declared.Olt.{Olt}
use Rattle.protocol.specs.Replies.{on_valid}
use Rattle.protocol.proofs.Replies.{reply_accepted, reply_refused}
use Rattle.group_protocol.specs.GroupCalls.{GroupOutcome}
use Rattle.group_protocol.specs.Head.{find_group, group_at, with_group, valid_head}
use Rattle.group_protocol.specs.declared.GroupRecord.{GroupRecord}
use Rattle.group_protocol.specs.declared.HeadEnd.{HeadEnd}
use Rattle.group_protocol.specs.declared.Joined.{Joined}
use Rattle.group_protocol.specs.Naming.{put_group, group_lift}
use Rattle.unicast.specs.Setting.{Setting}
use Rattle.unicast.specs.History.{InFlight, Lane}
use Rattle.unicast.specs.Run.{at_olt, with_lanes}
use Rattle.line.specs.History.{GroupLane, Membership, no_lane, is_member, leaving_for}
use Rattle.line.specs.Run.{State, alone, no_group_lane, noted_for, at_head}
use Rattle.line.proofs.Invariant.{Under, Follows, Invariant}
use Rattle.line.proofs.Frames.{held_moved}
use Rattle.line.proofs.Lines.{noted_at-holds, units_unnamed}
use Rattle.line.proofs.Queues.{Grown, under_carried}
use Rattle.refusal.specs.Verdict.{Verdict, no_refusal}

---- the lift

module _ {H : Type 0} (h : HeadEnd) (nothing : H) (ahead : Verdict) (call : Olt → GroupRecord → GroupOutcome H) (g : ℕ) where
  -- what an accepted call has met, and leaves
  pub record Lifted : Type 0 where
    pub passed : ahead ≡ no_refusal
    pub accepts : (call h.olt (group_at h g)).verdict ≡ no_refusal
    pub is : group_lift h nothing ahead call g ≡ record {
      verdict = no_refusal;
      end = with_group h g (call h.olt (group_at h g)).channels (call h.olt (group_at h g)).group;
      handed = (call h.olt (group_at h g)).handed;
    }

  pub data Ends : Type 0 where
    accepted : Lifted → Ends
    refused : (r : Refusal) → group_lift h nothing ahead call g ≡ record { verdict = Err r; end = h; handed = nothing } → Ends

  pub lift_ends : Ends
  unfolding group_lift put_group
  lift_ends = by_verdict-holds (on_valid (valid_head h) (and_then ahead (call h.olt (group_at h g)).verdict)) refl where
    by_verdict-holds : (v : Verdict) → on_valid (valid_head h) (and_then ahead (call h.olt (group_at h g)).verdict) ≡ v → Ends
    by_verdict-holds (Ok tt) e =
        let a = then_accepted _ _ (refuse_accepted _ _ _ e).1 in
        accepted (record { passed = a.0; accepts = a.1; is = reply_accepted _ h nothing _ _ e })
    by_verdict-holds (Err r) e = refused r (reply_refused _ h nothing _ _ r e)

  -- a valid head end accepts what the call accepts
  pub lift_accepts : valid_head h ≡ true → ahead ≡ no_refusal → (call h.olt (group_at h g)).verdict ≡ no_refusal → Lifted
  unfolding group_lift put_group and_then
  lift_accepts valid passed accepts =
      record {
        passed = passed;
        accepts = accepts;
        is =
            reply_accepted _ h nothing _ _
            (refuse_passed _ OutOfRange _ (not_of_true valid) ∙ ap (λ (v : Verdict). and_then v (call h.olt (group_at h g)).verdict) passed ∙ accepts);
      }

---- what is noted

noted_refused : (number llid : ℕ) (f : GroupLane → GroupLane) (gs : List GroupLane) → (number ≡ 0 → ⊥) → noted_for number llid f gs ≡ gs
unfolding noted_for
noted_refused number llid f gs n = map_fixed _ gs (λ g. pick_false _ _ (ne_eqb number 0 n))

module _ (w : Setting) (s : State) (llid g : ℕ) (i : Invariant w s) (found : find_group s.head llid ≡ Some g) where
  -- no unit's line notes a call on a group
  units_stay : (o : Olt) (number : ℕ) (f : Lane → Lane) → (at_olt (alone s) o number llid f).history ≡ s.history.units
  unfolding at_olt with_lanes alone
  units_stay o number f = rw (units_unnamed w s i llid g number f found)

  pub call_refused : (o : Olt) (number : ℕ) (f : Lane → Lane) (k : GroupLane → GroupLane) → (number ≡ 0 → ⊥)
      → at_head s s.head (at_olt (alone s) o number llid f).history (noted_for number llid k s.history.groups) ≡ s
  unfolding at_head
  call_refused o number f k n = rw (units_stay o number f, noted_refused number llid k s.history.groups n)

  pub call_accepted : (h : HeadEnd) (o : Olt) (number : ℕ) (f : Lane → Lane) (k : GroupLane → GroupLane) → number ≡ 0
      → at_head s h (at_olt (alone s) o number llid f).history (noted_for number llid k s.history.groups)
      ≡ at_head s h s.history.units (set s.history.groups g (k (get_or s.history.groups g no_group_lane)))
  unfolding at_head
  call_accepted h o number f k e = rw (units_stay o number f, noted_at-holds w s i number llid g k e found)

---- what leaves for the members

pub leaving_length : (g : GroupLane) (ls : List Lane) (x : InFlight) → length (leaving_for g ls x) ≡ length ls
unfolding leaving_for
leaving_length g ls x = tabulate_length 0 (length ls) _

pub leaving_at : (g : GroupLane) (ls : List Lane) (x : InFlight) (u : ℕ) → u < length ls
    → get_or (leaving_for g ls x) u [] ≡ pick (is_member g (get_or ls u no_lane)) (get_or g.towards u [] ++ (x ∷ [])) (get_or g.towards u [])
unfolding leaving_for
leaving_at g ls x u h =
    tabulate_at 0 (length ls) _ u [] h
    ∙ ap (λ (v : ℕ). pick (is_member g (get_or ls v no_lane)) (get_or g.towards v [] ++ (x ∷ [])) (get_or g.towards v [])) (omega arith)

-- each queue has one thing more, or stays
pub leaving_follows : (g g' : GroupLane) (active active' offered offered' : ℕ) (member : Bool) (ms : List Membership) (j : Joined)
    (xs : List InFlight) (x : InFlight) → Grown g g' offered → active ≤ active' → offered ≤ offered'
    → (Under g' j.keys.active active' offered' xs → j.keys.active ≤ active' → Under g' j.keys.active active' offered' (xs ++ (x ∷ [])))
    → Follows g active offered member ms j xs → Follows g' active' offered' member ms j (pick member (xs ++ (x ∷ [])) xs)
leaving_follows g g' active active' offered offered' member ms j xs x k a b more f =
    let low : j.keys.active ≤ active' = omega (arith, f.low) in
    let old = under_carried g g' j.keys.active j.keys.active active active' offered offered' xs k (omega arith) a b f.queue in
    record {
      low = low;
      kept = λ e. held_moved g g' offered offered' j _ k b (f.kept e);
      held = λ e. held_moved g g' offered offered' j _ k b (f.held e);
      took = λ n t. f.took n (rw k.llid at t);
      queue = pick_holds (λ (ys : List InFlight). Under g' j.keys.active active' offered' ys) member (xs ++ (x ∷ [])) xs (λ e. more old low)
          (λ e. old);
      stranger = λ e. pick_false _ _ e ∙ f.stranger e;
    }
