-- The registration of a unit keeps the invariant: accepted beside groups, it is accepted without them; refused, it leaves all as it was.
-- Assumes nothing.
use mathlib.Core.Path.{◌≡◌, refl, sym, ◌∙◌, ap}
use mathlib.Core.Bool.{Bool, true, false}
use Prim.Native.Nat.{ℕ, ◌<◌, ◌≤◌}
use native.Mathlib.Omega.{arith}
use lib.Dec.{eqb}
use lib.ListN.{length-set}
use lib.Seq.{set-get_or}
use borrow.Author.Tests.{eqb-true, eqb-false, ne_eqb, leb-false, lt-leb, not-false}
use Rattle.octets.specs.Choice.{pick}
use Rattle.octets.proofs.Choice.{both_left, either_false, not_of_true}
use Rattle.refusal.specs.declared.Refusal.TheVariants.{OutOfRange, RepeatedLlid, TableFull}
use Rattle.refusal.proofs.Numbers.{number_accepted}
use Rattle.refusal.proofs.Order.{refuse_accepted, refuse_passed}
use Rattle.ends.specs.Identities.{meets, llids_of}
use Rattle.ends.specs.Limits.{max_units, max_llids}
use Rattle.ends.specs.Occupancy.{free_from}
use Rattle.ends.specs.Records.{fresh_unit}
use Rattle.ends.specs.Table.{with_one_more}
use Rattle.ends.specs.declared.Identity.{Identity}
use Rattle.ends.specs.declared.Olt.{Olt}
use Rattle.ends.proofs.Identities.{identity_valid}
use Rattle.protocol.specs.OltCalls.{olt_answer, valid_registration, register_verdict, registering, register_of}
use Rattle.protocol.specs.Replies.{silent}
use Rattle.protocol.proofs.Replies.{reply_verdict, reply_accepted, reply_untouched, number_refused}
use Rattle.group_protocol.specs.Head.{group_llids, registered_groups, places_taken, with_olt, valid_head}
use Rattle.group_protocol.specs.declared.HeadEnd.{HeadEnd}
use Rattle.group_protocol.proofs.HeadGroups.{unit_more_groups_valid}
use Rattle.headend.specs.HeadCalls.{head_answer, unit_verdict, head_register_of}
use Rattle.headend.specs.declared.HeadAnswer.{HeadAnswer}
use Rattle.unicast.specs.Setting.{Setting}
use Rattle.unicast.specs.History.{Lane, lane_registered}
use Rattle.unicast.specs.Events as events
use Rattle.unicast.specs.Run as run
use Rattle.unicast.specs.Run.{lane_at, noted, fresh_lane, no_site, entering}
use Rattle.unicast.proofs.Theorem.{step_right}
use Rattle.line.specs.Events.{register}
use Rattle.line.specs.Run.{State, alone, at_head, step}
use Rattle.line.specs.Run as line
use Rattle.line.specs.Premises.{Fits}
use Rattle.line.proofs.Invariant.{Invariant}
use Rattle.line.proofs.Beside.{unit_itself, beside_right}
use Rattle.line.proofs.Places.{set_field, set_holds}
use Rattle.refusal.specs.Verdict.{no_refusal}

-- what an accepted registration has met, and answers with
pub record Accepts (h : HeadEnd) (i : Identity) (trip interval : ℕ) : Type 0 where
  pub olt : register_of h.olt i trip interval ≡ record { number = 0; olt = with_one_more h.olt (fresh_unit i trip interval) }
  pub head : head_register_of h i trip interval ≡ record { number = 0; head = with_olt h (with_one_more h.olt (fresh_unit i trip interval)) }
  pub few : i.count ≤ max_llids
  pub apart : meets (group_llids (registered_groups h)) (llids_of i) ≡ false
  pub room : places_taken h < max_units

pub accepts : (h : HeadEnd) (i : Identity) (trip interval : ℕ) → (head_register_of h i trip interval).number ≡ 0 → Accepts h i trip interval
unfolding head_register_of head_answer unit_verdict valid_head valid_registration register_of olt_answer registering register_verdict
accepts h i trip interval e =
    let v = sym (reply_verdict _ h silent _ silent) ∙ number_accepted _ e in
    let a = refuse_accepted _ _ _ v in
    let b = refuse_accepted _ _ _ a.1 in
    let c = refuse_accepted _ _ _ b.1 in
    let d = refuse_accepted _ _ _ c.1 in
    let room = leb-false max_units (places_taken h) d.0 in
    let place : h.olt.count < max_units = omega (arith, room) in
    let llids = either_false _ _ c.0 in
    record {
      olt =
          ap olt_answer
          (reply_accepted _ h.olt silent _ silent
          (refuse_passed _ OutOfRange _ (not_of_true (both_left _ _ (not-false _ a.0)))
          ∙ refuse_passed _ OutOfRange _ b.0
          ∙ refuse_passed _ RepeatedLlid _ llids.0
          ∙ refuse_passed _ TableFull no_refusal (lt-leb max_units h.olt.count place)));
      head = ap head_answer (reply_accepted _ h silent _ silent v);
      few = (identity_valid i (both_left _ _ (not-false _ b.0))).1;
      apart = llids.1;
      room = room;
    }

refused : (h : HeadEnd) (i : Identity) (trip interval : ℕ) → ((head_register_of h i trip interval).number ≡ 0 → ⊥)
    → (head_register_of h i trip interval).head ≡ h
unfolding head_register_of head_answer
refused h i trip interval n = (number_refused h silent _ (λ x e. reply_untouched _ h silent _ silent x e) n).end

pub refused_step : (s : State) (u : ℕ) (i : Identity) (trip interval : ℕ) → ((head_register_of s.head i trip interval).number ≡ 0 → ⊥)
    → step s (register u i trip interval) ≡ s
unfolding step line.registering at_head alone entering noted pick
refused_step s u i trip interval n =
    rw (refused s.head i trip interval n, ne_eqb _ _ n, set-get_or s.history.units.lanes u (fresh_lane no_site))

more_shared : (o : Olt) (i : Identity) (trip interval k : ℕ)
    → free_from o.shared.channels k ≤ free_from (with_one_more o (fresh_unit i trip interval)).shared.channels k
unfolding with_one_more
more_shared o i trip interval k = omega arith

accepted_right : (w : Setting) (s : State) (u : ℕ) (i : Identity) (trip interval : ℕ) → Invariant w s → Fits w s (register u i trip interval)
    → Accepts s.head i trip interval → Invariant w (step s (register u i trip interval))
unfolding step line.registering at_head alone with_olt entering noted lane_registered run.step pick
accepted_right w s u i trip interval v fits a =
    let ls = s.history.units.lanes in
    let l = lane_at (alone s) u in
    let l' = noted 0 (lane_registered s.history.units.registrations s.history.units.now interval) l in
    rw a.head
    (beside_right w s _ v
    (record {
      groups = refl;
      valid =
          unit_more_groups_valid s.head i trip interval a.room
          (omega (arith, a.room, v.units.places)) a.few a.apart v.valid;
      rises = more_shared s.head.olt i trip interval;
      ticks = refl;
      paired = length-set ls u l';
      site = set_field (λ (x : Lane). x.site) ls u l' (fresh_lane no_site) refl;
      entry =
          set_holds (λ (y : ℕ) (x : Lane). (lane_at (alone s) y).entry.registered ≡ true → x.entry.registered ≡ true) ls u l' (fresh_lane no_site)
          (λ y e. e) (λ e. refl);
      unit = λ y. unit_itself _;
      joined = refl;
      lines = refl;
    })
    (rw a.olt at (step_right w (alone s) (events.register u i trip interval) v.units (λ z. fits (ap (λ (r : HeadAnswer). r.number) a.head))))
    (λ y g m n p q z.
    let stay = set_field (λ (x : Lane). x.keys.offers) ls u l' (fresh_lane no_site) refl y in
    v.mixed y g m n (rw stay at p) q (rw stay at z)))

pub register_right : (w : Setting) (s : State) (u : ℕ) (i : Identity) (trip interval : ℕ) → Invariant w s → Fits w s (register u i trip interval)
    → Invariant w (step s (register u i trip interval))
register_right w s u i trip interval v fits = by_number (eqb (head_register_of s.head i trip interval).number 0) refl where
  by_number : (t : Bool) → eqb (head_register_of s.head i trip interval).number 0 ≡ t → Invariant w (step s (register u i trip interval))
  by_number true e = accepted_right w s u i trip interval v fits (accepts s.head i trip interval (eqb-true _ _ e))
  by_number false e = rw (refused_step s u i trip interval (eqb-false _ _ e)) v
