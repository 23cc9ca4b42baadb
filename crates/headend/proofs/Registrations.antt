-- What an accepted registration has met, the OLT's answer to one of a unit, and the members that one of a group names. Assumes nothing.
use Rattle.std.specs.Prelude.{Ok, Err}
use mathlib.Core.Path.{◌≡◌, refl, sym, ap, ◌∙◌}
use mathlib.Core.Bool.{Bool, true, false}
use mathlib.Core.List.{List}
use Prim.Native.Nat.{ℕ, ◌<◌}
use native.Mathlib.Nat.{zero-add}
use native.Mathlib.Omega.{arith}
use lib.Dec.{ltb}
use lib.ListN.{get_or}
use borrow.Author.Tests.{leb-false, lt-leb, ltb-true, not-false}
use Rattle.octets.specs.Choice.{pick}
use Rattle.octets.specs.Lists.{tabulate}
use Rattle.octets.proofs.Choice.{both_left, either_false, not_of_true}
use Rattle.octets.proofs.Lists.{tabulate_at, tabulate_ext, tabulate_length}
use Rattle.octets.proofs.Maps.{map_at}
use Rattle.refusal.specs.Number.{verdict_number}
use Rattle.refusal.specs.declared.Refusal.TheVariants.{OutOfRange, RepeatedLlid, TableFull}
use Rattle.refusal.proofs.Numbers.{number_accepted}
use Rattle.refusal.proofs.Order.{refuse_accepted, refuse_passed, refused_accepts}
use Rattle.ends.specs.Limits.{max_units}
use Rattle.ends.specs.Records.{fresh_unit}
use Rattle.ends.specs.Table.{find, with_one_more}
use Rattle.ends.specs.declared.Identity.{Identity}
use Rattle.ends.specs.declared.Olt.{Olt}
use Rattle.protocol.specs.OltCalls.{olt_answer, registering, register_of, register_order, register_verdict}
use Rattle.protocol.specs.Replies.{Reply, Silence, on_valid, reply, silent}
use Rattle.protocol.proofs.Replies.{reply_accepted}
use Rattle.group_protocol.specs.Head.{places_taken, valid_head, with_olt}
use Rattle.group_protocol.specs.Limits.{max_members}
use Rattle.group_protocol.specs.Members.{fresh_members, roster_llids}
use Rattle.group_protocol.specs.declared.HeadEnd.{HeadEnd}
use Rattle.group_protocol.specs.declared.Members.{Members}
use Rattle.group_protocol.specs.declared.Roster.{Roster}
use Rattle.headend.specs.HeadCalls.{group_verdict, head_answer, head_register_of, place_found, roster_members, unit_verdict}
use Rattle.refusal.specs.Verdict.{Verdict, no_refusal}

---- a unit

-- what the head end accepts, its OLT accepts
pub unit_accepted : (h : HeadEnd) (i : Identity) (trip interval : ℕ) → on_valid (valid_head h) (unit_verdict h i trip interval) ≡ no_refusal
    → register_order h.olt i trip interval ≡ no_refusal
unfolding unit_verdict register_verdict valid_head
unit_accepted h i trip interval e =
    let a = refuse_accepted _ _ _ e in
    let b = refuse_accepted _ _ _ a.1 in
    let c = refuse_accepted _ _ _ b.1 in
    let d = refuse_accepted _ _ _ c.1 in
    refuse_passed _ OutOfRange _ (not_of_true (both_left _ _ (not-false _ a.0)))
    ∙ refuse_passed _ OutOfRange _ b.0
    ∙ refuse_passed _ RepeatedLlid _ (either_false _ _ c.0).0
    ∙ refuse_passed _ TableFull _ (lt-leb max_units h.olt.count (omega (arith, leb-false max_units (places_taken h) d.0)))

pub registered_olt : (o : Olt) (i : Identity) (trip interval : ℕ) → register_order o i trip interval ≡ no_refusal
    → (register_of o i trip interval).olt ≡ with_one_more o (fresh_unit i trip interval)
unfolding register_of registering olt_answer
registered_olt o i trip interval e = ap (λ (r : Reply Olt Silence). r.end) (reply_accepted _ o silent _ silent e)

-- what is left, by the code
pub registered_by : (h : HeadEnd) (i : Identity) (trip interval : ℕ) (v : Verdict) (o : Olt)
    → on_valid (valid_head h) (unit_verdict h i trip interval) ≡ v → (verdict_number v ≡ 0 → o ≡ with_one_more h.olt (fresh_unit i trip interval))
    → ((verdict_number v ≡ 0 → ⊥) → o ≡ h.olt) → head_register_of h i trip interval ≡ record { number = verdict_number v; head = with_olt h o }
unfolding head_register_of head_answer reply with_olt
registered_by h i trip interval (Ok tt) o e more same = rw (e, more refl)
registered_by h i trip interval (Err r) o e more same = rw (e, same (λ z. refused_accepts r (number_accepted (Err r) z)))

---- a group

-- a place is left for it
pub group_room : (h : HeadEnd) (llid interval : ℕ) (m : Members) → on_valid (valid_head h) (group_verdict h llid interval m) ≡ no_refusal
    → h.groups.count < max_units
unfolding group_verdict
group_room h llid interval m e =
    let a = refuse_accepted _ _ _ e in
    let b = refuse_accepted _ _ _ a.1 in
    let c = refuse_accepted _ _ _ b.1 in
    let d = refuse_accepted _ _ _ c.1 in
    let f = refuse_accepted _ _ _ d.1 in
    omega (arith, leb-false max_units (places_taken h) f.0)

pick_same_first : (t : Bool) (a b c : ℕ) → (t ≡ true → a ≡ b) → pick t a c ≡ pick t b c
unfolding pick
pick_same_first true a b c h = h refl
pick_same_first false a b c h = refl

-- only the places below the count are kept
fresh_same : (xs ys : List ℕ) (n : ℕ) → ((j : ℕ) → j < n → j < max_members → get_or xs j 0 ≡ get_or ys j 0)
    → fresh_members xs n ≡ fresh_members ys n
unfolding fresh_members
fresh_same xs ys n h =
    rw (tabulate_ext 0 max_members (λ j. pick (ltb j n) (get_or xs j 0) 0) (λ j. pick (ltb j n) (get_or ys j 0) 0)
    (λ j low high. pick_same_first (ltb j n) (get_or xs j 0) (get_or ys j 0) 0 (λ e. h j (ltb-true j n e) (omega arith))))

-- the eight places that are looked up
pub roster_looked_up : (o : Olt) (r : Roster) → fresh_members (tabulate 0 max_members (λ j. place_found (find o (get_or r.llids j 0)))) r.count
    ≡ roster_members o r
unfolding roster_members roster_llids
roster_looked_up o r =
    fresh_same _ _ r.count
    (λ j below few.
    tabulate_at 0 max_members (λ k. place_found (find o (get_or r.llids k 0))) j 0 few
    ∙ rw zero-add
    (sym (map_at (λ llid. place_found (find o llid)) (tabulate 0 r.count (λ k. get_or r.llids k 0)) j 0 0 (rw tabulate_length below)
    ∙ rw (tabulate_at 0 r.count (λ k. get_or r.llids k 0) j 0 below, zero-add))))
