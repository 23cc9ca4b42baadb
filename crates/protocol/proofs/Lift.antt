-- Laws of the lift, each once for all calls on a unit: what an accepted call leaves, what a refused one leaves, and that a call
-- which keeps a unit valid keeps the OLT valid. Assumes nothing.
use Rattle.std.specs.Prelude.{Ok, Err, Option, Some, None}
use mathlib.Core.Path.{◌≡◌, refl, sym, ◌∙◌, ap, ap₂, subst}
use mathlib.Core.Bool.{Bool, true, false, not}
use Prim.Native.Nat.{ℕ, ◌<◌}
use lib.Dec.{eqb}
use lib.Seq.{take-set-lt}
use borrow.Author.Tests.{eqb-true, eqb-false}
use Rattle.octets.proofs.Choice.{not_of_true, not_of_false}
use Rattle.octets.proofs.Tests.{all_one, all_set}
use Rattle.refusal.specs.declared.Refusal.{Refusal}
use Rattle.refusal.specs.declared.Refusal.TheVariants.{OutOfRange, UnknownLlid}
use Rattle.refusal.specs.Order.{refuse_if, and_then}
use Rattle.protocol.specs.Replies.{on_valid, Reply, reply}
use Rattle.ends.specs.Identities.{distinct}
use Rattle.ends.specs.Occupancy.{valid_channels}
use Rattle.ends.specs.Records.{with_channels}
use Rattle.ends.specs.Table.{registered, is_registered, find, past_unit, unit_at, unit_found, unit_named, with_unit}
use Rattle.ends.specs.Validity.{valid_unit, valid_shared, valid_olt}
use Rattle.protocol.specs.Lift.{Outcome, put_back, at_unit, after, lift}
use Rattle.ends.specs.declared.Channels.{Channels}
use Rattle.ends.specs.declared.UnitRecord.{UnitRecord}
use Rattle.ends.specs.declared.Shared.{Shared}
use Rattle.ends.specs.declared.Olt.{Olt}
use Rattle.refusal.proofs.Order.{refused_accepts, refuse_passed, refuse_stopped}
use Rattle.protocol.proofs.Replies.{reply_verdict, reply_accepted, reply_refused, Untouched}
use Rattle.ends.proofs.Table.{Registered, find_at, registered_found, registered_nowhere, SameUnits, find_same, table_same, with_unit-holds, with_other, with_twice, with_same_units, with_beside, Beside}
use Rattle.ends.proofs.Validity.{shared_in_range, shared_valid, olt_in_range, olt_valid}
use Rattle.refusal.specs.Verdict.{Verdict, no_refusal}

module _ {H : Type 0} (o : Olt) (nothing : H) (ahead : Verdict) (llid : ℕ) (call : Shared → UnitRecord → Outcome H) where
  ---- where a call ends

  pub lift_invalid : valid_olt o ≡ false → lift o nothing ahead llid call ≡ record { verdict = Err OutOfRange; end = o; handed = nothing }
  unfolding lift after reply
  lift_invalid e = rw (refuse_stopped (not (valid_olt o)) OutOfRange ahead (not_of_false e))

  pub lift_ahead : (r : Refusal) → valid_olt o ≡ true → ahead ≡ Err r
      → lift o nothing ahead llid call ≡ record { verdict = Err r; end = o; handed = nothing }
  unfolding lift after reply
  lift_ahead r e f = rw (refuse_passed (not (valid_olt o)) OutOfRange ahead (not_of_true e), f)

  pub lift_unknown : valid_olt o ≡ true → ahead ≡ no_refusal → find o llid ≡ None
      → lift o nothing ahead llid call ≡ record { verdict = Err UnknownLlid; end = o; handed = nothing }
  unfolding lift after at_unit reply
  lift_unknown e f n = rw (refuse_passed (not (valid_olt o)) OutOfRange ahead (not_of_true e), f, n)

  -- a unit is found: the call on it decides
  pub lift_unit : (i : ℕ) → valid_olt o ≡ true → ahead ≡ no_refusal → find o llid ≡ Some i
      → lift o nothing ahead llid call ≡ put_back o nothing i (call o.shared (unit_at o i))
  unfolding lift after at_unit
  lift_unit i e f n = rw (refuse_passed (not (valid_olt o)) OutOfRange ahead (not_of_true e), f, n)

  -- the verdict as one chain: 1 for the end, what the call refuses ahead of 2, 2, what the unit decides
  pub lift_verdict : (lift o nothing ahead llid call).verdict
      ≡ on_valid (valid_olt o) (and_then ahead (refuse_if (not (is_registered o llid)) UnknownLlid (call o.shared (unit_named o llid)).verdict))
  unfolding lift after at_unit put_back unit_found and_then refuse_if reply
  lift_verdict = by_case (valid_olt o) ahead (find o llid) refl where
    by_case : (t : Bool) (v : Verdict) (x : Option ℕ) → find o llid ≡ x → (after (on_valid t v) o nothing (at_unit o nothing call x)).verdict
        ≡ on_valid t (and_then v (refuse_if (not (is_registered o llid)) UnknownLlid (call o.shared (unit_found o x)).verdict))
    by_case false v x n = refl
    by_case true (Err r) x n = refl
    by_case true (Ok tt) None n = rw (registered_nowhere o llid n)
    by_case true (Ok tt) (Some i) n = rw (registered_found o llid i n) (reply_verdict (call o.shared (unit_at o i)).verdict o nothing _ _)

  -- what an accepted call has met, and leaves
  pub record Lifted : Type 0 where
    pub at : ℕ
    pub valid : valid_olt o ≡ true
    pub passed : ahead ≡ no_refusal
    pub found : find o llid ≡ Some at
    pub accepts : (call o.shared (unit_at o at)).verdict ≡ no_refusal
    pub verdict : (lift o nothing ahead llid call).verdict ≡ no_refusal
    pub end : (lift o nothing ahead llid call).end ≡ with_unit o at (call o.shared (unit_at o at)).channels (call o.shared (unit_at o at)).unit
    pub handed : (lift o nothing ahead llid call).handed ≡ (call o.shared (unit_at o at)).handed

  -- a call that the unit found accepts is accepted
  pub lift_accepts : (i : ℕ) → valid_olt o ≡ true → ahead ≡ no_refusal → find o llid ≡ Some i
      → (call o.shared (unit_at o i)).verdict ≡ no_refusal
      → Lifted
  unfolding put_back
  lift_accepts i e f n a =
      let whole = lift_unit i e f n ∙ reply_accepted (call o.shared (unit_at o i)).verdict o nothing _ _ a in
      search whole

  -- every call is one of these
  pub data Ends : Type 0 where
    accepted : Lifted → Ends
    refused : (r : Refusal) → lift o nothing ahead llid call ≡ record { verdict = Err r; end = o; handed = nothing } → Ends

  pub lift_ends : Ends
  unfolding put_back
  lift_ends = by_case (valid_olt o) ahead (find o llid) refl refl refl where
    by_verdict-holds : (i : ℕ) → valid_olt o ≡ true → ahead ≡ no_refusal → find o llid ≡ Some i → (v : Verdict)
        → (call o.shared (unit_at o i)).verdict ≡ v → Ends
    by_verdict-holds i e f n (Ok tt) a = accepted (lift_accepts i e f n a)
    by_verdict-holds i e f n (Err r) a = refused r (lift_unit i e f n ∙ reply_refused (call o.shared (unit_at o i)).verdict o nothing _ _ r a)

    by_case : (t : Bool) (v : Verdict) (x : Option ℕ) → valid_olt o ≡ t → ahead ≡ v → find o llid ≡ x → Ends
    by_case false v x e f n = refused OutOfRange (lift_invalid e)
    by_case true (Err r) x e f n = refused r (lift_ahead r e f)
    by_case true (Ok tt) None e f n = refused UnknownLlid (lift_unknown e f n)
    by_case true (Ok tt) (Some i) e f n = by_verdict-holds i e f n (call o.shared (unit_at o i)).verdict refl

  pub lift_accepted : (lift o nothing ahead llid call).verdict ≡ no_refusal → Lifted
  lift_accepted e = by_end lift_ends where
    by_end : Ends → Lifted
    by_end (accepted l) = l
    by_end (refused r f) = refused_accepts r (sym (ap (λ (x : Reply Olt H). x.verdict) f) ∙ e)

  -- refused: the very OLT that was lent, and nothing
  pub lift_untouched : (r : Refusal) → (lift o nothing ahead llid call).verdict ≡ Err r → Untouched o nothing (lift o nothing ahead llid call)
  lift_untouched r e = by_end lift_ends where
    by_end : Ends → Untouched o nothing (lift o nothing ahead llid call)
    by_end (accepted l) = refused_accepts r (sym e ∙ l.verdict)
    by_end (refused x f) = rw f (record { end = refl; handed = refl })

  -- what holds of the OLT, and of it with the unit that an accepted call leaves, holds after the call
  pub lift_keeps : (P : Olt → Type 0) → P o
      → ((l : Lifted) → P (with_unit o l.at (call o.shared (unit_at o l.at)).channels (call o.shared (unit_at o l.at)).unit))
      → P (lift o nothing ahead llid call).end
  lift_keeps P p q = by_end lift_ends where
    by_end : Ends → P (lift o nothing ahead llid call).end
    by_end (accepted l) = subst P (sym l.end) (q l)
    by_end (refused r f) = subst P (sym (ap (λ (y : Reply Olt H). y.end) f)) p

---- what a call on a unit keeps

-- an accepted call leaves a valid unit, of the same identity, and valid channels
pub record Keeps {H : Type 0} (call : Shared → UnitRecord → Outcome H) : Type 0 where
  pub identity : (s : Shared) (u : UnitRecord) → (call s u).unit.identity ≡ u.identity
  pub unit : (s : Shared) (u : UnitRecord) → valid_unit s.tick u ≡ true → (call s u).verdict ≡ no_refusal
      → valid_unit s.tick (call s u).unit ≡ true
  pub channels : (s : Shared) (u : UnitRecord) → valid_shared s ≡ true → valid_channels (call s u).channels ≡ true

pub with_valid : (o : Olt) (i : ℕ) (c : Channels) (u : UnitRecord) → i < o.count → u.identity ≡ (unit_at o i).identity
    → valid_unit o.shared.tick u ≡ true
    → valid_channels c ≡ true → valid_olt o ≡ true → valid_olt (with_unit o i c u) ≡ true
unfolding with_unit with_channels
with_valid o i c u h e v w k =
    let r = olt_in_range o k in
    let s = shared_in_range o.shared r.shared in
    let units = rw (sym (take-set-lt o.count o.units i u h)) at (all_set (valid_unit o.shared.tick) (registered o) i u r.units v) in
    let once = ap distinct (table_same (with_unit o i c u) o (with_same_units o i c u e)) ∙ r.distinct in
    olt_valid (with_unit o i c u) (search shared_valid)

-- a registered unit of a valid OLT is valid
pub unit_at_valid : (o : Olt) (llid i : ℕ) → valid_olt o ≡ true → Registered o llid i → valid_unit o.shared.tick (unit_at o i) ≡ true
unit_at_valid o llid i v r =
    all_one (valid_unit o.shared.tick) o.count o.units past_unit (olt_in_range o v).units i r.used r.place

module _ {H : Type 0} (o : Olt) (nothing : H) (ahead : Verdict) (llid : ℕ) (call : Shared → UnitRecord → Outcome H) where
  pub lift_valid : (ahead ≡ no_refusal → Keeps call) → valid_olt o ≡ true → valid_olt (lift o nothing ahead llid call).end ≡ true
  lift_valid k v =
      lift_keeps o nothing ahead llid call (λ (p : Olt). valid_olt p ≡ true) v
      (λ l.
      let r = find_at o llid l.at l.found in
      let keeps = k l.passed in
      with_valid o l.at _ _ r.used (keeps.identity o.shared (unit_at o l.at))
      (keeps.unit o.shared (unit_at o l.at) (unit_at_valid o llid l.at v r) l.accepts)
      (keeps.channels o.shared (unit_at o l.at) (olt_in_range o v).shared)
      v)

  -- MAC, tick, clock and count stay, and the places
  pub lift_beside : Beside o (lift o nothing ahead llid call).end
  lift_beside =
      lift_keeps o nothing ahead llid call (Beside o) (record { mac = refl; tick = refl; clock = refl; count = refl; places = refl })
      (λ l. with_beside o l.at _ _)

  -- no call on a unit changes who is registered, and where
  pub lift_same_units : ((s : Shared) (u : UnitRecord) → (call s u).unit.identity ≡ u.identity) → SameUnits (lift o nothing ahead llid call).end o
  lift_same_units k =
      lift_keeps o nothing ahead llid call (λ (p : Olt). SameUnits p o) (record { count = refl; identities = refl })
      (λ l. with_same_units o l.at _ _ (k o.shared (unit_at o l.at)))

  pub lift_find : ((s : Shared) (u : UnitRecord) → (call s u).unit.identity ≡ u.identity) → (any : ℕ)
      → find (lift o nothing ahead llid call).end any ≡ find o any
  lift_find k any = find_same (lift o nothing ahead llid call).end o any (lift_same_units k)

  -- a unit in another place stays as it is
  pub lift_others : (j : ℕ) → (find o llid ≡ Some j → ⊥) → unit_at (lift o nothing ahead llid call).end j ≡ unit_at o j
  lift_others j h =
      lift_keeps o nothing ahead llid call (λ (p : Olt). unit_at p j ≡ unit_at o j) refl
      (λ l. with_other o l.at j _ _ (λ e. h (l.found ∙ ap Some (sym e))))

  -- what a call leaves of the unit called it leaves of every unit
  pub lift_part : {A : Type 0} (part : UnitRecord → A) (i : ℕ)
      → ((l : Lifted o nothing ahead llid call) → i ≡ l.at → part (call o.shared (unit_at o l.at)).unit ≡ part (unit_at o l.at))
      → part (unit_at (lift o nothing ahead llid call).end i) ≡ part (unit_at o i)
  lift_part {A} part i same =
      lift_keeps o nothing ahead llid call (λ (p : Olt). part (unit_at p i) ≡ part (unit_at o i)) refl (λ l. by_place l (eqb i l.at) refl) where
        by_place : (l : Lifted o nothing ahead llid call) (t : Bool) → eqb i l.at ≡ t
            → part (unit_at (with_unit o l.at (call o.shared (unit_at o l.at)).channels (call o.shared (unit_at o l.at)).unit) i)
            ≡ part (unit_at o i)
        by_place l true e =
            let z : i ≡ l.at = eqb-true i l.at e in
            rw z (ap part (with_unit-holds o l.at _ _ (find_at o llid l.at l.found).place) ∙ same l z)
        by_place l false e = ap part (with_other o l.at i _ _ (eqb-false i l.at e))

  -- the unit called, and the channels, are what the call left
  pub lift_itself : (l : Lifted o nothing ahead llid call)
      → unit_at (lift o nothing ahead llid call).end l.at ≡ (call o.shared (unit_at o l.at)).unit
  lift_itself l =
      ap (λ (p : Olt). unit_at p l.at) l.end
      ∙ with_unit-holds o l.at _ _ (find_at o llid l.at l.found).place

  -- a call that leaves the channels, and that a second time decides as the first: made again, by any LLID of the unit, it is
  -- answered as the first, and leaves what the first left
  pub lift_again : Keeps call → ((s : Shared) (u : UnitRecord) → (call s u).channels ≡ s.channels)
      → ((s : Shared) (u : UnitRecord) → call s (call s u).unit ≡ call s u) → (other : ℕ) → find o other ≡ find o llid
      → (lift o nothing ahead llid call).verdict ≡ no_refusal
      → lift (lift o nothing ahead llid call).end nothing ahead other call ≡ lift o nothing ahead llid call
  unfolding put_back with_unit with_channels
  lift_again keeps c again other f e =
      let l = lift_accepted o nothing ahead llid call e in
      let i = l.at in
      let p = (lift o nothing ahead llid call).end in
      let x = call o.shared (unit_at o i) in
      let q = with_unit o i x.channels x.unit in
      let valid : valid_olt p ≡ true = lift_valid (λ a. keeps) l.valid in
      let found : find p other ≡ Some i = lift_find keeps.identity other ∙ f ∙ l.found in
      let shared : p.shared ≡ o.shared = ap (λ (r : Olt). r.shared) l.end ∙ ap (with_channels o.shared) (c o.shared (unit_at o i)) in
      let same : call p.shared (unit_at p i) ≡ x =
      ap₂ call shared (lift_itself l) ∙ again o.shared (unit_at o i) in
      let second : put_back q nothing i x ≡ record { verdict = no_refusal; end = q; handed = x.handed } =
      reply_accepted x.verdict q nothing _ _ l.accepts
      ∙ ap (λ (r : Olt). record { verdict = no_refusal; end = r; handed = x.handed }) (with_twice o i x.channels x.channels x.unit x.unit) in
      let first : lift o nothing ahead llid call ≡ record { verdict = no_refusal; end = q; handed = x.handed } =
      lift_unit o nothing ahead llid call i l.valid l.passed l.found ∙ reply_accepted x.verdict o nothing _ _ l.accepts in
      lift_unit p nothing ahead other call i valid l.passed found
      ∙ ap₂ (λ (r : Olt) (y : Outcome H). put_back r nothing i y) l.end same
      ∙ second
      ∙ sym first
