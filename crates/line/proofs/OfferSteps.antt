-- An offer to a unit keeps the invariant: its key is no group's. Assumes nothing.
use Rattle.std.specs.Prelude.{None}
use mathlib.Core.Path.{◌≡◌, refl, sym, ◌∙◌, ap}
use mathlib.Core.Bool.{Bool, true, false}
use mathlib.Core.List.{List, [], ◌∷◌, ◌++◌}
use mathlib.Core.Logic.{◌⊎◌, inl, inr}
use Prim.Native.Nat.{ℕ, ◌<◌}
use native.Mathlib.Omega.{arith}
use lib.Dec.{eqb, ltb}
use lib.ListN.{length, get_or, length-append, get_or-append}
use lib.Seq.{get_or_at}
use borrow.Author.Tests.{eqb-true, ltb-true, ltb-false}
use Rattle.octets.specs.Choice.{both, pick}
use Rattle.ends.specs.Identities.{has}
use Rattle.ends.specs.declared.Olt.{Olt}
use Rattle.protocol.specs.OltCalls.{offer_of}
use Rattle.group_protocol.specs.Head.{find_group, with_olt}
use Rattle.headend.specs.declared.HeadKeySent.{HeadKeySent}
use Rattle.unicast.specs.Setting.{Setting}
use Rattle.unicast.specs.History.{Lane, lane_with, lane_leaving, lane_offered}
use Rattle.unicast.specs.Events as events
use Rattle.unicast.specs.Run as run
use Rattle.unicast.specs.Run.{lane_at, at_olt, noted, named, offering}
use Rattle.unicast.proofs.LiftSteps.{noted_at-holds}
use Rattle.unicast.proofs.Theorem.{step_right}
use Rattle.line.specs.Events.{offer}
use Rattle.line.specs.Run.{State, alone, group_lane_at, at_head, key_sent_alone, offering_to, step}
use Rattle.line.specs.Premises.{NewKey, Fits}
use Rattle.line.proofs.Invariant.{Invariant}
use Rattle.line.proofs.AloneHead.{offer_olt, offer_alone}
use Rattle.line.proofs.Kept.{offer_kept}
use Rattle.line.proofs.Beside.{beside_right}
use Rattle.line.proofs.Lines.{noted_none}
use Rattle.line.proofs.OltSteps.{named_beside}

-- one offer more, or none
More : List ℕ → ℕ → List (List ℕ) → List (List ℕ) → Type 0
More key number old new = (new ≡ old) ⊎ ((number ≡ 0) × (new ≡ old ++ (key ∷ [])))

noted_offer : (key : List ℕ) (number llid : ℕ) (f : Lane → Lane) (l : Lane) → (f l).keys.offers ≡ l.keys.offers ++ (key ∷ [])
    → More key number l.keys.offers (noted number (named llid f) l).keys.offers
unfolding noted named More pick
noted_offer key number llid f l e = by_test (eqb number 0) (both l.entry.registered (has l.site.identity llid)) refl where
  by_test : (t u : Bool) → eqb number 0 ≡ t → More key number l.keys.offers (pick t (pick u (f l) l) l).keys.offers
  by_test false u p = inl refl
  by_test true false p = inl refl
  by_test true true p = inr (eqb-true number 0 p, e)

named_offer : (key : List ℕ) (s : run.State) (o : Olt) (number llid : ℕ) (f : Lane → Lane)
    → ((l : Lane) → (f l).keys.offers ≡ l.keys.offers ++ (key ∷ []))
    → (u : ℕ) → More key number (lane_at s u).keys.offers (lane_at (at_olt s o number llid f) u).keys.offers
named_offer key s o number llid f e u =
    rw (noted_at-holds s o number llid u f)
    (noted_offer key number llid f (lane_at s u) (e (lane_at s u)))

-- a key of the list with one more is the new one, or an old one
pub key_of_more : (P : Type 0) (old : List (List ℕ)) (key x : List ℕ) (m : ℕ) → m < length (old ++ (key ∷ []))
    → get_or (old ++ (key ∷ [])) m [] ≡ x
    → (m < length old → get_or old m [] ≡ x → P) → (m ≡ length old → key ≡ x → P) → P
key_of_more P old key x m h e before last = by_place (ltb m (length old)) refl where
  by_place : (t : Bool) → ltb m (length old) ≡ t → P
  by_place true q =
      let l = ltb-true m (length old) q in
      before l (sym (get_or-append old (key ∷ []) [] m l) ∙ e)
  by_place false q =
      let l : length old ≡ m = omega (arith, ltb-false m (length old) q, length-append old (key ∷ [])) in
      last (sym l) (sym (get_or_at old key [] [] m l) ∙ e)

-- the key of an accepted offer is no group's
mixed_offered : (w : Setting) (s : State) (key : List ℕ) (number : ℕ) (new : ℕ → List (List ℕ)) → Invariant w s → (number ≡ 0 → NewKey s key)
    → ((u : ℕ) → More key number (lane_at (alone s) u).keys.offers (new u)) → (u g m n : ℕ) → m < length (new u)
    → n < length (group_lane_at s g).keys.offers → get_or (new u) m [] ≡ get_or (group_lane_at s g).keys.offers n [] → ⊥
unfolding More
mixed_offered w s key number new i fits more u g m n p q e = by_more (more u) where
  by_more : More key number (lane_at (alone s) u).keys.offers (new u) → ⊥
  by_more (inl same) = i.mixed u g m n (rw same at p) q (rw same at e)
  by_more (inr one) =
      key_of_more ⊥ (lane_at (alone s) u).keys.offers key (get_or (group_lane_at s g).keys.offers n []) m (rw one.1 at p) (rw one.1 at e)
      (λ l f. i.mixed u g m n l q f) (λ l f. (fits one.0).groups g n q (sym f))

pub unit_offer_right : (w : Setting) (s : State) (llid : ℕ) (key : List ℕ) → Invariant w s → find_group s.head llid ≡ None
    → Fits w s (offer llid key)
    → Invariant w (step s (offer llid key))
unfolding step offering_to key_sent_alone offering at_head alone with_olt lane_leaving lane_offered lane_with
unit_offer_right w s llid key i none fits =
    let r = offer_of s.head.olt llid key in
    let is = offer_olt s.head i.valid llid none key in
    let new : r.number ≡ 0 → NewKey s key = λ z. fits (ap (λ (x : HeadKeySent). x.number) is ∙ z) in
    beside_right w s (step s (offer llid key)) i
    (rw is
    (named_beside w s r.olt r.number llid _ _ i (offer_kept s.head.olt llid key) (record { site = λ l. refl; entry = λ l. refl })
    (noted_none w s i _ llid _ none)))
    (rw (offer_alone s i.valid llid none key) (step_right w (alone s) (events.offer llid key) i.units (λ z. (new z).units)))
    (mixed_offered w s key r.number (λ u. (lane_at (alone (step s (offer llid key))) u).keys.offers) i new
    (rw is (named_offer key (alone s) r.olt r.number llid _ (λ l. refl))))
