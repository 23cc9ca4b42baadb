-- An offer keeps the invariant, and with it that no key was offered twice. Assumes nothing.
use Rattle.std.specs.Prelude.{Some}
use mathlib.Core.Path.{◌≡◌, refl, sym, ◌∙◌, ap}
use mathlib.Core.Logic.{◌⊎◌, inl, inr, ⊎_elim}
use mathlib.Core.List.{List, [], ◌∷◌, ◌++◌, map}
use Prim.Native.Nat.{ℕ, ◌<◌}
use native.Mathlib.Omega.{arith}
use lib.ListN.{length, get_or, length-append, get_or-append}
use lib.Seq.{get_or_at}
use Rattle.octets.specs.Choice.{both}
use Rattle.octets.proofs.Choice.{pick_holds}
use Rattle.refusal.specs.Number.{verdict_number}
use Rattle.ends.specs.Identities.{has}
use Rattle.ends.specs.Records.{with_channels}
use Rattle.ends.specs.Table.{find, unit_at}
use Rattle.protocol.specs.Lift.{outcome}
use Rattle.protocol.specs.Messages.{no_key_message}
use Rattle.protocol.specs.UnitCalls.{offer_unit}
use Rattle.protocol.specs.OltCalls.{key_sent, offer_of}
use Rattle.protocol.specs.declared.KeyMessage.{KeyMessage}
use Rattle.protocol.proofs.OltCalls.{offer_valid}
use Rattle.unicast.specs.Setting.{Setting}
use Rattle.unicast.specs.History.{key_message, Lane, lane_with, lane_leaving, lane_offered}
use Rattle.unicast.specs.Events.{offer}
use Rattle.unicast.specs.Run.{State, lane_at, onu_at, named, offering, step}
use Rattle.unicast.specs.Premises.{NewKey, Fits}
use Rattle.unicast.proofs.Cases.{below_or_not}
use Rattle.unicast.proofs.Invariant.{Invariant}
use Rattle.unicast.proofs.KeySteps.{offer_keeps}
use Rattle.unicast.proofs.Places.{lane_of, KeysApart, Held, held_once, named_held}
use Rattle.unicast.proofs.LiftSteps.{named_at, call_right}
use Rattle.refusal.specs.Verdict.{no_refusal}

-- the last of a list with one more, or one before it
last_or_before : (os : List (List ℕ)) (key : List ℕ) (m : ℕ) → m < length (os ++ (key ∷ []))
    → ((m < length os) × (get_or (os ++ (key ∷ [])) m [] ≡ get_or os m [])) ⊎ ((m ≡ length os) × (get_or (os ++ (key ∷ [])) m [] ≡ key))
last_or_before os key m h =
    below_or_not m (length os) (λ k. inl (k, get_or-append os (key ∷ []) [] m k))
    (λ above. let k : m ≡ length os = omega (arith, length-append os (key ∷ [])) in inr (k, get_or_at os key [] [] m (sym k)))

-- what an offer to the unit in place p makes of the offers of lane u
data Offered (s : State) (p : ℕ) (key : List ℕ) (lanes : List Lane) (u : ℕ) : Type 0 where
  kept : (lane_of lanes u).keys.offers ≡ (lane_at s u).keys.offers → Offered s p key lanes u
  more : Held s p u → (lane_of lanes u).keys.offers ≡ (lane_at s u).keys.offers ++ (key ∷ []) → Offered s p key lanes u

module _ (w : Setting) (s : State) (p : ℕ) (key : List ℕ) (lanes : List Lane) (i : Invariant w s) (new : NewKey s key) where
  -- one of before and one after
  keys_beside : (u v m n : ℕ) → m < length (lane_at s u).keys.offers → n < length ((lane_at s v).keys.offers ++ (key ∷ []))
      → get_or (lane_at s u).keys.offers m [] ≡ get_or ((lane_at s v).keys.offers ++ (key ∷ [])) n [] → (u ≡ v) × (m ≡ n)
  keys_beside u v m n g h e =
      ⊎_elim (λ a. i.keys u v m n g a.0 (e ∙ a.1)) (λ a. absurd (new.unused u m g (e ∙ a.1))) (last_or_before (lane_at s v).keys.offers key n h)

  keys_both : (u v m n : ℕ) → u ≡ v → m < length ((lane_at s u).keys.offers ++ (key ∷ [])) → n < length ((lane_at s v).keys.offers ++ (key ∷ []))
      → get_or ((lane_at s u).keys.offers ++ (key ∷ [])) m [] ≡ get_or ((lane_at s v).keys.offers ++ (key ∷ [])) n [] → (u ≡ v) × (m ≡ n)
  keys_both u v m n same g h e =
      ⊎_elim (λ a. keys_beside u v m n a.0 h (sym a.1 ∙ e))
      (λ a.
      ⊎_elim (λ b. absurd (new.unused v n b.0 (sym b.1 ∙ sym e ∙ a.1)))
      (λ b. (same, a.0 ∙ ap (λ (x : ℕ). length (lane_at s x).keys.offers) same ∙ sym b.0))
      (last_or_before (lane_at s v).keys.offers key n h))
      (last_or_before (lane_at s u).keys.offers key m g)

  keys_offered-holds : ((u : ℕ) → Offered s p key lanes u) → KeysApart lanes
  keys_offered-holds each u v m n g h e = by_lanes (each u) (each v) where
    by_lanes : Offered s p key lanes u → Offered s p key lanes v → (u ≡ v) × (m ≡ n)
    by_lanes (kept a) (kept b) = i.keys u v m n (rw a at g) (rw b at h) (rw (a, b) at e)
    by_lanes (kept a) (more k b) = keys_beside u v m n (rw a at g) (rw b at h) (rw (a, b) at e)
    by_lanes (more k a) (kept b) =
        let x = keys_beside v u n m (rw b at h) (rw a at g) (sym (rw (a, b) at e)) in
        (sym x.0, sym x.1)
    by_lanes (more j a) (more k b) = keys_both u v m n (held_once w s p u v i j k) (rw a at g) (rw b at h) (rw (a, b) at e)

named_offered : (w : Setting) (s : State) (p llid : ℕ) (key : List ℕ) (f : Lane → Lane) → Invariant w s → find s.olt llid ≡ Some p
    → ((l : Lane) → (f l).keys.offers ≡ l.keys.offers ++ (key ∷ [])) → (u : ℕ) → Offered s p key (map (named llid f) s.history.lanes) u
unfolding named
named_offered w s p llid key f i e more_by u =
    pick_holds
    (λ (m : Lane). lane_of (map (named llid f) s.history.lanes) u ≡ m → Offered s p key (map (named llid f) s.history.lanes) u)
    (both (lane_at s u).entry.registered (has (lane_at s u).site.identity llid)) (f (lane_at s u)) (lane_at s u)
    (λ h q. more (named_held w s p u llid i e h) (ap (λ (l : Lane). l.keys.offers) q ∙ more_by (lane_at s u)))
    (λ h q. kept (ap (λ (l : Lane). l.keys.offers) q)) (named_at llid f s.history.lanes u)

pub offer_right : (w : Setting) (s : State) (llid : ℕ) (key : List ℕ) → Invariant w s → Fits w s (offer llid key)
    → Invariant w (step s (offer llid key))
unfolding step offering offer_of key_sent offer_unit outcome with_channels lane_leaving lane_offered lane_with
offer_right w s llid key i fits =
    let f : KeyMessage → Lane → Lane = λ x l. lane_leaving (key_message x s.history.now) (lane_offered key l) in
    call_right w s no_key_message no_refusal llid (offer_unit llid key) f i
    (record {
      valid = offer_valid s.olt llid key i.valid;
      rises = λ u a k. omega arith;
      frees = λ l. i.shared.free;
      site = λ x l. refl;
      path = λ x l. refl;
      entry = λ x l. refl;
      keys = λ l.
          keys_offered-holds w s l.at key (map (named llid (f _)) s.history.lanes) i (fits (ap verdict_number l.verdict))
          (named_offered w s l.at llid key (f _) i l.found (λ y. refl));
    })
    (λ l u h e j.
    offer_keeps w s.olt.shared s.history.now (lane_at s u) (unit_at s.olt l.at) (onu_at s u) llid key i.shared j e l.accepts)
