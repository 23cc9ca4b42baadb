-- A unit to which something has happened is one of the setting, and registered. Assumes nothing.
use Rattle.std.specs.Prelude.{Some}
use mathlib.Core.Path.{◌≡◌, refl, sym, ◌∙◌, ap, subst}
use mathlib.Core.Bool.{Bool, true, false}
use mathlib.Core.List.Memᴰ
use mathlib.Core.List.{List, [], Memᴰ}
use Prim.Native.Nat.{ℕ, ◌<◌}
use native.Mathlib.Omega.{arith}
use lib.ListN.{length}
use Rattle.octets.proofs.Choice.{pick_holds}
use Rattle.ends.specs.Identities.{has}
use Rattle.ends.specs.Table.{find, unit_at}
use Rattle.unicast.specs.Setting.{Setting}
use Rattle.unicast.specs.History.{Envelope, Arrival, Lane}
use Rattle.unicast.specs.Run.{State, no_site, fresh_lane, lane_at, onu_at}
use Rattle.unicast.proofs.Invariant.{Idle, Joined, Common, Standing, Invariant}
use Rattle.unicast.proofs.Places.{Held, held_found, at_once, known_lane, registered_known}

-- a registered unit, and that its ends are in step
pub record Alive (w : Setting) (s : State) (u : ℕ) : Type 0 where
  pub known : u < length s.history.lanes
  pub registered : (lane_at s u).entry.registered ≡ true
  pub common : Common w s.history.now (lane_at s u) (onu_at s u)
  pub used : (lane_at s u).entry.place < s.olt.count
  pub joined : Joined w s.olt.shared s.history.now (lane_at s u) (unit_at s.olt (lane_at s u).entry.place) (onu_at s u)

-- it is the lane of its place
pub alive_held : (w : Setting) (s : State) (u : ℕ) → Alive w s u → Held s (lane_at s u).entry.place u
alive_held w s u a = record { known = a.known; registered = a.registered; place = refl }

module _ (w : Setting) (s : State) (u : ℕ) (v : Invariant w s) where
  known_alive : u < length s.history.lanes → (lane_at s u).entry.registered ≡ true → Alive w s u
  known_alive known b =
      let right = v.lane u known in
      let stands = subst (λ (t : Bool). Standing t w s.olt s.history.now (lane_at s u) (onu_at s u)) b right.standing in
      record { known = known; registered = b; common = right.common; used = stands.0; joined = stands.1 }

  pub registered_alive : (lane_at s u).entry.registered ≡ true → Alive w s u
  registered_alive b = known_alive (registered_known s.history.lanes u b) b

  -- a part of the lane that is empty before the registration
  busy_alive : {A : Type 0} (part : Lane → List A) → part (fresh_lane no_site) ≡ []
      → (Idle s.history.now (lane_at s u) (onu_at s u) → part (lane_at s u) ≡ []) → (part (lane_at s u) ≡ [] → ⊥) → Alive w s u
  busy_alive part fresh idle n =
      let known = known_lane s.history.lanes u (λ e. n (ap part e ∙ fresh)) in
      pick_holds (λ (t : Bool). Alive w s u) (lane_at s u).entry.registered true false (known_alive known)
      (λ b. absurd (n (idle (subst (λ (t : Bool). Standing t w s.olt s.history.now (lane_at s u) (onu_at s u)) b (v.lane u known).standing))))

  pub towards_alive : (k : ℕ) → k < length (lane_at s u).transit.towards → Alive w s u
  unfolding fresh_lane
  towards_alive k h = busy_alive (λ l. l.transit.towards) refl (λ i. i.towards) (λ e. omega (arith, h, ap length e))

  pub from_alive : (k : ℕ) → k < length (lane_at s u).transit.from → Alive w s u
  unfolding fresh_lane
  from_alive k h = busy_alive (λ l. l.transit.from) refl (λ i. i.from) (λ e. omega (arith, h, ap length e))

  pub answered_alive : (k : ℕ) → k < length (lane_at s u).transit.answered → Alive w s u
  unfolding fresh_lane
  answered_alive k h = busy_alive (λ l. l.transit.answered) refl (λ i. i.answered) (λ e. omega (arith, h, ap length e))

  pub sent_alive : (e : Envelope) → Memᴰ e (lane_at s u).past.sent → Alive w s u
  unfolding fresh_lane
  sent_alive e m =
      busy_alive (λ l. l.past.sent) refl (λ i. i.sent)
      (λ z. Memᴰ.not-nil (subst (λ (l : List Envelope). Memᴰ e l) z m))

  pub arrived_alive : (r : Arrival) → Memᴰ r (lane_at s u).past.arrived → Alive w s u
  unfolding fresh_lane
  arrived_alive r m =
      busy_alive (λ l. l.past.arrived) refl (λ i. i.arrived)
      (λ z. Memᴰ.not-nil (subst (λ (l : List Arrival). Memᴰ r l) z m))

-- registered units that have one LLID are one
pub llid_apart : (w : Setting) (s : State) (u x llid : ℕ) → Invariant w s → Alive w s u → Alive w s x → has (lane_at s u).site.identity llid ≡ true
    → has (lane_at s x).site.identity llid ≡ true → u ≡ x
llid_apart w s u x llid v a b e f =
    v.apart u x a.known b.known a.registered b.registered (at_once _ _ (sym (found u a e) ∙ found x b f)) where
      found : (y : ℕ) → Alive w s y → has (lane_at s y).site.identity llid ≡ true → find s.olt llid ≡ Some (lane_at s y).entry.place
      found y c h = held_found w s (lane_at s y).entry.place y llid v (alive_held w s y c) h
