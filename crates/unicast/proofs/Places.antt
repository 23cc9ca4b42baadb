-- Who has which place: the lane of the unit in a place, found by any of its LLIDs, and what is replaced of one lane alone. Assumes nothing.
use Rattle.std.specs.Prelude.{Some}
use mathlib.Core.Path.{◌≡◌, refl, sym, ◌∙◌, ap, subst}
use mathlib.Core.Bool.{Bool, true}
use mathlib.Core.List.{List, [], ◌∷◌}
use Prim.Native.Nat.{ℕ, zero, suc, ◌<◌}
use native.Mathlib.Omega.{arith}
use lib.ListN.{length, get_or, set, get_or-map}
use lib.Seq.{map-set_same}
use Rattle.octets.specs.Choice.{both}
use Rattle.octets.proofs.Choice.{both_left, both_right, true_false}
use Rattle.ends.specs.Identities.{has}
use Rattle.ends.specs.Table.{find, unit_at}
use Rattle.ends.proofs.Table.{find_at, find_own}
use Rattle.ends.proofs.Validity.{olt_in_range}
use Rattle.unicast.specs.Setting.{Setting}
use Rattle.unicast.specs.History.{Lane}
use Rattle.unicast.specs.Run.{State, lane_at, onu_at, no_site, fresh_lane}
use Rattle.unicast.proofs.Invariant.{Joined, Standing, Invariant}

---- lanes

abbrev pub lane_of : List Lane → ℕ → Lane
lane_of ls u = get_or ls u (fresh_lane no_site)

-- no key was offered twice
abbrev pub KeysApart : List Lane → Type 0
KeysApart ls =
    (u v m n : ℕ) → m < length (lane_of ls u).keys.offers → n < length (lane_of ls v).keys.offers
    → get_or (lane_of ls u).keys.offers m [] ≡ get_or (lane_of ls v).keys.offers n [] → (u ≡ v) × (m ≡ n)

pub keys_stay : (ls ms : List Lane) → ((u : ℕ) → (lane_of ms u).keys.offers ≡ (lane_of ls u).keys.offers) → KeysApart ls → KeysApart ms
keys_stay ls ms same k u v m n g h e = k u v m n (rw (same u) at g) (rw (same v) at h) (rw (same u, same v) at e)

-- past the end stands a lane to which nothing has happened
pub known_lane : (ls : List Lane) (u : ℕ) → (lane_of ls u ≡ fresh_lane no_site → ⊥) → u < length ls
known_lane [] u n = absurd (n refl)
known_lane (l ∷ ls) zero n = omega arith
known_lane (l ∷ ls) (suc u) n = omega (arith, known_lane ls u n)

pub registered_known : (ls : List Lane) (u : ℕ) → (lane_of ls u).entry.registered ≡ true → u < length ls
unfolding fresh_lane
registered_known ls u e = known_lane ls u (λ f. true_false (sym e ∙ ap (λ (l : Lane). l.entry.registered) f))

---- who has which place

-- lane u is that of the unit in place p
pub record Held (s : State) (p u : ℕ) : Type 0 where
  pub known : u < length s.history.lanes
  pub registered : (lane_at s u).entry.registered ≡ true
  pub place : (lane_at s u).entry.place ≡ p

pub held_once : (w : Setting) (s : State) (p u v : ℕ) → Invariant w s → Held s p u → Held s p v → u ≡ v
held_once w s p u v i a b = i.apart u v a.known b.known a.registered b.registered (a.place ∙ sym b.place)

-- a registered lane is joined with its place
pub joined_at-holds : (w : Setting) (s : State) (p u : ℕ) → Invariant w s → Held s p u
    → (p < s.olt.count) × Joined w s.olt.shared s.history.now (lane_at s u) (unit_at s.olt p) (onu_at s u)
joined_at-holds w s p u i h =
    let stands : Standing true w s.olt s.history.now (lane_at s u) (onu_at s u) =
    subst (λ (b : Bool). Standing b w s.olt s.history.now (lane_at s u) (onu_at s u)) h.registered (i.lane u h.known).standing in
    rw h.place at stands

-- it is found by any of its LLIDs
pub held_found : (w : Setting) (s : State) (p u llid : ℕ) → Invariant w s → Held s p u → has (lane_at s u).site.identity llid ≡ true
    → find s.olt llid ≡ Some p
held_found w s p u llid i h e =
    let j = joined_at-holds w s p u i h in
    let r = olt_in_range s.olt i.valid in
    find_own s.olt llid p r.distinct
    (record { used = j.0; place = omega (arith, j.0, r.count, i.places); has = j.1.llids llid ∙ e })

-- and has the LLID that finds it
pub found_has : (w : Setting) (s : State) (p u llid : ℕ) → Invariant w s → Held s p u → find s.olt llid ≡ Some p
    → has (lane_at s u).site.identity llid ≡ true
found_has w s p u llid i h e = sym ((joined_at-holds w s p u i h).1.llids llid) ∙ (find_at s.olt llid p e).has

pub at_once : (p q : ℕ) → Some p ≡ Some q → p ≡ q
at_once p q e = cc

-- a lane that is named is that of the place found
pub named_held : (w : Setting) (s : State) (p u llid : ℕ) → Invariant w s → find s.olt llid ≡ Some p
    → both (lane_at s u).entry.registered (has (lane_at s u).site.identity llid) ≡ true → Held s p u
named_held w s p u llid i e h =
    let r = both_left _ _ h in
    let known = registered_known s.history.lanes u r in
    let found = held_found w s (lane_at s u).entry.place u llid i (record { known = known; registered = r; place = refl }) (both_right _ _ h) in
    record { known = known; registered = r; place = at_once _ _ (sym found ∙ e) }

---- one lane replaced

-- what the new lane has of the old one, each lane has
pub set_keeps : {A : Type 0} (g : Lane → A) (ls : List Lane) (u : ℕ) (l : Lane) → g l ≡ g (lane_of ls u) → (v : ℕ)
    → g (lane_of (set ls u l) v) ≡ g (lane_of ls v)
set_keeps {A} g ls u l e v =
    sym (get_or-map g (set ls u l) v (fresh_lane no_site))
    ∙ ap (λ (xs : List A). get_or xs v (g (fresh_lane no_site))) (map-set_same g ls u l (fresh_lane no_site) e)
    ∙ get_or-map g ls v (fresh_lane no_site)
