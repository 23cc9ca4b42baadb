-- From fresh ends the invariant holds: nothing has happened. Assumes nothing.
use mathlib.Core.Path.{◌≡◌, refl, sym, ◌∙◌, ap}
use mathlib.Core.Bool.{true, false}
use mathlib.Core.List.{List, [], ◌∷◌, map}
use Prim.Native.Nat.{ℕ, zero, suc, ◌<◌}
use native.Mathlib.Nat.{le_of_suc-le-suc, not-suc-le-zero}
use native.Mathlib.Omega.{arith}
use lib.ListN.{length, get_or, length-map}
use borrow.Author.Tests.{ltb-true, not-false}
use Rattle.octets.proofs.Choice.{both_left, both_right, pick_same, true_false}
use Rattle.clock.specs.Ticks.{clock_turn, local_turn}
use Rattle.protocol.specs.Replies.{Silence, silent, Reply}
use Rattle.ends.specs.Identities.{kept, no_identity, valid_identity}
use Rattle.envelope.specs.Channels.{on_zero}
use Rattle.ends.specs.Occupancy.{free_from, free_channels}
use Rattle.ends.specs.Records.{new_olt, new_onu}
use Rattle.ends.specs.Travels.{shift_of, travel_of}
use Rattle.protocol.specs.OltCalls.{olt_answer, fresh_olt_of}
use Rattle.protocol.specs.OnuCalls.{onu_answer, fresh_onu_verdict, fresh_onu_of}
use Rattle.ends.specs.declared.Identity.{Identity}
use Rattle.ends.specs.declared.Olt.{Olt}
use Rattle.ends.specs.declared.Onu.{Onu}
use Rattle.ends.proofs.Identities.{identity_valid, kept_has}
use Rattle.refusal.proofs.Order.{refuse_accepted}
use Rattle.refusal.proofs.Numbers.{number_accepted}
use Rattle.protocol.proofs.Replies.{reply_verdict, reply_accepted}
use Rattle.protocol.proofs.OltCalls.{fresh_valid, fresh_places}
use Rattle.protocol.proofs.OnuCalls.{new_onu_valid}
use Rattle.unicast.specs.Setting.{Site, Setting}
use Rattle.unicast.specs.History.{Lane}
use Rattle.unicast.specs.Run.{lane_at, no_site, fresh_lane, fresh_onu, start}
use Rattle.unicast.specs.Premises.{Fresh}
use Rattle.unicast.proofs.Invariant.{Idle, Common, LaneRight, AtTick, Invariant}
use Rattle.unicast.proofs.Spending.{unnoted}
use Rattle.refusal.specs.Verdict.{no_refusal}

---- the OLT

-- an accepted fresh OLT is a new one
pub record OltMade (mac clock : ℕ) : Type 0 where
  pub made : (fresh_olt_of mac clock).olt ≡ new_olt mac clock
  pub below : clock < clock_turn

pub olt_made : (mac clock : ℕ) → (fresh_olt_of mac clock).number ≡ 0 → OltMade mac clock
unfolding fresh_olt_of olt_answer
olt_made mac clock e =
    let a = sym (reply_verdict _ (new_olt 0 0) silent (new_olt mac clock) silent) ∙ number_accepted _ e in
    record {
      made = ap (λ (r : Reply Olt Silence). r.end) (reply_accepted _ (new_olt 0 0) silent (new_olt mac clock) silent a);
      below = ltb-true _ _ (both_right _ _ (not-false _ (refuse_accepted _ _ _ a).0));
    }

pub fresh_count : (mac clock : ℕ) → (fresh_olt_of mac clock).number ≡ 0 → (fresh_olt_of mac clock).olt.count ≡ 0
unfolding new_olt
fresh_count mac clock e = ap (λ (o : Olt). o.count) (olt_made mac clock e).made

-- fresh channels are free
none_taken : (k : ℕ) → free_from free_channels k ≡ 0
unfolding free_from
none_taken k = pick_same (on_zero k) 0

pub fresh_at_tick : (w : Setting) → (fresh_olt_of w.mac w.first).number ≡ 0 → AtTick w 0 (fresh_olt_of w.mac w.first).olt.shared
unfolding new_olt
fresh_at_tick w e =
    let m = olt_made w.mac w.first e in
    rw m.made (record { mac = refl; tick = refl; clock = omega (arith, m.below); free = λ k. omega (arith, none_taken k) })

---- a unit

pub record OnuMade (i : Identity) (oltmac time : ℕ) : Type 0 where
  pub made : (fresh_onu_of i oltmac time).onu ≡ new_onu i oltmac time
  pub accepted : fresh_onu_verdict i oltmac time ≡ no_refusal
  pub identity : valid_identity i ≡ true
  pub below : time < local_turn

pub onu_made : (i : Identity) (oltmac time : ℕ) → (fresh_onu_of i oltmac time).number ≡ 0 → OnuMade i oltmac time
unfolding fresh_onu_of onu_answer fresh_onu_verdict
onu_made i oltmac time e =
    let a = sym (reply_verdict (fresh_onu_verdict i oltmac time) (new_onu no_identity 0 0) silent (new_onu i oltmac time) silent) ∙ number_accepted _ e in
    let v = not-false _ (refuse_accepted _ _ _ a).0 in
    record {
      made = ap (λ (r : Reply Onu Silence). r.end) (reply_accepted _ (new_onu no_identity 0 0) silent (new_onu i oltmac time) silent a);
      accepted = a;
      identity = both_left _ _ v;
      below = ltb-true _ _ (both_right _ _ (both_right _ _ v));
    }

pub fresh_common : (w : Setting) (s : Site) → (fresh_onu_of s.identity s.oltmac s.time).number ≡ 0 → Common w 0 (fresh_lane s) (fresh_onu s)
unfolding fresh_lane fresh_onu new_onu kept travel_of shift_of
fresh_common w s e =
    let m = onu_made s.identity s.oltmac s.time e in
    let most = (identity_valid s.identity m.identity).1 in
    rw m.made (search (new_onu_valid, kept_has, unnoted, arith))

pub fresh_idle : (s : Site) → (fresh_onu_of s.identity s.oltmac s.time).number ≡ 0 → Idle 0 (fresh_lane s) (fresh_onu s)
unfolding fresh_lane fresh_onu new_onu
fresh_idle s e =
    let m = onu_made s.identity s.oltmac s.time e in
    rw m.made (search (none_taken, arith))

fresh_lane_right : (w : Setting) (t : Olt) (s : Site) → (fresh_onu_of s.identity s.oltmac s.time).number ≡ 0
    → LaneRight w t 0 (fresh_lane s) (fresh_onu s)
unfolding fresh_lane
fresh_lane_right w t s e = record { common = fresh_common w s e; standing = fresh_idle s e }

---- the whole

-- every lane is fresh
pub lane_fresh : (P : Lane → Type 0) (sites : List Site) (u : ℕ) → ((s : Site) → P (fresh_lane s))
    → P (get_or (map fresh_lane sites) u (fresh_lane no_site))
lane_fresh P [] u p = p no_site
lane_fresh P (s ∷ sites) zero p = p s
lane_fresh P (s ∷ sites) (suc u) p = lane_fresh P sites u p

lanes_right : (w : Setting) (t : Olt) (sites : List Site) (u : ℕ) (d : Onu)
    → ((v : ℕ) (s : Site) → v < length sites
    → (fresh_onu_of (get_or sites v s).identity (get_or sites v s).oltmac (get_or sites v s).time).number ≡ 0)
    → u < length (map fresh_lane sites) → LaneRight w t 0 (get_or (map fresh_lane sites) u (fresh_lane no_site)) (get_or (map fresh_onu sites) u d)
lanes_right w t [] u d f h = absurd (not-suc-le-zero h)
lanes_right w t (s ∷ sites) zero d f h = fresh_lane_right w t s (f zero s (omega arith))
lanes_right w t (s ∷ sites) (suc u) d f h = lanes_right w t sites u d (λ v x k. f (suc v) x (omega (arith, k))) (le_of_suc-le-suc h)

pub start_right : (w : Setting) → Fresh w → Invariant w (start w)
unfolding start fresh_lane
start_right w f =
    let unregistered : (u : ℕ) → (lane_at (start w) u).entry.registered ≡ false =
    λ u. lane_fresh (λ (l : Lane). l.entry.registered ≡ false) w.sites u (λ s. refl) in
    let none : (u : ℕ) → length (lane_at (start w) u).keys.offers ≡ 0 =
    λ u. lane_fresh (λ (l : Lane). length l.keys.offers ≡ 0) w.sites u (λ s. refl) in
    record {
      valid = fresh_valid w.mac w.first;
      places = fresh_places w.mac w.first;
      count = fresh_count w.mac w.first f.olt;
      shared = fresh_at_tick w f.olt;
      paired = length-map w.sites fresh_onu ∙ sym (length-map w.sites fresh_lane);
      lane = λ u h. lanes_right w (start w).olt w.sites u (new_onu no_identity 0 0) f.onus h;
      apart = λ u v h k a b e. true_false (sym a ∙ unregistered u);
      keys = λ u v m n h k e. absurd (omega (arith, h, none u));
    }
