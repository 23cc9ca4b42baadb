-- From fresh ends the invariant holds: there are no groups. Assumes nothing.
use mathlib.Core.Path.{◌≡◌, refl, sym, ◌∙◌, ap}
use mathlib.Core.Bool.{true}
use mathlib.Core.List.{List, [], ◌∷◌, map}
use Prim.Native.Nat.{ℕ, zero, suc, ◌+◌, ◌≤◌}
use native.Mathlib.Omega.{arith}
use lib.ListN.{length, get_or, replicate, length-map, length-replicate}
use borrow.Author.Tests.{le-leb}
use Rattle.octets.specs.Choice.{both}
use Rattle.octets.specs.Lists.{all}
use Rattle.ends.specs.Identities.{distinct, meets}
use Rattle.ends.specs.Limits.{max_units}
use Rattle.ends.specs.declared.Olt.{Olt}
use Rattle.ends.specs.declared.Onu.{Onu}
use Rattle.ends.proofs.Validity.{olt_in_range}
use Rattle.protocol.proofs.OltCalls.{fresh_valid}
use Rattle.group_protocol.specs.Head.{no_groups, group_llids, apart_llids, valid_groups}
use Rattle.group_protocol.specs.Members.{place_from}
use Rattle.group_protocol.specs.Subscriber as subscribers
use Rattle.group_protocol.specs.Subscriber.{fresh_joined, joined_llids, find_joined, no_memberships}
use Rattle.group_protocol.specs.declared.Subscriber.{Subscriber}
use Rattle.group_protocol.proofs.Subscribers.{alone_valid}
use Rattle.group_protocol.specs.Naming.{by_llid}
use Rattle.headend.specs.HeadCalls.{fresh_head_of}
use Rattle.subscriber.specs.SubscriberCalls.{fresh_subscriber_of}
use Rattle.unicast.specs.Setting.{Site, Setting}
use Rattle.unicast.specs.History.{Lane}
use Rattle.unicast.specs.Run as run
use Rattle.unicast.specs.Run.{no_site}
use Rattle.unicast.specs.Premises.{Fresh}
use Rattle.unicast.proofs.StartSteps as units-start
use Rattle.line.specs.History.{Membership, has_taken}
use Rattle.line.specs.Run.{alone, no_subscriber, no_group_lane, fresh_subscriber, start}
use Rattle.line.proofs.Invariant.{joined_for, Joins, Invariant}
use Rattle.line.proofs.Places.{map_holds}

fresh_onus : (sites : List Site) → map (λ (x : Subscriber). x.onu) (map fresh_subscriber sites) ≡ map run.fresh_onu sites
unfolding fresh_subscriber fresh_subscriber_of subscribers.alone run.fresh_onu
fresh_onus [] = refl
fresh_onus (x ∷ sites) = ap (λ (os : List Onu). run.fresh_onu x ∷ os) (fresh_onus sites)

-- the units of the start are those without groups
pub start_alone : (w : Setting) → alone (start w) ≡ run.start w
unfolding alone start run.start fresh_head_of
start_alone w = ap (λ (os : List Onu). record { olt = (run.start w).olt; onus = os; history = (run.start w).history }) (fresh_onus w.sites)

-- a unit that joined nothing
alone_joins : (o : Onu) (l : Lane) → Joins [] l (subscribers.alone o) []
unfolding subscribers.alone no_memberships joined_for find_joined joined_llids place_from by_llid fresh_joined has_taken
alone_joins o l =
    record {
      valid = alone_valid o;
      places = refl;
      llids = refl;
      stranger = λ llid n. record { active = refl; held = refl; kept = refl };
      untaken = λ llid n k. refl;
    }

fresh_joins : (w : Setting) (l : Lane) (u : ℕ) → Joins [] l (get_or (map fresh_subscriber w.sites) u no_subscriber) []
unfolding fresh_subscriber fresh_subscriber_of no_subscriber subscribers.alone
fresh_joins w l =
    map_holds (λ (u : ℕ) (x : Subscriber). Joins [] l x []) fresh_subscriber w.sites no_site no_subscriber (λ u h. alone_joins _ l)
    (λ u h. alone_joins _ l)

no_groups-holds : (o : Olt) → o.count ≤ max_units → valid_groups (record { olt = o; groups = no_groups }) ≡ true
unfolding valid_groups no_groups all apart_llids group_llids distinct meets both
no_groups-holds o h = rw (le-leb (o.count + 0) max_units (omega arith))

no_places : length no_groups.table ≡ max_units
unfolding no_groups
no_places = refl

no_count : no_groups.count ≡ 0
unfolding no_groups
no_count = refl

pub replicate_at : (n u : ℕ) → get_or {A = List Membership} (replicate n []) u [] ≡ []
replicate_at zero u = refl
replicate_at (suc n) zero = refl
replicate_at (suc n) (suc u) = replicate_at n u

lanes_length : (w : Setting) → length (run.start w).history.lanes ≡ length w.sites
unfolding run.start
lanes_length w = length-map w.sites run.fresh_lane

pub start_right : (w : Setting) → Fresh w → Invariant w (start w)
unfolding start fresh_head_of no_group_lane
start_right w f =
    let n = length w.sites in
    let none : (u : ℕ) → get_or {A = List Membership} (replicate n []) u [] ≡ [] = λ u. replicate_at n u in
    record {
      units = rw (start_alone w) (units-start.start_right w f);
      valid = no_groups-holds (start w).head.olt (olt_in_range (start w).head.olt (fresh_valid w.mac w.first)).count;
      places = no_places;
      count = no_count;
      paired = length-replicate n [] ∙ sym (lanes_length w);
      queues = λ g h. absurd (omega (arith, h));
      group = λ g h. absurd (omega (arith, h));
      joins = λ u h. rw (none u) (fresh_joins w _ u);
      follows = λ u g h k. absurd (omega (arith, k));
      answered = λ g a h m. absurd (omega (arith, h));
      keys = λ g h m k p q e. absurd (omega (arith, p));
      mixed = λ u g m k p q e. absurd (omega (arith, q));
    }
