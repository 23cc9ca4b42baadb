-- One party replaced leaves the others: who is named, their own parts, what they see, and two replaced in either order. Assumes nothing.
use Rattle.std.specs.Prelude.{Option}
use mathlib.Core.Path.{◌≡◌, refl, sym, ap, ap₂, ◌∙◌}
use mathlib.Core.Bool.{Bool, false}
use mathlib.Core.List.{List, [], ◌∷◌}
use Prim.Native.Nat.{ℕ}
use lib.ListN.{set, take}
use lib.Seq.{get_or-set_other, map-set_same, set_comm}
use borrow.Author.Tests.{eqb-false}
use Rattle.octets.specs.Lists.{all}
use Rattle.octets.proofs.Choice.{either_false}
use Rattle.octets.proofs.Maps.{map_take}
use Rattle.ends.specs.Flags.{is_up}
use Rattle.ends.specs.Identities.{among}
use Rattle.ends.specs.Records.{with_channels}
use Rattle.ends.specs.Table.{unit_at, with_olt_channels, with_unit}
use Rattle.ends.specs.declared.Channels.{Channels}
use Rattle.ends.specs.declared.Olt.{Olt}
use Rattle.ends.specs.declared.Shared.{Shared}
use Rattle.ends.specs.declared.UnitRecord.{UnitRecord}
use Rattle.ends.proofs.Table.{SameUnits, find_same, with_other, with_same_units}
use Rattle.group_protocol.specs.GroupCalls.{member_named, members_set}
use Rattle.group_protocol.specs.Head.{find_group, group_at, group_llids, past_group, with_group, with_olt}
use Rattle.group_protocol.specs.Members.{place_from, places_of}
use Rattle.group_protocol.specs.declared.Answer.{Answer}
use Rattle.group_protocol.specs.declared.GroupRecord.{GroupRecord}
use Rattle.group_protocol.specs.declared.HeadEnd.{HeadEnd}
use Rattle.group_protocol.specs.declared.Members.{Members}
use Rattle.group_protocol.proofs.Llids.{group_place}
use Rattle.orders.specs.Calls.{Call, capture, measure, clock_send, offer, retry, acknowledge, send, receive}
use Rattle.orders.specs.Parties.{Party, group, llid_of, member_of, nobody, party_of, same_party, unit}
use Rattle.orders.proofs.Decisions.{Own, Seen, own_of, put, seen, shape}
use Rattle.orders.proofs.Frames.{Kept, seen_with}

---- who is named

put_units : (h : HeadEnd) (p : Party) (c : Channels) (own : Own p) → Kept p own (own_of h p) → SameUnits (put h p c own).olt h.olt
unfolding put with_olt with_group with_olt_channels
put_units h (unit i) c own k = with_same_units h.olt i c own k
put_units h (group i) c own k = record { count = refl; identities = refl }
put_units h nobody c own k = record { count = refl; identities = refl }

abbrev llid_in : GroupRecord → ℕ
llid_in g = g.llid

put_groups : (h : HeadEnd) (p : Party) (c : Channels) (own : Own p) → Kept p own (own_of h p) → (llid : ℕ)
    → find_group (put h p c own) llid ≡ find_group h llid
unfolding put with_olt with_group find_group group_llids
put_groups h (unit i) c own k llid = refl
put_groups h (group i) c own k llid =
    let n = h.groups.count in
    let t = h.groups.table in
    let same : group_llids (take n (set t i own)) ≡ group_llids (take n t) =
    map_take llid_in n (set t i own) ∙ ap (take n) (map-set_same llid_in t i own past_group k) ∙ sym (map_take llid_in n t) in
    group_place 0 (take n (set t i own)) llid ∙ ap (λ (l : List ℕ). place_from 0 l llid) same ∙ sym (group_place 0 (take n t) llid)
put_groups h nobody c own k llid = refl

pub put_party : (h : HeadEnd) (p : Party) (c : Channels) (own : Own p) → Kept p own (own_of h p) → (y : Call)
    → party_of (put h p c own) y ≡ party_of h y
unfolding party_of
put_party h p c own k y = rw (put_groups h p c own k (llid_of y), find_same (put h p c own).olt h.olt (llid_of y) (put_units h p c own k))

---- their own parts

pub put_own : (h : HeadEnd) (p q : Party) (c : Channels) (own : Own p) → same_party p q ≡ false → own_of (put h p c own) q ≡ own_of h q
unfolding put with_olt with_group with_olt_channels same_party
put_own h (unit i) (unit j) c own e = with_other h.olt i j c own (λ q. eqb-false i j e (sym q))
put_own h (unit i) (group j) c own e = refl
put_own h (unit i) nobody c own e = refl
put_own h (group i) (unit j) c own e = refl
put_own h (group i) (group j) c own e = get_or-set_other h.groups.table i j own past_group (λ q. eqb-false i j e (sym q))
put_own h (group i) nobody c own e = refl
put_own h nobody (unit j) c own e = refl
put_own h nobody (group j) c own e = refl
put_own h nobody nobody c own e = refl

---- what they see

-- a unit that is no member replaced
set_other : (o : Olt) (i : ℕ) (c : Channels) (u : UnitRecord) (ps : List ℕ) → among i ps ≡ false
    → all (λ place. is_up (unit_at (with_unit o i c u) place).clock.acknowledged) ps ≡ all (λ place. is_up (unit_at o place).clock.acknowledged) ps
unfolding all among
set_other o i c u [] e = refl
set_other o i c u (x ∷ ps) e =
    let n = either_false _ _ e in
    rw (with_other o i x c u (eqb-false x i n.0), set_other o i c u ps n.1)

-- a call names the same member of both
pub names_same : (y : Call) (o p : Olt) (m n : Members) → ((a : Answer) → member_named o m a ≡ member_named p n a)
    → (shape y).names o m ≡ (shape y).names p n
names_same (capture llid) o p m n f = refl
names_same (measure llid trip) o p m n f = refl
names_same (clock_send llid) o p m n f = refl
names_same (offer llid key) o p m n f = refl
names_same (retry llid) o p m n f = refl
names_same (acknowledge llid answer) o p m n f = f answer
names_same (send llid channel payload output) o p m n f = refl
names_same (receive header payload output) o p m n f = refl

put_names : (h : HeadEnd) (p : Party) (c : Channels) (own : Own p) (y : Call) (m : Members) → Kept p own (own_of h p)
    → (shape y).names (put h p c own).olt m ≡ (shape y).names h.olt m
unfolding member_named
put_names h p c own y m k =
    names_same y (put h p c own).olt h.olt m m (λ a. rw (find_same (put h p c own).olt h.olt a.unit (put_units h p c own k)))

-- what a group sees, by its members' clocks and the member that is named
abbrev group_sees : Shared → Bool → Option ℕ → Seen
group_sees s set member = record { shared = s; set = set; member = member }

pub put_seen : (h : HeadEnd) (p q : Party) (c : Channels) (own : Own p) (y : Call) → Kept p own (own_of h p) → same_party p q ≡ false
    → member_of h p q ≡ false → seen (put h p c own) q y ≡ seen_with (seen h q y) c
unfolding put with_olt with_unit with_group with_olt_channels same_party member_of members_set
put_seen h (unit i) (unit j) c own y k e m = refl
put_seen h (unit i) (group j) c own y k e m =
    let ms = (group_at h j).members in
    ap₂ (group_sees (with_channels h.olt.shared c)) (set_other h.olt i c own (places_of ms) m)
    (put_names h (unit i) c own y ms k)
put_seen h (unit i) nobody c own y k e m = refl
put_seen h (group i) (unit j) c own y k e m = refl
put_seen h (group i) (group j) c own y k e m =
    let sees : Members → Seen =
    λ m. group_sees (with_channels h.olt.shared c) (members_set h.olt m) ((shape y).names (with_olt_channels h.olt c) m) in
    ap (λ (g : GroupRecord). sees g.members) (put_own h (group i) (group j) c own e)
    ∙ ap (group_sees (with_channels h.olt.shared c) (members_set h.olt (group_at h j).members))
    (put_names h (group i) c own y (group_at h j).members k)
put_seen h (group i) nobody c own y k e m = refl
put_seen h nobody (unit j) c own y k e m = refl
put_seen h nobody (group j) c own y k e m =
    ap (group_sees (with_channels h.olt.shared c) (members_set h.olt (group_at h j).members))
    (put_names h nobody c own y (group_at h j).members k)
put_seen h nobody nobody c own y k e m = refl

---- two replaced

pub put_twice : (h : HeadEnd) (p q : Party) (c d e : Channels) (own : Own p) (other : Own q) → same_party p q ≡ false
    → put (put h p c own) q e other ≡ put (put h q d other) p e own
unfolding put with_olt with_unit with_group with_olt_channels with_channels same_party
put_twice h (unit i) (unit j) c d e own other n = rw (set_comm h.olt.units i j own other (eqb-false i j n))
put_twice h (unit i) (group j) c d e own other n = refl
put_twice h (unit i) nobody c d e own other n = refl
put_twice h (group i) (unit j) c d e own other n = refl
put_twice h (group i) (group j) c d e own other n = rw (set_comm h.groups.table i j own other (eqb-false i j n))
put_twice h (group i) nobody c d e own other n = refl
put_twice h nobody (unit j) c d e own other n = refl
put_twice h nobody (group j) c d e own other n = refl
put_twice h nobody nobody c d e own other n = refl
