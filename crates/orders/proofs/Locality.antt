-- A unit's answers depend on its own record and what all share, a group's also on its members' LLIDs and clock acknowledgements (02, C-22).
-- Assumes nothing.
use Rattle.std.specs.Prelude.{Ok, Err, Option, Some, None}
use mathlib.Core.Path.{◌≡◌, refl, sym, ap, ap₂, ◌∙◌, subst}
use mathlib.Core.Bool.{true, false}
use mathlib.Core.List.{List, map}
use Prim.Native.Nat.{ℕ, ◌<◌}
use native.Mathlib.Omega.{arith}
use lib.ListN.{length, length-set, length-take, set, take}
use lib.Seq.{get_or-set_same}
use Rattle.refusal.specs.Order.{and_then}
use Rattle.ends.specs.Records.{with_channels}
use Rattle.ends.specs.Identities.{has}
use Rattle.ends.specs.Table.{registered, unit_at, with_olt_channels, with_unit}
use Rattle.ends.specs.declared.Channels.{Channels}
use Rattle.ends.specs.declared.Shared.{Shared}
use Rattle.ends.specs.declared.UnitRecord.{UnitRecord}
use Rattle.ends.proofs.Table.{with_unit-holds}
use Rattle.ends.proofs.Validity.{olt_in_range}
use Rattle.unit.specs.Reached.{if_accepted}
use Rattle.group_protocol.specs.GroupCalls.{acknowledge_group, group_marked, group_offered, group_outcome, member_named, offer_group, retry_group, send_group}
use Rattle.group_protocol.specs.Head.{group_at, past_group, registered_groups, valid_head, with_group, with_group_keys, with_members, with_olt}
use Rattle.group_protocol.specs.Members.{marked, places_of, unmarked, valid_members}
use Rattle.group_protocol.specs.declared.Answer.{Answer}
use Rattle.group_protocol.specs.declared.GroupRecord.{GroupRecord}
use Rattle.group_protocol.specs.declared.HeadEnd.{HeadEnd}
use Rattle.group_protocol.proofs.Found.{Stands}
use Rattle.group_protocol.proofs.HeadValidity.{group_in_range, head_in_range}
use Rattle.headend.proofs.HeadSteps.{group_at_valid}
use Rattle.orders.specs.Calls.{Call, Made, Told, after, answer_of, made, capture, measure, clock_send, offer, retry, acknowledge, send, receive}
use Rattle.orders.specs.Locality.{GroupPart, Locality, MemberPart, SameGroup, SameUnit, group_part, member_part, member_parts}
use Rattle.orders.specs.Parties.{group, llid_of, party_of, unit}
use Rattle.orders.proofs.Decisions.{Decided, Seen, asked, by_verdict, decided, put, seen, shape}
use Rattle.orders.proofs.Made.{made_decided}
use Rattle.orders.proofs.Named.{group_named, unit_named-holds}
use Rattle.orders.proofs.NamedMembers.{member_named_same, members_set_same}
use Rattle.orders.proofs.Others.{names_same}
use Rattle.refusal.specs.Verdict.{Verdict}

-- a place in use stays in use
still_used : {A : Type 0} (n : ℕ) (l : List A) (i : ℕ) (a : A) → i < length (take n l) → i < length (take n (set l i a))
still_used n l i a used = omega (arith, length-take n l, length-take n (set l i a), length-set l i a)

---- a unit

module _ (c : Call) where
  -- its decision, wherever it stands
  abbrev unit_decides : Shared → UnitRecord → Decided UnitRecord (shape c).Handed
  unit_decides s u = decided c (unit 0) (record { shared = s; set = false; member = None }) u

  unit_made : (h : HeadEnd) (i : ℕ) → valid_head h ≡ true → party_of h c ≡ unit i → let d = unit_decides h.olt.shared (unit_at h.olt i) in
      made h c
      ≡ record {
        told = (shape c).tell d.verdict d.handed;
        head = with_olt h (with_unit h.olt i d.channels d.own);
      }
  unfolding asked put
  unit_made h i v e = made_decided h c v (unit i) e

  unit_left : (h : HeadEnd) (i : ℕ) → valid_head h ≡ true → party_of h c ≡ unit i → i < length (registered h.olt)
      → unit_at (after h c).olt i ≡ (unit_decides h.olt.shared (unit_at h.olt i)).own
  unfolding with_olt
  unit_left h i v p used =
      let d = unit_decides h.olt.shared (unit_at h.olt i) in
      ap (λ (m : Made). unit_at m.head.olt i) (unit_made h i v p)
      ∙ with_unit-holds h.olt i d.channels d.own (omega (arith, length-take h.olt.count h.olt.units))

  unit_used : (h : HeadEnd) (i : ℕ) → valid_head h ≡ true → party_of h c ≡ unit i → i < length (registered h.olt)
      → i < length (registered (after h c).olt)
  unfolding with_olt with_unit
  unit_used h i v p used =
      subst (λ (m : Made). i < length (registered m.head.olt)) (sym (unit_made h i v p)) (still_used h.olt.count h.olt.units i _ used)

  unit_local : (h k : HeadEnd) (i j : ℕ) → valid_head h ≡ true → valid_head k ≡ true → SameUnit h k i j
      → has (unit_at h.olt i).identity (llid_of c) ≡ true
      → (answer_of h c ≡ answer_of k c) × SameUnit (after h c) (after k c) i j
  unfolding with_olt with_unit
  unit_local h k i j v w s n =
      let p = unit_named-holds h c i v s.first n in
      let q = unit_named-holds k c j w s.second (ap (λ (u : UnitRecord). has u.identity (llid_of c)) (sym s.own) ∙ n) in
      let a = unit_made h i v p in
      let b = unit_made k j w q in
      let told : Made → Told = λ m. m.told in
      let shared : Made → Shared = λ m. m.head.olt.shared in
      let tells : Shared → UnitRecord → Told = λ x u. (shape c).tell (unit_decides x u).verdict (unit_decides x u).handed in (
        ap told a ∙ ap₂ tells s.shared s.own ∙ sym (ap told b),
        record {
          first = unit_used h i v p s.first;
          second = unit_used k j w q s.second;
          shared =
              ap shared a
              ∙ ap₂ (λ (x : Shared) (u : UnitRecord). with_channels x (unit_decides x u).channels) s.shared s.own
              ∙ sym (ap shared b);
          own =
              unit_left h i v p s.first
              ∙ ap₂ (λ (x : Shared) (u : UnitRecord). (unit_decides x u).own) s.shared s.own
              ∙ sym (unit_left k j w q s.second);
        },
      )

---- a group: its decision, but for its members' places

abbrev rebuilt : GroupPart → List ℕ → GroupRecord
rebuilt a places = record { keys = a.keys; members = record { places = places; marks = a.marks; count = a.count }; llid = a.llid }

abbrev partly : {H : Type 0} → Decided GroupRecord H → Decided GroupPart H
partly d = record { verdict = d.verdict; own = group_part d.own; channels = d.channels; handed = d.handed }

partly_verdict : {H : Type 0} (v : Verdict) (none : H) (e : Channels) (g : GroupRecord) (x : Decided GroupRecord H)
    → partly (by_verdict v none e g x) ≡ by_verdict v none e (group_part g) (partly x)
unfolding by_verdict if_accepted
partly_verdict (Ok tt) none e g x = refl
partly_verdict (Err r) none e g x = refl

marked_part : (a : GroupPart) (ps qs : List ℕ) (member : Option ℕ) → group_part (group_marked (rebuilt a ps) member)
    ≡ group_part (group_marked (rebuilt a qs) member)
unfolding group_marked with_members marked
marked_part a ps qs None = refl
marked_part a ps qs (Some j) = refl

asked_part : (c : Call) (s : Seen) (a : GroupPart) (ps qs : List ℕ)
    → partly (asked c (group 0) s (rebuilt a ps)) ≡ partly (asked c (group 0) s (rebuilt a qs))
unfolding asked group_outcome offer_group group_offered unmarked retry_group acknowledge_group send_group with_group_keys with_members
asked_part (capture llid) s a ps qs = refl
asked_part (measure llid trip) s a ps qs = refl
asked_part (clock_send llid) s a ps qs = refl
asked_part (offer llid key) s a ps qs = refl
asked_part (retry llid) s a ps qs = refl
asked_part (acknowledge llid answer) s a ps qs = rw (marked_part a ps qs s.member)
asked_part (send llid channel payload output) s a ps qs = refl
asked_part (receive header payload output) s a ps qs = refl

marked_places : (g : GroupRecord) (member : Option ℕ) → places_of (group_marked g member).members ≡ places_of g.members
unfolding group_marked with_members marked places_of
marked_places g None = refl
marked_places g (Some j) = refl

asked_places : (c : Call) (s : Seen) (g : GroupRecord) → places_of (asked c (group 0) s g).own.members ≡ places_of g.members
unfolding asked group_outcome offer_group group_offered unmarked retry_group acknowledge_group send_group with_group_keys with_members places_of
asked_places (capture llid) s g = refl
asked_places (measure llid trip) s g = refl
asked_places (clock_send llid) s g = refl
asked_places (offer llid key) s g = refl
asked_places (retry llid) s g = refl
asked_places (acknowledge llid answer) s g = marked_places g s.member
asked_places (send llid channel payload output) s g = refl
asked_places (receive header payload output) s g = refl

module _ (c : Call) where
  -- wherever it stands
  abbrev group_decides : Seen → GroupRecord → Decided GroupRecord (shape c).Handed
  group_decides s g = decided c (group 0) s g

  decides_part : (s : Seen) (a : GroupPart) (ps qs : List ℕ) → partly (group_decides s (rebuilt a ps)) ≡ partly (group_decides s (rebuilt a qs))
  decides_part s a ps qs =
      let settle : Decided GroupPart (shape c).Handed → Decided GroupPart (shape c).Handed =
      λ x. by_verdict (and_then (shape c).ahead x.verdict) (shape c).nothing s.shared.channels a x in
      partly_verdict _ _ _ _ (asked c (group 0) s (rebuilt a ps))
      ∙ ap settle (asked_part c s a ps qs)
      ∙ sym (partly_verdict _ _ _ _ (asked c (group 0) s (rebuilt a qs)))

  decides_places : (s : Seen) (g : GroupRecord) → places_of (group_decides s g).own.members ≡ places_of g.members
  unfolding by_verdict if_accepted
  decides_places s g = by_verdict-holds (and_then (shape c).ahead (asked c (group 0) s g).verdict) where
    by_verdict-holds : (v : Verdict) → places_of (if_accepted v (asked c (group 0) s g).own g).members ≡ places_of g.members
    by_verdict-holds (Ok tt) = asked_places c s g
    by_verdict-holds (Err r) = refl

module _ (c : Call) where
  abbrev seen_by : HeadEnd → ℕ → Seen
  seen_by h i = seen h (group i) c

  group_made : (h : HeadEnd) (i : ℕ) → valid_head h ≡ true → party_of h c ≡ group i → let d = group_decides c (seen_by h i) (group_at h i) in
      made h c ≡ record { told = (shape c).tell d.verdict d.handed; head = with_group h i d.channels d.own }
  unfolding asked put
  group_made h i v e = made_decided h c v (group i) e

  members_valid : (h : HeadEnd) (i : ℕ) → valid_head h ≡ true → i < length (registered_groups h)
      → valid_members h.olt.count (group_at h i).members ≡ true
  members_valid h i v used =
      let n = h.groups.count in
      let l = h.groups.table in
      let s : Stands h (group_at h i).llid i =
      record { used = omega (arith, length-take n l); place = omega (arith, length-take n l); has = refl } in
      (group_in_range _ _ _ (group_at_valid h _ i v s)).members

  seen_same : (h k : HeadEnd) (i j : ℕ) → valid_head h ≡ true → valid_head k ≡ true → SameGroup h k i j → seen_by h i ≡ seen_by k j
  unfolding member_parts
  seen_same h k i j v w s =
      let m = (group_at h i).members in
      let n = (group_at k j).members in
      let set = members_set_same h.olt k.olt m n s.members in
      let named : (a : Answer) → member_named h.olt m a ≡ member_named k.olt n a =
      λ a.
      member_named_same h.olt k.olt m n a (olt_in_range h.olt (head_in_range h v).olt).distinct
      (olt_in_range k.olt (head_in_range k w).olt).distinct (members_valid h i v s.first) (members_valid k j w s.second) s.members in
      rw (set, names_same c h.olt k.olt m n named, s.shared)

  -- the decision of both, but for the places
  decides_same : (h k : HeadEnd) (i j : ℕ) → seen_by h i ≡ seen_by k j → group_part (group_at h i) ≡ group_part (group_at k j)
      → partly (group_decides c (seen_by h i) (group_at h i)) ≡ partly (group_decides c (seen_by k j) (group_at k j))
  decides_same h k i j s e =
      let ps = (group_at h i).members.places in
      ap₂ (λ (x : Seen) (a : GroupPart). partly (group_decides c x (rebuilt a ps))) s e
      ∙ decides_part c (seen_by k j) (group_part (group_at k j)) ps (group_at k j).members.places

  group_left : (h : HeadEnd) (i : ℕ) → valid_head h ≡ true → party_of h c ≡ group i → i < length (registered_groups h)
      → group_at (after h c) i ≡ (group_decides c (seen_by h i) (group_at h i)).own
  unfolding with_group
  group_left h i v p used =
      let n = h.groups.count in
      let l = h.groups.table in
      ap (λ (m : Made). group_at m.head i) (group_made h i v p)
      ∙ get_or-set_same l i (group_decides c (seen_by h i) (group_at h i)).own past_group (omega (arith, length-take n l))

  group_used : (h : HeadEnd) (i : ℕ) → valid_head h ≡ true → party_of h c ≡ group i → i < length (registered_groups h)
      → i < length (registered_groups (after h c))
  unfolding with_group
  group_used h i v p used =
      subst (λ (m : Made). i < length (registered_groups m.head)) (sym (group_made h i v p)) (still_used h.groups.count h.groups.table i _ used)

  -- the members are who they were
  members_stay : (h : HeadEnd) (i : ℕ) → valid_head h ≡ true → party_of h c ≡ group i → i < length (registered_groups h)
      → member_parts (after h c) i ≡ member_parts h i
  unfolding member_parts with_group with_olt_channels
  members_stay h i v p used =
      let part : ℕ → MemberPart = λ place. member_part (unit_at h.olt place) in
      ap (λ (m : Made). map (λ place. member_part (unit_at m.head.olt place)) (places_of (group_at (after h c) i).members)) (group_made h i v p)
      ∙ ap (λ (g : GroupRecord). map part (places_of g.members)) (group_left h i v p used)
      ∙ ap (map part) (decides_places c (seen_by h i) (group_at h i))

  group_local : (h k : HeadEnd) (i j : ℕ) → valid_head h ≡ true → valid_head k ≡ true → SameGroup h k i j → (group_at h i).llid ≡ llid_of c
      → (answer_of h c ≡ answer_of k c) × SameGroup (after h c) (after k c) i j
  unfolding with_group with_olt_channels
  group_local h k i j v w s n =
      let p = group_named h c i v s.first n in
      let q = group_named k c j w s.second (ap (λ (g : GroupPart). g.llid) (sym s.own) ∙ n) in
      let a = group_made h i v p in
      let b = group_made k j w q in
      let told : Made → Told = λ m. m.told in
      let shared : Made → Shared = λ m. m.head.olt.shared in
      let same = decides_same h k i j (seen_same h k i j v w s) s.own in (
        ap told a
            ∙ ap (λ (x : Decided GroupPart (shape c).Handed). (shape c).tell x.verdict x.handed) same
            ∙ sym (ap told b),
        record {
          first = group_used h i v p s.first;
          second = group_used k j w q s.second;
          shared =
              ap shared a
              ∙ ap₂ with_channels s.shared (ap (λ (x : Decided GroupPart (shape c).Handed). x.channels) same)
              ∙ sym (ap shared b);
          own =
              ap group_part (group_left h i v p s.first)
              ∙ ap (λ (x : Decided GroupPart (shape c).Handed). x.own) same
              ∙ sym (ap group_part (group_left k j w q s.second));
          members = members_stay h i v p s.first ∙ s.members ∙ sym (members_stay k j w q s.second);
        },
      )

pub locality : Locality
locality = record { unit = λ h k i j c. unit_local c h k i j; group = λ h k i j c. group_local c h k i j }
