-- Every event keeps units and members seated. Assumes nothing.
use Rattle.std.specs.Prelude.{Option, Some, None}
use mathlib.Core.Path.{◌≡◌, refl, sym, ◌∙◌, ap}
use mathlib.Core.Bool.{Bool, true, false}
use mathlib.Core.List.{List, [], ◌∷◌, ◌++◌, map}
use Prim.Native.Nat.{ℕ, ◌+◌, ◌<◌, ◌≤◌}
use native.Mathlib.Omega.{arith}
use lib.Dec.{eqb, ltb}
use lib.ListN.{length, get_or, set, length-map, length-set, get_or-map}
use lib.Seq.{get_or-set_same, get_or-set_other}
use borrow.Author.Tests.{eqb-true, eqb-false, ltb-true, leb-true, lt-ltb}
use Rattle.octets.specs.Choice.{pick}
use Rattle.octets.specs.Lists.{tabulate}
use Rattle.octets.proofs.Choice.{both_left, both_right, both_true, pick_holds, pick_true, true_false}
use Rattle.octets.proofs.Lists.{tabulate_length, tabulate_at}
use Rattle.octets.proofs.Maps.{map_same, map_at}
use Rattle.octets.proofs.Tests.{all_at}
use Rattle.ends.specs.Identities.{among, has, meets}
use Rattle.ends.specs.Limits.{max_units}
use Rattle.ends.specs.Table.{find}
use Rattle.ends.specs.declared.Identity.{Identity}
use Rattle.ends.specs.declared.Olt.{Olt}
use Rattle.ends.proofs.Identities.{meets_apart}
use Rattle.ends.proofs.Validity.{olt_in_range}
use Rattle.group_protocol.specs.Head.{group_at, past_group, fresh_group, with_olt, with_one_group_more}
use Rattle.group_protocol.specs.declared.Groups.{Groups}
use Rattle.group_protocol.specs.Limits.{max_members}
use Rattle.group_protocol.specs.Members.{places_of, roster_llids, fresh_members, valid_members}
use Rattle.group_protocol.specs.declared.GroupRecord.{GroupRecord}
use Rattle.group_protocol.specs.declared.Roster.{Roster}
use Rattle.group_protocol.proofs.Places.{among_at}
use Rattle.headend.specs.HeadCalls.{register_group_of, head_register_of, place_found, roster_members}
use Rattle.protocol.specs.declared.OltAnswer.{OltAnswer}
use Rattle.unicast.specs.Setting.{Setting}
use Rattle.unicast.specs.History.{InFlight, clock_message, key_message, envelope, Lane, lane_with, lane_registered, lane_captured, lane_leaving, lane_offered, lane_acknowledged, lane_sent_down, lane_sent_up, lane_taken, lane_answered, lane_arrived_down, lane_arrived_up, lane_moved}
use Rattle.unicast.specs.Run as run
use Rattle.unicast.specs.Run.{lane_at, in_flight_at, no_site, fresh_lane, accepted, noted, with_lanes, at_olt, at_onu, at_olt_for, entering, clock_sending, offering, retrying, changing}
use Rattle.unicast.proofs.Alive.{registered_alive}
use Rattle.unicast.proofs.Stays.{at_olt_keeps, set_stays, noted_keeps}
use Rattle.unicast.proofs.Places.{found_has}
use Rattle.unicast.proofs.RegisterSteps.{registered_once}
use Rattle.line.specs.History.{GroupLane, is_member, group_with, group_offered, group_leaving, group_sent, group_taken, group_answered, group_arrived, group_moved}
use Rattle.line.specs.Events.{Event, advance, register, register_group, capture, clock_send, offer, retry, send_down, join, send_up, arrive_down, arrive_group, arrive_up, arrive_answer, arrive_group_answer, overhear, overhear_group, change_path, measure, new_time, stray_clock, stray_key, stray_answer, stray_down, stray_up}
use Rattle.line.specs.Run.{State, alone, start, group_lane_at, no_group_lane, group_in_flight_at, lanes, noted_for, at_head, at_unit, at_unit_alone, advancing, registering, new_group_lane, clock_sending_to, offering_to, retrying_to, sending_down, joining_at, sending_up, message_arriving, in_flight_arriving, group_message_arriving, group_in_flight_arriving, arriving_up, answering, changing_path, subscriber_after, head_after, step, runs}
use Rattle.line.specs.Premises.{Fits, Meets}
use Rattle.line.proofs.GroupRegisterSteps as groups
use Rattle.line.proofs.RegisterSteps.{accepts, refused_step}
use Rattle.line.proofs.Invariant.{Invariant}
use Rattle.line.proofs.Lines.{group_stands}
use Rattle.line.proofs.Places.{set_field}
use Rattle.line.proofs.Theorem.{step_right}
use Rattle.progress.proofs.Owned.{whose}
use Rattle.progress.proofs.Seats.{Seat, MemberSeat, Seated, seats_of, Sits, seated_sits, advance_seats, capture_seats, measure_seats, clock_send_seats, offer_seats, retry_seats, send_seats, acknowledge_seats, receive_seats}

---- the groups' rosters

map_field : {A B : Type 0} (q : A → B) (f : A → A) → ((x : A) → q (f x) ≡ q x) → (l : List A) (k : ℕ) (d : A)
    → q (get_or (map f l) k d) ≡ q (get_or l k d)
map_field {A} {B} q f e l k d =
    sym (get_or-map q (map f l) k d) ∙ ap (λ (m : List B). get_or m k (q d)) (map_same f q e l) ∙ get_or-map q l k d

noted_roster : (number llid : ℕ) (f : GroupLane → GroupLane) (gs : List GroupLane) → ((x : GroupLane) → (f x).roster ≡ x.roster) → (g : ℕ)
    → (get_or (noted_for number llid f gs) g no_group_lane).roster ≡ (get_or gs g no_group_lane).roster
unfolding noted_for
noted_roster number llid f gs e g =
    map_field (λ (x : GroupLane). x.roster) (λ x. pick (accepted number) (pick (eqb x.llid llid) (f x) x) x)
    (λ x.
    pick_holds (λ (y : GroupLane). y.roster ≡ x.roster) (accepted number) (pick (eqb x.llid llid) (f x) x) x
    (λ a. pick_holds (λ (y : GroupLane). y.roster ≡ x.roster) (eqb x.llid llid) (f x) x (λ b. e x) (λ b. refl)) (λ a. refl))
    gs g no_group_lane

noted_length : (number llid : ℕ) (f : GroupLane → GroupLane) (gs : List GroupLane) → length (noted_for number llid f gs) ≡ length gs
unfolding noted_for
noted_length number llid f gs = length-map gs _

sits : (s t : State) → t.history.units.registrations ≡ s.history.units.registrations
    → ((u : ℕ) → whose (lane_at (alone t) u) ≡ whose (lane_at (alone s) u)) → length t.history.groups ≡ length s.history.groups
    → ((g : ℕ) → (group_lane_at t g).roster ≡ (group_lane_at s g).roster)
    → ((g : ℕ) → g < length s.history.groups → seats_of (group_at t.head g) ≡ seats_of (group_at s.head g)) → Sits s t
sits s t a b c d e = record { registrations = a; whose = b; count = c; roster = d; seats = e }

---- everything but registrations

unfoldable lanes_opened : Unit {0}
unfolding lane_with lane_captured lane_leaving lane_offered lane_acknowledged lane_sent_down lane_sent_up lane_taken lane_answered
    lane_arrived_down lane_arrived_up lane_moved
lanes_opened = tt

unfoldable groups_opened : Unit {0}
unfolding group_with group_offered group_leaving group_sent group_taken group_answered group_arrived group_moved
groups_opened = tt

unfoldable steps_opened : Unit {0}
unfolding alone step advancing at_head at_unit_alone at_unit at_olt at_onu at_olt_for with_lanes clock_sending_to clock_sending offering_to
    offering retrying_to retrying
    sending_down joining_at sending_up arriving_up answering changing_path changing subscriber_after head_after
steps_opened = tt

module _ (w : Setting) (s : State) (i : Invariant w s) where
  in_flight_sits : (u k : ℕ) (out : List ℕ) (x : InFlight) → Sits s (in_flight_arriving s u k out x)
  unfolding alone in_flight_arriving message_arriving at_unit_alone at_unit at_onu with_lanes lanes_opened
  in_flight_sits u k out (clock_message m c t) =
      sits s _ refl (set_stays whose (alone s) u _ (noted_keeps whose _ _ (lane_taken k (lane_at (alone s) u)) refl)) refl (λ g. refl) (λ g h. refl)
  in_flight_sits u k out (key_message m t) =
      sits s _ refl (set_stays whose (alone s) u _ (noted_keeps whose _ _ (lane_taken k (lane_at (alone s) u)) refl)) refl (λ g. refl) (λ g h. refl)
  in_flight_sits u k out (envelope e) = sits s _ refl (set_stays whose (alone s) u _ refl) refl (λ g. refl) (λ g h. refl)

  group_in_flight_sits : (u g k : ℕ) (out : List ℕ) (x : InFlight) → Sits s (group_in_flight_arriving s u g k out x)
  unfolding alone group_in_flight_arriving group_message_arriving at_unit groups_opened
  group_in_flight_sits u g k out (clock_message m c t) = sits s _ refl (λ v. refl) refl (λ h. refl) (λ h p. refl)
  group_in_flight_sits u g k out (key_message m t) =
      sits s _ refl (λ v. refl) (length-set s.history.groups g _)
      (set_field (λ (x : GroupLane). x.roster) s.history.groups g _ no_group_lane
      (pick_holds (λ (y : GroupLane). y.roster ≡ (group_lane_at s g).roster) _ _ _ (λ a. refl) (λ a. refl)))
      (λ h p. refl)
  group_in_flight_sits u g k out (envelope e) =
      sits s _ refl (λ v. refl) (length-set s.history.groups g _)
      (set_field (λ (x : GroupLane). x.roster) s.history.groups g _ no_group_lane refl) (λ h p. refl)

  ---- a unit is registered

  -- u is the new unit, in the next place
  entered : (t : State) (u : ℕ) (l : Lane) → t.history.units.registrations ≡ s.history.units.registrations + 1
      → lanes t ≡ set (lanes s) u l
      → l.entry.registered ≡ true → l.entry.place ≡ s.history.units.registrations → u < length (lanes s)
      → (lane_at (alone s) u).entry.registered ≡ false
      → t.history.groups ≡ s.history.groups → t.head.groups ≡ s.head.groups → Seated s → Seated t
  unfolding alone is_member
  entered t u l more ls registered place known before lines groups d =
      let own : lane_at (alone t) u ≡ l =
      ap (λ (xs : List Lane). get_or xs u (fresh_lane no_site)) ls ∙ get_or-set_same (lanes s) u l (fresh_lane no_site) known in
      let other : (v : ℕ) → (lane_at (alone s) v).entry.registered ≡ true → lane_at (alone t) v ≡ lane_at (alone s) v =
      λ v r.
      ap (λ (xs : List Lane). get_or xs v (fresh_lane no_site)) ls
      ∙ get_or-set_other (lanes s) u v l (fresh_lane no_site)
      (λ e. true_false (sym r ∙ ap (λ (x : ℕ). (lane_at (alone s) x).entry.registered) e ∙ before)) in
      record {
        units = λ p h. by_place p h own other (eqb p s.history.units.registrations) refl;
        members = λ g j h k.
            let counted = ap (λ (x : Groups). (get_or x.table g past_group).members.count) groups in
            let q = d.members g j (omega (arith, h, ap length lines)) (omega (arith, k, counted)) in
            let same = other q.unit (both_left _ _ q.member) in
            record {
              unit = q.unit;
              member =
                  ap (λ (gs : List GroupLane). is_member (get_or gs g no_group_lane) (lane_at (alone t) q.unit)) lines
                  ∙ ap (is_member (group_lane_at s g)) same
                  ∙ q.member;
              place =
                  ap (λ (x : Lane). x.entry.place) same
                  ∙ q.place
                  ∙ ap (λ (x : Groups). get_or (get_or x.table g past_group).members.places j 0) (sym groups);
            };
      } where
        by_place : (p : ℕ) → p < t.history.units.registrations → lane_at (alone t) u ≡ l
            → ((v : ℕ) → (lane_at (alone s) v).entry.registered ≡ true → lane_at (alone t) v ≡ lane_at (alone s) v) → (b : Bool)
            → eqb p s.history.units.registrations ≡ b → Seat t p
        by_place p h own other true e =
            record {
              unit = u;
              registered = ap (λ (x : Lane). x.entry.registered) own ∙ registered;
              place = ap (λ (x : Lane). x.entry.place) own ∙ place ∙ sym (eqb-true _ _ e);
            }
        by_place p h own other false e =
            let differs = eqb-false p s.history.units.registrations e in
            let q = d.units p (omega (arith, h, more, differs)) in
            let same = other q.unit q.registered in
            record {
              unit = q.unit;
              registered = ap (λ (x : Lane). x.entry.registered) same ∙ q.registered;
              place = ap (λ (x : Lane). x.entry.place) same ∙ q.place;
            }

  register_seated : (u : ℕ) (x : Identity) (trip interval : ℕ) → Fits w s (register u x trip interval) → Seated s
      → Seated (step s (register u x trip interval))
  unfolding step registering at_head alone entering noted lane_registered pick with_olt
  register_seated u x trip interval f d = by_number (eqb (head_register_of s.head x trip interval).number 0) refl where
    by_number : (b : Bool) → eqb (head_register_of s.head x trip interval).number 0 ≡ b → Seated (step s (register u x trip interval))
    by_number false e = rw (refused_step s u x trip interval (eqb-false _ _ e)) d
    by_number true e =
        let z = eqb-true _ _ e in
        let a = accepts s.head x trip interval z in
        let once = registered_once w (alone s) u x trip interval i.units (λ q. f z) (ap (λ (r : OltAnswer). r.number) a.olt) in
        entered (step s (register u x trip interval)) u
        (lane_registered s.history.units.registrations s.history.units.now interval (lane_at (alone s) u))
        (rw a.head) (rw a.head) refl refl (f z).known once refl (rw a.head) d

  ---- a group is registered

  module _ (llid interval : ℕ) (r : Roster) (a : groups.Accepts s.head llid interval r) (d : Seated s) where
    abbrev o : Olt
    o = s.head.olt

    abbrev seats : List ℕ
    seats = (roster_members o r).places

    few : r.count ≤ max_members
    unfolding valid_members roster_members fresh_members
    few = leb-true _ _ (both_right _ _ (both_left _ _ a.members))

    names : length (roster_llids r) ≡ r.count
    unfolding roster_llids
    names = tabulate_length 0 r.count _

    seat_found : (j : ℕ) → j < r.count → get_or seats j 0 ≡ place_found (find o (get_or (roster_llids r) j 0))
    unfolding roster_members fresh_members
    seat_found j h =
        let f : ℕ → ℕ = λ k. pick (ltb k r.count) (get_or (map (λ (x : ℕ). place_found (find o x)) (roster_llids r)) k 0) 0 in
        let same : 0 + j ≡ j = omega arith in
        tabulate_at 0 max_members f j 0 (omega (arith, h, few))
        ∙ ap f same
        ∙ pick_true _ 0 (lt-ltb j r.count h)
        ∙ map_at (λ (x : ℕ). place_found (find o x)) (roster_llids r) j 0 0 (omega (arith, h, names))

    seat_used : (j : ℕ) → j < r.count → get_or seats j 0 < o.count
    unfolding valid_members places_of roster_members fresh_members
    seat_used j h =
        let places = both_left _ _ (both_right _ _ a.members) in
        let f : ℕ → ℕ = λ k. get_or seats k 0 in
        let is : get_or (tabulate 0 r.count f) j 0 ≡ f (0 + j) = tabulate_at 0 r.count f j 0 h in
        let same : 0 + j ≡ j = omega arith in
        ltb-true _ o.count
        (rw (is, same) at (all_at (λ (x : ℕ). ltb x o.count) (tabulate 0 r.count f) j 0 places (omega (arith, h, tabulate_length 0 r.count f))))

    named_seat : (j : ℕ) → j < r.count → MemberSeat (new_group_lane s llid interval r) (alone s) (get_or seats j 0)
    unfolding new_group_lane is_member has alone place_found
    named_seat j h = by_found (find o (get_or (roster_llids r) j 0)) refl where
      x : ℕ
      x = get_or (roster_llids r) j 0

      meets_at : (xs ys : List ℕ) → among x xs ≡ true → among x ys ≡ true → meets xs ys ≡ true
      meets_at xs ys p q = by_test (meets xs ys) refl where
        by_test : (b : Bool) → meets xs ys ≡ b → meets xs ys ≡ true
        by_test true e = e
        by_test false e = true_false (sym q ∙ meets_apart xs ys x e p)

      by_found : (y : Option ℕ) → find o x ≡ y → MemberSeat (new_group_lane s llid interval r) (alone s) (get_or seats j 0)
      by_found None e =
          let past : get_or seats j 0 ≡ max_units = seat_found j h ∙ ap place_found e in
          absurd (omega (arith, past, seat_used j h, (olt_in_range o i.units.valid).count))
      by_found (Some p) e =
          let here : get_or seats j 0 ≡ p = seat_found j h ∙ ap place_found e in
          let q = d.units p (omega (arith, here, seat_used j h, i.units.count)) in
          let alive = registered_alive w (alone s) q.unit i.units q.registered in
          let own = found_has w (alone s) p q.unit x i.units (record { known = alive.known; registered = q.registered; place = q.place }) e in
          record {
            unit = q.unit;
            member = both_true q.registered (meets_at _ (roster_llids r) own (among_at (roster_llids r) j 0 (omega (arith, h, names))));
            place = q.place ∙ sym here;
          }

    accepted_seated : Seated (at_head s (with_one_group_more s.head (fresh_group llid interval (roster_members o r))) s.history.units
        (s.history.groups ++ (new_group_lane s llid interval r ∷ [])))
    unfolding at_head alone with_one_group_more fresh_group roster_members fresh_members
    accepted_seated =
        record {
          units = λ p h. let q = d.units p h in record { unit = q.unit; registered = q.registered; place = q.place };
          members = λ g j h k.
              groups.by_group w s llid interval r i a
              (λ (y : GroupLane) (z : GroupRecord). (n : ℕ) → n < z.members.count → MemberSeat y (alone s) (get_or z.members.places n 0)) g h
              fresh_seats (λ q n m. d.members g n q m) j k;
        } where
          fresh_seats : (n : ℕ) → n < (fresh_group llid interval (roster_members o r)).members.count
              → MemberSeat (new_group_lane s llid interval r) (alone s) (get_or (fresh_group llid interval (roster_members o r)).members.places n 0)
          fresh_seats n m = named_seat n m

  group_seated : (llid interval : ℕ) (r : Roster) → Seated s → Seated (step s (register_group llid interval r))
  group_seated llid interval r d = by_number (eqb (register_group_of s.head llid interval r).number 0) refl where
    by_number : (b : Bool) → eqb (register_group_of s.head llid interval r).number 0 ≡ b → Seated (step s (register_group llid interval r))
    by_number true e =
        let a = groups.accepts s.head llid interval r (eqb-true _ _ e) in
        rw (groups.accepted_step s llid interval r a) (accepted_seated llid interval r a d)
    by_number false e = rw (groups.refused_step s llid interval r (eqb-false _ _ e)) d

  ---- every event

  pub seated_step : (e : Event) → Fits w s e → Seated s → Seated (step s e)
  unfolding steps_opened lanes_opened groups_opened
  seated_step (advance n) f d =
      seated_sits s _
      (sits s _ refl (λ u. refl) refl (λ g. refl) (λ g h. let r = group_stands w s i g h in advance_seats s.head n g r.used r.place)) d
  seated_step (register u x trip interval) f d = register_seated u x trip interval f d
  seated_step (register_group llid interval r) f d = group_seated llid interval r d
  seated_step (capture llid) f d =
      seated_sits s _
      (sits s _ refl (at_olt_keeps whose (alone s) s.head.olt _ llid _ (λ l. refl)) refl (λ g. refl) (λ g h. capture_seats s.head llid g)) d
  seated_step (clock_send llid) f d =
      seated_sits s _
      (sits s _ refl (at_olt_keeps whose (alone s) s.head.olt _ llid _ (λ l. refl)) refl (λ g. refl) (λ g h. clock_send_seats s.head llid g)) d
  seated_step (offer llid key) f d =
      seated_sits s _
      (sits s _ refl (at_olt_keeps whose (alone s) s.head.olt _ llid _ (λ l. refl)) (noted_length _ llid _ s.history.groups)
      (noted_roster _ llid _ s.history.groups (λ x. refl)) (λ g h. offer_seats s.head llid key g)) d
  seated_step (retry llid) f d =
      seated_sits s _
      (sits s _ refl (at_olt_keeps whose (alone s) s.head.olt _ llid _ (λ l. refl)) (noted_length _ llid _ s.history.groups)
      (noted_roster _ llid _ s.history.groups (λ x. refl)) (λ g h. retry_seats s.head llid g)) d
  seated_step (send_down llid channel p out) f d =
      seated_sits s _
      (sits s _ refl (at_olt_keeps whose (alone s) s.head.olt _ llid _ (λ l. refl)) (noted_length _ llid _ s.history.groups)
      (noted_roster _ llid _ s.history.groups (λ x. refl)) (λ g h. send_seats s.head llid channel p out g)) d
  seated_step (join u llid) f d =
      seated_sits s _
      (sits s _ refl (λ v. refl) refl (λ g. refl) (λ g h. refl)) d
  seated_step (send_up u llid channel p out) f d =
      seated_sits s _
      (sits s _ refl (set_stays whose (alone s) u _ (noted_keeps whose _ _ (lane_at (alone s) u) refl)) refl (λ g. refl) (λ g h. refl)) d
  seated_step (arrive_down u k out) f d =
      seated_sits s _
      (in_flight_sits u k out (in_flight_at (alone s) u k)) d
  seated_step (arrive_group u g k out) f d =
      seated_sits s _
      (group_in_flight_sits u g k out (group_in_flight_at s u g k)) d
  seated_step (arrive_up u k out) f d =
      seated_sits s _
      (sits s _ refl (set_stays whose (alone s) u _ refl) refl (λ g. refl) (λ g h. receive_seats s.head _ _ out g)) d
  seated_step (arrive_answer u k llid) f d =
      seated_sits s _
      (sits s _ refl (at_olt_keeps whose (alone s) s.head.olt _ llid _ (λ l. refl)) refl (λ g. refl) (λ g h. acknowledge_seats s.head llid _ g)) d
  seated_step (arrive_group_answer g k) f d =
      seated_sits s _
      (sits s _ refl (λ v. refl) refl (λ h. refl) (λ h p. acknowledge_seats s.head _ _ h)) d
  seated_step (overhear u other k out) f d =
      seated_sits s _
      (sits s _ refl (λ v. refl) refl (λ g. refl) (λ g h. refl)) d
  seated_step (overhear_group u g k out) f d =
      seated_sits s _
      (sits s _ refl (λ v. refl) refl (λ h. refl) (λ h p. refl)) d
  seated_step (change_path u llid time p) f d =
      seated_sits s _
      (sits s _ refl (set_stays whose (alone s) u _ refl) (length-map s.history.groups _)
      (λ g. map_field (λ (x : GroupLane). x.roster) _ (λ x. refl) s.history.groups g no_group_lane)
      (λ g h. measure_seats s.head llid (p.up + p.down) g)) d
  seated_step (measure llid trip) f d =
      seated_sits s _
      (sits s _ refl (λ v. refl) refl (λ g. refl) (λ g h. measure_seats s.head llid trip g)) d
  seated_step (new_time u time) f d =
      seated_sits s _
      (sits s _ refl (λ v. refl) refl (λ g. refl) (λ g h. refl)) d
  seated_step (stray_clock u m) f d =
      seated_sits s _
      (sits s _ refl (λ v. refl) refl (λ g. refl) (λ g h. refl)) d
  seated_step (stray_key u m) f d =
      seated_sits s _
      (sits s _ refl (λ v. refl) refl (λ g. refl) (λ g h. refl)) d
  seated_step (stray_answer llid a) f d =
      seated_sits s _
      (sits s _ refl (λ v. refl) refl (λ g. refl) (λ g h. acknowledge_seats s.head llid a g)) d
  seated_step (stray_down u h p out) f d =
      seated_sits s _
      (sits s _ refl (λ v. refl) refl (λ g. refl) (λ g q. refl)) d
  seated_step (stray_up h p out) f d =
      seated_sits s _
      (sits s _ refl (λ v. refl) refl (λ g. refl) (λ g q. receive_seats s.head h p out g)) d

pub seated_run : (w : Setting) (s : State) (es : List Event) → Invariant w s → Meets w s es → Seated s → Seated (runs s es)
unfolding runs
seated_run w s [] i m d = d
seated_run w s (e ∷ es) i m d = seated_run w (step s e) es (step_right w s e i m.0) m.1 (seated_step w s i e m.0 d)

pub seated_start : (w : Setting) → Seated (start w)
unfolding start run.start
seated_start w = record { units = λ p h. absurd (omega (arith, h)); members = λ g j h k. absurd (omega (arith, h)) }
