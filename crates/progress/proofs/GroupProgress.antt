-- A group never freezes. Assumes nothing.
use mathlib.Core.Path.{◌≡◌, refl, sym, ◌∙◌, ap, ap₂, subst}
use mathlib.Core.Bool.{Bool, true, false}
use mathlib.Core.List.{List, [], ◌∷◌, ◌++◌, Memᴰ}
use mathlib.Core.Logic.{◌⊎◌, inl, inr}
use Prim.Native.Nat.{ℕ, ◌+◌, ◌-◌, ◌/◌, ◌<◌, ◌≤◌}
use native.Mathlib.Nat.{add-mul, div-mul-le_self, le-div_iff_mul-le}
use native.Mathlib.Omega.{arith}
use lib.Dec.{ltb}
use lib.ListN.{length, get_or, length-append}
use borrow.Author.Tests.{ltb-true, ltb-false, lt-ltb}
use Rattle.octets.specs.Choice.{both, pick}
use Rattle.octets.proofs.Choice.{both_left, both_true, true_false}
use Rattle.clock.specs.Ticks.{max_tick}
use Rattle.sealing.proofs.Seal.{carried_length}
use Rattle.ends.specs.Identities.{llids_of, meets}
use Rattle.ends.specs.Limits.{max_key_number}
use Rattle.ends.specs.Occupancy.{free_from}
use Rattle.protocol.specs.declared.KeyMessage.{KeyMessage}
use Rattle.subscriber.specs.SubscriberCalls.{subscriber_key_message_of}
use Rattle.unicast.specs.Setting.{Setting}
use Rattle.unicast.specs.History.{Envelope, key_message, envelope, Entry, Keys, Lane, due, is_synced}
use Rattle.unicast.specs.Run.{lane_at, fresh_lane, no_site}
use Rattle.unicast.specs.Claim.{is_sealed}
use Rattle.unicast.specs.Premises.{FittingBuffer}
use Rattle.unicast.proofs.Alive.{registered_alive}
use Rattle.line.specs.History.{GroupArrival, GroupLane, Membership, is_member, is_joined, has_taken, group_switching}
use Rattle.line.specs.Events.{Event, advance, offer, retry, send_down, arrive_group}
use Rattle.line.specs.Run.{State, alone, subscriber_at, joined_by, no_group_lane, group_lane_at, group_in_flight_at, group_receipt, group_in_flight_arriving, now, lanes, start, step, runs}
use Rattle.line.specs.Premises.{NewKey, DueOfGroup, Fits}
use Rattle.line.proofs.AdvanceSteps.{advance_right}
use Rattle.line.proofs.AnswerSteps.{known_line}
use Rattle.line.proofs.Arriving.{known, unit_known, member}
use Rattle.line.proofs.Claims.{claim_holds}
use Rattle.line.proofs.GroupSteps.{member_same}
use Rattle.line.proofs.Invariant.{Invariant}
use Rattle.line.proofs.StartSteps.{start_right}
use Rattle.line.proofs.Theorem.{step_right, run_right}
use Rattle.progress.specs.GroupProgress.{ordered, most_of, member_of, down_to, members_of, longest_down, and_then, arrivals, key_call, key_round, wait_for, waited, envelope_round, group_recipe, group_limit, group_events, ClocksSet, GroupMoving, OpenedAt, GroupBrings, GroupProgress}
use Rattle.progress.proofs.GroupArrivals.{Gone, runs_append, meets_append, arrivals_length, members_reached}
use Rattle.progress.proofs.GroupGoing.{KeyLeaves, EnvelopeLeaves, offer_goes, retry_goes, next, send_goes}
use Rattle.progress.proofs.GroupStays.{Stays, stays_then, same_lane, advance_stays, advance_tick, advance_channels, Comes, arrives_as, message_comes, message_took, envelope_comes, envelope_noted}
use Rattle.progress.proofs.GroupTaking.{message_llid, message_accepted}
use Rattle.progress.proofs.Ordered.{ordered_each}

---- the members stay

module _ (g : ℕ) (s t : State) (units : lanes t ≡ lanes s) (roster : (group_lane_at t g).roster ≡ (group_lane_at s g).roster) where
  member_stays : (u : ℕ) → member_of t g u ≡ member_of s g u
  member_stays u =
      member_same (group_lane_at s g) (group_lane_at t g) (lane_at (alone t) u) roster ∙ ap (is_member (group_lane_at s g)) (same_lane s t units u)

  abbrev tells : List ℕ → List Lane → ℕ → Bool
  tells xs ls u = both (get_or ls u (fresh_lane no_site)).entry.registered (meets (llids_of (get_or ls u (fresh_lane no_site)).site.identity) xs)

  abbrev downs : List Lane → ℕ → ℕ
  downs ls u = (get_or ls u (fresh_lane no_site)).path.down

  members_stay : members_of t g ≡ members_of s g
  unfolding is_member alone
  members_stay = ap₂ (λ (xs : List ℕ) (ls : List Lane). ordered (tells xs ls) (downs ls) (length ls)) roster units

  longest_stays : longest_down t g ≡ longest_down s g
  unfolding is_member alone
  longest_stays = ap₂ (λ (xs : List ℕ) (ls : List Lane). most_of (tells xs ls) (downs ls) (length ls)) roster units

---- after an interval a multiple more is reached

interval_over : (i s x y : ℕ) → 1 ≤ i → s ≤ x → x + i ≤ y → ltb (s / i) (y / i) ≡ true
interval_over i s x y some before is =
    let pos : 0 < i = omega (arith, some) in
    let was : s / i ≤ x / i = (le-div_iff_mul-le pos).1 (omega (arith, div-mul-le_self s i, before)) in
    let more : x / i + 1 ≤ y / i = (le-div_iff_mul-le pos).1 (omega (arith, add-mul (x / i) 1 i, div-mul-le_self x i, is)) in
    lt-ltb (s / i) (y / i) (omega (arith, was, more))

due_after : (r : Entry) (k : Keys) (now later : ℕ) → 1 ≤ r.interval → r.since ≤ k.switched → k.switched ≤ now
    → now + r.interval ≤ later → due r k later ≡ true
unfolding due
due_after r k now later some since before over =
    interval_over r.interval (k.switched - r.since) (now - r.since) (later - r.since) some (omega (arith, since, before))
    (omega (arith, since, before, over))

-- the envelope has arrived at the unit, which was synced and had taken its key
record Came (g u : ℕ) (e : Envelope) (t : State) : Type 0 where
  arrival : GroupArrival
  among : Memᴰ arrival (group_lane_at t g).arrived
  there : arrival.unit ≡ u
  is : arrival.envelope ≡ e
  took : arrival.took ≡ true
  synced : arrival.synced ≡ true

module _ (w : Setting) (s : State) (g : ℕ) (i : Invariant w s) (here : g < length s.history.groups) where
  abbrev l : GroupLane
  l = group_lane_at s g

  abbrev n : ℕ
  n = l.keys.switches + 1

  ---- the key's message

  -- what is claimed of a joined member that is synced
  abbrev Took : ℕ → State → Type 0
  Took u t = is_joined (joined_by s u) l.llid ≡ true → is_synced (lane_at (alone s) u) ≡ true → has_taken (joined_by t u) l.llid n ≡ true

  module _ (e : Event) (m : KeyMessage) (gone : KeyLeaves g m s (step s e)) (below : n ≤ max_key_number) where
    abbrev s1 : State
    s1 = step s e

    key_arrives : (t : State) (u k : ℕ) → Invariant w t → Stays g s1 t → (d : DueOfGroup t u g k [])
        → group_in_flight_at t u g k ≡ key_message m (now s)
        → Comes g u t (step t (arrive_group u g k [])) × Took u (step t (arrive_group u g k []))
    unfolding group_in_flight_arriving
    key_arrives t u k v stays d is =
        let same = sym (arrives_as t u g k [] (key_message m (now s)) is) in
        let at = known w t u g k [] v d in
        let r = v.group g at in
        let answer = subscriber_key_message_of (subscriber_at t u) m in
        let llid : (group_lane_at t g).llid ≡ l.llid = stays.llid ∙ gone.leaves.llid in
        let offers : length (group_lane_at t g).keys.offers ≡ n = ap (λ (y : Keys). length y.offers) stays.keys ∙ gone.offers in
        let switches : (group_lane_at t g).keys.switches ≡ l.keys.switches = ap (λ (y : Keys). y.switches) stays.keys ∙ gone.switches in (
          subst (Comes g u t) same (message_comes t u g at k m answer),
          λ joined synced.
              let joins : is_joined (joined_by t u) (group_lane_at t g).llid ≡ true =
              stays.joined u (group_lane_at t g).llid
              ∙ ap₂ (λ (js : List (List Membership)) (x : ℕ). is_joined (get_or js u []) x) gone.leaves.joined llid
              ∙ joined in
              let accepted =
              message_accepted w t u g k [] v d m (now s) is joins
              (ap (λ (y : Lane). is_synced y) (same_lane s t (stays.units ∙ gone.leaves.units) u) ∙ synced)
              (omega (arith, r.listed, offers, r.counted, switches)) (omega (arith, gone.number, r.listed, offers)) (omega (arith, gone.number, below)) in
              let named = message_llid w t u g k [] v d m (now s) is in
              let took : has_taken (joined_by (step t (arrive_group u g k [])) u) m.llid m.number ≡ true =
              subst (λ (z : State). has_taken (joined_by z u) m.llid m.number ≡ true) same
              (message_took t u g at k m answer accepted (omega (arith, unit_known w t u g k [] v d, v.paired))
              (ap (is_joined (joined_by t u)) named ∙ joins)) in
              rw (named, llid, gone.number) at took,
        )

    key_reaches : Fits w s e → now s + longest_down s g ≤ max_tick
        → Gone w g (key_message m (now s)) s s1 Took gone.leaves.units refl tt key_arrives (λ u t z a b j y. a.took u l.llid n (b j y))
        s1 (arrivals s g 0 (members_of s g)) (now s + longest_down s g) (members_of s g)
    key_reaches fits range =
        members_reached w g (key_message m (now s)) s s1 Took gone.leaves.units refl tt key_arrives (λ u t z a b j y. a.took u l.llid n (b j y))
        (step_right w s e i fits) gone.leaves range

    ---- the wait

    module _ (fits : Fits w s e) (range : now s + group_limit s g ≤ max_tick) where
      abbrev first : List Event
      first = e ∷ arrivals s g 0 (members_of s g)

      abbrev s2 : State
      s2 = runs s first

      abbrev wait : ℕ
      wait = wait_for s2 g

      abbrev s3 : State
      s3 = step s2 (advance wait)

      first_goes : Gone w g (key_message m (now s)) s s1 Took gone.leaves.units refl tt key_arrives
          (λ u t z a b j y. a.took u l.llid n (b j y)) s1 (arrivals s g 0 (members_of s g)) (now s + longest_down s g) (members_of s g)
      first_goes = key_reaches fits (omega (arith, range))

      -- all that was before the envelope
      record Before (t : State) : Type 0 where
        units : lanes t ≡ lanes s
        count : length t.history.groups ≡ length s.history.groups
        llid : (group_lane_at t g).llid ≡ l.llid
        entry : (group_lane_at t g).entry ≡ l.entry
        roster : (group_lane_at t g).roster ≡ l.roster
        switches : (group_lane_at t g).keys.switches ≡ l.keys.switches
        offers : length (group_lane_at t g).keys.offers ≡ n
        sent : (group_lane_at t g).sent ≡ l.sent
        joined : (u x : ℕ) → is_joined (joined_by t u) x ≡ is_joined (joined_by s u) x

      before_of : (t : State) → Stays g s1 t → Before t
      before_of t stays =
          let left = gone.leaves in
          record {
            units = stays.units ∙ left.units;
            count = stays.count ∙ left.count;
            llid = stays.llid ∙ left.llid;
            entry = stays.entry ∙ left.entry;
            roster = stays.roster ∙ left.roster;
            switches = ap (λ (y : Keys). y.switches) stays.keys ∙ gone.switches;
            offers = ap (λ (y : Keys). length y.offers) stays.keys ∙ gone.offers;
            sent = stays.sent ∙ gone.sent;
            joined = λ u x. stays.joined u x ∙ ap (λ (js : List (List Membership)). is_joined (get_or js u []) x) left.joined;
          }

      stays2 : Stays g s1 s2
      unfolding runs
      stays2 = first_goes.stays

      i2 : Invariant w s2
      unfolding runs
      i2 = first_goes.invariant

      tick2 : now s2 ≤ now s + longest_down s g
      unfolding runs
      tick2 = first_goes.tick

      stays3 : Stays g s1 s3
      stays3 = stays_then g s1 s2 s3 stays2 (advance_stays g s2 wait)

      before : Before s3
      before = before_of s3 stays3

      i3 : Invariant w s3
      i3 = advance_right w s2 wait i2

      waits : wait ≡ wait_for s g
      waits = let same = ap (λ (y : Entry). y.interval) (before_of s2 stays2).entry in omega (arith, same)

      tick3 : now s3 ≡ now s2 + wait
      tick3 = advance_tick w s2 wait i2 (omega (arith, tick2, range, waits))

      here2 : g < length s2.history.groups
      here2 = omega (arith, here, (before_of s2 stays2).count)

      here3 : g < length s3.history.groups
      here3 = omega (arith, here, before.count)

      switching : group_switching (group_lane_at s3 g) (now s3) ≡ true
      unfolding group_switching
      switching =
          let t = (i2.group g here2).timing in
          let over : now s2 + (group_lane_at s2 g).entry.interval ≤ now s3 = omega (arith, tick3) in
          let stay = advance_stays g s2 wait in
          both_true (lt-ltb (group_lane_at s3 g).keys.switches (length (group_lane_at s3 g).keys.offers) (omega (arith, before.switches, before.offers)))
          (rw (stay.entry, stay.keys)
          (due_after (group_lane_at s2 g).entry (group_lane_at s2 g).keys (now s2) (now s3) t.some t.since t.switched over))

      free : free_from s3.head.olt.shared.channels 0x00 ≤ now s3
      unfolding alone
      free =
          let was = i2.units.shared.free 0x00 in
          let same = ap (λ c. free_from c 0x00) (advance_channels w s2 wait i2 (omega (arith, tick2, range, waits))) in
          omega (arith, was, same, tick3)

      ---- the envelope

      abbrev x : Envelope
      x = next w s3 g i3 here3

      abbrev s4 : State
      s4 = step s3 (send_down (group_lane_at s3 g).llid 0x00 [] [])

      goes : EnvelopeLeaves g x s3 s4
      goes = send_goes w s3 g i3 here3 switching free

      i4 : Invariant w s4
      i4 = step_right w s3 (send_down (group_lane_at s3 g).llid 0x00 [] []) i3 tt

      buffer : FittingBuffer (envelope x) []
      buffer =
          let known4 : g < length s4.history.groups = omega (arith, here3, goes.leaves.count) in
          let among : Memᴰ x (group_lane_at s4 g).sent = rw goes.sent
          (mathlib.Core.List.Memᴰ.append_right (group_lane_at s3 g).sent (mathlib.Core.List.Memᴰ.head refl)) in
          let right = ((i4.group g known4).sends x among).right in
          sym (ap length right.octets ∙ carried_length (is_sealed x) _ _ x.payload ∙ ap length goes.payload)

      -- every member that has to has taken the key
      took : (u : ℕ) → u < length (lanes s) → member_of s g u ≡ true → Took u s3
      unfolding runs
      took u h e joined synced =
          (advance_stays g s2 wait).took u l.llid n
          (ordered_each (member_of s g) (down_to s) (λ v. Took v s2) (length (lanes s)) u h e first_goes.each joined synced)

      abbrev Opens : ℕ → State → Type 0
      Opens u t = is_joined (joined_by s u) l.llid ≡ true → is_synced (lane_at (alone s) u) ≡ true → Came g u x t

      envelope_arrives : (t : State) (u k : ℕ) → Invariant w t → Stays g s4 t → (d : DueOfGroup t u g k [])
          → group_in_flight_at t u g k ≡ envelope x
          → Comes g u t (step t (arrive_group u g k [])) × Opens u (step t (arrive_group u g k []))
      unfolding group_receipt
      envelope_arrives t u k v stays d is =
          let same = sym (arrives_as t u g k [] (envelope x) is) in
          let at = known w t u g k [] v d in
          let units : lanes t ≡ lanes s = stays.units ∙ goes.leaves.units ∙ before.units in
          let roster : (group_lane_at t g).roster ≡ l.roster = stays.roster ∙ goes.leaves.roster ∙ before.roster in
          let number : x.number ≡ n = omega (arith, goes.number, before.switches) in
          let named : x.llid ≡ l.llid = goes.llid ∙ before.llid in (
            subst (Comes g u t) same (envelope_comes t u g at k [] x),
            λ joined synced.
                let taken =
                took u (omega (arith, unit_known w t u g k [] v d, ap length units))
                (sym (member_stays g s t units roster u) ∙ member w t u g k [] v d) joined synced in
                let taken4 : has_taken (joined_by s4 u) l.llid n ≡ true =
                ap (λ (js : List (List Membership)). has_taken (get_or js u []) l.llid n) goes.leaves.joined ∙ taken in
                subst (Came g u x) same
                (record {
                  arrival = group_receipt t u x [];
                  among = envelope_noted t u g at k [] x;
                  there = refl;
                  is = refl;
                  took = ap₂ (λ (a b : ℕ). has_taken (joined_by t u) a b) named number ∙ stays.took u l.llid n taken4;
                  synced = ap (λ (y : Lane). is_synced y) (same_lane s t units u) ∙ synced;
                }),
          )

      came_stays : (u : ℕ) (t z : State) → Stays g t z → Opens u t → Opens u z
      came_stays u t z stays c joined synced =
          let r = c joined synced in
          record {
            arrival = r.arrival;
            among = stays.arrived r.arrival r.among;
            there = r.there;
            is = r.is;
            took = r.took;
            synced = r.synced;
          }

      abbrev down : ℕ
      down = longest_down s3 g

      same_down : down ≡ longest_down s g
      same_down = longest_stays g s s3 before.units before.roster

      third_goes : Gone w g (envelope x) s3 s4 Opens goes.leaves.units goes.left buffer envelope_arrives came_stays
          s4 (arrivals s3 g 0 (members_of s3 g)) (now s3 + down) (members_of s3 g)
      third_goes =
          members_reached w g (envelope x) s3 s4 Opens goes.leaves.units goes.left buffer envelope_arrives came_stays i4 goes.leaves
          (omega (arith, tick3, tick2, waits, range, same_down))

      ---- the whole

      abbrev second : List Event
      second = advance wait ∷ []

      abbrev third : List Event
      third = send_down (group_lane_at s3 g).llid 0x00 [] [] ∷ arrivals s3 g 0 (members_of s3 g)

      abbrev s5 : State
      s5 = runs s4 (arrivals s3 g 0 (members_of s3 g))

      runs_there : runs s (first ++ (second ++ third)) ≡ s5
      unfolding runs
      runs_there = runs_append s first (second ++ third)

      opened : (u : ℕ) → member_of s g u ≡ true → is_joined (joined_by s u) l.llid ≡ true → is_synced (lane_at (alone s) u) ≡ true
          → OpenedAt w (group_lane_at s5 g) u x
      unfolding is_member alone
      opened u e joined synced =
          let alive = registered_alive w (alone s) u i.units (both_left _ _ e) in
          let is : member_of s3 g u ≡ true = member_stays g s s3 before.units before.roster u ∙ e in
          let c = ordered_each (member_of s3 g) (down_to s3) (λ v. Opens v s5) (length (lanes s3)) u (omega (arith, alive.known, ap length before.units)) is
          third_goes.each joined synced in
          let number : x.number ≡ n = omega (arith, goes.number, before.switches) in
          record {
            arrival = c.arrival;
            among = c.among;
            there = c.there;
            is = c.is;
            opened =
                ((claim_holds w s5 third_goes.invariant).group_arrived g c.arrival c.among).sealed c.took c.synced
                (omega (arith, number, ap (λ (y : Envelope). y.number) c.is));
          }

      pub brings_by : GroupBrings w s g n (group_limit s g) (group_events s g) (first ++ (second ++ third))
      unfolding runs
      brings_by =
          let there = runs_there in
          let number : x.number ≡ n = omega (arith, goes.number, before.switches) in
          record {
            meets =
                meets_append w s first (second ++ third) (fits, first_goes.meets)
                (meets_append w s2 second third (tt, tt) (tt, third_goes.meets));
            switches =
                rw there (ap (λ (y : Keys). y.switches) third_goes.stays.keys ∙ goes.switches ∙ ap (λ (y : ℕ). y + 1) before.switches);
            next = x;
            sent = rw there (third_goes.stays.sent ∙ goes.sent ∙ ap (λ (es : List Envelope). es ++ (x ∷ [])) before.sent);
            numbered = number;
            opened = rw there opened;
            soon = rw there (omega (arith, third_goes.tick, tick3, tick2, waits, same_down));
            short =
                omega (
                  arith,
                  length-append first (second ++ third),
                  length-append second third,
                  arrivals_length s g 0 (members_of s g),
                  arrivals_length s3 g 0 (members_of s3 g),
                  ap length (members_stay g s s3 before.units before.roster),
                );
            units = rw there (third_goes.stays.units ∙ goes.leaves.units ∙ before.units);
          }

---- from wherever the group stands

module _ (w : Setting) (s : State) (g : ℕ) (key : List ℕ) (i : Invariant w s) (able : GroupMoving s g key) where
  registered_known : g < length s.history.groups
  unfolding no_group_lane
  registered_known = known_line s g (λ e. true_false (sym able.registered ∙ ap (λ (y : GroupLane). y.entry.registered) e))

  pub group_brings : GroupBrings w s g ((group_lane_at s g).keys.switches + 1) (group_limit s g) (group_events s g) (group_recipe g key s)
  unfolding group_recipe and_then key_round waited envelope_round runs pick
  group_brings = by_offer (ltb (group_lane_at s g).keys.switches (length (group_lane_at s g).keys.offers)) refl where
    most : (group_lane_at s g).keys.switches + 1 ≤ max_key_number
    most = omega (arith, able.below)

    by_offer : (t : Bool) → ltb (group_lane_at s g).keys.switches (length (group_lane_at s g).keys.offers) ≡ t
        → GroupBrings w s g ((group_lane_at s g).keys.switches + 1) (group_limit s g) (group_events s g)
        (and_then (λ z. key_call (group_lane_at s g).llid key t ∷ arrivals s g 0 (members_of s g))
        (and_then (waited g) (envelope_round g)) s)
    by_offer true e =
        brings_by w s g i registered_known (retry (group_lane_at s g).llid) _ (retry_goes w s g i registered_known (ltb-true _ _ e)) most tt able.in_range
    by_offer false e = by_able able.offers where
      by_able : ((group_lane_at s g).keys.switches < length (group_lane_at s g).keys.offers)
          ⊎ (ClocksSet s g × NewKey s key)
          → GroupBrings w s g ((group_lane_at s g).keys.switches + 1) (group_limit s g) (group_events s g)
          (and_then (λ z. offer (group_lane_at s g).llid key ∷ arrivals s g 0 (members_of s g)) (and_then (waited g) (envelope_round g)) s)
      by_able (inl more) =
          let none = ltb-false (group_lane_at s g).keys.switches (length (group_lane_at s g).keys.offers) e in
          absurd (omega (arith, more, none))
      by_able (inr q) =
          brings_by w s g i registered_known (offer (group_lane_at s g).llid key) _
          (offer_goes w s g i registered_known key q.0 q.1 (ltb-false _ _ e) able.below) most (λ z. q.1) able.in_range

pub group_progress-holds : GroupProgress
group_progress-holds w es g key f m able = group_brings w (runs (start w) es) g key (run_right w (start w) es (start_right w f) m) able
