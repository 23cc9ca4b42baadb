-- A registration joins the OLT's fresh record of a unit with a unit to which nothing has happened but advances. Assumes nothing.
use mathlib.Core.Path.{◌≡◌, refl, sym, ◌∙◌, ap, subst}
use mathlib.Core.Bool.{true, Bool, false}
use Prim.Native.Nat.{ℕ, ◌+◌, ◌-◌, ◌/◌, ◌%◌, ◌≤◌, ◌<◌}
use native.Mathlib.Nat.{zero-mod}
use native.Mathlib.Omega.{arith}
use lib.ListN.{length, get_or, set, length-set}
use lib.Dec.{eqb}
use lib.Seq.{get_or-set_same, get_or-set_other, set-get_or}
use borrow.Author.Tests.{leb-true, le-ltb, eqb-true, eqb-false}
use Rattle.octets.specs.Choice.{pick}
use Rattle.octets.proofs.Choice.{both_left, true_false}
use Rattle.octets.proofs.Members.{none_in}
use Rattle.clock.specs.Ticks.{local_turn, max_round_trip}
use Rattle.ends.specs.Identities.{llids_of, has, kept, valid_identity}
use Rattle.ends.specs.Records.{fresh_unit}
use Rattle.ends.specs.Timers.{fresh_timer, valid_interval}
use Rattle.protocol.specs.OltCalls.{olt_answer, registering, register_of}
use Rattle.protocol.specs.Replies.{silent}
use Rattle.ends.specs.Table.{registered, table_llids, find, unit_at, with_one_more}
use Rattle.ends.specs.declared.Identity.{Identity}
use Rattle.ends.specs.declared.Onu.{Onu}
use Rattle.ends.specs.declared.Shared.{Shared}
use Rattle.ends.specs.declared.Olt.{Olt}
use Rattle.ends.proofs.Identities.{meets_apart, identity_valid, first_has, kept_has}
use Rattle.refusal.proofs.Order.{refuse_accepted}
use Rattle.refusal.proofs.Numbers.{number_accepted}
use Rattle.protocol.proofs.Replies.{reply_verdict, reply_accepted}
use Rattle.ends.proofs.Table.{among_found, more_unit, more_other, more_places}
use Rattle.protocol.proofs.OltCalls.{register_refused}
use Rattle.protocol.proofs.Registration.{Registers, register_accepted, registered_valid}
use Rattle.unicast.specs.Setting.{Setting}
use Rattle.unicast.specs.Bounds.{highest}
use Rattle.unicast.specs.History.{envelope, Entry, Keys, Lane, due, lane_registered}
use Rattle.unicast.specs.Events.{register}
use Rattle.unicast.specs.Run.{State, lane_at, onu_at, no_site, fresh_lane, noted, entering, step}
use Rattle.unicast.specs.Premises.{Agrees, Fits}
use Rattle.unicast.proofs.Cases.{same_or_not}
use Rattle.unicast.proofs.Invariant.{Timing, Idle, Joined, Standing, LaneRight, Invariant}
use Rattle.unicast.proofs.Frames.{common_moved, lane_joined, lane_kept}
use Rattle.unicast.proofs.Alive.{registered_alive}
use Rattle.unicast.proofs.Places.{Held, held_found, keys_stay, set_keeps}

timing_fresh : (r : Entry) (k : Keys) (now : ℕ) → r.since ≡ now → k.switched ≡ now → 1 ≤ r.interval
    → Timing r k now (fresh_timer r.interval)
unfolding fresh_timer due
timing_fresh r k now e f some =
    let z : now - r.since ≡ 0 = omega arith in
    let y : k.switched - r.since ≡ 0 = omega arith in
    let none = le-ltb (0 / r.interval) (0 / r.interval) (omega arith) in
    search (z, y, zero-mod, none, arith)

-- the ends agree on MACs and LLIDs, LocalTime is right and the delays add up
pub register_keeps : (w : Setting) (sh : Shared) (now place : ℕ) (i : Identity) (trip interval : ℕ) (l : Lane) (o : Onu) → Idle now l o
    → i.mac ≡ l.site.identity.mac → ((x : ℕ) → has i x ≡ has l.site.identity x) → l.site.oltmac ≡ w.mac
    → l.site.time ≡ (w.first + l.path.up) % local_turn → trip ≡ l.path.up + l.path.down → trip ≤ max_round_trip
    → valid_identity i ≡ true → valid_interval interval ≡ true → Joined w sh now (lane_registered place now interval l) (fresh_unit i trip interval) o
unfolding lane_registered fresh_unit kept valid_interval highest
register_keeps w sh now place i trip interval l o d mac llids oltmac time delays near v n =
    let lane = lane_registered place now interval l in
    let most = (identity_valid i v).1 in
    let some : 1 ≤ interval = leb-true _ _ (both_left _ _ n) in
    record {
      mac = mac;
      llids = λ x. kept_has i x most ∙ llids x;
      oltmac = oltmac;
      firsts = record { olt = λ one. absurd (omega arith); onu = λ least each one. absurd (omega arith); some = λ one. absurd (omega arith) };
      freed =
          record {
            free = λ last k each. omega (arith, d.channels k);
            spent = λ last most each one. absurd (omega (arith, one, d.spent));
            bar = omega (arith, d.bar);
          };
      heard = rw d.arrived;
      told = rw d.arrived d.number;
      gone = λ x. none_in _ x d.sent;
      near = omega (arith, delays, near);
      ups = λ x. none_in _ x d.sent;
      asked = record { under = λ x. none_in _ x d.towards; answered = λ x. none_in _ x d.answered };
      order = record { towards = rw d.towards (omega arith); from = rw d.from (omega arith) };
      numbers = search arith;
      stored = record { olt = λ n a b c. absurd (omega arith); onu = λ n a b c. absurd (omega (arith, d.active, d.held)) };
      timing = timing_fresh lane.entry lane.keys now refl refl some;
      clocks =
          record {
            trip = delays;
            capture = λ e. absurd (omega arith);
            flag = omega (arith, d.unsynced);
            unsynced = λ e. omega (arith, d.time, time);
            synced = λ e. absurd (omega (arith, d.unsynced));
            acknowledged = λ e. absurd (omega arith);
          };
      answers = record { each = λ x. none_in _ x d.answered; set = λ e. absurd (omega (arith, e, d.unsynced)) };
      under_way =
          record {
            sealed = λ e. none_in _ (envelope e) d.towards;
            present = λ x. none_in _ x d.from;
          };
      towards = rw d.towards tt;
      from = rw d.from tt;
      spending =
          record {
            downs = λ x. none_in _ x d.sent;
            ups = λ x. none_in _ x d.sent;
            spaced =
                record {
                  down = λ a b h k. absurd (omega (arith, k, ap length d.sent));
                  up = λ a b h k. absurd (omega (arith, k, ap length d.sent));
                };
          };
      passing =
          record {
            sent = λ x. none_in _ x d.sent;
            named = λ x. none_in _ x d.sent;
            fits = λ x. none_in _ x d.sent;
            arrived = λ x. none_in _ x d.arrived;
            down = λ x. none_in _ x d.arrived;
            up = λ x. none_in _ x d.arrived;
          };
    }

---- the whole

-- an accepted registration is one unit more
pub register_made : (o : Olt) (i : Identity) (trip interval : ℕ) → (register_of o i trip interval).number ≡ 0
    → (register_of o i trip interval ≡ record { number = 0; olt = with_one_more o (fresh_unit i trip interval) }) × Registers o i trip interval
unfolding register_of registering olt_answer
register_made o i trip interval e =
    let a = sym (reply_verdict _ o silent (with_one_more o (fresh_unit i trip interval)) silent) ∙ number_accepted _ e in (
      ap olt_answer (reply_accepted _ o silent (with_one_more o (fresh_unit i trip interval)) silent a),
      register_accepted o i trip interval (refuse_accepted _ _ _ a).1,
    )

module _ (w : Setting) (s : State) (u : ℕ) (i : Identity) (trip interval : ℕ) (v : Invariant w s) (a : Agrees w s u i trip)
    (r : Registers s.olt i trip interval) where
  -- the lane of the unit
  abbrev entered : Lane
  entered = lane_registered s.history.registrations s.history.now interval (lane_at s u)

  abbrev after : State
  after =
      record {
        olt = with_one_more s.olt (fresh_unit i trip interval);
        onus = s.onus;
        history = record { now = s.history.now; registrations = s.history.registrations + 1; lanes = set s.history.lanes u entered };
      }

  after_same : lane_at after u ≡ entered
  after_same = get_or-set_same s.history.lanes u entered _ a.known

  after_other : (x : ℕ) → (x ≡ u → ⊥) → lane_at after x ≡ lane_at s x
  after_other x n = get_or-set_other s.history.lanes u x entered _ n

  -- refusal 3: its LLIDs are none of the table's, and those of a registered unit are
  pub unregistered : (lane_at s u).entry.registered ≡ false
  unfolding has find
  unregistered = by_entry (lane_at s u).entry.registered refl where
    by_entry : (t : Bool) → (lane_at s u).entry.registered ≡ t → t ≡ false
    by_entry false e = refl
    by_entry true e =
        let llid = get_or i.llids 0 0 in
        let own = first_has i (identity_valid i r.identity).0 in
        let held : Held s (lane_at s u).entry.place u = record { known = a.known; registered = e; place = refl } in
        let found = held_found w s (lane_at s u).entry.place u llid v held (sym (a.llids llid) ∙ own) in
        true_false (sym (among_found 0 (registered s.olt) llid _ found) ∙ meets_apart (llids_of i) (table_llids (registered s.olt)) llid r.new own)

  entered_right : LaneRight w after.olt s.history.now entered (onu_at s u)
  unfolding lane_registered with_one_more
  entered_right =
      let old = v.lane u a.known in
      let idle : Idle s.history.now (lane_at s u) (onu_at s u) =
      subst (λ (b : Bool). Standing b w s.olt s.history.now (lane_at s u) (onu_at s u)) unregistered old.standing in
      let room : s.olt.count < length s.olt.units = omega (arith, r.room, v.places) in
      let unit : unit_at after.olt s.history.registrations ≡ fresh_unit i trip interval =
      rw (← v.count) (more_unit s.olt (fresh_unit i trip interval) room) in
      lane_joined w after.olt s.history.now entered (onu_at s u) refl
      (common_moved w s.history.now (lane_at s u) entered (onu_at s u) refl refl old.common) (
        omega (arith, v.count),
        rw unit
            (register_keeps w s.olt.shared s.history.now s.history.registrations i trip interval (lane_at s u) (onu_at s u) idle a.mac a.llids
            a.oltmac a.time a.delays r.trip r.identity r.interval),
      )

  lane_right : (x : ℕ) → x < length after.history.lanes → LaneRight w after.olt s.history.now (lane_at after x) (onu_at s x)
  unfolding with_one_more
  lane_right x h =
      same_or_not x u (λ z. rw (z, after_same) entered_right)
      (λ n.
      rw (after_other x n)
      (lane_kept w s.olt after.olt s.history.now (lane_at s x) (onu_at s x)
      (λ b t. (omega (arith, t.0), rw (more_other s.olt (fresh_unit i trip interval) (lane_at s x).entry.place (λ q. omega (arith, q, t.0))) t.1))
      (v.lane x (omega (arith, h, length-set s.history.lanes u entered)))))

  -- the place of the new unit is not that of another
  place_new : (x : ℕ) → x < length s.history.lanes → (x ≡ u → ⊥) → (lane_at after x).entry.registered ≡ true
      → (lane_at after x).entry.place ≡ (lane_at after u).entry.place → ⊥
  unfolding lane_registered
  place_new x h n b e =
      let old : (lane_at s x).entry.registered ≡ true = rw (after_other x n) at b in
      let same : (lane_at s x).entry.place ≡ s.history.registrations = rw (after_other x n, after_same) at e in
      omega (arith, (registered_alive w s x v old).used, same, v.count)

  apart_right : (x y : ℕ) → x < length s.history.lanes → y < length s.history.lanes
      → (lane_at after x).entry.registered ≡ true → (lane_at after y).entry.registered ≡ true
      → (lane_at after x).entry.place ≡ (lane_at after y).entry.place → x ≡ y
  apart_right x y h k b c e =
      same_or_not x u
      (λ p. same_or_not y u (λ q. p ∙ sym q) (λ n. absurd (place_new y k n c (rw p at (sym e)))))
      (λ m.
      same_or_not y u (λ q. absurd (place_new x h m b (rw q at e)))
      (λ n. v.apart x y h k (rw (after_other x m) at b) (rw (after_other y n) at c) (rw (after_other x m, after_other y n) at e)))

  registered_right : Invariant w after
  unfolding with_one_more lane_registered
  registered_right =
      record {
        valid = registered_valid s.olt i trip interval r v.valid;
        places = more_places s.olt (fresh_unit i trip interval) ∙ v.places;
        count = ap (λ (x : ℕ). x + 1) v.count;
        shared = record { mac = v.shared.mac; tick = v.shared.tick; clock = v.shared.clock; free = v.shared.free };
        paired = v.paired ∙ sym (length-set s.history.lanes u entered);
        lane = lane_right;
        apart = λ x y h k. apart_right x y (rw (length-set s.history.lanes u entered) at h) (rw (length-set s.history.lanes u entered) at k);
        keys =
            keys_stay s.history.lanes after.history.lanes
            (set_keeps (λ (l : Lane). l.keys.offers) s.history.lanes u entered refl) v.keys;
      }

pub register_right : (w : Setting) (s : State) (u : ℕ) (i : Identity) (trip interval : ℕ) → Invariant w s → Fits w s (register u i trip interval)
    → Invariant w (step s (register u i trip interval))
unfolding step entering noted pick
register_right w s u i trip interval v f = by_number (eqb (register_of s.olt i trip interval).number 0) refl where
  by_number : (t : Bool) → eqb (register_of s.olt i trip interval).number 0 ≡ t → Invariant w (step s (register u i trip interval))
  by_number true e =
      let z = eqb-true (register_of s.olt i trip interval).number 0 e in
      let m = register_made s.olt i trip interval z in
      rw m.0 (registered_right w s u i trip interval v (f z) m.1)
  by_number false e =
      rw (e, register_refused s.olt i trip interval (eqb-false _ _ e), set-get_or s.history.lanes u (fresh_lane no_site)) v

-- a unit is registered once
pub registered_once : (w : Setting) (s : State) (u : ℕ) (i : Identity) (trip interval : ℕ) → Invariant w s → Fits w s (register u i trip interval)
    → (register_of s.olt i trip interval).number ≡ 0 → (lane_at s u).entry.registered ≡ false
registered_once w s u i trip interval v f z = unregistered w s u i trip interval v (f z) (register_made s.olt i trip interval z).1
