-- A send of the OLT keeps the invariant of the lane that it is on, and of the others. Assumes nothing.
use mathlib.Core.Path.{◌≡◌, refl, sym, ◌∙◌, ap}
use mathlib.Core.Bool.{true, false}
use mathlib.Core.List.{List, [], ◌∷◌, Memᴰ}
use Prim.Native.Nat.{ℕ, ◌+◌, ◌<◌, ◌≤◌}
use native.Mathlib.Omega.{arith}
use lib.ListN.{length}
use borrow.Author.Tests.{eqb-true, le-leb}
use Rattle.octets.specs.Choice.{pick}
use Rattle.octets.proofs.Members.{each_more}
use Rattle.clock.specs.Ticks.{max_round_trip}
use Rattle.envelope.specs.ControlMask.{eqs_of}
use Rattle.envelope.specs.Acceptance.{lengths_fit}
use Rattle.protocol.specs.Headers.{envelope_header, key_for, passage_of, sending_of}
use Rattle.ends.specs.Flags.{is_up}
use Rattle.ends.specs.Identities.{has}
use Rattle.ends.specs.Keys.{key_in}
use Rattle.ends.specs.Limits.{max_changes}
use Rattle.envelope.specs.Channels.{downstream}
use Rattle.ends.specs.Occupancy.{free_from, taken, occupied}
use Rattle.protocol.specs.OltTraffic.{sending_olt}
use Rattle.ends.specs.Records.{with_keys, with_channels}
use Rattle.protocol.specs.UnitTraffic.{switches, unit_send_choice, unit_send_verdict, keys_after_send, send_unit}
use Rattle.ends.specs.Validity.{valid_unit}
use Rattle.ends.specs.declared.Channels.{Channels}
use Rattle.protocol.specs.declared.KeyChoice.{KeyChoice}
use Rattle.ends.specs.declared.Olt.{Olt}
use Rattle.ends.specs.declared.Onu.{Onu}
use Rattle.protocol.specs.declared.Sending.{Sending}
use Rattle.ends.specs.declared.Shared.{Shared}
use Rattle.ends.specs.declared.UnitRecord.{UnitRecord}
use Rattle.ends.specs.declared.UnitKeys.{UnitKeys}
use Rattle.protocol.proofs.Headers.{Goes, goes, key_for-holds}
use Rattle.protocol.proofs.UnitTraffic.{timer_falls}
use Rattle.ends.proofs.Occupancy.{free_own, taken_false, free_later}
use Rattle.traffic.specs.Passages.{misfit, output_after}
use Rattle.traffic.specs.Sends.{olt_sent, olt_send_of}
use Rattle.unicast.specs.Setting.{Delays, Setting, clock_down}
use Rattle.unicast.specs.History.{downward, upward, Envelope, envelope, Keys, Lane, key_of, switching, number_down, lane_with, leaving, sending, lane_sent_down}
use Rattle.unicast.specs.Run.{envelope_down}
use Rattle.unicast.specs.Claim.{PassageRight, SentRight}
use Rattle.unicast.proofs.Invariant.{reach_of, Numbers, Timing, count_down, SpentDown, SpentUp, SentUnder, Freed, Joined, AtTick}
use Rattle.unicast.proofs.Queues.{Knows, sealed_more, envelope_number, towards_carried, towards_envelope, from_moved}
use Rattle.unicast.proofs.Past.{sent_carried, passing_sent}
use Rattle.unicast.proofs.Envelopes.{ways_apart, envelope_of, passed_right, count_right, runs_right, fits_alone}
use Rattle.unicast.proofs.Spending.{Renewed, spent_kept, spent_new, apart_new, spaced_more}
use Rattle.unicast.specs.Bounds.{longest}
use Rattle.unicast.proofs.Pace.{order_leaving, asked_leaving, occupied_free}
use Rattle.unicast.proofs.SendChoices.{Chosen, timing_sent, chosen_down, unit_first}
use Rattle.refusal.specs.Verdict.{no_refusal}

-- what an accepted send has met
unit_goes : (sh : Shared) (u : UnitRecord) (channel : ℕ) → unit_send_verdict sh u channel ≡ no_refusal
    → Goes (is_up u.clock.acknowledged) (taken sh.channels channel sh.tick) (unit_send_choice u) u.keys.first sh.tick
unfolding unit_send_verdict
unit_goes sh u channel a =
    goes (is_up u.clock.acknowledged) (taken sh.channels channel sh.tick) (unit_send_choice u) u.keys.first sh.tick a

---- the lane of the unit

module _ (w : Setting) (sh : Shared) (now : ℕ) (l : Lane) (u : UnitRecord) (o : Onu) (j : Joined w sh now l u o) where
  -- an envelope that left for the unit, and keys and channels after it
  sent_down_joined : (k : UnitKeys) (choice : KeyChoice) (c : Channels) (e : Envelope) → (1 ≤ e.number → o.clock.synced ≡ 1)
      → Chosen now (reach_of o.keys) u.keys k choice e.number (pick (switching l now) now l.keys.switched) l.keys.switched
      → ((x : Keys) → x.switched ≡ pick (switching l now) now l.keys.switched → Timing l.entry x now k.timer)
      → Renewed u.keys.first k.first u.keys.active e.number now
      → e.up ≡ l.path.up → e.direction ≡ downward → e.left ≡ now → downstream e.channel ≡ true
      → has l.site.identity e.llid ≡ true
      → lengths_fit (length e.payload) (length e.payload) ≡ true → SentRight w l e
      → free_from sh.channels e.channel ≤ now → ((i : ℕ) → free_from sh.channels i ≤ free_from c i) → now < free_from c e.channel
      → Joined w (with_channels sh c) now (lane_sent_down now e l) (with_keys u k) o
  unfolding lane_sent_down lane_with leaving sending with_keys with_channels
  sent_down_joined k choice c e synced h timing r present direction left down named fits right free rises after =
      let n = j.numbers in
      let m = lane_sent_down now e l in
      let knows : (top : ℕ) → Knows l m top = λ top. search mathlib.Core.List.Memᴰ.append_left in
      let own : Memᴰ e m.past.sent = mathlib.Core.List.Memᴰ.append_right l.past.sent (mathlib.Core.List.Memᴰ.head refl) in
      let low : o.keys.active ≤ k.active = omega (arith, n.mid, h.low, h.active) in
      let numbers : Numbers m.keys k.active k.offered u.confirmation.confirmed u.confirmation.acknowledged o.keys =
      search (n.taken, h.offered, arith) in
      let slots : (x : ℕ) → 1 ≤ x → u.confirmation.confirmed ≤ x → x ≤ k.offered → key_in k.slots x ≡ key_of l.keys x =
      λ x p q t. rw h.slots (j.stored.olt x p q (rw h.offered at t)) in
      let timed = timing m.keys refl in
      let settled : (least : ℕ) → ((x : Envelope) → Memᴰ x m.past.sent → x.direction ≡ upward → least ≤ x.up) → o.first.noted ≡ 1
      → o.keys.active ≡ e.number → m.keys.switched + least + max_changes ≤ o.first.at + l.site.up =
      λ least each one same.
      let stayed : e.number ≡ u.keys.active = omega (arith, same, n.mid, h.low) in
      let was = j.firsts.onu least (λ x i. each x (mathlib.Core.List.Memᴰ.append_left (e ∷ []) i)) one (omega (arith, same, stayed, n.counted)) in
      rw (h.settled stayed) was in
      let some : o.first.noted ≡ 1 → SentUnder m.past.sent o.keys.active =
      λ one. let was = j.firsts.some one in search mathlib.Core.List.Memᴰ.append_left in
      let freed : Freed l.site.up m.past.sent o.channels o.travel = search (j.freed.free, j.freed.spent, mathlib.Core.List.Memᴰ.append_left) in
      let gone = each_more (λ (x : Envelope). x.left ≤ now) l.past.sent e j.gone (omega (arith, left)) in
      let ups = each_more (λ (x : Envelope). x.up ≤ max_round_trip) l.past.sent e j.ups (omega (arith, present, j.near)) in
      let asked =
      asked_leaving now u.clock.sent l.transit (envelope e) (λ m c left q. let z : ◌≡◌ {A = ℕ} 0 1 = cc in absurd (omega arith)) j.asked in
      let order = order_leaving now l.transit (envelope e) left j.order in
      let sealed =
      sealed_more o.clock.synced l.transit.towards (envelope e) j.under_way.sealed
      (λ y q p. synced (omega (arith, p, envelope_number e y q))) in
      let towards =
      towards_envelope w.first l.path m o.keys.active k.active k.offered l.transit.towards e low
      (record { above = omega (arith, h.active); most = omega (arith, h.active); sent = own; that_way = direction; named = named })
      (towards_carried w.first l.path l m o.keys.active o.keys.active u.keys.active k.active u.keys.offered k.offered
      l.transit.towards (knows u.keys.offered)
      (omega arith) (omega (arith, h.low, h.active)) (omega (arith, h.offered)) j.towards) in
      let from = from_moved l m 0 u.confirmation.confirmed o.keys.active l.transit.from (knows 0) j.from in
      let downs =
      each_more (SpentDown c k.first k.active) l.past.sent e
      (λ x i q.
      let was = j.spending.downs x i q in (
        was.0,
        rw h.active
            (spent_kept sh.channels c u.keys.first k.first u.keys.active e.number now 0 0 (count_down x) x r
            (rises x.channel) was.1),
      ))
      (λ q. (
        down,
        rw h.active
            (spent_new c u.keys.first k.first u.keys.active e.number now 0 0 (count_down e) e r refl
            (omega (arith, left)) (omega (arith, left, after))),
      )) in
      let others =
      each_more (SpentUp o.channels o.first o.keys.active l.site.up l.path.up o.travel) l.past.sent e j.spending.ups
      (λ q. ways_apart (sym direction ∙ q)) in
      let spaced =
      spaced_more l.past.sent e
      (λ x i.
      apart_new count_down downward sh.channels u.keys.first k.first u.keys.active now 0 0 x e r (omega (arith, left))
      (λ q. (j.spending.downs x i q).1)
      (λ q p n g. let before : x.left < free_from sh.channels e.channel = rw g at (j.spending.downs x i q).1.passed in
      omega (arith, before, free, left)))
      (λ x i p q. ways_apart (sym direction ∙ q))
      j.spending.spaced in
      let passing =
      passing_sent w l m e u.confirmation.confirmed o.keys.active knows refl refl
      (sent_carried w l m e.number (knows e.number) e (omega arith) right) named fits j.passing in
      search h.begun

module _ (w : Setting) (sh : Shared) (now : ℕ) (l : Lane) (u : UnitRecord) (o : Onu) (llid channel eqs : ℕ) (p out : List ℕ) where
  sent_down_right : AtTick w now sh → Joined w sh now l u o → valid_unit sh.tick u ≡ true
      → SentRight w l (envelope_of downward now l.path.up llid channel p (send_unit llid channel eqs sh u).handed (number_down l now))
  unfolding send_unit sending_of passage_of
  sent_down_right t j v =
      let h = chosen_down w sh now l u o j sh.tick t.tick (unit_first sh.tick u v) in
      let n = j.numbers in
      let q = (send_unit llid channel eqs sh u).handed.passage in
      let e = envelope_of downward now l.path.up llid channel p (send_unit llid channel eqs sh u).handed (number_down l now) in
      let under : PassageRight w l e channel q =
      record {
        enciphered = h.enciphered;
        key = λ some.
            ap (λ (x : ℕ). key_for x u.keys.slots) h.chosen
            ∙ key_for-holds (number_down l now) u.keys.slots some
            ∙ j.stored.olt (number_down l now) some (omega (arith, n.low, n.mid, h.low)) (omega (arith, h.high, n.top));
        nonce = λ some. rw (t.mac, t.clock);
      } in
      let header : e.header ≡ envelope_header (number_down l now) channel llid (clock_down w.first now) = rw (h.chosen, t.clock) in
      search (passed_right, count_right, runs_right)

  -- the lane that the send is on
  pub send_down_keeps : AtTick w now sh → Joined w sh now l u o → valid_unit sh.tick u ≡ true → has l.site.identity llid ≡ true
      → downstream channel ≡ true → misfit p out ≡ false → (send_unit llid channel eqs sh u).verdict ≡ no_refusal
      → (switches u ≡ false → (send_unit llid channel eqs sh u).unit.keys.timer ≡ u.keys.timer)
      → Joined w (with_channels sh (send_unit llid channel eqs sh u).channels) now
      (lane_sent_down now (envelope_of downward now l.path.up llid channel p (send_unit llid channel eqs sh u).handed (number_down l now)) l)
      (send_unit llid channel eqs sh u).unit o
  unfolding send_unit with_keys
  send_down_keeps t j v named down fit a stays =
      let met = unit_goes sh u channel a in
      let h = chosen_down w sh now l u o j sh.tick t.tick (unit_first sh.tick u v) in
      let free : free_from sh.channels channel ≤ sh.tick = taken_false sh.channels channel sh.tick met.free in
      sent_down_joined w sh now l u o j (keys_after_send (unit_send_choice u) u.keys sh.tick) (unit_send_choice u)
      (occupied sh.channels channel sh.tick eqs)
      (envelope_of downward now l.path.up llid channel p (send_unit llid channel eqs sh u).handed (number_down l now))
      (λ some. j.clocks.acknowledged (eqb-true _ _ (met.clock (h.enciphered ∙ le-leb 1 (number_down l now) some))))
      h (timing_sent w sh now l u o j _ (timer_falls llid channel eqs sh u) stays) (h.renewed (rw t.tick at met.young)) refl refl refl
      down named (fits_alone p out fit) (sent_down_right t j v)
      (omega (arith, free, t.tick))
      (λ i. free_later sh.channels channel i sh.tick eqs met.free)
      (omega (arith, free_own sh.channels channel sh.tick eqs, t.tick))

---- the envelope of an accepted send

pub envelope_down_is : (o : Olt) (now : ℕ) (path : Delays) (llid channel : ℕ) (p out : List ℕ) (number : ℕ) (s : Sending)
    → (sending_olt o (misfit p out) llid channel (eqs_of p)).verdict ≡ no_refusal → (sending_olt o (misfit p out) llid channel (eqs_of p)).handed ≡ s
    → envelope_down now path o llid channel p out number ≡ envelope_of downward now path.up llid channel p s number
unfolding envelope_down olt_send_of olt_sent output_after
envelope_down_is o now path llid channel p out number s a h = rw (a, h)

---- other lanes

-- a send of the OLT leaves the other lanes, since its channels are free from no earlier
pub channels_keep : (w : Setting) (sh : Shared) (now : ℕ) (l : Lane) (u : UnitRecord) (o : Onu) (c : Channels)
    → ((i : ℕ) → free_from sh.channels i ≤ free_from c i) → Joined w sh now l u o → Joined w (with_channels sh c) now l u o
unfolding with_channels
channels_keep w sh now l u o c rises j =
    let downs : (x : Envelope) → Memᴰ x l.past.sent → SpentDown c u.keys.first u.keys.active x =
    λ x i q.
    let was = j.spending.downs x i q in
    (was.0, record { most = was.1.most; passed = omega (arith, was.1.passed, rises x.channel); noted = was.1.noted }) in
    search

-- the channels after an accepted send
pub send_channels : (llid channel eqs : ℕ) (sh : Shared) (u : UnitRecord) → (send_unit llid channel eqs sh u).verdict ≡ no_refusal
    → (i : ℕ) → free_from sh.channels i ≤ free_from (send_unit llid channel eqs sh u).channels i
unfolding send_unit
send_channels llid channel eqs sh u a i = free_later sh.channels channel i sh.tick eqs (unit_goes sh u channel a).free

-- and no later than it ends
pub send_frees : (llid channel eqs : ℕ) (sh : Shared) (u : UnitRecord) (k bound : ℕ) → sh.tick + eqs + 1 ≤ bound
    → free_from sh.channels k ≤ bound
    → free_from (send_unit llid channel eqs sh u).channels k ≤ bound
unfolding send_unit
send_frees llid channel eqs sh u k bound new old = occupied_free sh.channels channel k sh.tick eqs bound new old

-- the OLT's part is at its tick still
pub channels_at_tick : (w : Setting) (now : ℕ) (sh : Shared) (c : Channels) → ((k : ℕ) → free_from c k ≤ now + longest)
    → AtTick w now sh → AtTick w now (with_channels sh c)
unfolding with_channels
channels_at_tick w now sh c free t = record { mac = t.mac; tick = t.tick; clock = t.clock; free = free }
