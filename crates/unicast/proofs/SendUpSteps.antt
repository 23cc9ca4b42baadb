-- A send of a unit keeps the invariant of its lane. Assumes nothing.
use mathlib.Core.Path.{◌≡◌, refl, sym, ◌∙◌, ap, subst}
use mathlib.Core.Bool.{true}
use mathlib.Core.Logic.{◌⊎◌, inl, ⊎_elim}
use mathlib.Core.List.{List, [], ◌∷◌, Memᴰ}
use Prim.Native.Nat.{ℕ, ◌+◌, ◌<◌, ◌≤◌}
use native.Mathlib.Omega.{arith}
use lib.Dec.{leb}
use lib.ListN.{length}
use borrow.Author.Tests.{eqb-true, le-leb}
use Rattle.octets.proofs.Members.{each_more}
use Rattle.clock.specs.Ticks.{max_round_trip}
use Rattle.envelope.specs.ControlMask.{eqs_of}
use Rattle.envelope.specs.Acceptance.{lengths_fit}
use Rattle.protocol.specs.Headers.{choice_enciphered, envelope_header, key_for, passage_of, sending_of, no_sending}
use Rattle.ends.specs.Identities.{has}
use Rattle.octets.specs.Eqs.{max_eqs}
use Rattle.ends.specs.Limits.{max_changes}
use Rattle.envelope.specs.Channels.{upstream}
use Rattle.ends.specs.Occupancy.{free_from, occupied}
use Rattle.protocol.specs.OnuTraffic.{onu_send_choice, onu_send_verdict, onu_after_send, sending_onu}
use Rattle.ends.specs.Records.{with_onu_first, with_travel, with_onu_channels}
use Rattle.ends.specs.Travels.{travel_of}
use Rattle.ends.specs.Validity.{valid_onu}
use Rattle.ends.specs.declared.Channels.{Channels}
use Rattle.ends.specs.declared.FirstSend.{FirstSend}
use Rattle.ends.specs.declared.Onu.{Onu}
use Rattle.protocol.specs.declared.KeyChoice.{KeyChoice}
use Rattle.protocol.specs.declared.Sending.{Sending}
use Rattle.ends.specs.declared.Shared.{Shared}
use Rattle.ends.specs.declared.UnitRecord.{UnitRecord}
use Rattle.protocol.proofs.Headers.{key_for-holds, header_epam}
use Rattle.ends.proofs.Occupancy.{free_own, taken_false, free_later}
use Rattle.protocol.proofs.OnuCalls.{onu_accepted, onu_accepts, onu_keeps}
use Rattle.protocol.proofs.OnuChoices.{onu_send_accepted, onu_free}
use Rattle.protocol.proofs.OnuTraffic.{onu_sent_valid}
use Rattle.refusal.proofs.Order.{refuse_accepted}
use Rattle.refusal.proofs.Numbers.{number_accepted}
use Rattle.traffic.specs.Passages.{misfit, output_after}
use Rattle.traffic.specs.Sends.{onu_sent, onu_send_of}
use Rattle.traffic.proofs.Passages.{few_eqs}
use Rattle.unicast.specs.Setting.{Setting, clock_up}
use Rattle.unicast.specs.History.{upward, Envelope, Lane, lane_with, sending, lane_sent_up}
use Rattle.unicast.specs.Run.{envelope_up}
use Rattle.unicast.specs.Claim.{PassageRight, SentRight}
use Rattle.unicast.proofs.Invariant.{count_up, SpentDown, SpentUp, FirstSends, Freed, Joined, Common}
use Rattle.unicast.specs.Bounds.{longest}
use Rattle.unicast.proofs.Pace.{rising_more, occupied_free}
use Rattle.unicast.proofs.Queues.{Knows, towards_moved, from_moved, from_envelope}
use Rattle.unicast.proofs.Past.{sent_carried, passing_sent}
use Rattle.unicast.proofs.ClockSteps.{local_time}
use Rattle.unicast.proofs.Frames.{common_moved}
use Rattle.unicast.proofs.Envelopes.{ways_apart, envelope_of, passed_right, count_right, runs_right, fits_alone}
use Rattle.unicast.proofs.Spending.{Renewed, spent_kept, spent_new, apart_new, spaced_more}
use Rattle.unicast.proofs.SendChoices.{ChosenUp, chosen_up, waited}
use Rattle.refusal.specs.Verdict.{no_refusal}

---- its lane

module _ (w : Setting) (sh : Shared) (now : ℕ) (l : Lane) (u : UnitRecord) (o : Onu) (j : Joined w sh now l u o) where
  -- an envelope that left the unit, and first send and channels after it
  sent_up_joined : (choice : KeyChoice) (eqs : ℕ) (h : ChosenUp o choice eqs o.keys.active) (c : Channels) (e : Envelope)
      → e.number ≡ o.keys.active → travel_of o + l.site.up ≡ now + l.path.up + max_changes → eqs ≤ max_eqs
      → Renewed o.first h.first o.keys.active e.number (travel_of o) → (1 ≤ e.number → o.travel.bar ≤ travel_of o)
      → e.up ≡ l.path.up → e.direction ≡ upward → e.left ≡ now → upstream e.channel ≡ true → has l.site.identity e.llid ≡ true
      → lengths_fit (length e.payload) (length e.payload) ≡ true → SentRight w l e
      → free_from o.channels e.channel ≤ now → ((i : ℕ) → free_from o.channels i ≤ free_from c i) → now < free_from c e.channel
      → ((i bound : ℕ) → now + longest ≤ bound → free_from o.channels i ≤ bound → free_from c i ≤ bound)
      → Joined w sh now (lane_sent_up e l) u (with_onu_channels (with_travel (with_onu_first o h.first) h.travel) c)
  unfolding lane_sent_up lane_with sending with_onu_channels with_travel with_onu_first
  sent_up_joined choice eqs h c e number travelled few r waited present direction left up named fits right free rises after frees =
      let n = j.numbers in
      let m = lane_sent_up e l in
      let own : Memᴰ e m.past.sent = mathlib.Core.List.Memᴰ.append_right l.past.sent (mathlib.Core.List.Memᴰ.head refl) in
      let knows : (top : ℕ) → Knows l m top = λ top. search mathlib.Core.List.Memᴰ.append_left in
      let firsts : FirstSends l.keys.switches l.keys.switched l.site.up m.past.sent u.keys.first h.first o.keys.active =
      record {
        olt = j.firsts.olt;
        onu = λ least each one same.
            let mine = each e own direction in
            ⊎_elim
            (λ stays.
            rw stays
            (j.firsts.onu least (λ x i. each x (mathlib.Core.List.Memᴰ.append_left (e ∷ []) i)) (sym (ap (λ (y : FirstSend). y.noted) stays)
            ∙ one) same))
            (λ new. omega (arith, new, mine, present, travelled, j.timing.switched)) h.since;
        some = λ one. record { envelope = e; among = own; that_way = direction; numbered = number };
      } in
      let freed : Freed l.site.up m.past.sent c h.travel =
      record {
        free = λ last i each.
            frees i (last + longest) (let mine = each e own direction in omega (arith, mine, left))
            (j.freed.free last i (λ x m. each x (mathlib.Core.List.Memᴰ.append_left (e ∷ []) m)));
        spent = λ last most each one.
            let mine = each e own direction in
            ⊎_elim
            (λ stays.
            let was = j.freed.spent last most (λ x m. each x (mathlib.Core.List.Memᴰ.append_left (e ∷ []) m)) (omega (arith, one, stays)) in
            omega (arith, was, stays))
            (λ new. omega (arith, new, few, mine.0, mine.1, left, present, travelled)) h.spends;
        bar = omega (arith, j.freed.bar, h.bar, h.spent);
      } in
      let gone = each_more (λ (x : Envelope). x.left ≤ now) l.past.sent e j.gone (omega (arith, left)) in
      let ups = each_more (λ (x : Envelope). x.up ≤ max_round_trip) l.past.sent e j.ups (omega (arith, present, j.near)) in
      let order = rising_more (λ (x : Envelope). x.left) 0 now l.transit.from e left j.order.from in
      let by = each_more (λ (x : Envelope). x.up ≡ l.path.up) l.transit.from e j.under_way.present present in
      let towards =
      towards_moved w.first l.path l m o.keys.active u.keys.active u.keys.offered l.transit.towards (knows u.keys.offered)
      j.towards in
      let from =
      from_envelope m u.confirmation.confirmed o.keys.active l.transit.from e n.low
      (record { above = omega (arith, number); most = omega (arith, number); sent = own; that_way = direction; named = named })
      (from_moved l m 0 u.confirmation.confirmed o.keys.active l.transit.from (knows 0) j.from) in
      let downs =
      each_more (SpentDown sh.channels u.keys.first u.keys.active) l.past.sent e j.spending.downs
      (λ q. ways_apart (sym q ∙ direction)) in
      let spendings =
      each_more (SpentUp c h.first o.keys.active l.site.up l.path.up h.travel) l.past.sent e
      (λ x i q.
      let was = j.spending.ups x i q in (
        was.0,
        rw (← number)
            (spent_kept o.channels c o.first h.first o.keys.active e.number (travel_of o) l.site.up max_changes (count_up x) x r
            (rises x.channel) was.1),
        record {
          spent = λ p. let below = was.2.spent p in omega (arith, below, h.spent);
          barred = λ p. rw h.bar (was.2.barred p);
        },
      ))
      (λ q. (
        up,
        rw (← number)
            (spent_new c o.first h.first o.keys.active e.number (travel_of o) l.site.up max_changes (count_up e) e r refl
            (omega (arith, travelled, left, present)) (omega (arith, left, after))),
        record { spent = λ p. let below = h.ended (omega (arith, p, number)) in omega (arith, below, travelled, left, present); barred = λ p. inl present },
      )) in
      let spaced =
      spaced_more l.past.sent e (λ x i p q. ways_apart (sym q ∙ direction))
      (λ x i.
      apart_new count_up upward o.channels o.first h.first o.keys.active (travel_of o) l.site.up max_changes x e r
      (omega (arith, travelled, left, present)) (λ q. (j.spending.ups x i q).1)
      -- sent by the present path it left earlier, and before the last change it counted less than the bar
      (λ q p n g.
      let was = j.spending.ups x i q in
      let before : x.left < free_from o.channels e.channel = rw g at was.1.passed in
      ⊎_elim (λ same. omega (arith, same, before, free, left, present))
      (λ below. let high = waited (omega (arith, p, n)) in omega (arith, below, high, travelled, left, present)) (was.2.barred p)))
      j.spending.spaced in
      let passing =
      passing_sent w l m e u.confirmation.confirmed o.keys.active knows refl refl
      (sent_carried w l m e.number (knows e.number) e (omega arith) right) named fits j.passing in
      search

module _ (w : Setting) (sh : Shared) (now : ℕ) (l : Lane) (u : UnitRecord) (o : Onu) (llid channel : ℕ) (p out : List ℕ) where
  -- what the unit seals with
  abbrev handed_up : Sending
  handed_up = sending_of (onu_send_choice o.keys) o.keys.slots o.identity.mac o.clock.time channel llid

  abbrev sent_up : Envelope
  sent_up = envelope_of upward now l.path.up llid channel p handed_up l.keys.number

  sent_up_right : Common w now l o → Joined w sh now l u o → (1 ≤ l.keys.number → o.clock.synced ≡ 1) → SentRight w l sent_up
  unfolding sending_of passage_of
  sent_up_right c j synced =
      let h = chosen_up o (eqs_of p) c.first in
      let n = j.numbers in
      let under : PassageRight w l sent_up channel handed_up.passage =
      record {
        enciphered = h.enciphered ∙ ap (leb 1) n.last;
        key = λ some.
            ap (λ (x : ℕ). key_for x o.keys.slots) (h.chosen ∙ n.last)
            ∙ key_for-holds l.keys.number o.keys.slots some
            ∙ j.stored.onu l.keys.number some (omega (arith, n.last)) (omega (arith, n.last));
        nonce = λ some. let a = j.clocks.synced (synced some) in rw (c.mac, a.tx);
      } in
      -- synced or not, LocalTime has the clock's low six bits
      let header : handed_up.header ≡ envelope_header l.keys.number channel llid (clock_up w.first l.path.up now) =
      ap (λ (x : ℕ). envelope_header x channel llid o.clock.time) (h.chosen ∙ n.last)
      ∙ header_epam l.keys.number channel llid o.clock.time (clock_up w.first l.path.up now)
      (omega (arith, local_time w.first now l.path l.captured u.clock o.clock j.clocks)) in
      search (passed_right, count_right, runs_right)

  -- the lane of the unit that sends
  pub send_up_keeps : Common w now l o → Joined w sh now l u o → (onu_send_of o llid channel p out).answer.number ≡ 0
      → Joined w sh now (lane_sent_up (envelope_up now l.path o llid channel p out l.keys.number) l) u (onu_send_of o llid channel p out).answer.onu
  unfolding envelope_up onu_send_of onu_sent sending_onu onu_after_send output_after
  send_up_keeps c j a =
      let eqs = eqs_of p in
      let verdict = onu_send_verdict o (misfit p out) llid channel in
      let next = onu_after_send o channel eqs in
      let accepts : verdict ≡ no_refusal = (onu_accepted o no_sending verdict next handed_up (number_accepted _ a)).1 in
      let met = onu_send_accepted o (misfit p out) llid channel accepts in
      let free = onu_free o channel met.goes.free in
      let h = chosen_up o eqs c.first in
      let n = j.numbers in
      let after = occupied o.channels channel o.tick eqs in
      let few : eqs ≤ max_eqs = few_eqs p out met.fits in
      let sealed : 1 ≤ l.keys.number → choice_enciphered (onu_send_choice o.keys) ≡ true =
      λ some. h.enciphered ∙ le-leb 1 o.keys.active (omega (arith, some, n.last)) in
      let renewed : Renewed o.first h.first o.keys.active l.keys.number (travel_of o) =
      subst (λ (x : ℕ). Renewed o.first h.first o.keys.active x (travel_of o)) n.last (h.renewed met.goes.young free.1) in
      rw (onu_accepts o no_sending verdict next handed_up c.valid accepts)
      (subst (λ (x : Onu). Joined w sh now (lane_sent_up sent_up l) u (with_onu_channels x after)) (sym h.noted)
      (sent_up_joined w sh now l u o j (onu_send_choice o.keys) eqs h after sent_up (sym n.last) c.travel few renewed
      (λ some. waited o (free.1 (sealed some))) refl refl refl
      met.upstream (sym (c.llids llid) ∙ met.has) (fits_alone p out met.fits)
      (sent_up_right c j (λ some. eqb-true _ _ (met.goes.clock (sealed some))))
      (omega (arith, taken_false o.channels channel o.tick free.0, c.tick))
      (λ i. free_later o.channels channel i o.tick eqs free.0)
      (omega (arith, free_own o.channels channel o.tick eqs, c.tick))
      (λ i bound most was. occupied_free o.channels channel i o.tick eqs bound (omega (arith, most, few, c.tick)) was)))

---- the unit itself

sent_common : (w : Setting) (now : ℕ) (m : Lane) (o : Onu) (channel eqs : ℕ) → Common w now m o → valid_onu (onu_after_send o channel eqs) ≡ true
    → Common w now m (onu_after_send o channel eqs)
unfolding onu_after_send with_onu_channels with_travel with_onu_first travel_of
sent_common w now m o channel eqs k v =
    let h = chosen_up o eqs k.first in
    let is : onu_after_send o channel eqs ≡ with_onu_channels (with_travel (with_onu_first o h.first) h.travel)
    (occupied o.channels channel o.tick eqs) =
    ap (λ (x : Onu). with_onu_channels x (occupied o.channels channel o.tick eqs)) h.noted in
    let valid = rw is at v in
    rw is (search (h.changes, k.travel, h.begun))

-- it stays valid, at its tick, and who it is
pub send_common : (w : Setting) (now : ℕ) (l m : Lane) (o : Onu) (llid channel : ℕ) (p out : List ℕ) → l.site ≡ m.site → l.path ≡ m.path
    → Common w now l o
    → Common w now m (onu_send_of o llid channel p out).answer.onu
unfolding onu_send_of onu_sent sending_onu onu_send_verdict
send_common w now l m o llid channel p out s q c =
    let kept = common_moved w now l m o s q c in
    onu_keeps (Common w now m) o no_sending _ _ _ kept
    (λ v a. sent_common w now m o channel (eqs_of p) kept (onu_sent_valid o channel (eqs_of p) (few_eqs p out (refuse_accepted _ _ _ a).0) v))
