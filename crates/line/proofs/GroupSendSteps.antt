-- A send to a group keeps the invariant. Assumes nothing.
use Rattle.std.specs.Prelude.{Option, Some}
use mathlib.Core.Path.{◌≡◌, refl, sym, ◌∙◌, ap, subst}
use mathlib.Core.Bool.{true, false}
use mathlib.Core.List.Memᴰ
use mathlib.Core.List.{List, [], ◌∷◌, Memᴰ}
use mathlib.Core.Logic.{⊎_elim}
use Prim.Native.Nat.{ℕ, ◌+◌, ◌<◌}
use native.Mathlib.Omega.{arith}
use lib.ListN.{length, get_or}
use borrow.Author.Tests.{leb-true, eqb-true, not-false}
use Rattle.octets.specs.Choice.{pick}
use Rattle.octets.proofs.Choice.{both_left, both_right, either_cases}
use Rattle.octets.proofs.Members.{each_more}
use Rattle.refusal.specs.Number.{number_of}
use Rattle.refusal.proofs.Order.{refuse_accepted}
use Rattle.envelope.specs.Channels.{downstream}
use Rattle.envelope.specs.ControlMask.{eqs_of}
use Rattle.ends.specs.Keys.{valid_first}
use Rattle.ends.specs.Occupancy.{free_from, taken, occupied}
use Rattle.ends.specs.Validity.{valid_keys}
use Rattle.ends.specs.declared.Channels.{Channels}
use Rattle.ends.specs.declared.Shared.{Shared}
use Rattle.ends.specs.declared.UnitKeys.{UnitKeys}
use Rattle.ends.proofs.Occupancy.{free_own, free_later, taken_false, occupied_valid}
use Rattle.ends.proofs.Validity.{olt_in_range, shared_in_range}
use Rattle.protocol.specs.Headers.{key_for, passage_of, sending_of, no_sending}
use Rattle.protocol.specs.OltTraffic.{sending_olt}
use Rattle.protocol.specs.Replies.{Reply}
use Rattle.protocol.specs.declared.Sending.{Sending}
use Rattle.protocol.proofs.Headers.{Goes, goes, key_for-holds}
use Rattle.traffic.specs.Passages.{misfit, output_after}
use Rattle.traffic.proofs.Passages.{few_eqs}
use Rattle.group_protocol.specs.GroupCalls.{group_send_choice, group_keys_after_send, send_group}
use Rattle.group_protocol.specs.Head.{find_group, group_at, with_group_keys, valid_group}
use Rattle.group_protocol.specs.declared.GroupRecord.{GroupRecord}
use Rattle.group_protocol.specs.declared.HeadEnd.{HeadEnd}
use Rattle.group_protocol.proofs.GroupSteps.{group_sent_valid}
use Rattle.group_protocol.specs.Naming.{by_llid, group_lift}
use Rattle.headend.specs.HeadTraffic.{send_ahead, head_sent, head_send_of}
use Rattle.unicast.specs.Setting.{Setting}
use Rattle.unicast.specs.History.{downward, Envelope, envelope}
use Rattle.unicast.specs.Run.{lane_at}
use Rattle.unicast.specs.Claim.{PassageRight, SentRight}
use Rattle.unicast.proofs.Envelopes.{ways_apart, envelope_of, passed_right, count_right, runs_right, fits_alone}
use Rattle.unicast.specs.Bounds.{longest}
use Rattle.unicast.proofs.Invariant.{Begun, count_down, AtTick}
use Rattle.unicast.proofs.Pace.{occupied_free}
use Rattle.unicast.proofs.Past.{sent_carried}
use Rattle.unicast.proofs.Spending.{Renewed, spent_kept, spent_new, apart_new, spaced_more}
use Rattle.line.specs.History.{GroupLane, no_path, is_member, group_number, group_switching, group_with, group_sent}
use Rattle.line.specs.Events.{send_down}
use Rattle.line.specs.Run.{State, alone, subscriber_at, joined_by, group_lane_at, now, lanes, head_passage, envelope_down, sending_down, step}
use Rattle.line.proofs.Invariant.{lane_of, GroupSend, Recorded, joined_for, Follows, Invariant}
use Rattle.line.proofs.Frames.{arrived_moved}
use Rattle.line.proofs.GroupCalls.{Ends, accepted, refused, lift_ends, call_refused, call_accepted, leaving_length, leaving_at, leaving_follows}
use Rattle.line.proofs.GroupChoices.{Chosen, chosen_send}
use Rattle.line.proofs.GroupKeySteps.{group_valid, refused_number}
use Rattle.line.proofs.GroupSteps.{same, Replaced, member_same, replaced_right}
use Rattle.line.proofs.Lines.{found_line}
use Rattle.line.proofs.Queues.{Grown, knows, under_envelope}
use Rattle.refusal.specs.Verdict.{no_refusal}

-- the first send of a valid group is not later than the tick
group_first : (tick units : ℕ) (g : GroupRecord) → valid_group tick units g ≡ true → Begun g.keys.first tick
unfolding valid_group valid_keys valid_first
group_first tick units g v one =
    let valid = both_right _ _ (both_left _ _ (both_right _ _ v)) in
    ⊎_elim (λ z. absurd (omega (arith, eqb-true g.keys.first.noted 0 z))) (λ z. leb-true g.keys.first.at tick z)
    (either_cases _ _ (both_right _ _ valid))

at_tick : (w : Setting) (s : State) → Invariant w s → AtTick w (now s) s.head.olt.shared
unfolding alone
at_tick w s i = i.units.shared

module _ (w : Setting) (s : State) (g : ℕ) (i : Invariant w s) (known : g < length s.history.groups) (llid channel : ℕ) (p out : List ℕ)
    (named : llid ≡ (group_lane_at s g).llid) (down : downstream channel ≡ true) (fit : misfit p out ≡ false)
    (accepts : (send_group llid channel (eqs_of p) s.head.olt.shared (group_at s.head g)).verdict ≡ no_refusal) where
  abbrev sh : Shared
  sh = s.head.olt.shared

  abbrev r : GroupRecord
  r = group_at s.head g

  abbrev l : GroupLane
  l = group_lane_at s g

  abbrev sending : Sending
  sending = (send_group llid channel (eqs_of p) sh r).handed

  abbrev e : Envelope
  e = envelope_of downward (now s) no_path.up llid channel p sending (group_number l (now s))

  abbrev k : UnitKeys
  k = group_keys_after_send (group_send_choice r.keys) r.keys sh.tick

  abbrev c : Channels
  c = occupied sh.channels channel sh.tick (eqs_of p)

  abbrev after : GroupLane
  after = group_sent (now s) (lanes s) e l

  chosen : Chosen l.entry (now s) r.keys k (group_send_choice r.keys) (group_number l (now s))
      (pick (group_switching l (now s)) (now s) l.keys.switched)
  chosen =
      chosen_send w sh.channels (now s) l r (i.group g known) sh.tick (at_tick w s i).tick
      (group_first sh.tick s.head.olt.count r (group_valid w s g i known))

  sent_right : SentRight w (lane_of l) e
  unfolding send_group sending_of passage_of
  sent_right =
      let h = chosen in
      let j = i.group g known in
      let t = at_tick w s i in
      let q = sending.passage in
      let under : PassageRight w (lane_of l) e channel q =
      record {
        enciphered = h.enciphered;
        key = λ some.
            ap (λ (x : ℕ). key_for x r.keys.slots) h.chosen
            ∙ key_for-holds (group_number l (now s)) r.keys.slots some
            ∙ j.stored (group_number l (now s)) some h.low h.high;
        nonce = λ some. rw (t.mac, t.clock);
      } in
      record {
        passage = under;
        header = rw (h.chosen, t.clock);
        octets = passed_right w (lane_of l) e channel q under p;
        count = count_right w (lane_of l) e channel q under p;
        runs = runs_right w (lane_of l) e channel q under p;
      }

  grown : (top : ℕ) → Grown l after top
  unfolding group_sent group_with
  grown top = record { llid = refl; sent = λ x q. Memᴰ.append_left (e ∷ []) q; keys = λ n a b. refl }

  -- what it has met
  met : Goes true (taken sh.channels channel sh.tick) (group_send_choice r.keys) r.keys.first sh.tick
  unfolding send_group
  met = goes true (taken sh.channels channel sh.tick) (group_send_choice r.keys) r.keys.first sh.tick accepts

  free : taken sh.channels channel sh.tick ≡ false
  free = met.free

  renewed : Renewed r.keys.first k.first r.keys.active (group_number l (now s)) (now s)
  renewed = chosen.renewed (rw (at_tick w s i).tick at met.young)

  sends : (x : Envelope) → Memᴰ x after.sent → GroupSend w c k.first k.active after x
  unfolding group_sent group_with
  sends =
      let h = chosen in
      let j = i.group g known in
      let t = at_tick w s i in
      each_more (GroupSend w c k.first k.active after) l.sent e
      (λ x q.
      let was = j.sends x q in
      record {
        direction = was.direction;
        llid = was.llid;
        down = was.down;
        fits = was.fits;
        spent =
            rw h.active
            (spent_kept sh.channels c r.keys.first k.first r.keys.active (group_number l (now s)) (now s) 0 0 (count_down x) x renewed
            (free_later sh.channels channel x.channel sh.tick (eqs_of p) free) was.spent);
        right = sent_carried w (lane_of l) (lane_of after) x.number (knows l after x.number (grown x.number)) x (omega arith) was.right;
      })
      (record {
        direction = refl;
        llid = named;
        down = down;
        fits = fits_alone p out fit;
        spent =
            rw h.active
            (spent_new c r.keys.first k.first r.keys.active (group_number l (now s)) (now s) 0 0 (count_down e) e renewed refl
            (omega arith) (omega (arith, free_own sh.channels channel sh.tick (eqs_of p), t.tick)));
        right = sent_carried w (lane_of l) (lane_of after) e.number (knows l after e.number (grown e.number)) e (omega arith) sent_right;
      })

  recorded : Recorded w c (now s) after (with_group_keys r k)
  unfolding group_sent group_with with_group_keys
  recorded =
      let h = chosen in
      let j = i.group g known in
      let t = at_tick w s i in
      record {
        llid = j.llid;
        counted = h.active;
        listed = h.offered ∙ j.listed;
        mid = omega (arith, h.active, h.offered, h.high);
        next = omega (arith, h.active, h.offered, h.next);
        stored = λ n a b d.
            h.slots n (omega (arith, h.active)) (omega (arith, h.offered)) ∙ j.stored n a (omega (arith, h.active, h.low)) (omega (arith, h.offered));
        timing = h.timing after.keys refl;
        sends = sends;
        spaced =
            spaced_more l.sent e
            (λ x q.
            apart_new count_down downward sh.channels r.keys.first k.first r.keys.active (now s) 0 0 x e renewed (omega arith)
            (λ y. (j.sends x q).spent)
            (λ y some same index. let before : x.left < free_from sh.channels channel = rw index at (j.sends x q).spent.passed in
            omega (arith, before, taken_false sh.channels channel sh.tick free, t.tick)))
            (λ x q y z. ways_apart z)
            j.spaced;
        arrived = λ a q. arrived_moved w l after a a.envelope.number (grown a.envelope.number) (omega arith) (j.arrived a q);
      }

  follows : (u : ℕ) → u < length (lanes s)
      → Follows after k.active k.offered (is_member after (lane_at (alone s) u)) (joined_by s u)
      (joined_for (subscriber_at s u) after.llid) (get_or after.towards u [])
  unfolding alone group_sent group_with
  follows u h =
      let n = chosen in
      rw (leaving_at l (lanes s) (envelope e) u h, member_same l after (lane_at (alone s) u) refl)
      (leaving_follows l after r.keys.active k.active r.keys.offered k.offered (is_member l (lane_at (alone s) u)) (joined_by s u) _ _
      (envelope e) (grown r.keys.offered) (omega (arith, n.low, n.active)) (omega (arith, n.offered))
      (λ q low.
      under_envelope after _ k.active k.offered (get_or l.towards u []) e low
      (record {
        above = omega (arith, n.active);
        most = omega (arith, n.active);
        sent = Memᴰ.append_right l.sent (Memᴰ.head refl);
      }) q)
      (i.follows u g h known))

  pub send_replaced : Replaced w s g (send_group llid channel (eqs_of p) sh r).channels (send_group llid channel (eqs_of p) sh r).group after
  unfolding group_sent group_with with_group_keys alone send_group
  send_replaced =
      let o = shared_in_range sh (olt_in_range s.head.olt i.units.valid).shared in
      record {
        known = known;
        rises = λ n. free_later sh.channels channel n sh.tick (eqs_of p) free;
        frees = λ n.
            occupied_free sh.channels channel n sh.tick (eqs_of p) (now s + longest) (omega (arith, few_eqs p out fit, i.units.shared.tick))
            (i.units.shared.free n);
        channels = occupied_valid sh.channels channel sh.tick (eqs_of p) o.tick (few_eqs p out fit) o.channels;
        valid = group_sent_valid sh.tick s.head.olt.count r (group_valid w s g i known) (group_send_choice r.keys);
        grown = grown r.keys.offered;
        roster = refl;
        queues = leaving_length l (lanes s) (envelope e);
        answered = refl;
        recorded = recorded;
        follows = follows;
        offers = same refl;
      }

-- what an accepted send seals under, and its envelope
group_passage_is : (h : HeadEnd) (llid g channel : ℕ) (p out : List ℕ) (end : HeadEnd) (q : Sending) → find_group h llid ≡ Some g
    → group_lift h no_sending (send_ahead p out channel) (λ o x. send_group llid channel (eqs_of p) o.shared x) g
    ≡ record { verdict = no_refusal; end = end; handed = q }
    → head_passage h llid channel p out ≡ q.passage
unfolding head_passage by_llid
group_passage_is h llid g channel p out end q found is =
    ap (λ (f : Option ℕ). by_llid f (sending_olt h.olt (misfit p out) llid channel (eqs_of p)).handed.passage
    (λ i. (group_lift h no_sending (send_ahead p out channel) (λ o x. send_group llid channel (eqs_of p) o.shared x) i).handed.passage)) found
    ∙ ap (λ (r : Reply HeadEnd Sending). r.handed.passage) is

group_envelope_is : (h : HeadEnd) (tick llid g channel : ℕ) (p out : List ℕ) (number : ℕ) (end : HeadEnd) (q : Sending) → find_group h llid ≡ Some g
    → group_lift h no_sending (send_ahead p out channel) (λ o x. send_group llid channel (eqs_of p) o.shared x) g
    ≡ record { verdict = no_refusal; end = end; handed = q }
    → envelope_down tick no_path h llid channel p out number ≡ envelope_of downward tick no_path.up llid channel p q number
unfolding envelope_down head_send_of by_llid head_sent output_after
group_envelope_is h tick llid g channel p out number end q found is = rw (group_passage_is h llid g channel p out end q found is, found, is)

pub group_send_right : (w : Setting) (s : State) (llid g channel : ℕ) (p out : List ℕ) → Invariant w s → find_group s.head llid ≡ Some g
    → Invariant w (step s (send_down llid channel p out))
unfolding step sending_down head_send_of by_llid head_sent
group_send_right w s llid g channel p out i found =
    by_end (lift_ends s.head no_sending (send_ahead p out channel) (λ o x. send_group llid channel (eqs_of p) o.shared x) g) where
      by_end : Ends s.head no_sending (send_ahead p out channel) (λ o x. send_group llid channel (eqs_of p) o.shared x) g
          → Invariant w (step s (send_down llid channel p out))
      by_end (refused x q) =
          rw (found, q) (subst (Invariant w) (sym (call_refused w s llid g i found _ (number_of x) _ _ (refused_number x))) i)
      by_end (accepted l) =
          let line = found_line w s i llid g found in
          let a = refuse_accepted _ _ _ l.passed in
          let down : downstream channel ≡ true = not-false _ (refuse_accepted _ _ _ a.1).0 in
          rw (found, l.is)
          (subst (Invariant w) (sym (call_accepted w s llid g i found _ _ 0 _ _ refl))
          (replaced_right w s g _ _ _ i (rw (group_envelope_is s.head (now s) llid g channel p out (group_number (group_lane_at s g) (now s)) _ _ found
          l.is) (send_replaced w s g i line.0 llid channel p out (sym line.1) down a.0 l.accepts))))
