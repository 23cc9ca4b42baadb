-- Lists without groups and joins run as without groups. Assumes nothing.
use Rattle.std.specs.Prelude.{Option, Some, None}
use mathlib.Core.Path.{◌≡◌, refl, sym, ◌∙◌, ap}
use mathlib.Core.Bool.{Bool, true, false}
use mathlib.Core.List.{List, [], ◌∷◌, map}
use Prim.Native.Nat.{ℕ, ◌+◌, ◌<◌}
use native.Mathlib.Omega.{arith}
use lib.Dec.{ltb}
use lib.Seq.{set-get_or}
use lib.ListN.{length, get_or, get_or-eq_default}
use borrow.Author.Tests.{ltb-true, ltb-false}
use Rattle.octets.specs.Output.{WithOutput}
use Rattle.refusal.specs.declared.Refusal.{Refusal}
use Rattle.ends.specs.Identities.{among, no_identity}
use Rattle.ends.specs.Records.{new_onu}
use Rattle.ends.specs.declared.Identity.{Identity}
use Rattle.ends.specs.declared.Olt.{Olt}
use Rattle.ends.specs.declared.Onu.{Onu}
use Rattle.protocol.specs.Headers.{no_passage}
use Rattle.protocol.specs.OltCalls.{measure_of, acknowledge_of}
use Rattle.protocol.specs.OltTraffic.{receiving_olt}
use Rattle.protocol.specs.declared.Acknowledgement.{Acknowledgement}
use Rattle.protocol.specs.declared.Header.{Header}
use Rattle.protocol.proofs.OltCalls.{measure_refused, acknowledge_refused}
use Rattle.protocol.proofs.OltTraffic.{receiving_untouched}
use Rattle.protocol.proofs.NewTimes.{new_time_refused}
use Rattle.protocol.proofs.OnuCalls.{clock_message_refused, key_message_refused}
use Rattle.protocol.proofs.Replies.{number_refused}
use Rattle.protocol.specs.OnuCalls.{new_time_of, clock_message_at, key_message_at}
use Rattle.traffic.specs.Passages.{misfit}
use Rattle.traffic.specs.Receipts.{olt_received, olt_receive_of, onu_not_received, onu_receive_of}
use Rattle.traffic.specs.declared.OnuReceived.{OnuReceived}
use Rattle.traffic.specs.Sends.{onu_send_of}
use Rattle.group_protocol.specs.Head.{find_group, with_olt}
use Rattle.group_protocol.specs.Members.{place_from}
use Rattle.group_protocol.specs.Subscriber.{find_joined, joined_llids, no_memberships, valid_memberships}
use Rattle.group_protocol.specs.declared.HeadEnd.{HeadEnd}
use Rattle.group_protocol.specs.declared.Subscriber.{Subscriber}
use Rattle.headend.specs.HeadCalls.{head_measure_of}
use Rattle.subscriber.specs.SubscriberCalls.{own_answer}
use Rattle.headend.specs.declared.HeadAnswer.{HeadAnswer}
use Rattle.headend.specs.declared.HeadKeySent.{HeadKeySent}
use Rattle.headend.specs.declared.HeadReceived.{HeadReceived}
use Rattle.subscriber.specs.declared.SubscriberAcknowledged.{SubscriberAcknowledged}
use Rattle.subscriber.specs.declared.SubscriberAnswer.{SubscriberAnswer}
use Rattle.subscriber.specs.declared.SubscriberReceived.{SubscriberReceived}
use Rattle.subscriber.specs.declared.SubscriberSent.{SubscriberSent}
use Rattle.headend.proofs.NoGroups as headend
use Rattle.unicast.specs.Setting.{Setting}
use Rattle.unicast.specs.History.{InFlight, clock_message, key_message, envelope, Lane}
use Rattle.unicast.specs.Events as units
use Rattle.unicast.specs.Run as run
use Rattle.unicast.specs.Run.{in_flight_at}
use Rattle.unicast.specs.Premises as premises
use Rattle.unicast.proofs.OnuSteps.{receive_refused}
use Rattle.unicast.proofs.OverheardSteps.{overheard_refused}
use Rattle.line.specs.History.{GroupLane, Membership, is_joined, group_moved}
use Rattle.line.specs.Events.{register}
use Rattle.line.specs.Run as line
use Rattle.line.specs.Run.{State, alone, no_subscriber, subscriber_at, joined_by, no_group_lane, group_lane_at, now, lanes, noted_for, at_head, at_unit, at_unit_alone, advancing, changing_path, clock_sending_to, offering_to, retrying_to, sending_down, sending_up, message_arriving, in_flight_arriving, arriving_up, answering, subscriber_after, head_after, start, step, runs}
use Rattle.line.specs.Premises.{Fits, Meets}
use Rattle.line.specs.Without.{plain, AsBefore}
use Rattle.line.proofs.Invariant.{Invariant}
use Rattle.line.proofs.Alone.{onu_alone}
use Rattle.line.proofs.AloneHead.{answered_olt, offer_olt, acknowledge_olt, receive_olt, capture_alone, clock_send_alone, offer_alone, retry_alone, send_down_alone, answer_alone-holds, arrive_up_alone}
use Rattle.line.proofs.AloneUnit.{new_time_onu, clock_message_onu, key_message_onu, send_onu, receive_onu, send_up_alone, clock_alone, key_alone, envelope_alone}
use Rattle.line.proofs.AdvanceSteps.{advance_alone}
use Rattle.line.proofs.AnswerSteps.{answer_refused}
use Rattle.line.proofs.AnswerSteps as answers
use Rattle.line.proofs.Arriving.{joined_listed}
use Rattle.line.proofs.ChangeSteps.{change_alone, head_refused, time_refused}
use Rattle.line.proofs.Finding.{joined_none}
use Rattle.line.proofs.OverheardSteps.{unit_overheard}
use Rattle.line.proofs.StartSteps.{replicate_at, start_alone, start_right}
use Rattle.line.proofs.StraySteps.{clock_refused, key_refused, envelope_refused}
use Rattle.line.proofs.Theorem.{step_right}
use Rattle.line.proofs.Lines.{found_line, subscribers_paired, memberships_right}

-- no group is registered, and no unit joined one
pub record Plain (s : State) : Type 0 where
  pub groups : s.history.groups ≡ []
  pub joined : (u : ℕ) → joined_by s u ≡ []

no_group-holds : (w : Setting) (s : State) (llid : ℕ) → Invariant w s → Plain s → find_group s.head llid ≡ None
no_group-holds w s llid i p = by_found (find_group s.head llid) refl where
  by_found : (f : Option ℕ) → find_group s.head llid ≡ f → find_group s.head llid ≡ None
  by_found None e = e
  by_found (Some g) e =
      absurd (omega (arith, (found_line w s i llid g e).0, ap length p.groups))

none_found : (llid : ℕ) → find_joined no_subscriber llid ≡ None
unfolding find_joined no_subscriber no_memberships joined_llids place_from
none_found llid = refl

no_joined : (w : Setting) (s : State) (u llid : ℕ) → Invariant w s → Plain s → find_joined (subscriber_at s u) llid ≡ None
unfolding is_joined among
no_joined w s u llid i p = by_length (ltb u (length (lanes s))) refl where
  by_length : (t : Bool) → ltb u (length (lanes s)) ≡ t → find_joined (subscriber_at s u) llid ≡ None
  by_length true e =
      joined_none (subscriber_at s u) llid
      (sym (joined_listed _ _ (subscriber_at s u) (joined_by s u) llid (i.joins u (ltb-true u (length (lanes s)) e)))
      ∙ ap (λ (ms : List Membership). is_joined ms llid) (p.joined u))
  by_length false e =
      ap (λ (x : Subscriber). find_joined x llid)
      (get_or-eq_default s.subscribers no_subscriber (omega (arith, ltb-false u (length (lanes s)) e, subscribers_paired w s i)))
      ∙ none_found llid

---- what stays

not_received-holds : (o : Onu) (r : Refusal) → (onu_not_received o r).onu ≡ o
unfolding onu_not_received
not_received-holds o r = refl

noted_empty : (number llid : ℕ) (f : GroupLane → GroupLane) (gs : List GroupLane) → gs ≡ [] → noted_for number llid f gs ≡ []
unfolding noted_for
noted_empty number llid f gs e = rw e

---- the premises

module _ (w : Setting) (s : State) (i : Invariant w s) (p : Plain s) where
  no_count : s.head.groups.count ≡ 0
  no_count = i.count ∙ ap length p.groups

  no_offers : (g n : ℕ) → n < length (group_lane_at s g).keys.offers → ⊥
  unfolding no_group_lane
  no_offers g n h = omega (arith, h, ap (λ (gs : List GroupLane). length (get_or gs g no_group_lane).keys.offers) p.groups)

  none : (llid : ℕ) → find_group s.head llid ≡ None
  none llid = no_group-holds w s llid i p

  valid : (u : ℕ) → valid_memberships (subscriber_at s u) ≡ true
  valid = memberships_right w s i

  measured_olt : (llid trip : ℕ) → head_measure_of s.head llid trip
      ≡ record { number = (measure_of s.head.olt llid trip).number; head = with_olt s.head (measure_of s.head.olt llid trip).olt }
  unfolding head_measure_of
  measured_olt llid trip = answered_olt s.head i.valid (measure_of s.head.olt llid trip)

  plain_fits : (e : units.Event) → premises.Fits w (alone s) e → Fits w s (plain e)
  unfolding plain alone
  plain_fits (units.advance n) f = tt
  plain_fits (units.register u x trip interval) f =
      λ z. f (sym (ap (λ (r : HeadAnswer). r.number) (((headend.without_groups).as_olt s.head no_count).register x trip interval)) ∙ z)
  plain_fits (units.capture llid) f = tt
  plain_fits (units.clock_send llid) f = tt
  plain_fits (units.offer llid key) f =
      λ z.
      record {
        units = f (sym (ap (λ (r : HeadKeySent). r.number) (offer_olt s.head i.valid llid (none llid) key)) ∙ z);
        groups = λ g n h e. no_offers g n h;
      }
  plain_fits (units.retry llid) f = tt
  plain_fits (units.send_down llid channel q out) f = tt
  plain_fits (units.send_up u llid channel q out) f =
      λ z.
      f
      (ap (λ (o : Onu). (onu_send_of o llid channel q out).answer.number) (onu_alone s u)
      ∙ sym (ap (λ (r : WithOutput SubscriberSent). r.answer.number) (send_onu (subscriber_at s u) (valid u) llid channel q out (no_joined w s u llid i p)))
      ∙ z)
  plain_fits (units.arrive_down u k out) f = f
  plain_fits (units.arrive_up u k out) f = f
  plain_fits (units.arrive_answer u k llid) f = f
  plain_fits (units.overhear u v k out) f = f
  plain_fits (units.change_path u llid time d) f =
      record {
        registered = f.registered;
        named = f.named;
        measured = ap (λ (r : HeadAnswer). r.number) (measured_olt llid (d.up + d.down)) ∙ f.measured;
        retimed =
            ap (λ (r : SubscriberAnswer). r.number) (new_time_onu (subscriber_at s u) (valid u) time)
            ∙ sym (ap (λ (o : Onu). (new_time_of o time).number) (onu_alone s u))
            ∙ f.retimed;
        follows = f.follows;
      }
  plain_fits (units.measure llid trip) f = λ z. f (sym (ap (λ (r : HeadAnswer). r.number) (measured_olt llid trip)) ∙ z)
  plain_fits (units.new_time u time) f =
      λ z.
      f
      (ap (λ (o : Onu). (new_time_of o time).number) (onu_alone s u)
      ∙ sym (ap (λ (r : SubscriberAnswer). r.number) (new_time_onu (subscriber_at s u) (valid u) time))
      ∙ z)
  plain_fits (units.stray_clock u m) f =
      λ z.
      f
      (ap (λ (o : Onu). (clock_message_at o m).number) (onu_alone s u)
      ∙ sym (ap (λ (r : SubscriberAcknowledged). r.number) (clock_message_onu (subscriber_at s u) (valid u) m))
      ∙ z)
  plain_fits (units.stray_key u m) f =
      λ z.
      f
      (ap (λ (o : Onu). (key_message_at o m).number) (onu_alone s u)
      ∙ sym (ap (λ (r : SubscriberAcknowledged). r.number) (key_message_onu (subscriber_at s u) (valid u) m (no_joined w s u m.llid i p)))
      ∙ z)
  plain_fits (units.stray_answer llid a) f =
      λ z. f (sym (ap (λ (r : HeadAnswer). r.number) (acknowledge_olt s.head i.valid llid (none llid) a)) ∙ z)
  plain_fits (units.stray_down u h q out) f =
      λ z.
      f
      (ap (λ (o : Onu). (onu_receive_of o h q out).answer.number) (onu_alone s u)
      ∙ sym (ap (λ (r : WithOutput SubscriberReceived). r.answer.number)
      (receive_onu (subscriber_at s u) (valid u) h q out (no_joined w s u h.llid i p)))
      ∙ z)
  plain_fits (units.stray_up h q out) f =
      λ z. f (sym (ap (λ (r : WithOutput HeadReceived). r.answer.number) (receive_olt s.head i.valid h q out (none h.llid))) ∙ z)

  ---- no group comes

  own_plain : (u : ℕ) (x : Subscriber) (f : Lane → Lane) → Plain (at_unit_alone s u x f)
  unfolding at_unit_alone at_unit
  own_plain u x f = record { groups = p.groups; joined = p.joined }

  in_flight_plain : (u k : ℕ) (out : List ℕ) (x : InFlight) → Plain (in_flight_arriving s u k out x)
  unfolding in_flight_arriving message_arriving
  in_flight_plain u k out (clock_message m c t) = own_plain u _ _
  in_flight_plain u k out (key_message m t) = own_plain u _ _
  in_flight_plain u k out (envelope e) = own_plain u _ _

  plain_stays : (e : units.Event) → Plain (step s (plain e))
  unfolding plain step advancing line.registering changing_path clock_sending_to offering_to retrying_to sending_down sending_up arriving_up
      answering subscriber_after
      head_after at_head
  plain_stays (units.advance n) = record { groups = p.groups; joined = p.joined }
  plain_stays (units.register u x trip interval) = record { groups = p.groups; joined = p.joined }
  plain_stays (units.capture llid) = record { groups = p.groups; joined = p.joined }
  plain_stays (units.clock_send llid) = record { groups = p.groups; joined = p.joined }
  plain_stays (units.offer llid key) = record { groups = noted_empty _ llid _ s.history.groups p.groups; joined = p.joined }
  plain_stays (units.retry llid) = record { groups = noted_empty _ llid _ s.history.groups p.groups; joined = p.joined }
  plain_stays (units.send_down llid channel q out) = record { groups = noted_empty _ llid _ s.history.groups p.groups; joined = p.joined }
  plain_stays (units.send_up u llid channel q out) = own_plain u _ _
  plain_stays (units.arrive_down u k out) = in_flight_plain u k out (in_flight_at (alone s) u k)
  plain_stays (units.arrive_up u k out) = record { groups = p.groups; joined = p.joined }
  plain_stays (units.arrive_answer u k llid) = record { groups = p.groups; joined = p.joined }
  plain_stays (units.overhear u v k out) = record { groups = p.groups; joined = p.joined }
  plain_stays (units.change_path u llid time d) =
      record { groups = ap (λ (gs : List GroupLane). map (group_moved u (now s)) gs) p.groups; joined = p.joined }
  plain_stays (units.measure llid trip) = record { groups = p.groups; joined = p.joined }
  plain_stays (units.new_time u time) = record { groups = p.groups; joined = p.joined }
  plain_stays (units.stray_clock u m) = record { groups = p.groups; joined = p.joined }
  plain_stays (units.stray_key u m) = record { groups = p.groups; joined = p.joined }
  plain_stays (units.stray_answer llid a) = record { groups = p.groups; joined = p.joined }
  plain_stays (units.stray_down u h q out) = record { groups = p.groups; joined = p.joined }
  plain_stays (units.stray_up h q out) = record { groups = p.groups; joined = p.joined }

  ---- each event makes of the units what it made of them

  unit_same : (u : ℕ) (x : Subscriber) (o : Onu) → x ≡ subscriber_at s u → o ≡ run.onu_at (alone s) u
      → alone (subscriber_after s u x) ≡ run.unit_after (alone s) u o
  unfolding subscriber_after run.unit_after
  unit_same u x o e f =
      rw (e, f, set-get_or s.subscribers u no_subscriber, set-get_or (alone s).onus u (new_onu no_identity 0 0))

  head_same : (h : HeadEnd) (o : Olt) → h ≡ s.head → o ≡ s.head.olt → alone (head_after s h) ≡ run.olt_after (alone s) o
  unfolding head_after run.olt_after alone
  head_same h o e f = rw (e, f)

  olt_stays : (llid : ℕ) (a : Acknowledgement) → ((acknowledge_of (alone s).olt llid a).number ≡ 0 → ⊥)
      → (acknowledge_of (alone s).olt llid a).olt ≡ s.head.olt
  unfolding alone
  olt_stays llid a n = acknowledge_refused s.head.olt llid a n

  olt_measures : (llid trip : ℕ) → ((measure_of (alone s).olt llid trip).number ≡ 0 → ⊥) → (measure_of (alone s).olt llid trip).olt ≡ s.head.olt
  unfolding alone
  olt_measures llid trip n = measure_refused s.head.olt llid trip n

  olt_receives : (h : Header) (q out : List ℕ) → ((olt_receive_of (alone s).olt h q out).answer.number ≡ 0 → ⊥)
      → (olt_receive_of (alone s).olt h q out).answer.olt ≡ s.head.olt
  unfolding alone olt_receive_of olt_received
  olt_receives h q out n =
      (number_refused s.head.olt no_passage (receiving_olt s.head.olt (misfit q out) h) (receiving_untouched s.head.olt (misfit q out) h) n).end

  register_alone : (u : ℕ) (x : Identity) (trip interval : ℕ)
      → alone (step s (register u x trip interval)) ≡ run.step (alone s) (units.register u x trip interval)
  unfolding step line.registering at_head alone with_olt run.step run.entering
  register_alone u x trip interval = rw (((headend.without_groups).as_olt s.head no_count).register x trip interval)

  in_flight_alone : (u k : ℕ) (out : List ℕ) (x : InFlight) → alone (in_flight_arriving s u k out x) ≡ run.in_flight_arriving (alone s) u k out x
  in_flight_alone u k out (clock_message m c t) = clock_alone s u (valid u) k out m c t
  in_flight_alone u k out (key_message m t) = key_alone s u (valid u) k out m t (no_joined w s u m.llid i p)
  in_flight_alone u k out (envelope e) = envelope_alone s u (valid u) k out e (no_joined w s u e.header.llid i p)

  plain_alone : (e : units.Event) → premises.Fits w (alone s) e → alone (step s (plain e)) ≡ run.step (alone s) e
  unfolding plain step run.step
  plain_alone (units.advance n) f = advance_alone w s n i
  plain_alone (units.register u x trip interval) f = register_alone u x trip interval
  plain_alone (units.capture llid) f = capture_alone s i.valid llid
  plain_alone (units.clock_send llid) f = clock_send_alone s i.valid llid
  plain_alone (units.offer llid key) f = offer_alone s i.valid llid (none llid) key
  plain_alone (units.retry llid) f = retry_alone s i.valid llid (none llid)
  plain_alone (units.send_down llid channel q out) f = send_down_alone s i.valid llid (none llid) channel q out
  plain_alone (units.send_up u llid channel q out) f = send_up_alone s u (valid u) llid channel q out (no_joined w s u llid i p)
  plain_alone (units.arrive_down u k out) f = in_flight_alone u k out (in_flight_at (alone s) u k)
  plain_alone (units.arrive_up u k out) f = arrive_up_alone s i.valid u k out (none (run.envelope_at (alone s) u k).header.llid)
  plain_alone (units.arrive_answer u k llid) f = answer_alone-holds s i.valid llid (none llid) u k
  plain_alone (units.overhear u v k out) f =
      unit_same u _ _ (unit_overheard w s i u v k out f).left
      (ap (λ (r : WithOutput OnuReceived). r.answer.onu) (overheard_refused w (alone s) i.units u v k out f) ∙ not_received-holds (run.onu_at (alone s) u) _)
  plain_alone (units.change_path u llid time d) f = change_alone s u llid time d i.valid (valid u)
  plain_alone (units.measure llid trip) f =
      head_same _ _ (head_refused s.head llid trip i.valid (plain_fits (units.measure llid trip) f)) (olt_measures llid trip f)
  plain_alone (units.new_time u time) f =
      unit_same u _ _ (time_refused (subscriber_at s u) time (valid u) (plain_fits (units.new_time u time) f))
      (new_time_refused (run.onu_at (alone s) u) time f)
  plain_alone (units.stray_clock u m) f =
      unit_same u _ _ (clock_refused (subscriber_at s u) (valid u) m (plain_fits (units.stray_clock u m) f))
      (clock_message_refused (run.onu_at (alone s) u) m f).0
  plain_alone (units.stray_key u m) f =
      unit_same u _ _ (key_refused (subscriber_at s u) (valid u) m (plain_fits (units.stray_key u m) f)) (key_message_refused (run.onu_at (alone s) u) m f).0
  plain_alone (units.stray_answer llid a) f =
      head_same _ _ (answer_refused s.head llid (own_answer a) i.valid (plain_fits (units.stray_answer llid a) f)) (olt_stays llid a f)
  plain_alone (units.stray_down u h q out) f =
      unit_same u _ _ (envelope_refused (subscriber_at s u) (valid u) h q out (plain_fits (units.stray_down u h q out) f))
      (receive_refused (run.onu_at (alone s) u) h q out f)
  plain_alone (units.stray_up h q out) f =
      head_same _ _ (answers.receive_refused s.head h q out i.valid (plain_fits (units.stray_up h q out) f)) (olt_receives h q out f)

---- the list

as_before-holds : (w : Setting) (s : State) (es : List units.Event) → Invariant w s → Plain s → premises.Meets w (alone s) es
    → Meets w s (map plain es) × (alone (runs s (map plain es)) ≡ run.run (alone s) es)
unfolding runs run.run
as_before-holds w s [] i p m = (tt, refl)
as_before-holds w s (e ∷ es) i p m =
    let f = plain_fits w s i p e m.0 in
    let same = plain_alone w s i p e m.0 in
    let rest = as_before-holds w (step s (plain e)) es (step_right w s (plain e) i f) (plain_stays w s i p e) (rw same m.1) in
    ((f, rest.0), rest.1 ∙ ap (λ (t : run.State). run.run t es) same)

start_plain : (w : Setting) → Plain (start w)
unfolding start
start_plain w = record { groups = refl; joined = replicate_at (length w.sites) }

pub without_groups : (w : Setting) (es : List units.Event) → premises.Fresh w → premises.Meets w (run.start w) es → AsBefore w es
without_groups w es f m =
    let r = as_before-holds w (start w) es (start_right w f) (start_plain w) (rw (start_alone w) m) in
    record { meets = r.0; same = r.1 ∙ ap (λ (t : run.State). run.run t es) (start_alone w) }
