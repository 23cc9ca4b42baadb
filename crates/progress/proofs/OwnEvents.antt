-- A unit's own events, on a line with groups: they fit where they fit without, and make of the units what they make of them without.
-- Assumes nothing.
use Rattle.std.specs.Prelude.{None}
use mathlib.Core.Path.{◌≡◌, refl, sym, ◌∙◌, ap, subst}
use mathlib.Core.Bool.{true}
use mathlib.Core.List.{List, [], ◌∷◌, map}
use Prim.Native.Nat.{ℕ, ◌<◌}
use lib.ListN.{length, get_or}
use Rattle.octets.specs.Output.{WithOutput}
use Rattle.ends.specs.Identities.{has}
use Rattle.ends.specs.declared.Onu.{Onu}
use Rattle.protocol.specs.Headers.{envelope_header}
use Rattle.protocol.specs.declared.Header.{Header}
use Rattle.traffic.specs.Sends.{onu_send_of}
use Rattle.group_protocol.specs.Head.{find_group}
use Rattle.group_protocol.specs.Subscriber.{find_joined}
use Rattle.headend.specs.declared.HeadKeySent.{HeadKeySent}
use Rattle.subscriber.specs.declared.SubscriberSent.{SubscriberSent}
use Rattle.unicast.specs.Setting.{Site, Setting}
use Rattle.unicast.specs.History.{InFlight, clock_message, key_message, envelope, Entry}
use Rattle.unicast.specs.Events as units
use Rattle.unicast.specs.Run as run
use Rattle.unicast.specs.Run.{lane_at, in_flight_at}
use Rattle.unicast.specs.Premises as premises
use Rattle.unicast.proofs.Alive.{registered_alive, towards_alive}
use Rattle.unicast.proofs.Queues.{towards_taken}
use Rattle.line.specs.History.{GroupLane}
use Rattle.line.specs.Run.{State, alone, subscriber_at, no_group_lane, at_head, at_unit, at_unit_alone, advancing, clock_sending_to, offering_to, retrying_to, sending_down, sending_up, message_arriving, in_flight_arriving, arriving_up, answering, step, runs}
use Rattle.line.specs.Premises.{Fits, Meets}
use Rattle.line.specs.Without.{plain}
use Rattle.line.proofs.Invariant.{Invariant}
use Rattle.line.proofs.Alone.{onu_alone}
use Rattle.line.proofs.AloneHead.{offer_olt, capture_alone, clock_send_alone, offer_alone, retry_alone, send_down_alone, answer_alone-holds, arrive_up_alone}
use Rattle.line.proofs.AloneUnit.{send_onu, send_up_alone, clock_alone, key_alone, envelope_alone}
use Rattle.line.proofs.AdvanceSteps.{advance_alone}
use Rattle.line.proofs.ArrivalSteps.{up_llid}
use Rattle.line.proofs.Lines.{own_nowhere, unit_no_group, noted_none, memberships_right}
use Rattle.line.proofs.Theorem.{step_right}
use Rattle.progress.proofs.Owned.{Owned, Owns, whose, whose_stays}

-- no group was offered the key
abbrev pub NewToGroups : List GroupLane → List ℕ → Type 0
NewToGroups gs key = (g n : ℕ) → n < length (get_or gs g no_group_lane).keys.offers → get_or (get_or gs g no_group_lane).keys.offers n [] ≡ key → ⊥

module _ (w : Setting) (s : State) (i : Invariant w s) (u llid : ℕ) (key : List ℕ) (registered : (lane_at (alone s) u).entry.registered ≡ true)
    (named : has (lane_at (alone s) u).site.identity llid ≡ true) where
  none : find_group s.head llid ≡ None
  none = unit_no_group w s i u llid registered named

  -- none of its own LLIDs is one that it joined
  not_joined : (x : ℕ) → has (lane_at (alone s) u).site.identity x ≡ true → find_joined (subscriber_at s u) x ≡ None
  not_joined x h = own_nowhere w s i u x (registered_alive w (alone s) u i.units registered) h

  send_fits : (channel : ℕ) (p out : List ℕ) → premises.Fits w (alone s) (units.send_up u llid channel p out)
      → Fits w s (plain (units.send_up u llid channel p out))
  unfolding plain
  send_fits channel p out f =
      λ z.
      f
      (ap (λ (o : Onu). (onu_send_of o llid channel p out).answer.number) (onu_alone s u)
      ∙ sym (ap (λ (r : WithOutput SubscriberSent). r.answer.number)
      (send_onu (subscriber_at s u) (memberships_right w s i u) llid channel p out (not_joined llid named)))
      ∙ z)

  offer_fits : NewToGroups s.history.groups key → premises.Fits w (alone s) (units.offer llid key) → Fits w s (plain (units.offer llid key))
  unfolding plain alone
  offer_fits new f =
      λ z.
      record {
        units = f (sym (ap (λ (r : HeadKeySent). r.number) (offer_olt s.head i.valid llid none key)) ∙ z);
        groups = new;
      }

  in_flight_alone : (k : ℕ) (out : List ℕ) → premises.DueDown (alone s) u k out → (x : InFlight) → in_flight_at (alone s) u k ≡ x
      → alone (in_flight_arriving s u k out x) ≡ run.in_flight_arriving (alone s) u k out x
  unfolding envelope_header
  in_flight_alone k out d (clock_message m c t) e = clock_alone s u (memberships_right w s i u) k out m c t
  in_flight_alone k out d (key_message m t) e =
      let j = (towards_alive w (alone s) u i.units k d.some).joined in
      let r = (towards_taken w.first (lane_at (alone s) u).path (lane_at (alone s) u) _ _ _ (lane_at (alone s) u).transit.towards k _ (key_message m t)
      d.some e j.towards).0 in
      key_alone s u (memberships_right w s i u) k out m t (not_joined m.llid r.named)
  in_flight_alone k out d (envelope y) e =
      let j = (towards_alive w (alone s) u i.units k d.some).joined in
      let r = (towards_taken w.first (lane_at (alone s) u).path (lane_at (alone s) u) _ _ _ (lane_at (alone s) u).transit.towards k _ (envelope y)
      d.some e j.towards).0 in
      envelope_alone s u (memberships_right w s i u) k out y
      (not_joined y.header.llid (ap (λ (h : Header). has (lane_at (alone s) u).site.identity h.llid) (j.passing.sent y r.sent).header
      ∙ r.named))

  pub own_fits : (e : units.Event) → Owned u llid key e → NewToGroups s.history.groups key → premises.Fits w (alone s) e → Fits w s (plain e)
  unfolding plain
  own_fits (units.advance n) o new f = tt
  own_fits (units.capture x) o new f = tt
  own_fits (units.clock_send x) o new f = tt
  own_fits (units.offer x other) o new f =
      subst (λ (y : ℕ). Fits w s (plain (units.offer y other))) (sym o.0)
      (subst (λ (z : List ℕ). Fits w s (plain (units.offer llid z))) (sym o.1)
      (offer_fits new
      (subst (λ (z : List ℕ). premises.Fits w (alone s) (units.offer llid z)) o.1
      (subst (λ (y : ℕ). premises.Fits w (alone s) (units.offer y other)) o.0 f))))
  own_fits (units.retry x) o new f = tt
  own_fits (units.send_down x channel p out) o new f = tt
  own_fits (units.send_up v x channel p out) o new f =
      subst (λ (y : ℕ). Fits w s (plain (units.send_up y x channel p out))) (sym o.0)
      (subst (λ (y : ℕ). Fits w s (plain (units.send_up u y channel p out))) (sym o.1)
      (send_fits channel p out
      (subst (λ (y : ℕ). premises.Fits w (alone s) (units.send_up u y channel p out)) o.1
      (subst (λ (y : ℕ). premises.Fits w (alone s) (units.send_up y x channel p out)) o.0 f))))
  own_fits (units.arrive_down v k out) o new f = f
  own_fits (units.arrive_up v k out) o new f = f
  own_fits (units.arrive_answer v k x) o new f = f
  own_fits (units.register v x trip interval) o new f = absurd o
  own_fits (units.overhear v other k out) o new f = absurd o
  own_fits (units.change_path v x time p) o new f = absurd o
  own_fits (units.measure x trip) o new f = absurd o
  own_fits (units.new_time v time) o new f = absurd o
  own_fits (units.stray_clock v m) o new f = absurd o
  own_fits (units.stray_key v m) o new f = absurd o
  own_fits (units.stray_answer x a) o new f = absurd o
  own_fits (units.stray_down v h p out) o new f = absurd o
  own_fits (units.stray_up h p out) o new f = absurd o

  arrive_down_alone : (k : ℕ) (out : List ℕ) → premises.DueDown (alone s) u k out
      → alone (step s (plain (units.arrive_down u k out))) ≡ run.step (alone s) (units.arrive_down u k out)
  unfolding plain step run.step
  arrive_down_alone k out d = in_flight_alone k out d (in_flight_at (alone s) u k) refl

  pub own_same : (e : units.Event) → Owned u llid key e → premises.Fits w (alone s) e → alone (step s (plain e)) ≡ run.step (alone s) e
  unfolding plain
  own_same (units.advance n) o f = advance_alone w s n i
  own_same (units.capture x) o f = capture_alone s i.valid x
  own_same (units.clock_send x) o f = clock_send_alone s i.valid x
  own_same (units.offer x other) o f = offer_alone s i.valid x (rw o.0 none) other
  own_same (units.retry x) o f = retry_alone s i.valid x (rw o none)
  own_same (units.send_down x channel p out) o f = send_down_alone s i.valid x (rw o none) channel p out
  own_same (units.send_up v x channel p out) o f =
      subst (λ (y : ℕ). alone (step s (plain (units.send_up y x channel p out))) ≡ run.step (alone s) (units.send_up y x channel p out)) (sym o.0)
      (send_up_alone s u (memberships_right w s i u) x channel p out (not_joined x (rw o.1 named)))
  own_same (units.arrive_down v k out) o f =
      subst (λ (y : ℕ). alone (step s (plain (units.arrive_down y k out))) ≡ run.step (alone s) (units.arrive_down y k out)) (sym o)
      (arrive_down_alone k out (subst (λ (y : ℕ). premises.DueDown (alone s) y k out) o f))
  own_same (units.arrive_up v k out) o f =
      arrive_up_alone s i.valid v k out
      (unit_no_group w s i v (run.envelope_at (alone s) v k).header.llid
      (subst (λ (y : ℕ). (lane_at (alone s) y).entry.registered ≡ true) (sym o) registered) (up_llid w s v k out i f))
  own_same (units.arrive_answer v k x) o f = answer_alone-holds s i.valid x (rw o.1 none) v k
  own_same (units.register v x trip interval) o f = absurd o
  own_same (units.overhear v other k out) o f = absurd o
  own_same (units.change_path v x time p) o f = absurd o
  own_same (units.measure x trip) o f = absurd o
  own_same (units.new_time v time) o f = absurd o
  own_same (units.stray_clock v m) o f = absurd o
  own_same (units.stray_key v m) o f = absurd o
  own_same (units.stray_answer x a) o f = absurd o
  own_same (units.stray_down v h p out) o f = absurd o
  own_same (units.stray_up h p out) o f = absurd o

  in_flight_groups : (v k : ℕ) (out : List ℕ) (x : InFlight) → (in_flight_arriving s v k out x).history.groups ≡ s.history.groups
  unfolding in_flight_arriving message_arriving at_unit_alone at_unit
  in_flight_groups v k out (clock_message m c t) = refl
  in_flight_groups v k out (key_message m t) = refl
  in_flight_groups v k out (envelope e) = refl

  pub own_groups : (e : units.Event) → Owned u llid key e → (step s (plain e)).history.groups ≡ s.history.groups
  unfolding plain step advancing clock_sending_to offering_to retrying_to sending_down sending_up arriving_up answering at_head at_unit_alone at_unit
  own_groups (units.advance n) o = refl
  own_groups (units.capture x) o = refl
  own_groups (units.clock_send x) o = refl
  own_groups (units.offer x other) o = noted_none w s i _ x _ (rw o.0 none)
  own_groups (units.retry x) o = noted_none w s i _ x _ (rw o none)
  own_groups (units.send_down x channel p out) o = noted_none w s i _ x _ (rw o none)
  own_groups (units.send_up v x channel p out) o = refl
  own_groups (units.arrive_down v k out) o = in_flight_groups v k out (in_flight_at (alone s) v k)
  own_groups (units.arrive_up v k out) o = refl
  own_groups (units.arrive_answer v k x) o = refl
  own_groups (units.register v x trip interval) o = absurd o
  own_groups (units.overhear v other k out) o = absurd o
  own_groups (units.change_path v x time p) o = absurd o
  own_groups (units.measure x trip) o = absurd o
  own_groups (units.new_time v time) o = absurd o
  own_groups (units.stray_clock v m) o = absurd o
  own_groups (units.stray_key v m) o = absurd o
  own_groups (units.stray_answer x a) o = absurd o
  own_groups (units.stray_down v h p out) o = absurd o
  own_groups (units.stray_up h p out) o = absurd o

  in_flight_joined : (v k : ℕ) (out : List ℕ) (x : InFlight) → (in_flight_arriving s v k out x).history.joined ≡ s.history.joined
  unfolding in_flight_arriving message_arriving at_unit_alone at_unit
  in_flight_joined v k out (clock_message m c t) = refl
  in_flight_joined v k out (key_message m t) = refl
  in_flight_joined v k out (envelope e) = refl

  own_joined : (e : units.Event) → Owned u llid key e → (step s (plain e)).history.joined ≡ s.history.joined
  unfolding plain step advancing clock_sending_to offering_to retrying_to sending_down sending_up arriving_up answering at_head at_unit_alone at_unit
  own_joined (units.advance n) o = refl
  own_joined (units.capture x) o = refl
  own_joined (units.clock_send x) o = refl
  own_joined (units.offer x other) o = refl
  own_joined (units.retry x) o = refl
  own_joined (units.send_down x channel p out) o = refl
  own_joined (units.send_up v x channel p out) o = refl
  own_joined (units.arrive_down v k out) o = in_flight_joined v k out (in_flight_at (alone s) v k)
  own_joined (units.arrive_up v k out) o = refl
  own_joined (units.arrive_answer v k x) o = refl
  own_joined (units.register v x trip interval) o = absurd o
  own_joined (units.overhear v other k out) o = absurd o
  own_joined (units.change_path v x time p) o = absurd o
  own_joined (units.measure x trip) o = absurd o
  own_joined (units.new_time v time) o = absurd o
  own_joined (units.stray_clock v m) o = absurd o
  own_joined (units.stray_key v m) o = absurd o
  own_joined (units.stray_answer x a) o = absurd o
  own_joined (units.stray_down v h p out) o = absurd o
  own_joined (units.stray_up h p out) o = absurd o

---- a list of them

pub record Alike (w : Setting) (s : State) (es : List units.Event) : Type 0 where
  pub meets : Meets w s (map plain es)
  pub same : alone (runs s (map plain es)) ≡ run.run (alone s) es
  pub groups : (runs s (map plain es)).history.groups ≡ s.history.groups
  pub joined : (runs s (map plain es)).history.joined ≡ s.history.joined

pub own_list : (w : Setting) (s : State) (es : List units.Event) (u llid : ℕ) (key : List ℕ) → Invariant w s
    → (lane_at (alone s) u).entry.registered ≡ true
    → has (lane_at (alone s) u).site.identity llid ≡ true → NewToGroups s.history.groups key → Owns u llid key es → premises.Meets w (alone s) es
    → Alike w s es
unfolding runs run.run
own_list w s [] u llid key i registered named new o m = record { meets = tt; same = refl; groups = refl; joined = refl }
own_list w s (e ∷ es) u llid key i registered named new o m =
    let f = own_fits w s i u llid key registered named e o.0 new m.0 in
    let same = own_same w s i u llid key registered named e o.0 m.0 in
    let groups = own_groups w s i u llid key registered named e o.0 in
    let whose = ap (λ (t : run.State). whose (lane_at t u)) same ∙ whose_stays u llid key (alone s) e o.0 u in
    let rest =
    own_list w (step s (plain e)) es u llid key (step_right w s (plain e) i f)
    (ap (λ (p : Site × Entry). p.1.registered) whose ∙ registered) (ap (λ (p : Site × Entry). has p.0.identity llid) whose ∙ named)
    (subst (λ (gs : List GroupLane). NewToGroups gs key) (sym groups) new) o.1 (rw same m.1) in
    record {
      meets = (f, rest.meets);
      same = rest.same ∙ ap (λ (t : run.State). run.run t es) same;
      groups = rest.groups ∙ groups;
      joined = rest.joined ∙ own_joined w s i u llid key registered named e o.0;
    }
