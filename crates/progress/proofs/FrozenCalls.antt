-- A frozen line stays frozen by the calls on the OLT, and by advances. Assumes nothing.
use Rattle.std.specs.Prelude.{Err}
use mathlib.Core.Path.{◌≡◌, refl, sym, ◌∙◌, ap}
use mathlib.Core.Bool.{Bool, true, false}
use mathlib.Core.List.Memᴰ
use mathlib.Core.List.{List}
use mathlib.Core.Logic.{⊎_elim}
use Prim.Native.Nat.{ℕ, suc, ◌+◌, ◌<◌, ◌≤◌}
use native.Mathlib.Omega.{arith}
use lib.Dec.{eqb}
use lib.ListN.{length}
use borrow.Author.Tests.{ne_eqb}
use Rattle.octets.specs.Choice.{both, pick}
use Rattle.octets.proofs.Choice.{true_false, both_false_right, pick_false, pick_holds}
use Rattle.octets.proofs.Maps.{map_at}
use Rattle.refusal.specs.declared.Refusal.TheVariants.{NothingOutstanding}
use Rattle.clock.specs.declared.Stamps.{Stamps}
use Rattle.envelope.specs.ControlMask.{eqs_of}
use Rattle.ends.specs.Identities.{has, no_identity}
use Rattle.ends.specs.Records.{with_keys, with_confirmation, with_clock, with_timer, with_slots, fresh_unit, new_onu}
use Rattle.ends.specs.Table.{unit_at, with_one_more}
use Rattle.ends.specs.declared.Identity.{Identity}
use Rattle.ends.specs.declared.Olt.{Olt}
use Rattle.ends.specs.declared.Onu.{Onu}
use Rattle.ends.specs.declared.Shared.{Shared}
use Rattle.ends.specs.declared.UnitRecord.{UnitRecord}
use Rattle.ends.proofs.Table.{more_other}
use Rattle.ends.proofs.Validity.{olt_in_range}
use Rattle.protocol.specs.Headers.{no_passage, no_sending}
use Rattle.protocol.specs.Lift.{Outcome, outcome, lift}
use Rattle.protocol.specs.Messages.{clock_kind, key_kind, no_stamps, no_key_message}
use Rattle.protocol.specs.OltCalls.{olt_answer, clock_sent, key_sent, registering, register_of, olt_advanced, advancing_olt, advance_olt_of, capture_of, measure_of, clock_send_of, offer_of, retry_of, acknowledge_of}
use Rattle.protocol.specs.OltTraffic.{sending_olt, receiving_olt}
use Rattle.protocol.specs.OnuCalls.{onu_answer, onu_advanced, advancing_onu, advance_onu_of}
use Rattle.protocol.specs.Replies.{silent}
use Rattle.protocol.specs.UnitCalls.{unit_advanced, capture_unit, measure_unit, clock_send_unit, keys_offered, unit_offered, offer_unit, retry_unit, clock_acknowledged_unit, key_acknowledged_unit, acknowledge_unit}
use Rattle.protocol.specs.UnitTraffic.{send_unit, unit_receive_choice, unit_confirmed, unit_after_receipt, receive_unit}
use Rattle.protocol.specs.declared.Acknowledgement.{Acknowledgement}
use Rattle.protocol.specs.declared.Header.{Header}
use Rattle.protocol.specs.declared.KeyChoice.{KeyChoice}
use Rattle.protocol.specs.declared.KeyChoice.TheVariants.{Clear, Current, Next, Barred}
use Rattle.protocol.specs.declared.KeyMessage.{KeyMessage}
use Rattle.protocol.specs.declared.Sending.{Sending}
use Rattle.protocol.proofs.Lift.{lift_untouched, lift_others, lift_part}
use Rattle.protocol.proofs.OltTraffic.{send_ahead, receive_ahead}
use Rattle.protocol.proofs.OnuCalls.{onu_keeps}
use Rattle.protocol.proofs.Replies.{number_refused, reply_keeps}
use Rattle.traffic.specs.Passages.{misfit}
use Rattle.traffic.specs.Receipts.{olt_received, olt_receive_of}
use Rattle.traffic.specs.Sends.{olt_sent, olt_send_of}
use Rattle.unicast.specs.Setting.{Setting}
use Rattle.unicast.specs.History.{Envelope, InFlight, clock_message, key_message, envelope, Entry, Lane, number_down, lane_with, lane_captured, leaving, lane_leaving, lane_offered, lane_acknowledged, lane_sent_down, lane_taken}
use Rattle.unicast.specs.Events.{advance, capture, clock_send, offer, retry, send_down, arrive_answer}
use Rattle.unicast.specs.Run.{State, lane_at, onu_at, accepted, noted, named, with_lanes, at_olt, advancing, clock_sending, offering, retrying, envelope_down, sending_down, answer_at, answering, step}
use Rattle.unicast.proofs.Invariant.{Invariant}
use Rattle.unicast.proofs.Queues.{dropped_among}
use Rattle.unicast.proofs.Places.{Held, found_has}
use Rattle.unicast.proofs.Alive.{registered_alive}
use Rattle.unicast.proofs.AdvanceSteps.{advanced_unit}
use Rattle.unicast.proofs.LiftSteps.{noted_at-holds}
use Rattle.progress.specs.Frozen.{record_at, Frozen}
use Rattle.progress.proofs.Frozen.{Kept, kept_rest, kept_same, frozen_kept, frozen_at, not_sent}
use Rattle.refusal.specs.Verdict.{Verdict, no_refusal}

---- lanes that are told of something

leaving_kept : (x : InFlight) (l : Lane) → ((e : Envelope) → x ≡ envelope e → ⊥) → Kept l (lane_leaving x l)
unfolding lane_leaving lane_with leaving
leaving_kept x l none =
    kept_rest l (lane_leaving x l) refl refl refl refl refl refl
    (λ e i. ⊎_elim (λ j. j) (λ j. absurd (none e (sym (Memᴰ.eq_of_singleton j)))) (Memᴰ.append_cases l.transit.towards i))
    (λ e i. i)

offered_kept : (key : List ℕ) (x : InFlight) (l : Lane) → ((e : Envelope) → x ≡ envelope e → ⊥) → Kept l (lane_leaving x (lane_offered key l))
unfolding lane_offered lane_with
offered_kept key x l none =
    let k = leaving_kept x (lane_offered key l) none in
    kept_rest l _ k.site k.path k.entry k.switches k.number k.arrived k.towards k.from

pub taken_kept : (k : ℕ) (l : Lane) → Kept l (lane_taken k l)
unfolding lane_taken lane_with
taken_kept k l =
    kept_rest l (lane_taken k l) refl refl refl refl refl refl (λ e i. dropped_among (envelope e) l.transit.towards (suc k) i) (λ e i. i)

---- calls on the OLT

-- a call that leaves the first send of its unit leaves that of every unit
first_kept : {H : Type 0} (o : Olt) (nothing : H) (ahead : Verdict) (llid : ℕ) (call : Shared → UnitRecord → Outcome H) (i : ℕ)
    → ((x : UnitRecord) → (call o.shared x).unit.keys.first ≡ x.keys.first)
    → (unit_at (lift o nothing ahead llid call).end i).keys.first ≡ (unit_at o i).keys.first
first_kept o nothing ahead llid call i same =
    lift_part o nothing ahead llid call (λ (x : UnitRecord). x.keys.first) i (λ l e. same (unit_at o l.at))

told_kept : (number llid : ℕ) (f : Lane → Lane) (l : Lane) → Kept l (f l) → Kept l (noted number (named llid f) l)
unfolding noted named pick
told_kept number llid f l k = by_tests (accepted number) (both l.entry.registered (has l.site.identity llid)) where
  by_tests : (t n : Bool) → Kept l (pick t (pick n (f l) l) l)
  by_tests true true = k
  by_tests true false = kept_same l
  by_tests false n = kept_same l

-- nothing, by a call that is refused
pub refused_noted : (number : ℕ) (g : Lane → Lane) (l : Lane) → (number ≡ 0 → ⊥) → noted number g l ≡ l
unfolding noted
refused_noted number g l n = pick_false (g l) l (ne_eqb number 0 n)

-- nor by an LLID of another unit
not_told : (number llid : ℕ) (f : Lane → Lane) (l : Lane) → has l.site.identity llid ≡ false → noted number (named llid f) l ≡ l
unfolding noted named pick
not_told number llid f l e = by_test (accepted number) where
  by_test : (t : Bool) → pick t (pick (both l.entry.registered (has l.site.identity llid)) (f l) l) l ≡ l
  by_test true = pick_false (f l) l (both_false_right _ e)
  by_test false = refl

call_frozen : {H : Type 0} (s : State) (u : ℕ) (nothing : H) (ahead : Verdict) (llid number : ℕ) (call : Shared → UnitRecord → Outcome H)
    (f : Lane → Lane)
    (b : Bool) (mine : ℕ) → ((x : UnitRecord) → (call s.olt.shared x).unit.keys.first ≡ x.keys.first) → ((l : Lane) → Kept l (f l))
    → Frozen b s u mine → Frozen b (at_olt s (lift s.olt nothing ahead llid call).end number llid f) u mine
unfolding at_olt with_lanes
call_frozen s u nothing ahead llid number call f b mine same kept z =
    let l = lane_at s u in
    let o = (lift s.olt nothing ahead llid call).end in
    let k = told_kept number llid f l (kept l) in
    let m = noted number (named llid f) l in
    frozen_at b (at_olt s o number llid f) u mine s.history.now m (record_at s u).keys.first (onu_at s u).first refl (noted_at-holds s o number llid u f)
    (ap (λ (x : Entry). (unit_at o x.place).keys.first) k.entry ∙ first_kept s.olt nothing ahead llid call l.entry.place same)
    refl
    (frozen_kept b mine s.history.now s.history.now l m _ _ (omega arith) k z)

acknowledged_first : (a : Acknowledgement) (sh : Shared) (x : UnitRecord) → (acknowledge_unit a sh x).unit.keys.first ≡ x.keys.first
unfolding acknowledge_unit clock_acknowledged_unit key_acknowledged_unit outcome with_clock with_confirmation pick
acknowledged_first a sh x = by_kind (eqb a.kind clock_kind) (eqb a.kind key_kind) where
  by_kind : (t k : Bool)
      → (pick t (clock_acknowledged_unit sh x)
      (pick k (key_acknowledged_unit a.number sh x) (outcome sh (Err NothingOutstanding) x silent))).unit.keys.first
      ≡ x.keys.first
  by_kind true k = refl
  by_kind false true = refl
  by_kind false false = refl

receipt_first : (choice : KeyChoice) (x : UnitRecord) → (unit_after_receipt choice x).keys.first ≡ x.keys.first
unfolding unit_after_receipt unit_confirmed with_confirmation with_keys with_slots
receipt_first Clear x = refl
receipt_first (Current n) x = refl
receipt_first (Next n) x = refl
receipt_first (Barred r) x = refl

pub receiving_first : (o : Olt) (h : Header) (p out : List ℕ) (i : ℕ)
    → (unit_at (olt_receive_of o h p out).answer.olt i).keys.first ≡ (unit_at o i).keys.first
unfolding olt_receive_of olt_received receiving_olt receive_unit outcome
receiving_first o h p out i =
    first_kept o no_passage (receive_ahead (misfit p out) h) h.llid (receive_unit h) i (λ x. receipt_first (unit_receive_choice x h) x)

pub measured_first : (o : Olt) (llid trip i : ℕ) → (unit_at (measure_of o llid trip).olt i).keys.first ≡ (unit_at o i).keys.first
unfolding measure_of olt_answer measure_unit outcome with_clock
measured_first o llid trip i = first_kept o silent _ llid (measure_unit trip) i (λ x. refl)

pub registering_first : (o : Olt) (identity : Identity) (trip interval i : ℕ) → i < o.count
    → (unit_at (register_of o identity trip interval).olt i).keys.first ≡ (unit_at o i).keys.first
unfolding register_of registering olt_answer
registering_first o identity trip interval i h =
    reply_keeps (λ (p : Olt). (unit_at p i).keys.first ≡ (unit_at o i).keys.first) _ o silent
    (with_one_more o (fresh_unit identity trip interval)) silent refl
    (λ a. ap (λ (x : UnitRecord). x.keys.first) (more_other o (fresh_unit identity trip interval) i (λ e. omega (arith, e, h))))

pub capture_frozen : (b : Bool) (s : State) (u mine llid : ℕ) → Frozen b s u mine → Frozen b (step s (capture llid)) u mine
unfolding step capture_of olt_answer capture_unit outcome with_clock lane_captured
capture_frozen b s u mine llid z =
    call_frozen s u silent no_refusal llid _ capture_unit (lane_captured s.history.now) b mine (λ x. refl)
    (λ l. kept_rest l (lane_captured s.history.now l) refl refl refl refl refl refl (λ e i. i) (λ e i. i)) z

clock_no_envelope : (m : Stamps) (c t : ℕ) (e : Envelope) → clock_message m c t ≡ envelope e → ⊥
clock_no_envelope m c t e q = let z : ◌≡◌ {A = ℕ} 0 1 = cc in absurd (omega arith)

key_no_envelope : (m : KeyMessage) (t : ℕ) (e : Envelope) → key_message m t ≡ envelope e → ⊥
key_no_envelope m t e q = let z : ◌≡◌ {A = ℕ} 0 1 = cc in absurd (omega arith)

pub clock_send_frozen : (b : Bool) (s : State) (u mine llid : ℕ) → Frozen b s u mine → Frozen b (step s (clock_send llid)) u mine
unfolding step clock_sending clock_send_of clock_sent clock_send_unit outcome with_clock
clock_send_frozen b s u mine llid z =
    call_frozen s u no_stamps no_refusal llid _ clock_send_unit _ b mine (λ x. refl)
    (λ l. leaving_kept (clock_message (clock_send_of s.olt llid).message l.captured s.history.now) l (clock_no_envelope _ _ _)) z

pub offer_frozen : (b : Bool) (s : State) (u mine llid : ℕ) (key : List ℕ) → Frozen b s u mine → Frozen b (step s (offer llid key)) u mine
unfolding step offering offer_of key_sent offer_unit unit_offered keys_offered outcome with_keys with_confirmation
offer_frozen b s u mine llid key z =
    call_frozen s u no_key_message no_refusal llid _ (offer_unit llid key) _ b mine (λ x. refl)
    (λ l. offered_kept key (key_message (offer_of s.olt llid key).message s.history.now) l (key_no_envelope _ _)) z

pub retry_frozen : (b : Bool) (s : State) (u mine llid : ℕ) → Frozen b s u mine → Frozen b (step s (retry llid)) u mine
unfolding step retrying retry_of key_sent retry_unit outcome
retry_frozen b s u mine llid z =
    call_frozen s u no_key_message no_refusal llid _ (retry_unit llid) _ b mine (λ x. refl)
    (λ l. leaving_kept (key_message (retry_of s.olt llid).message s.history.now) l (key_no_envelope _ _)) z

pub answer_frozen : (b : Bool) (s : State) (u mine v k llid : ℕ) → Frozen b s u mine → Frozen b (step s (arrive_answer v k llid)) u mine
unfolding step answering acknowledge_of olt_answer lane_acknowledged lane_with
answer_frozen b s u mine v k llid z =
    let a = (answer_at s v k).acknowledgement in
    call_frozen s u silent no_refusal llid _ (acknowledge_unit a) (lane_acknowledged a) b mine (acknowledged_first a s.olt.shared)
    (λ l. kept_rest l (lane_acknowledged a l) refl refl refl refl refl refl (λ e i. i) (λ e i. i)) z

---- a send of the OLT: to the unit it is refused

-- one of another unit's LLIDs leaves the unit
pub send_down_frozen : (b : Bool) (w : Setting) (s : State) (u mine llid channel : ℕ) (p out : List ℕ) → Invariant w s → Frozen b s u mine
    → Frozen b (step s (send_down llid channel p out)) u mine
unfolding step sending_down at_olt with_lanes olt_send_of olt_sent sending_olt
send_down_frozen b w s u mine llid channel p out v z = by_name (has (lane_at s u).site.identity llid) refl where
  now : ℕ
  now = s.history.now

  call : Shared → UnitRecord → Outcome Sending
  call = send_unit llid channel (eqs_of p)

  end : Olt
  end = (lift s.olt no_sending (send_ahead (misfit p out) channel) llid call).end

  number : ℕ
  number = (olt_send_of s.olt llid channel p out).answer.number

  f : Lane → Lane
  f = λ l. lane_sent_down now (envelope_down now l.path s.olt llid channel p out (number_down l now)) l

  stays : noted number (named llid f) (lane_at s u) ≡ lane_at s u → unit_at end (lane_at s u).entry.place ≡ record_at s u
      → Frozen b (at_olt s end number llid f) u mine
  stays lane same =
      frozen_at b (at_olt s end number llid f) u mine now (lane_at s u) (record_at s u).keys.first (onu_at s u).first refl
      (noted_at-holds s end number llid u f ∙ lane) (ap (λ (x : UnitRecord). x.keys.first) same) refl z

  -- frozen is frozen by any LLID of the unit
  by_llid-holds : has (lane_at s u).site.identity llid ≡ true → Frozen b s u llid
  by_llid-holds e =
      record {
        registered = z.registered;
        named = e;
        unconfirmed = z.unconfirmed;
        begun = z.begun;
        old = z.old;
        lost = z.lost;
        unit = z.unit;
      }

  by_name : (t : Bool) → has (lane_at s u).site.identity llid ≡ t → Frozen b (at_olt s end number llid f) u mine
  by_name true e =
      let no = not_sent b w s u llid v (by_llid-holds e) channel p out in
      let left : end ≡ s.olt =
      (number_refused s.olt no_sending _ (lift_untouched s.olt no_sending (send_ahead (misfit p out) channel) llid call) no).end in
      stays (refused_noted number (named llid f) (lane_at s u) no) (ap (λ (o : Olt). unit_at o (lane_at s u).entry.place) left)
  by_name false e =
      let held : Held s (lane_at s u).entry.place u =
      record { known = (registered_alive w s u v z.registered).known; registered = z.registered; place = refl } in
      stays (not_told number llid f (lane_at s u) e)
      (lift_others s.olt no_sending (send_ahead (misfit p out) channel) llid call (lane_at s u).entry.place
      (λ q. true_false (sym (found_has w s (lane_at s u).entry.place u llid v held q) ∙ e)))

---- an advance

advanced_first : (o : Olt) (n i : ℕ) → i < o.count → i < length o.units → (unit_at (advance_olt_of o n).olt i).keys.first ≡ (unit_at o i).keys.first
unfolding advance_olt_of advancing_olt olt_answer unit_advanced with_keys with_timer
advanced_first o n i h k =
    reply_keeps (λ (p : Olt). (unit_at p i).keys.first ≡ (unit_at o i).keys.first) _ o silent (olt_advanced o n) silent refl
    (λ a. ap (λ (x : UnitRecord). x.keys.first) (advanced_unit o n i h k))

onu_advanced_first : (o : Onu) (n : ℕ) → (advance_onu_of o n).onu.first ≡ o.first
unfolding advance_onu_of advancing_onu onu_answer onu_advanced
onu_advanced_first o n = onu_keeps (λ (p : Onu). p.first ≡ o.first) o silent _ (onu_advanced o n) silent refl (λ v a. refl)

pub advance_frozen : (b : Bool) (w : Setting) (s : State) (u llid n : ℕ) → Invariant w s → Frozen b s u llid → Frozen b (step s (advance n)) u llid
unfolding step advancing
advance_frozen b w s u llid n v z =
    let a = registered_alive w s u v z.registered in
    let l = lane_at s u in
    let room = (olt_in_range s.olt v.valid).count in
    let moved : Onu → Onu = λ o. (advance_onu_of o n).onu in
    let later = pick (accepted (advance_olt_of s.olt n).number) (s.history.now + n) s.history.now in
    let grows : s.history.now ≤ later =
    pick_holds (λ (m : ℕ). s.history.now ≤ m) (accepted (advance_olt_of s.olt n).number) (s.history.now + n) s.history.now (λ e. omega arith)
    (λ e. omega arith) in
    frozen_at b (advancing s n) u llid later l (record_at s u).keys.first (onu_at s u).first refl refl
    (advanced_first s.olt n l.entry.place a.used (omega (arith, a.used, room, v.places)))
    (ap (λ (o : Onu). o.first) (map_at moved s.onus u (new_onu no_identity 0 0) (new_onu no_identity 0 0) (omega (arith, a.known, v.paired)))
    ∙ onu_advanced_first (onu_at s u) n)
    (frozen_kept b llid s.history.now later l l _ _ grows (kept_same l) z)
