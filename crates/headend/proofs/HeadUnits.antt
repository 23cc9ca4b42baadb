-- A call on a unit, made in the head end: 1 for the groups stands ahead, as 1 for the OLT does. Assumes nothing.
use Rattle.std.specs.Prelude.{Err, Option}
use mathlib.Core.Path.{◌≡◌, refl, ap, ◌∙◌}
use mathlib.Core.Bool.{Bool, true, false, not, ◌&&◌}
use Prim.Native.Nat.{ℕ}
use lib.Dec.{eqb}
use borrow.Author.Tests.{eqb-true}
use Rattle.octets.specs.Choice.{either, pick}
use Rattle.refusal.specs.Number.{verdict_number}
use Rattle.refusal.specs.Order.{and_then, refuse_if}
use Rattle.refusal.specs.declared.Refusal.TheVariants.{OutOfRange}
use Rattle.clock.specs.declared.Stamps.{Stamps}
use Rattle.ends.specs.Table.{find, unit_at, with_unit}
use Rattle.ends.specs.Validity.{valid_olt}
use Rattle.ends.specs.declared.Olt.{Olt}
use Rattle.ends.specs.declared.Shared.{Shared}
use Rattle.ends.specs.declared.UnitRecord.{UnitRecord}
use Rattle.ends.proofs.Table.{with_itself}
use Rattle.protocol.specs.Lift.{Outcome, after, at_unit, lift, outcome}
use Rattle.protocol.specs.Messages.{no_key_message, no_stamps}
use Rattle.protocol.specs.OltCalls.{clock_sent, key_sent, olt_answer}
use Rattle.protocol.specs.Replies.{Reply, Silence, on_valid, reply, silent}
use Rattle.protocol.specs.UnitCalls.{retry_unit}
use Rattle.protocol.specs.declared.KeyMessage.{KeyMessage}
use Rattle.unit.specs.Reached.{reached}
use Rattle.unit.proofs.Reached.{if_same}
use Rattle.olt.specs.Lookup.{located_after, located_of}
use Rattle.olt.specs.declared.Located.{Located}
use Rattle.olt.proofs.Lookup.{lift_decided}
use Rattle.group_protocol.specs.Head.{valid_groups, with_olt}
use Rattle.group_protocol.specs.declared.HeadEnd.{HeadEnd}
use Rattle.headend.specs.HeadCalls.{head_answer, head_key_sent, olt_answered, olt_clock_sent, olt_key_sent}
use Rattle.headend.specs.declared.HeadClockSent.{HeadClockSent}
use Rattle.headend.proofs.NoGroups.{no_groups_invalid}
use Rattle.refusal.specs.Verdict.{Verdict}

-- in a valid OLT no group at all is groups that are valid
sound_located : (z t v : Bool) (ahead : Verdict) (f : Option ℕ) → (z ≡ true → t ≡ false → v ≡ false)
    → located_after (on_valid v (on_valid (either z t) ahead)) f ≡ located_after (on_valid v (on_valid t ahead)) f
unfolding either refuse_if
sound_located false t v ahead f k = refl
sound_located true true v ahead f k = refl
sound_located true false v ahead f k = rw (k refl refl)

pub located_sound : (h : HeadEnd) (ahead : Verdict) (llid : ℕ)
    → located_of h.olt (on_valid (either (eqb h.groups.count 0) (valid_groups h)) ahead) llid ≡ located_of h.olt (on_valid (valid_groups h) ahead) llid
unfolding located_of
located_sound h ahead llid =
    sound_located (eqb h.groups.count 0) (valid_groups h) (valid_olt h.olt) ahead (find h.olt llid)
    (λ z e. no_groups_invalid h (eqb-true _ _ z) e)

-- 1 for what the call itself is lent may stand with 1 for the groups
pub guarded_both : (t k : Bool) (ahead : Verdict) → on_valid (t && k) ahead ≡ on_valid t (refuse_if (not k) OutOfRange ahead)
unfolding refuse_if
guarded_both false k ahead = refl
guarded_both true k ahead = refl

-- what the OLT replies, in the head end
abbrev pub in_head : {H : Type 0} → HeadEnd → Reply Olt H → Reply HeadEnd H
in_head h r = record { verdict = r.verdict; end = with_olt h r.end; handed = r.handed }

module _ {H : Type 0} (h : HeadEnd) (nothing : H) (llid : ℕ) (call : Shared → UnitRecord → Outcome H) where
  refused_ahead : (v : Bool) → in_head h (after (on_valid v (Err OutOfRange)) h.olt nothing (at_unit h.olt nothing call (find h.olt llid)))
      ≡ reply (Err OutOfRange) h nothing h nothing
  unfolding after refuse_if reply with_olt
  refused_ahead true = refl
  refused_ahead false = refl

  guarded : (ahead : Verdict) (t : Bool) → in_head h (lift h.olt nothing (on_valid t ahead) llid call)
      ≡ pick t (in_head h (lift h.olt nothing ahead llid call)) (reply (Err OutOfRange) h nothing h nothing)
  unfolding lift pick refuse_if
  guarded ahead true = refl
  guarded ahead false = refused_ahead (valid_olt h.olt)

  -- what the call leaves, by the place and the unit's decision
  pub lift_guarded : (ahead : Verdict) (l : Located) (x : Outcome H) → l ≡ located_of h.olt (on_valid (valid_groups h) ahead) llid
      → x ≡ reached l.verdict nothing h.olt.shared (unit_at h.olt l.place) (call h.olt.shared (unit_at h.olt l.place))
      → record { verdict = x.verdict; end = with_olt h (with_unit h.olt l.place x.channels x.unit); handed = x.handed }
      ≡ pick (valid_groups h) (in_head h (lift h.olt nothing ahead llid call)) (reply (Err OutOfRange) h nothing h nothing)
  lift_guarded ahead l x e f =
      ap (in_head h) (lift_decided h.olt nothing (on_valid (valid_groups h) ahead) llid call l x e f) ∙ guarded ahead (valid_groups h)

-- a retry changes nothing
pub unit_stays : (h : HeadEnd) (llid : ℕ) (l : Located) (x : Outcome KeyMessage)
    → x ≡ reached l.verdict no_key_message h.olt.shared (unit_at h.olt l.place)
    (retry_unit llid h.olt.shared (unit_at h.olt l.place))
    → with_olt h (with_unit h.olt l.place x.channels x.unit) ≡ h
unfolding reached retry_unit outcome with_olt
unit_stays h llid l x e =
    let u = unit_at h.olt l.place in
    let v = and_then l.verdict (retry_unit llid h.olt.shared u).verdict in
    rw (e, if_same v u, if_same v h.olt.shared.channels, with_itself h.olt l.place) refl

---- the three answers

abbrev pub head_clock_sent : Reply HeadEnd Stamps → HeadClockSent
head_clock_sent r = record { number = verdict_number r.verdict; head = r.end; message = r.handed }

answer_by : (h : HeadEnd) (r : Reply Olt Silence) (t : Bool) → head_answer (pick t (in_head h r) (reply (Err OutOfRange) h silent h silent))
    ≡ pick t (head_answer (in_head h r)) (head_answer (reply (Err OutOfRange) h silent h silent))
unfolding pick
answer_by h r true = refl
answer_by h r false = refl

pub answer_guarded : (h : HeadEnd) (r : Reply Olt Silence)
    → head_answer (pick (valid_groups h) (in_head h r) (reply (Err OutOfRange) h silent h silent)) ≡ olt_answered h (olt_answer r)
unfolding olt_answered olt_answer head_answer reply
answer_guarded h r = answer_by h r (valid_groups h)

key_by : (h : HeadEnd) (r : Reply Olt KeyMessage) (t : Bool)
    → head_key_sent (pick t (in_head h r) (reply (Err OutOfRange) h no_key_message h no_key_message))
    ≡ pick t (head_key_sent (in_head h r)) (head_key_sent (reply (Err OutOfRange) h no_key_message h no_key_message))
unfolding pick
key_by h r true = refl
key_by h r false = refl

pub key_guarded : (h : HeadEnd) (r : Reply Olt KeyMessage)
    → head_key_sent (pick (valid_groups h) (in_head h r) (reply (Err OutOfRange) h no_key_message h no_key_message)) ≡ olt_key_sent h (key_sent r)
unfolding olt_key_sent key_sent head_key_sent reply
key_guarded h r = key_by h r (valid_groups h)

clock_by : (h : HeadEnd) (r : Reply Olt Stamps) (t : Bool) → head_clock_sent (pick t (in_head h r) (reply (Err OutOfRange) h no_stamps h no_stamps))
    ≡ pick t (head_clock_sent (in_head h r)) (head_clock_sent (reply (Err OutOfRange) h no_stamps h no_stamps))
unfolding pick
clock_by h r true = refl
clock_by h r false = refl

pub clock_guarded : (h : HeadEnd) (r : Reply Olt Stamps)
    → head_clock_sent (pick (valid_groups h) (in_head h r) (reply (Err OutOfRange) h no_stamps h no_stamps)) ≡ olt_clock_sent h (clock_sent r)
unfolding olt_clock_sent clock_sent reply
clock_guarded h r = clock_by h r (valid_groups h)
