-- What a verdict, the groups' validity and the group that is named make of an answer. Assumes nothing.
use Rattle.std.specs.Prelude.{Err, Option, Some, None}
use mathlib.Core.Path.{◌≡◌}
use mathlib.Core.Bool.{true}
use Prim.Native.Nat.{ℕ}
use Rattle.octets.specs.Choice.{pick}
use Rattle.refusal.specs.declared.Refusal.{Refusal}
use Rattle.protocol.specs.Replies.{reply, silent}
use Rattle.protocol.specs.declared.ClockSent.{ClockSent}
use Rattle.protocol.specs.declared.KeySent.{KeySent}
use Rattle.protocol.specs.declared.OltAnswer.{OltAnswer}
use Rattle.group_protocol.specs.Head.{valid_groups, with_olt}
use Rattle.group_protocol.specs.declared.HeadEnd.{HeadEnd}
use Rattle.headend.specs.HeadCalls.{head_answer, olt_answered, olt_clock_sent, olt_key_sent}
use Rattle.group_protocol.specs.Naming.{by_llid}
use Rattle.refusal.specs.Verdict.{Verdict, no_refusal}

---- by the verdict

pub answer_refused : (h next : HeadEnd) (v : Verdict) (r : Refusal) → v ≡ Err r
    → head_answer (reply (Err r) h silent h silent) ≡ head_answer (reply v h silent next silent)
unfolding reply
answer_refused h next v r e = rw e

pub answer_accepted : (h next : HeadEnd) (v : Verdict) → v ≡ no_refusal
    → head_answer (reply no_refusal next silent next silent) ≡ head_answer (reply v h silent next silent)
unfolding reply
answer_accepted h next v e = rw e

---- with valid groups: what the OLT answers

module _ (h : HeadEnd) where
  pub answered_valid : (r : OltAnswer) → valid_groups h ≡ true → record { number = r.number; head = with_olt h r.olt } ≡ olt_answered h r
  unfolding olt_answered pick
  answered_valid r e = rw e

  pub clock_sent_valid : (r : ClockSent) → valid_groups h ≡ true
      → record { number = r.number; head = with_olt h r.olt; message = r.message } ≡ olt_clock_sent h r
  unfolding olt_clock_sent pick
  clock_sent_valid r e = rw e

  pub key_sent_valid : (r : KeySent) → valid_groups h ≡ true
      → record { number = r.number; head = with_olt h r.olt; message = r.message } ≡ olt_key_sent h r
  unfolding olt_key_sent pick
  key_sent_valid r e = rw e

---- by the group that is named

pub by_nowhere : {R : Type 0} (f : Option ℕ) (alone : R) (group : ℕ → R) → f ≡ None → alone ≡ by_llid f alone group
unfolding by_llid
by_nowhere f alone group e = rw e

pub by_at : {R : Type 0} (f : Option ℕ) (alone : R) (group : ℕ → R) (i : ℕ) → f ≡ Some i → group i ≡ by_llid f alone group
unfolding by_llid
by_at f alone group i e = rw e
