-- Laws of the ONU's calls: a valid ONU stays valid, and a refused call leaves it. Assumes nothing.
use Rattle.std.specs.Prelude.{Err}
use mathlib.Core.Path.{◌≡◌, refl, sym, ◌∙◌, ap}
use mathlib.Core.Bool.{true, false}
use Prim.Native.Nat.{ℕ}
use native.Mathlib.Omega.{arith}
use lib.Dec.{ltb}
use borrow.Author.Tests.{lt-ltb, not-false}
use Rattle.octets.specs.Choice.{both, either, pick}
use Rattle.octets.proofs.Choice.{both_true, not_of_true, both_false_left}
use Rattle.refusal.specs.declared.Refusal.{Refusal}
use Rattle.refusal.specs.declared.Refusal.TheVariants.{OutOfRange}
use Rattle.clock.specs.Ticks.{local_turn}
use Rattle.clock.specs.Stamping.{raise_of, moved_by, raised_to}
use Rattle.clock.specs.declared.Stamps.{Stamps}
use Rattle.clock.proofs.Ticks.{advanced_below}
use Rattle.protocol.specs.Replies.{silent}
use Rattle.ends.specs.Keys.{no_slots}
use Rattle.ends.specs.Identities.{no_identity, distinct, kept, llids_of, valid_identity}
use Rattle.ends.specs.Records.{unsynced_clock, new_onu, with_onu_clock}
use Rattle.ends.specs.Validity.{valid_onu_keys, valid_onu_clock, valid_onu}
use Rattle.protocol.specs.Messages.{no_acknowledgement, of_clock, of_key}
use Rattle.protocol.specs.OnuCalls.{onu_answer, onu_acknowledged, onu_reply, fresh_onu_verdict, fresh_onu_of, advancing_onu, advance_onu_of, clock_from, onu_synced, clock_message_to, clock_message_at, key_message_to, key_message_at}
use Rattle.ends.specs.declared.Identity.{Identity}
use Rattle.ends.specs.declared.Onu.{Onu}
use Rattle.protocol.specs.declared.KeyMessage.{KeyMessage}
use Rattle.refusal.proofs.Order.{refuse_accepted, refuse_passed}
use Rattle.refusal.proofs.Numbers.{number_accepted}
use Rattle.protocol.proofs.Replies.{met, number_refused, reply_verdict, reply_accepted, reply_keeps, reply_untouched, Untouched}
use Rattle.ends.proofs.Travels.{no_changes_valid}
use Rattle.ends.proofs.Occupancy.{free_valid}
use Rattle.ends.proofs.Identities.{none_invalid, identity_valid, kept_llids, kept_valid}
use Rattle.ends.proofs.Validity.{onu_in_range, onu_valid}
use Rattle.refusal.specs.Verdict.{Verdict, no_refusal}

---- every call

pub onu_accepted : {H : Type 0} (o : Onu) (nothing : H) (v : Verdict) (next : Onu) (handed : H) → (onu_reply o nothing v next handed).verdict ≡ no_refusal
    → (valid_onu o ≡ true) × (v ≡ no_refusal)
unfolding onu_reply
onu_accepted o nothing v next handed e =
    let a = refuse_accepted _ _ _ (sym (reply_verdict _ o nothing next handed) ∙ e) in
    (not-false _ a.0, a.1)

pub onu_accepts : {H : Type 0} (o : Onu) (nothing : H) (v : Verdict) (next : Onu) (handed : H) → valid_onu o ≡ true → v ≡ no_refusal
    → onu_reply o nothing v next handed ≡ record { verdict = no_refusal; end = next; handed = handed }
unfolding onu_reply
onu_accepts o nothing v next handed e f = reply_accepted _ o nothing next handed (refuse_passed _ OutOfRange v (not_of_true e) ∙ f)

-- refused: the very ONU that was lent, and nothing
pub onu_untouched : {H : Type 0} (o : Onu) (nothing : H) (v : Verdict) (next : Onu) (handed : H) (r : Refusal)
    → (onu_reply o nothing v next handed).verdict ≡ Err r → Untouched o nothing (onu_reply o nothing v next handed)
unfolding onu_reply
onu_untouched o nothing v next handed r e = reply_untouched _ o nothing next handed r e

-- what holds of the lent ONU and, where it is valid and the call accepts, of the next one holds of the one that is left
pub onu_keeps : {H : Type 0} (P : Onu → Type 0) (o : Onu) (nothing : H) (v : Verdict) (next : Onu) (handed : H) → P o
    → (valid_onu o ≡ true → v ≡ no_refusal → P next) → P (onu_reply o nothing v next handed).end
unfolding onu_reply
onu_keeps P o nothing v next handed p q =
    reply_keeps P _ o nothing next handed p (λ a. let b = refuse_accepted _ _ _ a in q (not-false _ b.0) b.1)

---- fresh

pub new_clock_valid : (time : ℕ) → ltb time local_turn ≡ true → valid_onu_clock (unsynced_clock time) ≡ true
unfolding valid_onu_clock both pick
new_clock_valid time e = e

new_keys_valid : valid_onu_keys (record { active = 0; held = 0; slots = no_slots }) ≡ true
unfolding valid_onu_keys both either
new_keys_valid = refl

pub new_onu_valid : (i : Identity) (oltmac time : ℕ) → fresh_onu_verdict i oltmac time ≡ no_refusal → valid_onu (new_onu i oltmac time) ≡ true
unfolding fresh_onu_verdict new_onu
new_onu_valid i oltmac time e =
    let valid : valid_identity i ≡ true = search met depth 8 in
    let identity = kept_valid i ∙ valid in
    let once : distinct (llids_of (kept i)) ≡ true = ap distinct (kept_llids i (identity_valid i valid).1) ∙ search met depth 8 in
    let clock : valid_onu_clock (unsynced_clock time) ≡ true = new_clock_valid time (search met depth 8) in
    onu_valid (new_onu i oltmac time) (search (met, new_keys_valid, no_changes_valid, free_valid, arith) depth 8)

-- an ONU of zeros, as a refused fresh gives, is not
pub zeros_invalid : valid_onu (new_onu no_identity 0 0) ≡ false
unfolding valid_onu new_onu
zeros_invalid = both_false_left _ (kept_valid no_identity ∙ none_invalid)

pub fresh_onu_valid : (i : Identity) (oltmac time : ℕ) → (fresh_onu_of i oltmac time).number ≡ 0 → valid_onu (fresh_onu_of i oltmac time).onu ≡ true
unfolding fresh_onu_of onu_answer
fresh_onu_valid i oltmac time e =
    let a = sym (reply_verdict _ (new_onu no_identity 0 0) silent (new_onu i oltmac time) silent) ∙ number_accepted _ e in
    rw (reply_accepted _ (new_onu no_identity 0 0) silent (new_onu i oltmac time) silent a) (new_onu_valid i oltmac time a)

pub fresh_onu_refused : (i : Identity) (oltmac time : ℕ) → ((fresh_onu_of i oltmac time).number ≡ 0 → ⊥)
    → (fresh_onu_of i oltmac time).onu ≡ new_onu no_identity 0 0
unfolding fresh_onu_of onu_answer
fresh_onu_refused i oltmac time n =
    (number_refused (new_onu no_identity 0 0) silent _ (λ x e. reply_untouched _ (new_onu no_identity 0 0) silent _ silent x e) n).end

---- clock message

clock_from_valid : (time : ℕ) (s : Stamps) → valid_onu_clock (clock_from (raised_to time s)) ≡ true
unfolding valid_onu_clock clock_from raised_to moved_by pick
clock_from_valid time s =
    both_true refl
    (both_true (lt-ltb _ _ (advanced_below s.rx (raise_of time s.tx))) (lt-ltb _ _ (advanced_below s.tx (raise_of time s.tx))))

pub onu_synced_valid : (o : Onu) (s : Stamps) → valid_onu o ≡ true → valid_onu (onu_synced o s) ≡ true
unfolding onu_synced with_onu_clock
onu_synced_valid o s v = let r = onu_in_range o v in onu_valid (onu_synced o s) (search clock_from_valid)

pub clock_message_valid : (o : Onu) (s : Stamps) → valid_onu o ≡ true → valid_onu (clock_message_at o s).onu ≡ true
unfolding clock_message_at clock_message_to onu_acknowledged
clock_message_valid o s v =
    onu_keeps (λ (p : Onu). valid_onu p ≡ true) o no_acknowledgement _ _ of_clock v (λ w a. onu_synced_valid o s w)

---- refused: the very ONU that was lent, and nothing

pub advance_onu_refused : (o : Onu) (n : ℕ) → ((advance_onu_of o n).number ≡ 0 → ⊥) → (advance_onu_of o n).onu ≡ o
unfolding advance_onu_of advancing_onu onu_answer
advance_onu_refused o n h = (number_refused o silent _ (onu_untouched o silent _ _ silent) h).end

pub clock_message_refused : (o : Onu) (s : Stamps) → ((clock_message_at o s).number ≡ 0 → ⊥)
    → ((clock_message_at o s).onu ≡ o) × ((clock_message_at o s).acknowledgement ≡ no_acknowledgement)
unfolding clock_message_at clock_message_to onu_acknowledged
clock_message_refused o s n = search (number_refused o no_acknowledgement _ (onu_untouched o no_acknowledgement _ _ of_clock) n)

pub key_message_refused : (o : Onu) (m : KeyMessage) → ((key_message_at o m).number ≡ 0 → ⊥)
    → ((key_message_at o m).onu ≡ o) × ((key_message_at o m).acknowledgement ≡ no_acknowledgement)
unfolding key_message_at key_message_to onu_acknowledged
key_message_refused o m n = search (number_refused o no_acknowledgement _ (onu_untouched o no_acknowledgement _ _ (of_key m.number)) n)
