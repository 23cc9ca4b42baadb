-- What an accepted send and receipt of the ONU have met, and which key a receipt goes under. Assumes nothing.
use mathlib.Core.Path.{◌≡◌, refl, ◌∙◌}
use mathlib.Core.Bool.{Bool, true, false}
use Prim.Native.Nat.{ℕ, ◌+◌, ◌%◌, ◌≤◌}
use native.Mathlib.Omega.{arith}
use lib.Dec.{leb, eqb}
use borrow.Author.Tests.{leb-true, eqb-true, eqb-false, le-leb, eq-eqb, ne_eqb}
use Rattle.octets.specs.Choice.{both, pick}
use Rattle.octets.proofs.Choice.{both_left, both_right, both_true, not_of_true, both_false_right, both_false_then, then_both_false, either_false}
use Rattle.refusal.specs.declared.Refusal.TheVariants.{OutOfRange, UnknownLlid, ClockNotSet, NoKey, EpamDiffers, ClearEnvelope, BadLength}
use Rattle.clock.specs.Ticks.{epam_of}
use Rattle.ends.specs.Flags.{is_up}
use Rattle.envelope.specs.Channels.{downstream, upstream}
use Rattle.ends.specs.Occupancy.{taken}
use Rattle.ends.specs.Travels.{travel_of, waits}
use Rattle.ends.specs.Identities.{has}
use Rattle.protocol.specs.Headers.{valid_header, choice_verdict, choice_enciphered}
use Rattle.protocol.specs.OnuTraffic.{onu_send_choice, busy_up, onu_send_verdict, onu_receive_choice, onu_receive_verdict}
use Rattle.ends.specs.declared.OnuKeys.{OnuKeys}
use Rattle.ends.specs.declared.Onu.{Onu}
use Rattle.protocol.specs.declared.Header.{Header}
use Rattle.protocol.specs.declared.KeyChoice.TheVariants.{Clear, Current, Next, Barred}
use Rattle.refusal.proofs.Order.{refuse_passed}
use Rattle.protocol.proofs.Replies.{met}
use Rattle.protocol.proofs.Headers.{Goes, goes}
use Rattle.refusal.specs.Verdict.{no_refusal}

---- which key a send goes under

pub record OnuSends (o : Onu) (misfit : Bool) (llid channel : ℕ) : Type 0 where
  pub fits : misfit ≡ false
  pub upstream : upstream channel ≡ true
  pub has : has o.identity llid ≡ true
  pub goes : Goes (is_up o.clock.synced) (busy_up o channel) (onu_send_choice o.keys) o.first (travel_of o)

pub onu_send_accepted : (o : Onu) (misfit : Bool) (llid channel : ℕ) → onu_send_verdict o misfit llid channel ≡ no_refusal
    → OnuSends o misfit llid channel
unfolding onu_send_verdict
onu_send_accepted o misfit llid channel e = search (met, goes) depth 8

-- its channel is free, and an enciphered one has waited
pub onu_free : (o : Onu) (channel : ℕ) → busy_up o channel ≡ false
    → (taken o.channels channel o.tick ≡ false) × (choice_enciphered (onu_send_choice o.keys) ≡ true → waits o ≡ false)
unfolding busy_up
onu_free o channel e = let f = either_false _ _ e in (f.0, both_false_then _ _ f.1)

---- which key a receipt goes under

-- clear while a = 0; index a mod 2 with a ≥ 1: key a; the other index: key a + 1 if held
pub data OnuReceiveCase (k : OnuKeys) (h : Header) : Type 0 where
  onu_clear : onu_receive_choice k h ≡ Clear → h.encenabled ≡ 0 → k.active ≡ 0 → OnuReceiveCase k h
  onu_late : onu_receive_choice k h ≡ Barred ClearEnvelope → h.encenabled ≡ 0 → 1 ≤ k.active → OnuReceiveCase k h
  onu_current : onu_receive_choice k h ≡ Current k.active → (h.encenabled ≡ 0 → ⊥) → 1 ≤ k.active → h.enckey ≡ k.active % 2
      → OnuReceiveCase k h
  onu_next : onu_receive_choice k h ≡ Next (k.active + 1) → (h.encenabled ≡ 0 → ⊥) → k.held ≡ 1 → h.enckey ≡ (k.active + 1) % 2
      → OnuReceiveCase k h
  onu_unknown : onu_receive_choice k h ≡ Barred NoKey → (h.encenabled ≡ 0 → ⊥) → OnuReceiveCase k h

pub onu_receive_case : (k : OnuKeys) (h : Header) → OnuReceiveCase k h
unfolding onu_receive_choice pick
onu_receive_case k h =
    by_tests (eqb h.encenabled 0) (eqb k.active 0) (both (leb 1 k.active) (eqb h.enckey (k.active % 2)))
    (both (is_up k.held) (eqb h.enckey ((k.active + 1) % 2))) refl refl refl refl where
      by_tests : (clear none current next : Bool) → eqb h.encenabled 0 ≡ clear → eqb k.active 0 ≡ none
          → both (leb 1 k.active) (eqb h.enckey (k.active % 2)) ≡ current → both (is_up k.held) (eqb h.enckey ((k.active + 1) % 2)) ≡ next
          → OnuReceiveCase k h
      by_tests true true current next e f p q = onu_clear (rw (e, f)) (eqb-true _ _ e) (eqb-true _ _ f)
      by_tests true false current next e f p q = onu_late (rw (e, f)) (eqb-true _ _ e) (omega (arith, eqb-false k.active 0 f))
      by_tests false none true next e f p q =
          onu_current (rw (e, p)) (eqb-false _ _ e) (leb-true _ _ (both_left _ _ p)) (eqb-true _ _ (both_right _ _ p))
      by_tests false none false true e f p q =
          onu_next (rw (e, p, q)) (eqb-false _ _ e) (eqb-true _ _ (both_left _ _ q)) (eqb-true _ _ (both_right _ _ q))
      by_tests false none false false e f p q = onu_unknown (rw (e, p, q)) (eqb-false _ _ e)

-- an envelope's header by its number: 0 is clear, a is the key in use, and the held a + 1 comes into use
pub onu_receive_clear : (k : OnuKeys) (h : Header) → h.encenabled ≡ 0 → k.active ≡ 0 → onu_receive_choice k h ≡ Clear
unfolding onu_receive_choice pick both
onu_receive_clear k h e c = rw (e, c)

pub onu_receive_current : (k : OnuKeys) (h : Header) (n : ℕ) → h.encenabled ≡ 1 → h.enckey ≡ n % 2 → 1 ≤ n → n ≡ k.active
    → onu_receive_choice k h ≡ Current n
unfolding onu_receive_choice pick both
onu_receive_current k h n e f p c = rw (e, ← c, le-leb 1 n p, f, eq-eqb (n % 2) (n % 2) refl)

pub onu_receive_next : (k : OnuKeys) (h : Header) (n : ℕ) → h.encenabled ≡ 1 → h.enckey ≡ n % 2 → k.held ≡ 1 → n ≡ k.active + 1
    → onu_receive_choice k h ≡ Next n
unfolding onu_receive_choice pick both
onu_receive_next k h n e f p c =
    let other = both_false_right (leb 1 k.active) (ne_eqb h.enckey (k.active % 2) (λ z. omega arith)) in
    rw (e, other, p, ← c, f, eq-eqb (n % 2) (n % 2) refl)

pub record OnuReceives (o : Onu) (misfit : Bool) (h : Header) : Type 0 where
  pub fits : misfit ≡ false
  pub downstream : downstream h.channel ≡ true
  pub header : valid_header h ≡ true
  pub has : has o.identity h.llid ≡ true
  pub epam : o.clock.synced ≡ 1 → h.epam ≡ epam_of o.clock.rx
  pub synced : h.encenabled ≡ 1 → o.clock.synced ≡ 1
  pub choice : choice_verdict (onu_receive_choice o.keys h) ≡ no_refusal

pub onu_receive_accepted : (o : Onu) (misfit : Bool) (h : Header) → onu_receive_verdict o misfit h ≡ no_refusal → OnuReceives o misfit h
unfolding onu_receive_verdict
onu_receive_accepted o misfit h e = search (met, both_false_then, eq-eqb) depth 10

pub onu_receive_accepts : (o : Onu) (misfit : Bool) (h : Header) → OnuReceives o misfit h → onu_receive_verdict o misfit h ≡ no_refusal
unfolding onu_receive_verdict
onu_receive_accepts o misfit h r =
    refuse_passed _ BadLength _ r.fits
    ∙ refuse_passed _ OutOfRange _ (not_of_true (both_true r.downstream r.header))
    ∙ refuse_passed _ UnknownLlid _ (not_of_true r.has)
    ∙ refuse_passed _ EpamDiffers _ (then_both_false _ _ (λ s. not_of_true (eq-eqb _ _ (r.epam (eqb-true _ _ s)))))
    ∙ refuse_passed _ ClockNotSet _ (then_both_false _ _ (λ s. not_of_true (eq-eqb _ _ (r.synced (eqb-true _ _ s)))))
    ∙ r.choice
