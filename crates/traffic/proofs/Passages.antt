-- Laws of what an end's decision makes of a payload: what a decision accepts, sealing accepts too. Assumes nothing.
use Rattle.std.specs.Prelude.{Ok, Err}
use mathlib.Core.Path.{◌≡◌, refl, ap, ◌∙◌}
use mathlib.Core.Bool.{Bool, true, false}
use mathlib.Core.List.{List, [], ◌∷◌}
use Prim.Native.Nat.{ℕ, ◌≤◌, ◌<◌}
use native.Mathlib.Omega.{arith}
use lib.ListN.{length}
use borrow.Author.Tests.{lt-ltb, not-false}
use Rattle.octets.specs.Choice.{pick}
use Rattle.octets.specs.Eqs.{max_eqs}
use Rattle.octets.proofs.Choice.{both_left, both_true, either_left, either_right, not_of_true}
use Rattle.octets.specs.Output.{with_output}
use Rattle.refusal.specs.declared.Refusal.TheVariants.{OutOfRange, BadLength}
use Rattle.refusal.specs.Order.{and_then}
use Rattle.refusal.proofs.Order.{refuse_passed}
use Rattle.clock.specs.Ticks.{clock_turn}
use Rattle.envelope.specs.ControlMask.{count_enciphered, eqs_of, runs}
use Rattle.envelope.specs.Acceptance.{nonce_fits, seal_verdict}
use Rattle.envelope.specs.Answer.{SealAnswer, seal_count, seal_runs}
use Rattle.envelope.specs.declared.Nonce.{Nonce}
use Rattle.envelope.proofs.Acceptance.{accepted, lengths_fit-holds}
use Rattle.sealing.specs.Payload.{sealed}
use Rattle.sealing.specs.Seal.{carried, count_carried, runs_carried, sealing_after, sealing}
use Rattle.ends.specs.Identities.{valid_mac, valid_identity}
use Rattle.protocol.specs.Lift.{Outcome}
use Rattle.protocol.specs.Replies.{reply}
use Rattle.protocol.specs.Headers.{choice_enciphered, no_passage}
use Rattle.ends.specs.declared.Identity.{Identity}
use Rattle.ends.specs.declared.Shared.{Shared}
use Rattle.ends.specs.declared.UnitRecord.{UnitRecord}
use Rattle.protocol.specs.declared.Passage.{Passage}
use Rattle.envelope.specs.Channels.{channel_fits, downstream, upstream}
use Rattle.unit.specs.Reached.{if_accepted, reached}
use Rattle.envelope.specs.declared.Work.{Work}
use Rattle.traffic.specs.Passages.{misfit, passed, passed_count, passed_runs, passed_work, output_after, carried_after}
use Rattle.refusal.specs.Verdict.{Verdict, no_refusal}

-- a payload whose length is not refused has at most the most EQs
pub few_eqs : (p out : List ℕ) → misfit p out ≡ false → eqs_of p ≤ max_eqs
unfolding misfit
few_eqs p out f = omega (arith, (lengths_fit-holds (length p) (length out) (not-false _ f)).bounded)

pub identity_mac : (i : Identity) → valid_identity i ≡ true → valid_mac i.mac ≡ true
unfolding valid_identity
identity_mac i e = both_left _ _ e

pub judged : (p out : List ℕ) (n : Nonce) → misfit p out ≡ false → nonce_fits n ≡ true → seal_verdict (length p) (length out) n ≡ no_refusal
unfolding misfit seal_verdict
judged p out n f e = refuse_passed _ BadLength _ f ∙ refuse_passed _ OutOfRange _ (not_of_true e)

-- what the OLT sends, and a unit receives
pub down_fits : (n : Nonce) → downstream n.channel ≡ true → valid_mac n.mac ≡ true → n.clock < clock_turn → nonce_fits n ≡ true
unfolding nonce_fits channel_fits valid_mac
down_fits n d m c = both_true (either_left _ d) (both_true m (lt-ltb n.clock clock_turn c))

-- what a unit sends, and the OLT receives
pub up_fits : (n : Nonce) → upstream n.channel ≡ true → valid_mac n.mac ≡ true → n.clock < clock_turn → nonce_fits n ≡ true
unfolding nonce_fits channel_fits valid_mac
up_fits n u m c = both_true (either_right _ u) (both_true m (lt-ltb n.clock clock_turn c))

-- accepted, sealing answers with the count and the runs, and writes the payload sealed or opened
pub sealing_carried : (enciphered : Bool) (w : List ℕ) (n : Nonce) (p out : List ℕ) (a : SealAnswer) (o : List ℕ)
    → with_output a o ≡ sealing enciphered w n p out → seal_verdict (length p) (length out) n ≡ no_refusal
    → with_output {R = Work} (record { count = seal_count a; runs = seal_runs a }) o
    ≡ with_output (record { count = count_carried enciphered p; runs = runs_carried enciphered p }) (carried enciphered w n p)
unfolding sealing sealing_after
sealing_carried enciphered w n p out a o e j =
    let k = rw j at e in
    rw (ap (λ y. y.answer) k, ap (λ y. y.output) k)

-- a refused call hands over nothing, so that nothing is counted
pub chosen_carried : {H : Type 0} (passage : H → Passage) (v : Verdict) (nothing handed : H) (channel : ℕ) (p out : List ℕ)
    → passage nothing ≡ no_passage
    → let q = passage (if_accepted v handed nothing) in
    carried_after v channel q p out ≡ with_output (passed_work q p) (output_after v (passed channel q p) out)
unfolding if_accepted carried_after output_after passed_count passed_runs choice_enciphered count_carried runs_carried pick
chosen_carried passage (Ok tt) nothing handed channel p out e = refl
chosen_carried passage (Err r) nothing handed channel p out e = rw e

pub reached_carried : {H : Type 0} (passage : H → Passage) (nothing : H) → passage nothing ≡ no_passage
    → (way : Verdict) (s : Shared) (u : UnitRecord) (c x : Outcome H) → x ≡ reached way nothing s u c → (channel : ℕ) (p out : List ℕ)
    → carried_after x.verdict channel (passage x.handed) p out
    ≡ with_output (passed_work (passage x.handed) p) (output_after x.verdict (passed channel (passage x.handed) p) out)
unfolding reached
reached_carried passage nothing e way s u c x f channel p out =
    rw f (chosen_carried passage (and_then way c.verdict) nothing c.handed channel p out e)

pub reply_carried : {E H : Type 0} (passage : H → Passage) (v : Verdict) (lent next : E) (nothing handed : H) (channel : ℕ) (p out : List ℕ)
    → passage nothing ≡ no_passage
    → let r = reply v lent nothing next handed in
    carried_after r.verdict channel (passage r.handed) p out
    ≡ with_output (passed_work (passage r.handed) p) (output_after r.verdict (passed channel (passage r.handed) p) out)
unfolding reply carried_after output_after passed_count passed_runs choice_enciphered count_carried runs_carried pick
reply_carried passage (Ok tt) lent next nothing handed channel p out e = refl
reply_carried passage (Err r) lent next nothing handed channel p out e = rw e

-- an empty payload passes enciphered as it passes clear
pub empty_carried : (b : Bool) (w : List ℕ) (n : Nonce) (p out : List ℕ) → length p ≡ 0 → seal_verdict (length p) (length out) n ≡ no_refusal
    → with_output {R = Work} (record { count = 0; runs = 0 }) out
    ≡ with_output (record { count = count_carried b p; runs = runs_carried b p }) (carried b w n p)
unfolding count_carried runs_carried carried count_enciphered runs sealed pick
empty_carried false w n [] [] h j = refl
empty_carried true w n [] [] h j = refl
empty_carried b w n [] (x ∷ out) h j =
    let z = (lengths_fit-holds (length {A = ℕ} []) (length (x ∷ out)) (accepted _ _ n j).0).same in absurd (omega arith)
empty_carried b w n (x ∷ p) out h j = absurd (omega arith)
