-- Laws of the call that seals or opens. Assumes nothing.
use Rattle.std.specs.Prelude.{Ok, Err}
use mathlib.Core.Path.{◌≡◌, refl}
use mathlib.Core.Bool.{Bool, true, false}
use mathlib.Core.List.{List}
use Prim.Native.Nat.{ℕ}
use lib.ListN.{length}
use Rattle.octets.specs.Choice.{pick}
use Rattle.octets.specs.Output.{with_output}
use Rattle.refusal.specs.declared.Refusal.{Refusal}
use Rattle.envelope.specs.Acceptance.{seal_verdict}
use Rattle.envelope.specs.ControlMask.{count_enciphered, runs}
use Rattle.envelope.specs.declared.Nonce.{Nonce}
use Rattle.envelope.proofs.Acceptance.{accepted, lengths_fit-holds}
use Rattle.sealing.specs.Payload.{sealed}
use Rattle.sealing.specs.Seal.{carried, count_carried, runs_carried, sealing_after, sealing}
use Rattle.sealing.proofs.Payload.{sealed_length, sealed_twice, count_sealed, runs_sealed}
use Rattle.refusal.specs.Verdict.{Verdict, no_refusal}

module _ (w : List ℕ) (n : Nonce) (p out : List ℕ) where
  -- refused: the code, and the output as it was
  pub sealing_refused : (enciphered : Bool) (r : Refusal) → seal_verdict (length p) (length out) n ≡ Err r
      → with_output (Err r) out ≡ sealing enciphered w n p out
  unfolding sealing sealing_after
  sealing_refused enciphered r e = rw e

  pub sealing_done : (enciphered : Bool) → enciphered ≡ true → seal_verdict (length p) (length out) n ≡ no_refusal
      → with_output (Ok (record { count = count_enciphered p; runs = runs p })) (sealed w n p) ≡ sealing enciphered w n p out
  unfolding sealing sealing_after carried count_carried runs_carried pick
  sealing_done enciphered b e = rw (e, b)

  pub sealing_clear : (enciphered : Bool) → enciphered ≡ false → seal_verdict (length p) (length out) n ≡ no_refusal
      → with_output (Ok (record { count = 0; runs = 0 })) p ≡ sealing enciphered w n p out
  unfolding sealing sealing_after carried count_carried runs_carried pick
  sealing_clear enciphered b e = rw (e, b)

-- accepted, the payload goes into the output as it would go into its own place
pub sealing_apart : (enciphered : Bool) (w : List ℕ) (n : Nonce) (p out : List ℕ) → seal_verdict (length p) (length out) n ≡ no_refusal
    → sealing enciphered w n p p ≡ sealing enciphered w n p out
unfolding sealing sealing_after
sealing_apart enciphered w n p out e =
    let same : length out ≡ length p = (lengths_fit-holds _ _ (accepted _ _ _ e).0).same in
    let here : seal_verdict (length p) (length p) n ≡ no_refusal = rw same at e in
    rw (here, e)

-- the key matters to an accepted enciphered call alone
pub sealing_key : (enciphered : Bool) (w v : List ℕ) (n : Nonce) (p out : List ℕ)
    → (enciphered ≡ true → seal_verdict (length p) (length out) n ≡ no_refusal → w ≡ v)
    → sealing enciphered w n p out ≡ sealing enciphered v n p out
unfolding sealing sealing_after carried pick
sealing_key enciphered w v n p out h = after (seal_verdict (length p) (length out) n) enciphered h where
  after : (verdict : Verdict) (t : Bool) → (t ≡ true → verdict ≡ no_refusal → w ≡ v)
      → sealing_after verdict t w n p out ≡ sealing_after verdict t v n p out
  after (Ok tt) true h = rw (h refl refl)
  after (Ok tt) false h = refl
  after (Err r) t h = refl

---- what an envelope carries

pub carried_length : (t : Bool) (w : List ℕ) (n : Nonce) (p : List ℕ) → length (carried t w n p) ≡ length p
unfolding carried pick
carried_length true w n p = sealed_length w n p
carried_length false w n p = refl

pub carried_twice : (t : Bool) (w : List ℕ) (n : Nonce) (p : List ℕ) → carried t w n (carried t w n p) ≡ p
unfolding carried pick
carried_twice true w n p = sealed_twice w n p
carried_twice false w n p = refl

pub count_carried-holds : (t : Bool) (w : List ℕ) (n : Nonce) (p : List ℕ) → count_carried t (carried t w n p) ≡ count_carried t p
unfolding carried count_carried pick
count_carried-holds true w n p = count_sealed w n p
count_carried-holds false w n p = refl

-- 02, C-17: an envelope's receipt runs the cipher as often as its send
pub runs_carried-holds : (t : Bool) (w : List ℕ) (n : Nonce) (p : List ℕ) → runs_carried t (carried t w n p) ≡ runs_carried t p
unfolding carried runs_carried pick
runs_carried-holds true w n p = runs_sealed w n p
runs_carried-holds false w n p = refl
