-- Laws of sealing with EncEnabled as a number. Assumes nothing.
use mathlib.Core.Path.{◌≡◌, refl, ap}
use mathlib.Core.List.{List}
use Prim.Native.Nat.{ℕ, zero, suc, ◌≤◌, ◌<◌}
use native.Mathlib.Omega.{arith}
use lib.Dec.{eqb}
use lib.ListN.{length}
use Rattle.octets.specs.Output.{with_output}
use Rattle.envelope.specs.declared.Nonce.{Nonce}
use Rattle.envelope.specs.Answer.{SealAnswer}
use Rattle.sealing.specs.Seal.{sealing}
use Rattle.jazmotip.specs.Payloads.{payload_answer, flag_denied, sealing_by, in_numbers}

module _ (w : List ℕ) (n : Nonce) (p out : List ℕ) where
  -- above 1 the output is as it was
  pub flag_denied-holds : (f : ℕ) → 1 < f → with_output (payload_answer (flag_denied (length p) (length out))) out ≡ in_numbers (sealing_by f w n p out)
  unfolding sealing_by
  flag_denied-holds zero h = absurd (omega arith)
  flag_denied-holds (suc zero) h = absurd (omega arith)
  flag_denied-holds (suc (suc f)) h = refl

  pub flag_sealed : (f : ℕ) (a : SealAnswer) (o : List ℕ) → f ≤ 1 → with_output a o ≡ sealing (eqb f 1) w n p out
      → with_output (payload_answer a) o ≡ in_numbers (sealing_by f w n p out)
  unfolding sealing_by
  flag_sealed zero a o h e = ap in_numbers e
  flag_sealed (suc zero) a o h e = ap in_numbers e
  flag_sealed (suc (suc f)) a o h e = absurd (omega arith)

-- as attributes name it
pub ruleset denied = (flag_denied-holds)
