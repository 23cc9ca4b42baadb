-- A step of the key exchange whose input is a kind and a key index (02, C-21). Assumes nothing.
use Rattle.std.specs.Prelude.{List, [], ◌∷◌, ℕ, Option, Some, None, get_or}
use Rattle.refusal.specs.declared.Refusal.TheVariants.{OutOfRange}
use Rattle.xgpon.specs.Answers.{refused}
use Rattle.xgpon.specs.Moves.{step_of}
use Rattle.xgpon.specs.declared.answers.Answer.{Answer}
use Rattle.xgpon.specs.declared.moves.Input.{Input}
use Rattle.xgpon.specs.declared.moves.Input.TheVariants.{NewKey, ExistingKey, Tk1Expires, Tk2Expires, Tk3Expires, Begin, BeginToSend, Rekey, KeyCheck}
use Rattle.xgpon.specs.declared.values.KeyExchange.{KeyExchange}

-- the inputs in the order of their kinds, from 1 (D106)
abbrev pub inputs : ℕ → List (Option Input)
inputs index =
    None
    ∷ Some (NewKey index)
    ∷ Some (ExistingKey index)
    ∷ Some Tk1Expires
    ∷ Some Tk2Expires
    ∷ Some Tk3Expires
    ∷ Some Begin
    ∷ Some BeginToSend
    ∷ Some Rekey
    ∷ Some KeyCheck
    ∷ []

abbrev pub input_of : ℕ → ℕ → Option Input
input_of kind index = get_or (inputs index) kind None

-- an unknown kind is a value outside its range: 1
abbrev pub step_on : KeyExchange → Option Input → Answer
step_on x (Some input) = step_of x input
step_on x None = refused x OutOfRange

abbrev pub step_by_kind : KeyExchange → ℕ → ℕ → Answer
step_by_kind x kind index = step_on x (input_of kind index)
