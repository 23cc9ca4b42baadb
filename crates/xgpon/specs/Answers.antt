-- What a step answers (02, C-21). Assumes nothing.
use Rattle.std.specs.Prelude.{Bool, true, false, ℕ, eqb}
use Rattle.refusal.specs.Number.{number_of}
use Rattle.refusal.specs.declared.Refusal.{Refusal}
use Rattle.refusal.specs.declared.Refusal.TheVariants.{OtherKeyIndex}
use Rattle.xgpon.specs.Timers.{no_timer}
use Rattle.xgpon.specs.declared.answers.Answer.{Answer}
use Rattle.xgpon.specs.declared.answers.KeyControl.{KeyControl}
use Rattle.xgpon.specs.declared.timers.Timers.{Timers}
use Rattle.xgpon.specs.declared.values.KeyExchange.{KeyExchange}

-- no message
abbrev pub silent : KeyControl
silent = record { kind = 0; index = 0 }

abbrev pub generate_kind : ℕ
generate_kind = 1

abbrev pub confirm_kind : ℕ
confirm_kind = 2

-- Key_Control(Generate) and Key_Control(Confirm), with the key index
abbrev pub generate : ℕ → KeyControl
generate index = record { kind = generate_kind; index = index }

abbrev pub confirm : ℕ → KeyControl
confirm index = record { kind = confirm_kind; index = index }

-- the next state, the message to send, the timers that start and those that stop
abbrev pub accepted : KeyExchange → KeyControl → Timers → Timers → Answer
accepted next message starts stops = record { number = 0; exchange = next; message = message; starts = starts; stops = stops }

-- no move: nothing changes
abbrev pub stays : KeyExchange → Answer
stays x = accepted x silent no_timer no_timer

-- a refusal leaves the state, sends nothing and touches no timer
abbrev pub refused : KeyExchange → Refusal → Answer
refused x r = record { number = number_of r; exchange = x; message = silent; starts = no_timer; stops = no_timer }

-- a report of the awaited index gets the answer, one of another index 25 (D104)
abbrev pub answer_if : Bool → Answer → Answer → Answer
answer_if true answer otherwise = answer
answer_if false answer otherwise = otherwise

abbrev pub awaited : KeyExchange → ℕ → Answer → Answer
awaited x index answer = answer_if (eqb index x.newkey) answer (refused x OtherKeyIndex)
