-- What has come to pass, told from the inputs and their answers alone: the timers that run and the keys that the unit has reported (02, C-21).
-- Assumes nothing.
use Rattle.std.specs.Prelude.{Bool, false, not, ◌&&◌, ◌||◌, List, [], ◌∷◌, ℕ, zero, suc, eqb}
use Rattle.xgpon.specs.Answers.{generate_kind}
use Rattle.xgpon.specs.Moves.{step_of}
use Rattle.xgpon.specs.Timers.{no_timer}
use Rattle.xgpon.specs.Values.{fresh_exchange}
use Rattle.xgpon.specs.declared.answers.Answer.{Answer}
use Rattle.xgpon.specs.declared.answers.KeyControl.{KeyControl}
use Rattle.xgpon.specs.declared.moves.Input.{Input}
use Rattle.xgpon.specs.declared.moves.Input.TheVariants.{NewKey, ExistingKey, Tk1Expires, Tk2Expires, Tk3Expires, Begin, BeginToSend, Rekey, KeyCheck}
use Rattle.xgpon.specs.declared.timers.Timers.{Timers}
use Rattle.xgpon.specs.declared.values.KeyExchange.{KeyExchange}

pub record Past : Type 0 where
  pub exchange : KeyExchange
  pub running : Timers
  -- of each index, whether the unit has reported a new key since it was last asked for one
  pub reported : ℕ → Bool

abbrev pub start : Past
start = record { exchange = fresh_exchange; running = no_timer; reported = λ i. false }

-- the timers that run while an input is answered: one that expires runs no more
abbrev pub running_at : Input → Timers → Timers
running_at Tk1Expires t = record { tk1 = 0; tk2 = t.tk2; tk3 = t.tk3 }
running_at Tk2Expires t = record { tk1 = t.tk1; tk2 = 0; tk3 = t.tk3 }
running_at Tk3Expires t = record { tk1 = t.tk1; tk2 = t.tk2; tk3 = 0 }
running_at (NewKey i) t = t
running_at (ExistingKey i) t = t
running_at Begin t = t
running_at BeginToSend t = t
running_at Rekey t = t
running_at KeyCheck t = t

-- a timer runs on from its start, not on from its stop, and else as it did
abbrev pub runs_on : ℕ → ℕ → ℕ → ℕ
runs_on (suc started) stops running = 1
runs_on zero (suc stopped) running = 0
runs_on zero zero running = running

abbrev pub running_after : Answer → Timers → Timers
running_after a t =
    record {
      tk1 = runs_on a.starts.tk1 a.stops.tk1 t.tk1;
      tk2 = runs_on a.starts.tk2 a.stops.tk2 t.tk2;
      tk3 = runs_on a.starts.tk3 a.stops.tk3 t.tk3;
    }

-- a Generate asks for a new key at its index
abbrev pub asks_for : KeyControl → ℕ → Bool
asks_for m i = eqb m.kind generate_kind && eqb m.index i

-- a Key_Report(NewKey) that is not refused reports one
abbrev pub reports : Input → Answer → ℕ → Bool
reports (NewKey j) a i = eqb a.number 0 && eqb j i
reports (ExistingKey j) a i = false
reports Tk1Expires a i = false
reports Tk2Expires a i = false
reports Tk3Expires a i = false
reports Begin a i = false
reports BeginToSend a i = false
reports Rekey a i = false
reports KeyCheck a i = false

unfoldable pub reported_after : Input → Answer → (ℕ → Bool) → ℕ → Bool
reported_after input a reported i = reports input a i || (not (asks_for a.message i) && reported i)

abbrev pub answered : Past → Input → Answer → Past
answered p input a =
    record {
      exchange = a.exchange;
      running = running_after a (running_at input p.running);
      reported = reported_after input a p.reported;
    }

unfoldable pub played : List Input → Past → Past
played [] p = p
played (input ∷ inputs) p = played inputs (answered p input (step_of p.exchange input))
