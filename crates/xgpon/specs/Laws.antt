-- What holds of every step, and of every list of inputs from a fresh exchange (02, C-21). Assumes nothing.
use Rattle.std.specs.Prelude.{true, List, Option, Some, None, ◌⊎◌, ◌≡◌, ℕ, ◌≤◌}
use Rattle.refusal.specs.declared.Refusal.TheVariants.{OutOfRange}
use Rattle.xgpon.specs.Answers.{generate, refused}
use Rattle.xgpon.specs.Keys.{received_under, sent_under}
use Rattle.xgpon.specs.Moves.{step_of}
use Rattle.xgpon.specs.Run.{Past, played, running_at, start}
use Rattle.xgpon.specs.Values.{state_of}
use Rattle.xgpon.specs.declared.answers.Answer.{Answer}
use Rattle.xgpon.specs.declared.keys.ValidKeys.{ValidKeys}
use Rattle.xgpon.specs.declared.moves.Input.{Input}
use Rattle.xgpon.specs.declared.timers.Timers.{Timers}
use Rattle.xgpon.specs.declared.values.KeyExchange.{KeyExchange}
use Rattle.xgpon.specs.declared.values.State.{State}
use Rattle.xgpon.specs.declared.values.State.TheVariants.{KL0, KL1, KL4}

-- the key at that index is one of those that are valid
pub record Among (keys : ValidKeys) (i : ℕ) : Type 0 where
  pub index : 1 ≤ i
  pub one : (i ≡ keys.oldkey) ⊎ (i ≡ keys.newkey)

-- where a Generate is sent: an exchange begins in KL0 and KL4 alone; in KL1 the key of the exchange that is under way is asked for again
pub data Asking (x : KeyExchange) (a : Answer) : Option State → Type 0 where
  begun : Asking x a (Some KL0)
  anew : Asking x a (Some KL4)
  again : a.exchange ≡ x → Asking x a (Some KL1)

-- each timer of the first is one of the second
pub record Within (some all : Timers) : Type 0 where
  pub tk1 : some.tk1 ≤ all.tk1
  pub tk2 : some.tk2 ≤ all.tk2
  pub tk3 : some.tk3 ≤ all.tk3

-- what a list of inputs leads to
abbrev pub after : List Input → Past
after inputs = played inputs start

pub record Laws : Type 0 where
  -- a key that may be sent under was reported by the unit before
  pub reported : (inputs : List Input) (i : ℕ) → Among (sent_under (after inputs).exchange) i → (after inputs).reported i ≡ true
  -- and so was one that may be received under
  pub reported_to_receive : (inputs : List Input) (i : ℕ) → Among (received_under (after inputs).exchange) i → (after inputs).reported i ≡ true
  -- the old key is never valid in KL4
  pub old_not_sent : (x : KeyExchange) → state_of x ≡ Some KL4 → Among (sent_under x) x.oldkey → ⊥
  pub old_not_received : (x : KeyExchange) → state_of x ≡ Some KL4 → Among (received_under x) x.oldkey → ⊥
  -- Generate begins an exchange only from KL0 and KL4
  pub begins : (x : KeyExchange) (input : Input) (i : ℕ) → (step_of x input).message ≡ generate i → Asking x (step_of x input) (state_of x)
  -- timers named as stopped were running
  pub stopped : (inputs : List Input) (input : Input)
      → Within (step_of (after inputs).exchange input).stops (running_at input (after inputs).running)
  -- a run never leaves the five states, and they have no other values than those that a run leads to
  pub inside : (inputs : List Input) → state_of (after inputs).exchange ≡ None → ⊥
  pub reached : (x : KeyExchange) → (state_of x ≡ None → ⊥) → (inputs : List Input) × ((after inputs).exchange ≡ x)
  -- a lent state outside its values is refused 1 and stays
  pub outside : (x : KeyExchange) (input : Input) → state_of x ≡ None → step_of x input ≡ refused x OutOfRange
