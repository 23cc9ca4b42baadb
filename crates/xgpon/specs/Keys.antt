-- Which keys may be sent under and received under in each state, in terms of the old and the new index (003, 15.5.3.2; 02, C-21).
-- Assumes nothing.
use Rattle.std.specs.Prelude.{ℕ, Option, Some, None}
use Rattle.refusal.specs.Number.{number_of}
use Rattle.refusal.specs.declared.Refusal.TheVariants.{OutOfRange}
use Rattle.xgpon.specs.Values.{no_key, state_of}
use Rattle.xgpon.specs.declared.keys.ValidKeys.{ValidKeys}
use Rattle.xgpon.specs.declared.values.KeyExchange.{KeyExchange}
use Rattle.xgpon.specs.declared.values.State.{State}
use Rattle.xgpon.specs.declared.values.State.TheVariants.{KL0, KL1, KL2, KL3, KL4}

abbrev pub valid_keys : ℕ → ℕ → ValidKeys
valid_keys oldkey newkey = record { number = 0; oldkey = oldkey; newkey = newkey }

-- a lent state outside its values is refused 1
abbrev pub outside_keys : ValidKeys
outside_keys = record { number = number_of OutOfRange; oldkey = no_key; newkey = no_key }

-- valid to transmit
abbrev pub to_send_in : State → KeyExchange → ValidKeys
-- a) "No keys are valid to receive and/or transmit"
to_send_in KL0 x = valid_keys no_key no_key
-- b) "the old key remains valid to receive and valid to transmit"
to_send_in KL1 x = valid_keys x.oldkey no_key
-- c) "the new key is valid to transmit", and so is the old key
to_send_in KL2 x = valid_keys x.oldkey x.newkey
-- d) the old key "becomes invalid to transmit"
to_send_in KL3 x = valid_keys no_key x.newkey
-- e) "The new key is the only active key for receive and transmit"
to_send_in KL4 x = valid_keys no_key x.newkey

-- valid to receive
abbrev pub to_receive_in : State → KeyExchange → ValidKeys
-- a) "No keys are valid to receive and/or transmit"
to_receive_in KL0 x = valid_keys no_key no_key
-- b) the new key "is invalid to receive"
to_receive_in KL1 x = valid_keys x.oldkey no_key
-- c) the new key is "invalid to receive"; the old key "is valid to receive"
to_receive_in KL2 x = valid_keys x.oldkey no_key
-- d) "The new key becomes valid to receive", the old key "remains valid to receive"
to_receive_in KL3 x = valid_keys x.oldkey x.newkey
-- e) "The new key is the only active key for receive and transmit"
to_receive_in KL4 x = valid_keys no_key x.newkey

abbrev pub keys_in : (State → KeyExchange → ValidKeys) → Option State → KeyExchange → ValidKeys
keys_in valid (Some state) x = valid state x
keys_in valid None x = outside_keys

abbrev pub sent_under : KeyExchange → ValidKeys
sent_under x = keys_in to_send_in (state_of x) x

abbrev pub received_under : KeyExchange → ValidKeys
received_under x = keys_in to_receive_in (state_of x) x
