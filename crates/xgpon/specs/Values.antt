-- The states of the OLT, and the values that an exchange has in each (003, 15.5.3.2; 02, C-21). Assumes nothing.
use Rattle.std.specs.Prelude.{Bool, true, false, ◌&&◌, ℕ, zero, suc, eqb, leb, Option, Some, None}
use Rattle.xgpon.specs.declared.values.KeyExchange.{KeyExchange}
use Rattle.xgpon.specs.declared.values.State.{State}
use Rattle.xgpon.specs.declared.values.State.TheVariants.{KL0, KL1, KL2, KL3, KL4}

-- the number of a state
abbrev pub state_number : State → ℕ
state_number KL0 = 0
state_number KL1 = 1
state_number KL2 = 2
state_number KL3 = 3
state_number KL4 = 4

-- the state of that number
abbrev pub state_named : ℕ → Option State
state_named zero = Some KL0
state_named (suc zero) = Some KL1
state_named (suc (suc zero)) = Some KL2
state_named (suc (suc (suc zero))) = Some KL3
state_named (suc (suc (suc (suc zero)))) = Some KL4
state_named (suc (suc (suc (suc (suc n))))) = None

-- the OLT and the ONU have two keys each (003, 15.5.1: "an indexed array of two data encryption key entries"); 0 is no key's index
abbrev pub no_key : ℕ
no_key = 0

abbrev pub first_index : ℕ
first_index = 1

abbrev pub second_index : ℕ
second_index = 2

abbrev pub other_than_first : Bool → ℕ
other_than_first true = second_index
other_than_first false = first_index

-- the index of the key that is asked for while the one at `active` is in use: the first where there is none, else the other of the two (D105)
abbrev pub index_after : ℕ → ℕ
index_after active = other_than_first (eqb active first_index)

-- an exchange that has not begun: no keys
abbrev pub fresh_exchange : KeyExchange
fresh_exchange = record { state = state_number KL0; oldkey = no_key; newkey = no_key }

-- a new key is requested
abbrev pub requesting : ℕ → KeyExchange
requesting active = record { state = state_number KL1; oldkey = active; newkey = index_after active }

-- that state, with the keys as they are
abbrev pub in_state : State → KeyExchange → KeyExchange
in_state state x = record { state = state_number state; oldkey = x.oldkey; newkey = x.newkey }

-- in KL0 there are no keys
abbrev pub no_keys : ℕ → ℕ → Bool
no_keys oldkey newkey = eqb oldkey no_key && eqb newkey no_key

-- from KL1 on there may be an old key, and the new one follows on it
abbrev pub keys_of : ℕ → ℕ → Bool
keys_of oldkey newkey = leb oldkey second_index && eqb newkey (index_after oldkey)

abbrev pub keys_fit : State → ℕ → ℕ → Bool
keys_fit KL0 oldkey newkey = no_keys oldkey newkey
keys_fit KL1 oldkey newkey = keys_of oldkey newkey
keys_fit KL2 oldkey newkey = keys_of oldkey newkey
keys_fit KL3 oldkey newkey = keys_of oldkey newkey
keys_fit KL4 oldkey newkey = keys_of oldkey newkey

abbrev pub state_if : Bool → State → Option State
state_if true s = Some s
state_if false s = None

-- with its keys
abbrev pub state_with : Option State → ℕ → ℕ → Option State
state_with (Some s) oldkey newkey = state_if (keys_fit s oldkey newkey) s
state_with None oldkey newkey = None

-- the state that the numbers of an exchange stand for, none if they are outside their values
abbrev pub state_of : KeyExchange → Option State
state_of x = state_with (state_named x.state) x.oldkey x.newkey
