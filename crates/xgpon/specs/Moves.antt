-- The moves of the OLT, state by state (003, 15.5.3.2). A row gives the next state, the message, the timers that start and those that stop,
-- and cites the letter of the text, or the figure (15-4), that it is from (D103). What a letter says of timers it leaves to the figure, which sets
-- them, and to their definitions: TK1 limits the time in KL1, KL2 and KL3, TK2 that in KL1, TK3 that in KL3. Where nothing gives a move,
-- nothing changes, and a report of another index than the awaited one is 25 (02, C-21). Assumes nothing.
use Rattle.std.specs.Prelude.{Option, Some, None}
use Rattle.refusal.specs.declared.Refusal.TheVariants.{OutOfRange}
use Rattle.xgpon.specs.Answers.{accepted, awaited, confirm, generate, refused, silent, stays}
use Rattle.xgpon.specs.Timers.{no_timer, only_tk2, only_tk3, tk1_and_tk2, tk1_and_tk3}
use Rattle.xgpon.specs.Values.{fresh_exchange, in_state, index_after, no_key, requesting, state_of}
use Rattle.xgpon.specs.declared.answers.Answer.{Answer}
use Rattle.xgpon.specs.declared.moves.Input.{Input}
use Rattle.xgpon.specs.declared.moves.Input.TheVariants.{NewKey, ExistingKey, Tk1Expires, Tk2Expires, Tk3Expires, Begin, BeginToSend, Rekey, KeyCheck}
use Rattle.xgpon.specs.declared.values.KeyExchange.{KeyExchange}
use Rattle.xgpon.specs.declared.values.State.{State}
use Rattle.xgpon.specs.declared.values.State.TheVariants.{KL0, KL1, KL2, KL3, KL4}

-- a) Key Inactive state (KL0): no report is awaited
abbrev pub in_kl0 : KeyExchange → Input → Answer
-- a) "When the OLT decides to initiate the unicast data encryption key exchange, it moves to the Key Request state"; figure: Set TK1, Set TK2
in_kl0 x Begin = accepted (requesting no_key) (generate (index_after no_key)) tk1_and_tk2 no_timer
-- no move
in_kl0 x (NewKey i) = stays x
in_kl0 x (ExistingKey i) = stays x
in_kl0 x Tk1Expires = stays x
in_kl0 x Tk2Expires = stays x
in_kl0 x Tk3Expires = stays x
in_kl0 x BeginToSend = stays x
in_kl0 x Rekey = stays x
in_kl0 x KeyCheck = stays x

-- b) Key Request state (KL1): the report of the new key is awaited
abbrev pub in_kl1 : KeyExchange → Input → Answer
-- b) "Once a Key_Report(NewKey) PLOAM message is received, the OLT moves to the Key Confirm state"
in_kl1 x (NewKey i) = awaited x i (accepted (in_state KL2 x) silent no_timer only_tk2)
-- b) "If timer TK1 expires and no Key_Report(NewKey) message is received, the OLT initiates a new key request"; figure: Set TK1, Set TK2
in_kl1 x Tk1Expires = accepted x (generate x.newkey) tk1_and_tk2 no_timer
-- figure: on "Timer TK2 expires" KL1 is entered anew: Send Key_Control (new), Set TK2
in_kl1 x Tk2Expires = accepted x (generate x.newkey) only_tk2 no_timer
-- no move
in_kl1 x (ExistingKey i) = awaited x i (stays x)
in_kl1 x Tk3Expires = stays x
in_kl1 x Begin = stays x
in_kl1 x BeginToSend = stays x
in_kl1 x Rekey = stays x
in_kl1 x KeyCheck = stays x

-- c) Key Confirm state (KL2): no report is awaited
abbrev pub in_kl2 : KeyExchange → Input → Answer
-- c) "The OLT selects the moment to begin encrypting XGEM payload with the new key"; d) Confirm is sent; figure: Set TK3
in_kl2 x BeginToSend = accepted (in_state KL3 x) (confirm x.newkey) only_tk3 no_timer
-- figure: "Timer TK1 expires" leads to KL0
in_kl2 x Tk1Expires = accepted fresh_exchange silent no_timer no_timer
-- no move
in_kl2 x (NewKey i) = stays x
in_kl2 x (ExistingKey i) = stays x
in_kl2 x Tk2Expires = stays x
in_kl2 x Tk3Expires = stays x
in_kl2 x Begin = stays x
in_kl2 x Rekey = stays x
in_kl2 x KeyCheck = stays x

-- d) Key Confirm Waiting state (KL3): the report that confirms the new key is awaited
abbrev pub in_kl3 : KeyExchange → Input → Answer
-- d) "Once a Key_Report(ExistingKey) PLOAM is received, the OLT moves to the Key Active state"
in_kl3 x (ExistingKey i) = awaited x i (accepted (in_state KL4 x) silent no_timer tk1_and_tk3)
-- d) "If timer TK2 expires and no Key_Report(ExistingKey) has been received, the OLT sends a new Key_Control(Confirm)"; figure: Set TK3
in_kl3 x Tk2Expires = accepted x (confirm x.newkey) only_tk3 no_timer
-- figure: on "Timer TK3 expires" KL3 is entered anew: Send Key_Control (confirm), Set TK3
in_kl3 x Tk3Expires = accepted x (confirm x.newkey) only_tk3 no_timer
-- figure: "Timer TK1 expires" leads to KL0
in_kl3 x Tk1Expires = accepted fresh_exchange silent no_timer only_tk3
-- no move
in_kl3 x (NewKey i) = awaited x i (stays x)
in_kl3 x Begin = stays x
in_kl3 x BeginToSend = stays x
in_kl3 x Rekey = stays x
in_kl3 x KeyCheck = stays x

-- e) Key Active state (KL4): reports are of the active key
abbrev pub in_kl4 : KeyExchange → Input → Answer
-- e) "If a rekey is required, the OLT moves to the Key Request state"; figure: Set TK1, Set TK2
in_kl4 x Rekey = accepted (requesting x.newkey) (generate (index_after x.newkey)) tk1_and_tk2 no_timer
-- e) "If a key check is required, the OLT sends a Key_Control(Confirm) PLOAM message, but no state transition occurs"
in_kl4 x KeyCheck = accepted x (confirm x.newkey) no_timer no_timer
-- no move
in_kl4 x (NewKey i) = awaited x i (stays x)
in_kl4 x (ExistingKey i) = awaited x i (stays x)
in_kl4 x Tk1Expires = stays x
in_kl4 x Tk2Expires = stays x
in_kl4 x Tk3Expires = stays x
in_kl4 x Begin = stays x
in_kl4 x BeginToSend = stays x

-- an exchange outside its values is refused 1 and stays (02, C-21)
abbrev pub move_in : Option State → KeyExchange → Input → Answer
move_in (Some KL0) x input = in_kl0 x input
move_in (Some KL1) x input = in_kl1 x input
move_in (Some KL2) x input = in_kl2 x input
move_in (Some KL3) x input = in_kl3 x input
move_in (Some KL4) x input = in_kl4 x input
move_in None x input = refused x OutOfRange

abbrev pub step_of : KeyExchange → Input → Answer
step_of x input = move_in (state_of x) x input
