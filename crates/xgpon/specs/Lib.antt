-- The OLT's key exchange with one ONU of an XG-PON line (003, 15.5.3.2: Rec. ITU-T G.987.3; 02, C-21). In the order of reading:
--   Values    the five states, the two key indices, and the values that an exchange has in each state
--   Timers    TK1, TK2 and TK3, and what they are recommended to start from
--   Answers   what a step answers: code, next state, message, timers that start and stop
--   Moves     the table: what each state does with each input
--   Keys      which keys may be sent under and received under in each state
--   Run       lists of inputs, with the timers that run and the keys that were reported, told from inputs and answers
--   Laws      what holds of every step and of every list of inputs
-- Deriving keys, their names and their transport are left out.
pub mod Values
pub mod Timers
pub mod Answers
pub mod Moves
pub mod Keys
pub mod Run
pub mod Laws
