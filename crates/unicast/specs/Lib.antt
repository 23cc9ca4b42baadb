-- The theorem on the whole list (demand 3 of 01; 01, The line).
--
-- For every OLT and any number of fresh units, and for every list of events that meets the premises, the claim holds of what then
-- has come to pass. In the order of reading:
--   Setting   what a list starts from: the OLT's MAC and first clock, each unit's MAC, LLIDs, LocalTime and first delays up and down;
--             the clock at a tick, from these and the delay up at that tick alone
--   History   what has come to pass on each unit's line, from the calls and their answers alone: key n is that of the nth accepted
--             offer, a switch is told from offers, acknowledgements and ticks, an envelope's number from the switches and arrivals;
--             the present delays are part of a unit's line, and each envelope keeps the delay up of its tick
--   Events    advances, the calls of both ends, arrivals (what left earlier and has not arrived is lost), overheard receipts, path changes,
--             and any other receipt
--   Run       each event as the definition of its call, the one that the function's contract cites, and what it adds to the history
--   Premises  fresh ends; a registration agrees with its unit (MACs, LLIDs, LocalTime, delays); all keys different; units are
--             registered before they send; what arrives does so its delay after it left, with a fitting buffer; an acknowledgement
--             was handed over at least its delay ago; a path change is both ends' accepted call at one tick,
--             LocalTime follows the new delay up, and what is under way and every earlier clock acknowledgement is lost (02, C-16); any
--             other receipt is refused. Calls that are refused are bound by nothing
--   Claim     (0) every accepted send, arrived or lost, sealed under the key of its number and its sender's MAC and clock, and handed
--             over their header, octets, count and runs of the cipher; (1) every envelope that arrived was accepted, opened under that
--             key and counter block, and gave back its payload and count, by as many runs as its send; (2) two sealed envelopes that
--             share a key and a counter block are one, and so are the two block indices; (3) where the switches are n and an envelope
--             numbered n has arrived each way, both ends hold key n as A, C and a, the OLT in the record that has the unit's LLIDs;
--             (4) what another registered unit overhears is refused, 14 for its buffer, else 2 downstream and 1 upstream, and leaves
--             unit and buffer as they were
--   Bounds    what the invariant keeps beside the claim, and crate progress reads
--   Example   a list that meets the premises, with refused calls of every kind
--   Course    how it runs: which calls were refused, what was sent and what arrived
--   Demand    the theorem as one statement, and what it says of the example
-- That the line never freezes is in crate progress.
pub mod Setting
pub mod History
pub mod Events
pub mod Run
pub mod Premises
pub mod Claim
pub mod Bounds
pub mod Example
pub mod Course
pub mod Demand
