-- The theorem on the whole list, groups and path changes included (demand 3 of 01; 02, C-14, C-16).
--
-- For every OLT and any number of fresh units, and for every list of events that meets the premises, the claim holds of what then has come
-- to pass. Setting, and what the units' own lines note, are those of the theorem without groups (unicast). In the order of reading:
--   History   what has come to pass of groups: key n is that of a group's nth accepted offer, a switch is told from offers and ticks, what is
--             under way of a group is a queue for each unit; the groups that a unit joined, and which keys' messages it has accepted since
--   Events    those without groups, and register group, join, what arrives of a group, acknowledgements of its keys, what is overheard of it
--   Run       each event as the definition of its call, and what it adds to the history; `alone` is the line without the groups
--   Premises  as without groups; all keys of units and groups different; a member does not overhear its own group's envelopes; a path
--             change loses what is under way to the unit of groups too, and its acknowledgements of their keys may leave again
--   Claim     that of the units; (2) no two sealed envelopes, of units and groups together, share a key and a counter block; (4) what is
--             overheard leaves the unit as it was, and is refused where the unit has not joined the LLID; (5) every accepted send to a group
--             handed over what number, key, the OLT's MAC and clock give; (6) an envelope of a group that arrived at a unit which had joined
--             was accepted and gave back payload and count if it was clear, or if the unit was synced and had accepted its key's message
--             since; a sealed one is refused 5 by a unit that is not synced; a key that the unit acknowledged brings it back, once it is
--             synced; what arrives of a group leaves the units' own lines
--   Without   lists without groups and joins run as before, and lists without path changes
--   Example   a list with a group that meets the premises: one of two members misses a key and comes back, and its path changes
--   Course    how it runs: which calls were refused, what was sent and what arrived
--   Demand    the theorem as one statement, and what it says of the example
-- That the line never freezes is in crate progress.
pub mod History
pub mod Events
pub mod Run
pub mod Premises
pub mod Claim
pub mod Without
pub mod Example
pub mod Course
pub mod Demand
