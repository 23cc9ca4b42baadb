-- Two units, either order (02, C-22): laws on the calls that stand. In the order of reading:
--   Calls        the OLT's calls that name a unit or a group, their answers and what they leave
--   Parties      whom a call means, and the calls that are excepted
--   EitherOrder  two calls of different parties may change places
--   Locality     what a unit's and a group's answers depend on
--   Advances     advances add up
--   Example      calls on a head end of two units and a group
--   Demand       all of it
pub mod Calls
pub mod Parties
pub mod EitherOrder
pub mod Locality
pub mod Advances
pub mod Example
pub mod Demand
