-- The line never freezes: from wherever a list of calls leads, something can still arrive. A theorem beside demand 3 of 01, on the lists,
-- the premises and the example of unicast and line; docs/PROGRESS.md has it in plain words. In the order of reading:
--   Progress       a unit's own line: a continuation, computed from the history, after which both ends hold the unit's next key and an
--                  envelope under it has arrived each way; also the recipe that a host follows
--   Frozen         what is truly stuck stays so, whatever follows
--   Stuck          lists that lead there, so that the exception of Progress is needed, and what only looks stuck
--   LineProgress   that continuation goes on a line with groups as it does without, and leaves their lines as they were
--   GroupProgress  continuations for a group, after which every joined member that is synced has opened its next envelope; and every joined
--                  member, where their clocks come first
--   Returned       these on the example's list
--   Demand         the theorems as one statement
pub mod Progress
pub mod Frozen
pub mod Stuck
pub mod LineProgress
pub mod GroupProgress
pub mod Returned
pub mod Demand
