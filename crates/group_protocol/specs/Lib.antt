-- Groups (02, C-14; 001, 11.3.3.3 and 11.3.4): one key goes to every member, each answers by itself, and a key that goes downstream only is
-- switched by its timer alone. In the order of reading: Members and Head are the OLT's record of groups, GroupCalls its calls on one,
-- Subscriber what a unit joined, JoinedCalls its calls on one. Naming says whom a call means, AsUnit that a group is a unit whose C is A;
-- Worked are examples.
pub mod Limits
pub mod Members
pub mod Head
pub mod GroupCalls
pub mod Naming
pub mod AsUnit
pub mod Subscriber
pub mod JoinedCalls
pub mod Worked
