pub mod JoinedGroups
pub mod OneGroup
pub mod Walks
