pub mod Settings
pub mod Rights
pub mod Verdict
pub mod Judging
pub mod Loading
pub mod Claims
