pub mod Lines
pub mod EntryTexts
pub mod Texts
