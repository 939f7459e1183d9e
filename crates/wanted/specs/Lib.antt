pub mod Taken
pub mod Wanted
pub mod WantedSays
pub mod DrivenLists
