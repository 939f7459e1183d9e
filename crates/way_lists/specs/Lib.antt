pub mod WayLists
