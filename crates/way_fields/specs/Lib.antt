pub mod WayFields
