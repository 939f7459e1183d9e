pub mod WayHead
