pub mod TypeLaws
pub mod FillLaws
pub mod NotedLaws
