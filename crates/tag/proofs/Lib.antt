pub mod TagLaws
pub mod RawLaws
pub mod ValueLaws
