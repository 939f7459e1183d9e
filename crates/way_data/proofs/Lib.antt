pub mod CoordinateLaws
pub mod NodeLaws
pub mod BlockLaws
pub mod ReplyLaws
pub mod AloneLaws
