pub mod HeadLaws
pub mod NodeLaws
pub mod TagLaws
pub mod ListLaws
pub mod IntervalLaws
pub mod CutOffLaws
pub mod EmptyFigures
pub mod EmptyLaws
