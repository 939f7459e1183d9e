pub mod IntervalLaws
pub mod RowLaws
