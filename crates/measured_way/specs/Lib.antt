pub mod MeasuredWay
