pub mod TagIds
