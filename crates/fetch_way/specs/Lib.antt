pub mod FetchWay
