pub mod FetchPoi
