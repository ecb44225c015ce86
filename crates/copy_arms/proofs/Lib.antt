pub mod Results
pub mod Entered
