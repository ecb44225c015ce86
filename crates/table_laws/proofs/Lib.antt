pub mod ByList
