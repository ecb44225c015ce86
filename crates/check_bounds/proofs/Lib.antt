pub mod Marks
pub mod HeadLaws
pub mod BlockTests
