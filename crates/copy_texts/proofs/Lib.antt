pub mod Renewing
pub mod Going
pub mod Filling
