-- Laws of the membership table and of the list of groups beside it, in reading order.
pub mod Pairs
pub mod TakingOut
pub mod Rightness
pub mod Changes
pub mod Places
pub mod Tallied
pub mod RightLists
pub mod Listing
pub mod ByList
