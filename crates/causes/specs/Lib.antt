-- Each refusal of the script check, 1 to 11, on its cause and on no other: Places and Faults have the causes, Exact the theorems, Calls says it of
-- whole calls. 26 only through a formal: FormalCalls.
pub mod Sites
pub mod Places
pub mod Faults
pub mod FormalSites
pub mod FormalCalls
