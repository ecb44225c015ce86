-- What reading a list says of its places, and how that and full counts come to what the definitions ask.
pub mod Reads
pub mod Agreeing
pub mod Filled
