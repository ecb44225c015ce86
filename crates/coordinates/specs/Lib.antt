-- Names as coordinates: where the frame machine finds a name is known from the text, by level and position. The definitions are in Enclosure
-- and Chain (and Index); a reader who wants the theorems alone reads Coordinates, Display, Index, Sound, Next and Links.
pub mod Enclosure
pub mod Chain
pub mod Made
