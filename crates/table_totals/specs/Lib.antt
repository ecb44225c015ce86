-- Sums over the places of a list, and what they say of a table's pairs.
pub mod Totals
pub mod Placed
