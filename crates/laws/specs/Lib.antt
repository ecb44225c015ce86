-- Laws of lists, options and tests, and of the small functions of `language`, that more than one crate leans on.
pub mod Tests
pub mod Kinds
pub mod Lists
pub mod Tables
pub mod Readers
pub mod Fields
pub mod Reversed
pub mod Each
pub mod Order
pub mod Distinct
pub mod Lookup
pub mod Renaming
pub mod RenamedFields
pub mod Instances
pub mod Rising
pub mod Machines
