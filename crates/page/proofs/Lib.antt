pub mod Cutting
pub mod Listing
