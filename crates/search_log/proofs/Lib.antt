pub mod Sorting
pub mod SameClauses
pub mod SameWalks
pub mod SameLogs
pub mod WrittenLines
pub mod HeldLines
