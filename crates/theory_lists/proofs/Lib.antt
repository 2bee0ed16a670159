pub mod Agreeing
pub mod AtomOrder
pub mod RenamedHolds
pub mod SameLists
pub mod SamePrint
pub mod Examples
