pub mod FirstUip
pub mod LearntClause
pub mod Room
pub mod Noted
pub mod Lending
