pub mod Rules
pub mod Shapes
pub mod Numbering
pub mod Grounds
pub mod StableSets
pub mod ModuleClauses
