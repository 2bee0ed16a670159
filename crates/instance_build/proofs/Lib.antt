pub mod FormulaLayers
pub mod NodesAdded
pub mod Valued
pub mod InRange
pub mod Said
pub mod ListsInRange
pub mod Rows
