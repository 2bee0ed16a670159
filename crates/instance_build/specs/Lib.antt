pub mod FormulaValues
pub mod RuleAtoms
pub mod Guarded
pub mod Instances
pub mod Meaning
pub mod Placed
pub mod Laws
