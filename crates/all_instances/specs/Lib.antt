pub mod Traces
pub mod AllInstances
pub mod Laws
