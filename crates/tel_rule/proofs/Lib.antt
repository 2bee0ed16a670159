pub mod RisingLaws
pub mod NameSteps
pub mod NodeSteps
