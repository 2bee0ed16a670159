pub mod Given
pub mod Grammar
pub mod Points
pub mod Reached
pub mod Reading
pub mod Senses
pub mod Variables
