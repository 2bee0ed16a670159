pub mod Given
pub mod Grammar
pub mod Outcomes
pub mod Programs
pub mod Reading
