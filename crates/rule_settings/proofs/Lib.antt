pub mod Pushed
pub mod Numbered
pub mod Firsts
pub mod Moved
pub mod Steps
pub mod Bodies
pub mod Marked
pub mod Examples
