pub mod Rule
pub mod Steps
