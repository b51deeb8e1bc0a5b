pub mod Digit
pub mod Given
