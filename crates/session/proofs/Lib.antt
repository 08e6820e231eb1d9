pub mod Digits
pub mod Words
pub mod Numbers
pub mod Names
