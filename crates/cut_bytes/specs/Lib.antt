pub mod OneCall
pub mod Reply
