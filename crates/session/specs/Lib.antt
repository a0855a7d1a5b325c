pub mod Answers
pub mod Alone
pub mod Boards
pub mod Image
pub mod Session
