pub mod Outcomes
pub mod Replies
pub mod Requests
pub mod Responses
