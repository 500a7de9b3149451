pub mod Asked
pub mod Going
pub mod Passing
pub mod Kept
pub mod Boxed
pub mod Recorded
pub mod Sought
pub mod Changing
pub mod Holding
pub mod Shown
pub mod Answering
pub mod Steadiness
pub mod Promised
pub mod Numbered
pub mod Lasting
pub mod Refusing
mod Walks
mod Removals
mod Listings
mod Insertions
mod Steps
