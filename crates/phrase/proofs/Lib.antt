pub mod Comment
pub mod Coordinates
pub mod Cutting
pub mod Decimals
pub mod Digits
pub mod Division
pub mod Euclid
mod Firsts
pub mod Greatest
pub mod Lowest
pub mod Marks
pub mod Names
mod Pieces
pub mod Ranks
pub mod ReadBack
pub mod Rows
pub mod Sofar
pub mod Spelling
