mod Counting
mod Covering
mod Pieces
mod Reach
mod Sides
