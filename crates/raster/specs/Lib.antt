pub mod Drawable
pub mod Fitting
pub mod Pictures
pub mod Signs
pub mod Statements
pub mod Windows
