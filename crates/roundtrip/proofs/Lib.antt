pub mod ReadBack
pub mod OnlyItsOwn
pub mod Wrapped
