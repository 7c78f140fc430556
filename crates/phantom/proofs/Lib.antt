pub mod Lowest
pub mod Rectangles
pub mod Distances
pub mod Pairs
