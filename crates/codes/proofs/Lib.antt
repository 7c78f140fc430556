pub mod Adding
pub mod AtOnce
pub mod Coded
pub mod Lengths
pub mod OneForm
pub mod Rules
