pub mod Wanted
pub mod OwnCode
pub mod NoKey
