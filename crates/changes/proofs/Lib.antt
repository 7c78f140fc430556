pub mod Rows
pub mod TurnedRows
pub mod Turning
