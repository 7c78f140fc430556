pub mod Phantom
