pub mod Starred
mod NextTo
