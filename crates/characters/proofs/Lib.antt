pub mod Laws
mod Worked
