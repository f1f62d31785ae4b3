pub mod NamedStems
