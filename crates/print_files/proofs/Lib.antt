pub mod FileParts
