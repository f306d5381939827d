-- What is said of the bytes that the quick lookup looks at.
pub mod Reads
