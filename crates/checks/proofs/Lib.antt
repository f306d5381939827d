-- The starred checks hold.
pub mod AllHold
