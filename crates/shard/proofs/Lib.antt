-- Demand 3 in the words of the C functions, and that 0 means done.
pub mod Promise
pub mod ZeroDone
