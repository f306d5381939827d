-- The laws and theorems of the insertion in a branch.
pub mod BranchLaws
pub mod BranchTheorems
