-- 01's starred checks.
pub mod Checks
