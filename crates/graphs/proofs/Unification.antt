-- These files show that unification over nodes is unification over paths.
pub mod Deep
pub mod Related
pub mod Classes
pub mod Beside
pub mod Quotient
pub mod ClassGraph
pub mod Unifier
pub mod Outcome
