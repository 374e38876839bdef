-- Laws of unification.
pub mod Laying
pub mod Sides
pub mod Sharing
pub mod Result
