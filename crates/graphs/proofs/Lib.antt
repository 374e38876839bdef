-- These files prove the theorems about typed feature graphs; `Theorems` states them in one place.
pub mod Walk
pub mod Lists
pub mod Stores
pub mod Rows
pub mod Below
pub mod Finite
pub mod Decided
pub mod Product
pub mod Order
pub mod Form
pub mod Search
pub mod Unification
pub mod Difference
pub mod Theorems
pub mod Reasons
