-- Laws and theorems of import and export.
pub mod Imports
pub mod Exports
pub mod Theorems
pub mod TableGraph
pub mod Due
pub mod ImportDue
pub mod ExportDue
pub mod RoundTrips
