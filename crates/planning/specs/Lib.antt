-- What import and export reply and leave in their outputs, and when their refusals apply.
pub mod Planning
pub mod Importable
pub mod Exportable
