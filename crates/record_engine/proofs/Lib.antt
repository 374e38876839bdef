-- Laws of the codes: what an exported function yields, and that different replies have different codes.
pub mod Codes
pub mod Distinct
