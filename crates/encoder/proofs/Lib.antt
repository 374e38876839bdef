-- These files have the laws of encoding.
pub mod FeatureMap
pub mod LabelBytes
pub mod RowBytes
pub mod Lengths
pub mod WrittenRows
