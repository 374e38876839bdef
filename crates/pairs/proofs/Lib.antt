-- Laws of reading one record or two.
pub mod Readings
