-- Laws of the reasons for kept links.
pub mod Explaining
