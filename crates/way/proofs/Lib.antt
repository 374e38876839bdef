-- Laws of the way: comparing bytes, joining a program, going step by step, and opening a buffer.
pub mod Starts
pub mod Joined
pub mod Ways
pub mod Holding
