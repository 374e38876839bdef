-- What the input of `mapcalc` asks for, and the line that answers it.
pub mod Request
pub mod Parse
pub mod Line
pub mod Words
