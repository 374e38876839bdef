-- Numbers and bytes as text, and what putting a text into an output leaves.
pub mod Text
