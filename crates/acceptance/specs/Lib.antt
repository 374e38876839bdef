-- This file defines what opening a table returns.
pub mod Reply
