-- Laws of copied words, of the labels of classes and of the graph of the classes.
pub mod Words
pub mod Copying
pub mod Lowering
pub mod Filling
pub mod Sizes
