pub mod Layout
pub mod Looking
pub mod Printing
pub mod PrivateTrees
pub mod Fitting
pub mod PrivateMeasuring
pub mod PrivateWriting
