pub mod Formulas
pub mod PortSteps
