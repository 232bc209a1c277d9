pub mod Kinds
pub mod Numbers
pub mod Ports
pub mod Worked
pub mod PortSets
