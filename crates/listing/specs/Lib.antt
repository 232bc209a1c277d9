pub mod EventLaws
pub mod Events
pub mod Knowledge
pub mod Outputs
pub mod Rehearsals
pub mod Stops
pub mod Texts
