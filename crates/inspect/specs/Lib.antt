pub mod Forms
pub mod Openings
pub mod Reports
pub mod Values
pub mod Words
