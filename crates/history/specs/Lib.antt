pub mod AnsweredLaw
pub mod Calls
pub mod Law
pub mod Orders
pub mod Runs
pub mod Worked
