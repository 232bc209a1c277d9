pub mod Blocks
pub mod FleetCalls
pub mod FleetRuns
pub mod Shapes
