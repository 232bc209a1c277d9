mod CallCodec
mod EntrySteps
mod EventCodec
mod EventFaults
mod EventSteps
mod LineSteps
mod LookSteps
mod Rehearsing
