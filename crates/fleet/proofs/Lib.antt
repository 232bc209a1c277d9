mod Middle
mod NewFleet
mod Outcomes
mod Refused
mod Running
