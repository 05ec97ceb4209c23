pub mod Code
pub mod Going
pub mod Numbers
pub mod Meetings
pub mod Ways
pub mod Finishing
pub mod Tasks
pub mod Agenda
