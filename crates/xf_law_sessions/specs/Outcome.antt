pub mod Repeats
pub mod Numbers
pub mod Indexes
pub mod Contents
pub mod Events
pub mod Snapshot
pub mod Same
