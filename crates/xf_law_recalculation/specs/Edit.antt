pub mod Edits
pub mod InstanceEdits
