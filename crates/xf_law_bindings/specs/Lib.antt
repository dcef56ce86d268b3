pub mod Fixed
pub mod OneShape
