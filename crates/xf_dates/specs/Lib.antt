pub mod Decimals
pub mod Days
pub mod Instants
pub mod Printed
pub mod Durations
