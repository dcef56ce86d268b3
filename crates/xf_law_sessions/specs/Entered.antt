pub mod Recalculations
