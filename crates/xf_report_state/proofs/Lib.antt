mod LevelLaws
mod PartLaws
mod RowLaws
