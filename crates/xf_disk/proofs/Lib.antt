mod TornLemmas
mod CellsLemmas
mod MemoryLemmas
