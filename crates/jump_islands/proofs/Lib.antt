pub mod ListPlaces
pub mod TailFacts
pub mod TailSteps
pub mod NearPlaces
pub mod TailLines
pub mod SourceRuns
pub mod SourcePaths
pub mod SourceTails
