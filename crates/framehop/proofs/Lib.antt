pub mod CoverageAnswers
pub mod CoveredSteps
pub mod FramesUsed
pub mod LaterSteps
pub mod MethodAnswers
pub mod PeTrials
pub mod RowCfas
pub mod RowStarts
pub mod RowTrials
pub mod SameSteps
pub mod SectionsMade
pub mod TruthfulLookups
pub mod WalkEnds
pub mod WalkValues
mod WayTrials
mod WithoutWays
