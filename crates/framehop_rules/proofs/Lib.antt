mod CacheSlots
mod LastKept
mod Occupancy
pub mod Laws
mod Parts
mod PopReads
mod PopSteps
mod StackPointer
mod StackPointerAarch64
pub mod SequenceRules
