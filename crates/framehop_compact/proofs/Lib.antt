mod AnalysedRules
mod Arrangements
mod ValidRules
mod PlaceOfBp
mod Weights
mod BpOfSix
mod StubHelpers
