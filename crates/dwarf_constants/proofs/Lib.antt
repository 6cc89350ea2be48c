pub mod NamesLemmas
pub mod PointerLemmas
