pub mod EscapeLemmas
pub mod PathLemmas
pub mod PunycodeLemmas
pub mod RunLemmas
pub mod TextLemmas
