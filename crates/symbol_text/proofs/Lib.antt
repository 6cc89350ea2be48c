pub mod ModifierLemmas
