-- What the crates above cite. Each statement is the contract of a function of the crate.
pub use Rattle.framehop_rules.proofs.Parts.{above, above-answers, above-fits, address-answers, and_then-answers, past-end, past-refusal, word-answers}
