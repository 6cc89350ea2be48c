-- What the crates above cite. Each statement is the contract of a function of the crate.
pub use Rattle.elf_files.proofs.Prefixes.{header-of-prefix, segment-of-prefix}
