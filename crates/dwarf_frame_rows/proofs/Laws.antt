-- What the crates above cite: the contracts of functions of this crate, and tests of numbers.
pub use Rattle.dwarf_frame_rows.proofs.Onward.{encoding_on, plain_value_on, pointer_on, value_on}
pub use Rattle.dwarf_frame_rows.proofs.PointerMemory.{direct_memory, encoding_memory, plain_value_memory, pointer_memory, value_memory}
pub use Rattle.dwarf_frame_rows.proofs.NumberTests.{eqb_sym, ties}
