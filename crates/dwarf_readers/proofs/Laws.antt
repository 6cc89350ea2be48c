-- What the crates above cite. Each statement is the contract of a function of the crate.
pub use Rattle.dwarf_readers.proofs.Following.{address_size_steady, address_steady, behind_steady, byte_steady, bytes_steady, cond_stays, front_steady, given_stays, initial_length_steady, number_steady, refusal_stays, signed_byte_steady, signed_number_steady, signed_steady, sized_offset_steady, skip_steady, split_steady, steady_then, string_steady, then_stays, then_stays_as, unsigned_16_steady, unsigned_32_steady, unsigned_steady, value_stays, word_steady}
pub use Rattle.dwarf_readers.proofs.Lengths.{address_size_takes, address_takes, address_takes_one, behind_passes, byte_takes, bytes_takes, initial_length_takes, item_takes, items_shrink, leaves_err, leaves_from, leaves_if, leaves_is, leaves_none, leaves_ok, leaves_then, number_takes, signed_byte_takes, signed_number_takes, signed_takes, sized_offset_takes, skip_passes, split_takes, string_takes, unsigned_16_takes, unsigned_32_takes, unsigned_takes, word_takes}
pub use Rattle.dwarf_readers.proofs.ReadMemory.{address_memory, address_size_memory, as_offset_memory, behind_memory, byte_memory, initial_length_memory, memory_err, memory_if, memory_ok, memory_test, memory_then, memory_there, number_memory, offset_memory, signed_memory, signed_number_memory, split_memory, string_memory, unsigned_16_memory, unsigned_memory}
pub use Rattle.dwarf_readers.proofs.Onward.{address_on, address_size_on, byte_on, number_on, on_err, on_from, on_if, on_is, on_ok, on_then, on_value, onward, signed_number_on, signed_on, split_on, string_on, unsigned_16_on, unsigned_on}
pub use Rattle.dwarf_readers.proofs.Rests.{unsigned_rest}
