-- What is left behind the fields of a header doesn't begin before them, be they read or refused.
use Rattle.std.proofs.Common.{ℕ, ◌≤◌, Bool, true, false, cond, Result, Ok, Err, arith}
use Rattle.std.specs.Prelude.{◌==◌, ◌||◌, is_ok}
use Rattle.dwarf_constants.specs.Pointer.{format_of}
use Rattle.dwarf_constants.specs.declared.constants.TheConstants.{DW_EH_PE_omit, DW_EH_PE_uleb128, DW_EH_PE_sleb128}
use Rattle.dwarf_constants.specs.declared.error.Error.{Error}
use Rattle.dwarf_readers.specs.Leb128.{left_by_leb128}
use Rattle.dwarf_readers.specs.Onward.{IsOn, ReadsOn, rest_of_read}
use Rattle.dwarf_readers.specs.Stretch.{Stretch}
use Rattle.dwarf_frame_rows.specs.EncodedPointer.{Origins, left_by_pointer, left_by_value, origin_of, pointer_at, taken_encoding}
use Rattle.dwarf_frame_rows.specs.declared.pointer.Pointer.{Pointer}
use Rattle.dwarf_call_frames.specs.Header.{count_at}
use Rattle.dwarf_call_frames.specs.HeaderTable.{left_by_row, left_by_start, row_at}
use Rattle.dwarf_readers.proofs.Laws.{on_from, on_if, on_ok, on_then, on_value}
use Rattle.dwarf_frame_rows.proofs.Laws.{pointer_on, value_on}

pub count_on : (size encoding table_encoding : ℕ) (s : Stretch) → ReadsOn s (count_at size encoding table_encoding s)
count_on size encoding table_encoding s =
    on_if (encoding == DW_EH_PE_omit.0 || table_encoding == DW_EH_PE_omit.0) (on_ok (omega arith))
    (on_value _ (λ _. on_value (taken_encoding encoding) (λ _. value_on size (format_of encoding) s)))

pub row_on : (origins : Origins) (encoding : ℕ) (s : Stretch) → ReadsOn s (row_at origins encoding s)
row_on origins encoding s =
    on_then (pointer_on origins encoding s) (λ start le. on_then (on_from (pointer_on origins encoding start.1) le) (λ target less. on_ok less))

-- ---- what is refused

stays-if : (test : Bool) (place : ℕ) (s t : Stretch) → place ≤ s.offset → place ≤ t.offset → place ≤ (cond test s t).offset
stays-if true place s t a b = a
stays-if false place s t a b = b

left_by_leb128_on : (n : ℕ) (s : Stretch) → s.offset ≤ (left_by_leb128 n s).offset
left_by_leb128_on n s = omega arith

left_by_value_on : (format : ℕ) (s : Stretch) → s.offset ≤ (left_by_value format s).offset
left_by_value_on format s = stays-if (format == DW_EH_PE_uleb128.0 || format == DW_EH_PE_sleb128.0) s.offset (left_by_leb128 10 s) s (left_by_leb128_on 10 s) (omega arith)

left_by_pointer_on : (origins : Origins) (encoding : ℕ) (s : Stretch) → s.offset ≤ (left_by_pointer origins encoding s).offset
left_by_pointer_on origins encoding s =
    stays-if (is_ok (origin_of origins encoding s.offset)) s.offset (left_by_value (format_of encoding) s) s (left_by_value_on (format_of encoding) s) (omega arith)

left_by_start_on : (origins : Origins) (encoding : ℕ) (s : Stretch) (start : Result (Pointer × Stretch) Error) → IsOn rest_of_read s.offset start → s.offset ≤ (left_by_start origins encoding s start).offset
left_by_start_on origins encoding s (Ok start) le = let more = left_by_pointer_on origins encoding start.1 in omega arith
left_by_start_on origins encoding s (Err e) le = left_by_pointer_on origins encoding s

pub left_by_row_on : (origins : Origins) (encoding : ℕ) (s : Stretch) → s.offset ≤ (left_by_row origins encoding s).offset
left_by_row_on origins encoding s = left_by_start_on origins encoding s (pointer_at origins encoding s) (pointer_on origins encoding s).on
