-- Turns of a machine, and words that are read.
use Rattle.std.proofs.Common.{◌≡◌, ℕ, suc, ◌*◌, ◌%◌, ◌^◌, List, [], ◌∷◌, Option, Some, None, Result, Ok, Err, refl, sym, ap, ◌∙◌}
use Rattle.std.specs.Prelude.{◌==◌, true, false, slice_get, slice_set}
use Rattle.std.specs.Option.{ok_or}
use Rattle.dwarf_constants.specs.declared.error.Error.{Error}
use Rattle.dwarf_constants.specs.declared.error.Error.TheVariants.{NotEnoughStackItems}
use Rattle.dwarf_readers.specs.Remainder.{size_of}
use Rattle.dwarf_readers.specs.Stretch.{Stretch}
use Rattle.dwarf_expressions.specs.Evaluation.{top_of}
use Rattle.framehop_registers.specs.Callback.{Words, read_answer}
use Rattle.framehop_expressions.specs.Evaluation.{Frame, Machine, Turn, GoesOn, IsOver, after_deref, after_operation, after_read, after_step, after_word, expression_value, first_machine, turn, turn_by, turns, unless_refused, value_behind, value_within, word_value}
use Rattle.framehop_expressions.specs.Operations.{memory_operation_at}
use Rattle.framehop_expressions.specs.declared.operation.MemoryOperation.{MemoryOperation}
use Rattle.framehop_expressions.specs.declared.unknown.Unknown.{Unknown}
use Rattle.framehop_expressions.specs.declared.unknown.Unknown.TheVariants as unknown

-- a machine at its end has the value on top
pub ends : (k n : ℕ) (f : Frame) (m : Machine) (top : Result ℕ Unknown) → k ≡ suc n → (size_of m.rest == 0) ≡ true → top ≡ unless_refused (top_of m.stack) → top ≡ value_within k f m
ends k n f m top one_more at_end is =
    let over : turn f m ≡ IsOver (unless_refused (top_of m.stack)) = rw at_end refl in
    is ∙ sym (ap (λ (j : ℕ). value_within j f m) one_more ∙ ap (value_behind (value_within n f)) over)

-- one that goes on has that of the next
pub goes-on : (k n : ℕ) (f : Frame) (m next : Machine) → k ≡ suc n → (size_of m.rest == 0) ≡ false → after_step f m ≡ Ok next → value_within k f m ≡ value_within n f next
goes-on k n f m next one_more more is =
    let on : turn f m ≡ GoesOn next = rw more (ap turn_by is) in
    ap (λ (j : ℕ). value_within j f m) one_more ∙ ap (value_behind (value_within n f)) on

-- one whose operation fails has none
pub fails : (k n : ℕ) (f : Frame) (m : Machine) (why : Unknown) → k ≡ suc n → (size_of m.rest == 0) ≡ false → after_step f m ≡ Err why → value_within k f m ≡ Err why
fails k n f m why one_more more is =
    let over : turn f m ≡ IsOver (Err why) = rw more (ap turn_by is) in
    ap (λ (j : ℕ). value_within j f m) one_more ∙ ap (value_behind (value_within n f)) over

-- at the start
pub begins : (f : Frame) (expression : Stretch) (first : Option ℕ) (m : Machine) → m ≡ first_machine expression first → value_within turns f m ≡ expression_value f expression first
unfolding expression_value
begins f expression first m is = ap (value_within turns f) is

-- a word that is read, and one that isn't
pub read-word : (there : Option ℕ) (at word : ℕ) → Ok word ≡ read_answer there → Ok word ≡ ok_or there (unknown.Memory at)
read-word (Some value) at word is = cc
read-word None at word is = cc

pub missed-word : (there : Option ℕ) (at : ℕ) → Err tt ≡ read_answer there → Err (unknown.Memory at) ≡ ok_or there (unknown.Memory at)
missed-word (Some value) at is = cc
missed-word None at is = refl

-- the address on top is replaced by a number at it
pub replaced : (words : Words) (size at word low : ℕ) (m : Machine) (stack : List ℕ) → Ok at ≡ ok_or (slice_get stack 0) NotEnoughStackItems → Ok word ≡ word_value words at → low ≡ word % 2 ^ (8 * size)
    → after_deref words size m stack ≡ Ok (record { expression = m.expression; stack = slice_set stack 0 low; rest = m.rest })
replaced words size at word low m (top ∷ below) is read low_is =
    let same : at ≡ top = cc in
    ap (λ (a : ℕ). after_word size below m (word_value words a)) (sym same) ∙ ap (after_word size below m) (sym read)
    ∙ ap (λ (n : ℕ). Ok (let next : Machine = record { expression = m.expression; stack = n ∷ below; rest = m.rest } in next)) (sym low_is)
replaced words size at word low m [] is read low_is = cc

-- .. or can't be read
pub not-replaced : (words : Words) (size at : ℕ) (why : Unknown) (m : Machine) (stack : List ℕ) → Ok at ≡ ok_or (slice_get stack 0) NotEnoughStackItems → Err why ≡ word_value words at
    → after_deref words size m stack ≡ Err why
not-replaced words size at why m (top ∷ below) is read =
    let same : at ≡ top = cc in
    ap (λ (a : ℕ). after_word size below m (word_value words a)) (sym same) ∙ ap (after_word size below m) (sym read)
not-replaced words size at why m [] is read = cc

-- the machine after a step is that after the operation that was read
pub read-then : (f : Frame) (old mid : Machine) (operation : MemoryOperation) → memory_operation_at old.rest ≡ Ok (operation, mid.rest) → mid.expression ≡ old.expression → mid.stack ≡ old.stack
    → after_step f old ≡ after_operation f mid operation
read-then f old mid operation is expression stack =
    ap (after_read f old) is
    ∙ ap (λ (e : Stretch). after_operation f (let m : Machine = record { expression = e; stack = old.stack; rest = mid.rest } in m) operation) (sym expression)
    ∙ ap (λ (s : List ℕ). after_operation f (let m : Machine = record { expression = mid.expression; stack = s; rest = mid.rest } in m) operation) (sym stack)
