-- The machine: what each symbol does, and how a name is read.
use Rattle.std.specs.Prelude.{ℕ, zero, suc, ◌+◌, ◌-◌, ◌*◌, ◌==◌, Bool, true, false, List, [], ◌∷◌, ◌++◌, length, slice_get, take, drop, nat_lt, if◌then◌else◌, Option, Some, None}
use Rattle.symbol_text.specs.declared.piece.Kind.{Kind}
use Rattle.symbol_text.specs.declared.piece.Kind.TheVariants.{Template}
use Rattle.symbol_text.specs.declared.piece.Piece.{Piece}
use Rattle.symbol_text.specs.declared.piece.Span.{Span}
use Rattle.symbol_text.specs.declared.piece.TheConstants.{NOWHERE}
use Rattle.symbol_text.specs.declared.writing.TheConstants.{TEXT_LIMIT}
use Rattle.symbol_text.specs.Texts.{◌>>=◌, appended}
use Rattle.itanium_names.specs.declared.grammar.Rule.{Rule}
use Rattle.itanium_names.specs.declared.grammar.Rule.TheVariants as rules
use Rattle.itanium_names.specs.declared.machine.TheConstants.{STEPS_PER_BYTE}
use Rattle.itanium_names.specs.declared.symbol.Frame.{Frame}
use Rattle.itanium_names.specs.declared.symbol.Frame.TheVariants as frames
use Rattle.itanium_names.specs.declared.symbol.Symbol.{Symbol}
use Rattle.itanium_names.specs.declared.symbol.Symbol.TheVariants as symbols
use Rattle.itanium_names.specs.Choices.{entry_of}
use Rattle.itanium_names.specs.Grammar.{rows_of}
use Rattle.itanium_names.specs.Pieces.{collected, part_of, replaced, top_of}
use Rattle.itanium_names.specs.Reading.{builtin_d_read, builtin_read, byte_read, from_here, not_before, operator_read, ordinal_read, parameter_read, sequence_read, skipped, source_name_read, standard_read, substitution_read, up_to_here}
use Rattle.itanium_names.specs.State.{State, began, writes}
use Rattle.itanium_names.specs.Tables.{phrase_of}
use Rattle.itanium_names.specs.Writing.{base_taken, base_written, begun, bounds_written, closing_written, ended, ended_as, expanded, gap_written, kept, kept_unless_end, left_written, member_opening_written, opening_written, right_written, space_after, tagged, template_ended, turned, type_modified}

-- Something is to be done next.
abbrev pub with_frame : State → Frame → State
with_frame s frame = record s { frames = s.frames ++ frame ∷ [] }

-- Reading by a rule begins behind the When of the production that is taken.
unfoldable pub entered : Rule → State → Option State
entered rule s = entry_of (slice_get s.rest 0) (slice_get s.rest 1) (rows_of rule) >>= (λ at.
    Some (with_frame s (frames.At rule (at + 1))))

-- Reading by a rule whose template parameters are its own.
unfoldable pub entered_scoped : Rule → State → Option State
entered_scoped rule s = entered rule (record (with_frame s (frames.Restore s.parameters)) { parameters = NOWHERE })

-- Reading by a rule, of whose pieces one is made.
unfoldable pub entered_list : Rule → State → Option State
entered_list rule s = entered rule (with_frame s (frames.Collect (length s.pieces)))

abbrev pub chosen_by : Kind → Rule → Rule → Rule
chosen_by Template first second = first
chosen_by _ first second = second

unfoldable pub entered_by_template : Rule → Rule → State → Option State
entered_by_template first second s = top_of 0 s.pieces >>= (λ piece. entered (chosen_by piece.kind first second) s)

-- What a symbol does.
unfoldable pub performed : Symbol → State → Option State
performed (symbols.When first second) s = None
performed (symbols.Rule rule) s = entered rule s
performed (symbols.Scoped rule) s = entered_scoped rule s
performed (symbols.List rule) s = entered_list rule s
performed (symbols.IfTemplate first second) s = entered_by_template first second s
performed symbols.Skip s = skipped s
performed (symbols.Byte byte) s = byte_read byte s
performed (symbols.NotBefore byte) s = not_before byte s
performed symbols.SourceName s = source_name_read s
performed symbols.Ordinal s = ordinal_read s
performed symbols.Sequence s = sequence_read s
performed symbols.Standard s = standard_read s
performed symbols.Substitution s = substitution_read s
performed symbols.Parameter s = parameter_read s
performed symbols.Builtin s = builtin_read s
performed symbols.BuiltinD s = builtin_d_read s
performed symbols.Operator s = operator_read s
performed symbols.Here s = from_here s
performed symbols.UpTo s = up_to_here s
performed symbols.Begin s = begun s
performed (symbols.Put byte) s = writes s (appended (byte ∷ []) s.text)
performed (symbols.Write phrase) s = writes s (appended (phrase_of phrase) s.text)
performed (symbols.Left index) s = left_written index s
performed (symbols.Right index) s = right_written index s
performed (symbols.Base index) s = base_written index s
performed (symbols.SpaceAfter byte) s = space_after byte s
performed (symbols.Gap index) s = gap_written index s
performed (symbols.Opening index) s = opening_written index s
performed (symbols.MemberOpening index) s = member_opening_written index s
performed (symbols.Closing index) s = closing_written index s
performed (symbols.Bounds index) s = bounds_written index s
performed symbols.ToRight s = turned s
performed (symbols.BaseOf index) s = base_taken index s
performed (symbols.End count kind) s = ended count kind s
performed (symbols.EndAs count index) s = ended_as count index s
performed symbols.EndTemplate s = template_ended s
performed (symbols.Modify modifier) s = type_modified modifier s
performed symbols.Expand s = expanded s
performed symbols.Remember s = kept s
performed symbols.RememberUnlessEnd s = kept_unless_end s
performed symbols.Tag s = tagged s

-- A symbol begins a production.
abbrev pub begins_production : Symbol → Bool
begins_production (symbols.When first second) = true
begins_production _ = false

-- The next symbol of a production, which ends where another one begins.
unfoldable pub continued : Rule → ℕ → Option Symbol → State → Option State
continued rule at None s = Some s
continued rule at (Some symbol) s =
    if begins_production symbol then Some s else performed symbol (with_frame s (frames.At rule (at + 1)))

-- One piece of those above a height.
unfoldable pub list_made : ℕ → State → Option State
list_made height s =
    if nat_lt (length s.pieces) height then None else
    (collected (drop height s.pieces) (length s.elements) s.text >>= (λ made.
    Some (record s {
      text = made.1;
      elements = s.elements ++ drop height s.pieces;
      pieces = take height s.pieces ++ made.0 ∷ [];
    })))

-- Template parameters stand for what they did before; the last piece has none of its own any more.
unfoldable pub scope_left : Span → State → Option State
scope_left parameters s = top_of 0 s.pieces >>= (λ piece.
    replaced 1 (record piece { depends = NOWHERE }) s.pieces >>= (λ pieces.
    Some (record s { pieces = pieces; parameters = parameters })))

-- What is next is done.
unfoldable pub stepped : Frame → State → Option State
stepped (frames.At rule at) s = continued rule at (slice_get (rows_of rule) at) s
stepped (frames.Collect height) s = list_made height s
stepped (frames.Restore parameters) s = scope_left parameters s

-- What is next is done, if anything is.
unfoldable pub advanced : State → Option (Bool × State)
advanced s = elim (slice_get s.frames (length s.frames - 1)) [
  | None ↦ Some (false, s)
  | Some frame ↦ stepped frame (record s { frames = take (length s.frames - 1) s.frames }) >>= (λ after. Some (true, after))
]

-- All is done, in so many steps at most.
abbrev pub run : ℕ → State → Option State
run zero s = None
run (suc steps) s = advanced s >>= (λ next. if next.0 then run steps next.1 else Some next.1)

-- The text of the one piece that is left, if all of the name is read.
unfoldable pub text_of_state : State → Option (List ℕ)
text_of_state s =
    if nat_lt 0 (length s.rest) then None else
    if length s.pieces == 1 then
    (top_of 0 s.pieces >>= (λ piece. part_of piece.left s.text >>= (λ left. part_of piece.right s.text >>= (λ right.
    appended left [] >>= (λ begin. appended right begin)))))
    else None

-- The text of a mangled name that isn't too long.
unfoldable pub demangled_of : List ℕ → Option (List ℕ)
demangled_of name =
    if nat_lt TEXT_LIMIT (length name) then None else
    (entered rules.Mangled (began name) >>= (λ s. run (length name * STEPS_PER_BYTE) s >>= text_of_state))
