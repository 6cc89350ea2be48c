-- What is found in a section that more bytes follow.
use Rattle.std.proofs.Common.{◌≡◌, ℕ, zero, suc, ◌+◌, ◌*◌, ◌<◌, ◌≤◌, List, [], ◌∷◌, ◌++◌, length, ◌==◌, not, Bool, true, false, cond, if◌then◌else◌, Option, Some, None, option_map, Result, Ok, Err, nat_lt, refl, arith, length-append}
use Rattle.std.proofs.lemmas.Bool.Decides.{nat_tests}
use Rattle.std.specs.Prelude.{IsTrue}
use Rattle.dwarf_constants.specs.Format.{word_size}
use Rattle.dwarf_constants.specs.declared.common.Format.{Format}
use Rattle.dwarf_constants.specs.declared.constants.form.TheConstants.{DW_FORM_implicit_const}
use Rattle.dwarf_constants.specs.declared.error.Error.{Error}
use Rattle.dwarf_constants.specs.declared.error.Error.TheVariants.{AbbreviationTagZero, AttributeFormZero, AttributeNameZero}
use Rattle.dwarf_read_core.specs.AbbreviationTable.{Attribute, Declaration, attribute_at, attribute_of, attributes_at, attributes_within, children_at, children_of, declaration_of, next_declaration, next_of, table_at, table_in, table_of, tag_at, with_declaration}
use Rattle.dwarf_read_core.specs.AddressSets.{next_address, next_set, set_at, set_behind}
use Rattle.dwarf_read_core.specs.ClosedTables.{StaysIf, is_closed_at, is_closed_in, is_code_0}
use Rattle.dwarf_read_core.specs.Sections.{address_in, behind_entries, range_in, string_in, string_offset_in}
use Rattle.dwarf_read_core.specs.MoreItems.{StaysNext}
use Rattle.dwarf_read_core.proofs.Tables.{declarations_shrink}
use Rattle.dwarf_readers.specs.Remainder.{item_at}
use Rattle.list_laws.specs.Items.{Answer, items_from, items_within, rest_from, rest_within}
use Rattle.list_laws.proofs.Laws.{by_case}
use Rattle.dwarf_readers.specs.InitialLength.{address_at, initial_length_at, word_at}
use Rattle.dwarf_readers.specs.Leb128.{signed_at, unsigned_16_at, unsigned_at}
use Rattle.dwarf_readers.specs.More.{IsSteady, IsSteadyMove, IsSteadySearch, Stays, StaysAs, extended_stretch}
use Rattle.dwarf_endianity.specs.Offset.{offset_below}
use Rattle.dwarf_readers.specs.Stretch.{Stretch, ◌>>=◌, behind, behind_at, byte_at, end_of, ends_at, prefix_at, requirement, split_at, string_at}
use Rattle.dwarf_readers.proofs.Laws.{address_steady, behind_steady, byte_steady, cond_stays, front_steady, given_stays, initial_length_steady, refusal_stays, signed_steady, split_steady, steady_then, string_steady, then_stays, then_stays_as, unsigned_16_steady, unsigned_steady, value_stays, word_steady}

-- the value alone of a read
value_alone : {A : Type 0} (more : List ℕ) (before after : Result (A × Stretch) Error) → Stays more before after → StaysAs (λ (found : A). found) (before >>= λ read. Ok read.0) (after >>= λ read. Ok read.0)
value_alone {A = A} more before after same = then_stays_as (λ (read : A × Stretch). (read.0, extended_stretch more read.1)) (λ (found : A). found) before after (λ read. Ok read.0) (λ read. Ok read.0) same (λ read. refl)

-- .. where a move leads
search_behind : {A : Type 0} (move : Stretch → Result Stretch Error) (read : Stretch → Result (A × Stretch) Error) → IsSteadyMove move → IsSteady read → IsSteadySearch (λ section. move section >>= λ s. read s >>= λ found. Ok found.0)
search_behind {A = A} move read moved same = λ more section.
    then_stays_as (extended_stretch more) (λ (found : A). found) (move section) (move (extended_stretch more section)) (λ s. read s >>= λ found. Ok found.0) (λ s. read s >>= λ found. Ok found.0) (moved more section)
    (λ s. value_alone more (read s) (read (extended_stretch more s)) (same more s))

pub string_in_steady : (offset : ℕ) → IsSteadySearch (string_in offset)
string_in_steady offset = search_behind (behind_at offset) string_at (behind_steady offset) string_steady

pub range_in_steady : (offset size : ℕ) → IsSteadySearch (range_in offset size)
range_in_steady offset size = λ more section.
    then_stays_as (extended_stretch more) (λ (found : Stretch). found) (behind_at offset section) (behind_at offset (extended_stretch more section)) (prefix_at size) (prefix_at size) (behind_steady offset more section) (λ s. front_steady size more s)

-- what is left behind an offset that may be refused
offset_behind : (offset : Result ℕ Error) (more : List ℕ) (section : Stretch) → StaysAs (extended_stretch more) (offset >>= λ n. behind_at n section) (offset >>= λ n. behind_at n (extended_stretch more section))
offset_behind (Ok n) more section = behind_steady n more section
offset_behind (Err e) more section = λ lasting. refl

entry_steady : (limit base index size : ℕ) → IsSteadyMove (behind_entries limit base index size)
entry_steady limit base index size = λ more section. offset_behind (offset_below limit (base + index * size)) more section

pub string_offset_in_steady : (limit : ℕ) (format : Format) (base index : ℕ) → IsSteadySearch (string_offset_in limit format base index)
string_offset_in_steady limit format base index = search_behind (behind_entries limit base index (word_size format)) (word_at limit format) (entry_steady limit base index (word_size format)) (word_steady limit format)

pub address_in_steady : (limit size base index : ℕ) → IsSteadySearch (address_in limit size base index)
address_in_steady limit size base index = search_behind (behind_entries limit base index size) (address_at size) (entry_steady limit base index size) (address_steady size)

-- sets of addresses
pub set_steady : (limit offset : ℕ) → IsSteady (set_at limit offset)
set_steady limit offset = steady_then (initial_length_at limit) (λ length. split_at length.0.0 length.1 >>= λ part. set_behind offset length.0.0 length.0.1 part.0 >>= λ set. Ok (set, part.1)) (initial_length_steady limit)
    (λ length. steady_then (split_at length.0) (λ part. set_behind offset length.0 length.1 part.0 >>= λ set. Ok (set, part.1)) (split_steady length.0)
    (λ part more left. value_stays more (set_behind offset length.0 length.1 part) left))

-- the next where bytes are left
next_where : {A : Type 0} (empty : Bool) (read : Stretch → Result (Option A × Stretch) Error) (more : List ℕ) (s : Stretch) → (length s.bytes == 0) ≡ empty → 0 < length s.bytes → Stays more (read s) (read (extended_stretch more s)) → Stays more (cond empty (Ok (None, s)) (read s)) (cond (length (s.bytes ++ more) == 0) (Ok (None, extended_stretch more s)) (read (extended_stretch more s)))
next_where true read more s is some same = absurd (grind (arith, nat_tests))
next_where false read more s is some same =
    let test : (length (s.bytes ++ more) == 0) ≡ false = grind (arith, nat_tests, length-append) in
    rw test same

-- what was read as the next item
item_found : {A : Type 0} (before after : Result (A × Stretch) Error) (more : List ℕ) → Stays more before after → StaysNext more (before >>= λ item. Ok (Some item)) (after >>= λ item. Ok (Some item))
item_found {A = A} before after more same =
    let item = λ (found : A × Stretch). let next : Result (Option (A × Stretch)) Error = Ok (Some found) in next in
    then_stays_as (λ (read : A × Stretch). (read.0, extended_stretch more read.1)) (option_map (λ (next : A × Stretch). (next.0, extended_stretch more next.1))) before after item item same (λ found. refl)

-- the next item where bytes are left
item_stays : {A : Type 0} (read : Stretch → Result (A × Stretch) Error) (more : List ℕ) (s : Stretch) → 0 < length s.bytes → Stays more (read s) (read (extended_stretch more s)) → StaysNext more (item_at read s) (item_at read (extended_stretch more s))
item_stays read more s some same =
    let here : (length s.bytes == 0) ≡ false = grind (arith, nat_tests) in
    let there : (length (s.bytes ++ more) == 0) ≡ false = grind (arith, nat_tests, length-append) in
    rw (here, there) (item_found (read s) (read (extended_stretch more s)) more same)

pub next_set_stays : (limit offset : ℕ) (more : List ℕ) (s : Stretch) → 0 < length s.bytes → StaysNext more (next_set limit offset s) (next_set limit offset (extended_stretch more s))
next_set_stays limit offset more s some = item_stays (set_at limit offset) more s some (set_steady limit offset more s)

pub next_address_stays : (size : ℕ) (more : List ℕ) (s : Stretch) → 0 < length s.bytes → StaysNext more (next_address size s) (next_address size (extended_stretch more s))
next_address_stays size more s some = item_stays (address_at size) more s some (address_steady size more s)

-- attributes
attribute_of_steady : (name form : ℕ) → IsSteady (λ left. attribute_of name (form, left))
attribute_of_steady name form = λ more left. cond_stays more (form == DW_FORM_implicit_const.0) _ _ _ _
    (then_stays more (signed_at left) (signed_at (extended_stretch more left)) (λ value. Ok (Some (record { name = name; form = form; constant = Some value.0 }), value.1)) (signed_steady more left) (λ value left. refl))
    refl

attribute_behind : (name form : ℕ) → IsSteady (λ left. if name == 0 then (if form == 0 then Ok (None, left) else Err AttributeNameZero) else (if form == 0 then Err AttributeFormZero else attribute_of name (form, left)))
attribute_behind name form = λ more left. cond_stays more (name == 0) _ _ _ _
    (cond_stays more (form == 0) (Ok (None, left)) (Ok (None, extended_stretch more left)) _ _ refl (refusal_stays more AttributeNameZero))
    (cond_stays more (form == 0) _ _ _ _ (refusal_stays more AttributeFormZero) (attribute_of_steady name form more left))

attribute_steady : IsSteady attribute_at
attribute_steady = steady_then unsigned_16_at (λ name. unsigned_16_at name.1 >>= λ form. (if name.0 == 0 then (if form.0 == 0 then Ok (None, form.1) else Err AttributeNameZero) else (if form.0 == 0 then Err AttributeFormZero else attribute_of name.0 form))) unsigned_16_steady
    (λ name. steady_then unsigned_16_at (λ form. if name == 0 then (if form.0 == 0 then Ok (None, form.1) else Err AttributeNameZero) else (if form.0 == 0 then Err AttributeFormZero else attribute_of name form)) unsigned_16_steady (attribute_behind name))

-- what is next, if anything
next_of_stays : {A B : Type 0} (change : B → B) (end : Stretch → Result B Error) (item later : A → Stretch → Result B Error) (more : List ℕ) → ((t : Stretch) → StaysAs change (end t) (end (extended_stretch more t))) → ((a : A) → (t : Stretch) → StaysAs change (item a t) (later a (extended_stretch more t))) → (found : Option A) (t : Stretch) → StaysAs change (next_of end item found t) (next_of end later found (extended_stretch more t))
next_of_stays change end item later more ends goes None t = ends t
next_of_stays change end item later more ends goes (Some a) t = goes a t

attributes_stay : (n m : ℕ) (seen : List Attribute) (more : List ℕ) (s : Stretch) → n ≤ m → Stays more (attributes_within n seen s) (attributes_within m seen (extended_stretch more s))
attributes_stay zero m seen more s less = λ lasting. absurd (lasting (end_of s) refl)
attributes_stay (suc n) zero seen more s less = absurd (omega arith)
attributes_stay (suc n) (suc m) seen more s less =
    let step = λ (k : ℕ) (next : Option Attribute × Stretch). next_of (λ t. Ok (seen, t)) (λ attribute t. attributes_within k (seen ++ attribute ∷ []) t) next.0 next.1 in
    then_stays_as (λ (read : Option Attribute × Stretch). (read.0, extended_stretch more read.1)) (λ (read : List Attribute × Stretch). (read.0, extended_stretch more read.1)) (attribute_at s) (attribute_at (extended_stretch more s)) (step n) (step m) (attribute_steady more s)
    (λ next. next_of_stays (λ (read : List Attribute × Stretch). (read.0, extended_stretch more read.1)) (λ t. Ok (seen, t)) (λ attribute t. attributes_within n (seen ++ attribute ∷ []) t) (λ attribute t. attributes_within m (seen ++ attribute ∷ []) t) more (λ t. refl) (λ attribute t. attributes_stay n m (seen ++ attribute ∷ []) more t (omega arith)) next.0 next.1)

pub attributes_steady : IsSteady attributes_at
unfolding attributes_at
attributes_steady = λ more s. attributes_stay (suc (length s.bytes)) (suc (length (s.bytes ++ more))) [] more s (omega (arith, length-append s.bytes more))

tag_steady : IsSteady tag_at
tag_steady = steady_then unsigned_16_at (λ tag. requirement (not (tag.0 == 0)) AbbreviationTagZero >>= λ _. Ok tag) unsigned_16_steady (λ tag more left. given_stays more (not (tag == 0)) AbbreviationTagZero (Ok (tag, left)) (Ok (tag, extended_stretch more left)) refl)

children_steady : IsSteady children_at
children_steady = steady_then byte_at (λ byte. children_of byte.0 >>= λ children. Ok (children, byte.1)) byte_steady (λ byte more left. value_stays more (children_of byte) left)

declaration_of_steady : (code : ℕ) → IsSteady (declaration_of code)
declaration_of_steady code =
    let found = λ (tag : ℕ) (children : Bool) (attributes : List Attribute × Stretch). Ok (record { code = code; tag = tag; children = children; attributes = attributes.0 }, attributes.1) in
    steady_then tag_at (λ tag. children_at tag.1 >>= λ children. attributes_at children.1 >>= found tag.0 children.0) tag_steady
    (λ tag. steady_then children_at (λ children. attributes_at children.1 >>= found tag children.0) children_steady
    (λ children. steady_then attributes_at (found tag children) attributes_steady (λ attributes more left. refl)))

-- the declaration behind a code
behind_code : (test : Bool) (code : ℕ) (more : List ℕ) (t : Stretch)
    → StaysNext more (cond test (Ok None) (declaration_of code t >>= λ d. Ok (Some d))) (cond test (Ok None) (declaration_of code (extended_stretch more t) >>= λ d. Ok (Some d)))
behind_code true code more t = refl
behind_code false code more t = item_found (declaration_of code t) (declaration_of code (extended_stretch more t)) more (declaration_of_steady code more t)

-- a declaration where bytes are left
declaration_stays : (more : List ℕ) (s : Stretch) → (length s.bytes == 0) ≡ false → StaysNext more (next_declaration s) (next_declaration (extended_stretch more s))
declaration_stays more s here =
    let there : (length (s.bytes ++ more) == 0) ≡ false = grind (arith, nat_tests, length-append) in
    rw (here, there) (then_stays_as (λ (read : ℕ × Stretch). (read.0, extended_stretch more read.1)) (option_map (λ (next : Declaration × Stretch). (next.0, extended_stretch more next.1))) (unsigned_at s) (unsigned_at (extended_stretch more s)) (λ code. if code.0 == 0 then Ok None else declaration_of code.0 code.1 >>= λ d. Ok (Some d)) (λ code. if code.0 == 0 then Ok None else declaration_of code.0 code.1 >>= λ d. Ok (Some d)) (unsigned_steady more s) (λ code. behind_code (code.0 == 0) code.0 more code.1))

-- n steps are enough where code 0 closes the table, and so are m
abbrev StaysWithin : ℕ → ℕ → List ℕ → Type 0
StaysWithin n m more = (seen : List Declaration) (s : Stretch) → length s.bytes < n
    → StaysIf (IsTrue (is_code_0 (rest_within n next_declaration s))) (table_of seen (items_within n next_declaration s)) (table_of seen (items_within m next_declaration (extended_stretch more s)))

-- .. behind a declaration
table_goes_on : {A : Type 0} (Condition : Type 0) (table : Result A Error) (next later : A → Result (List Declaration) Error) → ((seen : A) → StaysIf Condition (next seen) (later seen)) → StaysIf Condition (table >>= next) (table >>= later)
table_goes_on Condition (Ok table) next later same = same table
table_goes_on Condition (Err e) next later same = λ lasting. refl

step_stays : (n m : ℕ) (more : List ℕ) (seen : List Declaration) (s : Stretch) (before after : Answer Stretch Declaration Error) → next_declaration s ≡ before → (length s.bytes == 0) ≡ false → length s.bytes < suc n → StaysNext more before after → StaysWithin n m more
    → StaysIf (IsTrue (is_code_0 (rest_from (rest_within n next_declaration) s before))) (table_of seen (items_from (items_within n next_declaration) before)) (table_of seen (items_from (items_within m next_declaration) after))
step_stays n m more seen s (Ok (Some (d, t))) after is some enough same others =
    let less : length t.bytes < length s.bytes = declarations_shrink.smaller s t d is in
    rw same (table_goes_on (IsTrue (is_code_0 (rest_within n next_declaration t))) (with_declaration seen d) (λ table. table_of table (items_within n next_declaration t)) (λ table. table_of table (items_within m next_declaration (extended_stretch more t))) (λ table. others table t (omega arith)))
step_stays n m more seen s (Ok None) after is some enough same others = rw same (λ closed. refl)
step_stays n m more seen s (Err e) after is some enough same others = λ lasting. rw (same lasting) refl

declarations_stay : (n m : ℕ) (more : List ℕ) → n ≤ m → StaysWithin n m more
declarations_stay zero m more less = λ seen s enough. absurd (omega arith)
declarations_stay (suc n) zero more less = absurd (omega arith)
declarations_stay (suc n) (suc m) more less = λ seen s enough.
    by_case (length s.bytes == 0)
    (λ empty. rw empty (λ closed. absurd (cc)))
    (λ some. step_stays n m more seen s (next_declaration s) (next_declaration (extended_stretch more s)) refl some enough (declaration_stays more s some) (declarations_stay n m more (omega arith)))

-- a table that code 0 closes
pub table_stays : (more : List ℕ) (s : Stretch) → StaysIf (IsTrue (is_closed_at s)) (table_at s) (table_at (extended_stretch more s))
unfolding table_at is_closed_at
table_stays more s = declarations_stay (suc (length s.bytes)) (suc (length (s.bytes ++ more))) more (omega (arith, length-append s.bytes more)) [] s (omega arith)

table_behind : (test : Bool) (e : Error) (s : Stretch) (more : List ℕ) (after : Result Stretch Error) → StaysAs (extended_stretch more) (cond test (Err e) (Ok s)) after → StaysIf (IsTrue (is_closed_at s)) (cond test (Err e) (Ok s) >>= table_at) (after >>= table_at)
table_behind true e s more after same = λ lasting. rw (same lasting) refl
table_behind false e s more after same = rw same (table_stays more s)

pub table_in_stays : (offset : ℕ) (more : List ℕ) (section : Stretch) → StaysIf (IsTrue (is_closed_in offset section)) (table_in offset section) (table_in offset (extended_stretch more section))
table_in_stays offset more section = table_behind (nat_lt (length section.bytes) offset) (ends_at section.offset) (behind offset section) more (behind_at offset (extended_stretch more section)) (behind_steady offset more section)
