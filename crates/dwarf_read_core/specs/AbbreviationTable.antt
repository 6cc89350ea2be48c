-- Tables of abbreviations (DWARF 5, 7.5.3).
use Rattle.std.specs.Prelude.{ℕ, suc, zero, ℤ, ◌==◌, ◌≡◌, List, [], ◌∷◌, ◌++◌, length, ◌⊎◌, Bool, true, false, not, Option, Some, None, option_map, ◌&&◌, Result, Ok, Err, nat_le, if◌then◌else◌}
use Rattle.dwarf_constants.specs.declared.error.Error.{Error}
use Rattle.dwarf_constants.specs.declared.error.Error.TheVariants.{AbbreviationTagZero, AttributeFormZero, AttributeNameZero, DuplicateAbbreviationCode, InvalidAbbreviationChildren, OutOfMemory}
use Rattle.dwarf_constants.specs.declared.constants.TheConstants.{DW_CHILDREN_no, DW_CHILDREN_yes}
use Rattle.dwarf_constants.specs.declared.constants.form.TheConstants.{DW_FORM_implicit_const}
use Rattle.dwarf_readers.specs.Leb128.{signed_at, unsigned_16_at, unsigned_at}
use Rattle.dwarf_readers.specs.Stretch.{Stretch, ◌>>=◌, behind_at, byte_at, end_of, ends_at, requirement}
use Rattle.dwarf_readers.specs.Remainder.{size_of}
use Rattle.list_laws.specs.Items.{Answer, items_of}

-- an attribute of an abbreviation: its name, its form, and the value that the abbreviation itself gives it
pub record Attribute : Type 0 where
  pub name : ℕ
  pub form : ℕ
  pub constant : Option ℤ

-- a declaration: the code of an abbreviation, the tag of its entries, whether they have children, and
-- their attributes
pub record Declaration : Type 0 where
  pub code : ℕ
  pub tag : ℕ
  pub children : Bool
  pub attributes : List Attribute

-- the attribute of this name and form; the value of DW_FORM_implicit_const follows
abbrev pub attribute_of : ℕ → ℕ × Stretch → Result (Option Attribute × Stretch) Error
attribute_of name form =
    if form.0 == DW_FORM_implicit_const.0 then (do
      value ← signed_at form.1
      Ok (Some (record { name = name; form = form.0; constant = Some value.0 }), value.1))
    else Ok (Some (record { name = name; form = form.0; constant = None }), form.1)

-- the next attribute, or none at the pair of zeros
abbrev pub attribute_at : Stretch → Result (Option Attribute × Stretch) Error
attribute_at s = do
  name ← unsigned_16_at s
  form ← unsigned_16_at name.1
  if name.0 == 0 then (if form.0 == 0 then Ok (None, form.1) else Err AttributeNameZero)
      else (if form.0 == 0 then Err AttributeFormZero else attribute_of name.0 form)

-- one answer at the end, and another by the next item
abbrev pub next_of : {A B : Type 0} → (Stretch → Result B Error) → (A → Stretch → Result B Error)
    → Option A → Stretch → Result B Error
next_of end item None s = end s
next_of end item (Some a) s = item a s

-- the attributes seen and those before the pair of zeros, in at most n steps
abbrev pub attributes_within : ℕ → List Attribute → Stretch
    → Result (List Attribute × Stretch) Error
attributes_within zero seen s = Err (ends_at (end_of s))
attributes_within (suc n) seen s = do
  next ← attribute_at s
  next_of (λ t. Ok (seen, t))
      (λ attribute t. attributes_within n (seen ++ attribute ∷ []) t) next.0 next.1

-- the attributes before the pair of zeros: each takes a byte at least
unfoldable pub attributes_at : Stretch → Result (List Attribute × Stretch) Error
attributes_at s = attributes_within (suc (length s.bytes)) [] s

-- whether entries have children, by the byte that says so
abbrev pub children_of : ℕ → Result Bool Error
children_of byte =
    if byte == DW_CHILDREN_no.0 then Ok false
    else (if byte == DW_CHILDREN_yes.0 then Ok true
    else Err (InvalidAbbreviationChildren (record { 0 = byte })))

-- whether entries have children
abbrev pub children_at : Stretch → Result (Bool × Stretch) Error
children_at s = do
  byte ← byte_at s
  children ← children_of byte.0
  Ok (children, byte.1)

-- a tag, which isn't 0
abbrev pub tag_at : Stretch → Result (ℕ × Stretch) Error
tag_at s = do
  tag ← unsigned_16_at s
  _ ← requirement (not (tag.0 == 0)) AbbreviationTagZero
  Ok tag

-- the declaration of this code
abbrev pub declaration_of : ℕ → Stretch → Result (Declaration × Stretch) Error
declaration_of code s = do
  tag ← tag_at s
  children ← children_at tag.1
  attributes ← attributes_at children.1
  let found : Declaration =
      record { code = code; tag = tag.0; children = children.0; attributes = attributes.0 }
  Ok (found, attributes.1)

-- the next declaration, or none at code 0
abbrev pub coded_declaration : Stretch → Answer Stretch Declaration Error
coded_declaration s = do
  code ← unsigned_at s
  if code.0 == 0 then Ok None else (do
    declaration ← declaration_of code.0 code.1
    Ok (Some declaration))

-- the next declaration, or none at code 0 or at the end of the bytes
abbrev pub next_declaration : Stretch → Answer Stretch Declaration Error
next_declaration s = if length s.bytes == 0 then Ok None else coded_declaration s

-- a declaration of this code is among these
abbrev pub has_code : ℕ → List Declaration → Bool
has_code code [] = false
has_code code (d ∷ ds) = if d.code == code then true else has_code code ds

-- the table with one more declaration, whose code has to be a new one
abbrev pub with_declaration : List Declaration → Declaration → Result (List Declaration) Error
with_declaration table d = do
  _ ← requirement (not (has_code d.code table)) (DuplicateAbbreviationCode d.code)
  Ok (table ++ d ∷ [])

-- the table of the declarations seen and of these, up to the first error
abbrev pub table_of : List Declaration → List (Result Declaration Error)
    → Result (List Declaration) Error
table_of seen [] = Ok seen
table_of seen (Err fault ∷ items) = Err fault
table_of seen (Ok d ∷ items) = with_declaration seen d >>= λ table. table_of table items

-- the table at a stretch's start
unfoldable pub table_at : Stretch → Result (List Declaration) Error
table_at s = table_of [] (items_of size_of next_declaration s)

-- the table at an offset
abbrev pub table_in : ℕ → Stretch → Result (List Declaration) Error
table_in offset section = do
  s ← behind_at offset section
  table_at s

-- the declaration of a code
abbrev pub declaration_for : ℕ → List Declaration → Option Declaration
declaration_for code [] = None
declaration_for code (d ∷ ds) = if d.code == code then Some d else declaration_for code ds

-- the index of a code's declaration among these
abbrev pub place_among : ℕ → List Declaration → Option ℕ
place_among code [] = None
place_among code (d ∷ ds) = if d.code == code then Some 0 else option_map suc (place_among code ds)

-- this is one of the codes 1, 2, .., n
abbrev pub is_among_first : ℕ → ℕ → Bool
is_among_first code n = nat_le 1 code && nat_le code n

-- What a read returned is this answer, unless there was no memory.
abbrev pub GivesOrMemory : {X Y : Type 0} → (X → Y) → Result X Error → Result Y Error → Type 0
GivesOrMemory view (Ok x) answer = answer ≡ Ok (view x)
GivesOrMemory view (Err e) answer = (answer ≡ Err e) ⊎ (e ≡ OutOfMemory)
