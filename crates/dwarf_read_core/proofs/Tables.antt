-- Steps of the definitions of abbreviation tables.
use Rattle.std.proofs.Common.{◌≡◌, ℕ, zero, suc, ◌+◌, ◌<◌, ◌≤◌, List, [], ◌∷◌, ◌++◌, length, ◌==◌, not, Option, Some, None, Result, Ok, Err, refl, ap, sym, ◌∙◌, arith}
use Rattle.dwarf_constants.specs.declared.error.Error.{Error}
use Rattle.dwarf_constants.specs.declared.error.Error.TheVariants.{AbbreviationTagZero}
use Rattle.dwarf_read_core.specs.AbbreviationTable.{Attribute, Declaration, attribute_at, attribute_of, attributes_at, attributes_within, children_at, children_of, declaration_of, next_declaration, next_of, table_at, table_of, tag_at, with_declaration}
use Rattle.dwarf_readers.specs.Stretch.{Stretch, ◌>>=◌, requirement}
use Rattle.dwarf_readers.specs.Remainder.{Takes, TakesItem, size_of}
use Rattle.dwarf_readers.proofs.Laws.{byte_takes, items_shrink, leaves_err, leaves_from, leaves_if, leaves_none, leaves_ok, leaves_then, signed_takes, unsigned_16_takes, unsigned_takes}
use Rattle.list_laws.specs.Items.{Shrinks, items_from, items_of}
use Rattle.list_laws.proofs.Laws.{items-first}

-- a count of steps that is large enough, and by which the answer is this
pub record Within {A B : Type 0} (within : ℕ → A → Stretch → Result B Error) (seen : A) (s : Stretch) (whole : Result B Error) : Type 0 where
  pub steps : ℕ
  pub enough : length s.bytes < steps
  pub same : within steps seen s ≡ whole

refused_at : (n : ℕ) (seen : List Attribute) (s : Stretch) (e : Error) → length s.bytes < n → attribute_at s ≡ Err e → attributes_within n seen s ≡ Err e
refused_at zero seen s e enough h = absurd (omega arith)
refused_at (suc n) seen s e enough h = rw h refl

ends_here : (n : ℕ) (seen : List Attribute) (s t : Stretch) → length s.bytes < n → attribute_at s ≡ Ok (None, t) → attributes_within n seen s ≡ Ok (seen, t)
ends_here zero seen s t enough h = absurd (omega arith)
ends_here (suc n) seen s t enough h = rw h refl

goes_on : (n : ℕ) (seen : List Attribute) (s t : Stretch) (a : Attribute) (whole : Result (List Attribute × Stretch) Error) → length s.bytes < n → attributes_within n seen s ≡ whole → attribute_at s ≡ Ok (Some a, t) → length t.bytes < length s.bytes → Within attributes_within (seen ++ a ∷ []) t whole
goes_on zero seen s t a whole enough same h less = absurd (omega arith)
goes_on (suc n) seen s t a whole enough same h less = record {
  steps = n;
  enough = omega arith;
  same = (rw h at same);
}

pub attributes_refused : (seen : List Attribute) (s : Stretch) (e : Error) (whole : Result (List Attribute × Stretch) Error) → Within attributes_within seen s whole → attribute_at s ≡ Err e → whole ≡ Err e
attributes_refused seen s e whole is h = sym is.same ∙ refused_at is.steps seen s e is.enough h

pub attributes_end : (seen : List Attribute) (s t : Stretch) (whole : Result (List Attribute × Stretch) Error) → Within attributes_within seen s whole → attribute_at s ≡ Ok (None, t) → whole ≡ Ok (seen, t)
attributes_end seen s t whole is h = sym is.same ∙ ends_here is.steps seen s t is.enough h

pub attributes_more : (seen : List Attribute) (s t : Stretch) (a : Attribute) (whole : Result (List Attribute × Stretch) Error) → Within attributes_within seen s whole → attribute_at s ≡ Ok (Some a, t) → length t.bytes < length s.bytes → Within attributes_within (seen ++ a ∷ []) t whole
attributes_more seen s t a whole is h less = goes_on is.steps seen s t a whole is.enough is.same h less

pub attributes_start : (s : Stretch) → Within attributes_within [] s (attributes_at s)
unfolding attributes_at
attributes_start s = record { steps = suc (length s.bytes); enough = omega arith; same = refl }

-- ---- what reads leave

attribute_of_takes : (name : ℕ) (s : Stretch) (form : ℕ × Stretch) → 1 + length form.1.bytes ≤ length s.bytes → Takes 1 s (attribute_of name form)
attribute_of_takes name s form le =
    leaves_if _ (leaves_then {n = 1} (leaves_from (signed_takes form.1) (omega arith)) (λ value less. leaves_ok less)) (leaves_ok le)

-- an attribute takes a byte at least, and so does the pair of zeros
pub attribute_takes : (s : Stretch) → Takes 1 s (attribute_at s)
attribute_takes s =
    leaves_then (unsigned_16_takes s) (λ name le.
    leaves_then {n = 1} (leaves_from (unsigned_16_takes name.1) (omega arith)) (λ form less.
    leaves_if _ (leaves_if _ (leaves_ok less) leaves_err) (leaves_if _ leaves_err (attribute_of_takes name.0 s form less))))

-- what is behind the next attribute, or behind the pair of zeros
behind_next : {B : Type 0} (seen : B) (goes : Attribute → Stretch → Result (B × Stretch) Error) (s : Stretch) → ((attribute : Attribute) (t : Stretch) → Takes 0 t (goes attribute t)) → (next : Option Attribute) (t : Stretch) → 1 + length t.bytes ≤ length s.bytes → Takes 0 s (next_of (λ t. Ok (seen, t)) goes next t)
behind_next seen goes s takes None t le = leaves_ok (omega arith)
behind_next seen goes s takes (Some attribute) t le = leaves_from (takes attribute t) (omega arith)

attributes_take : (n : ℕ) (seen : List Attribute) (s : Stretch) → Takes 0 s (attributes_within n seen s)
attributes_take zero seen s = leaves_err
attributes_take (suc n) seen s =
    leaves_then (attribute_takes s) (λ next le.
    behind_next seen (λ attribute t. attributes_within n (seen ++ attribute ∷ []) t) s (λ attribute t. attributes_take n (seen ++ attribute ∷ []) t) next.0 next.1 le)

attributes_at_takes : (s : Stretch) → Takes 0 s (attributes_at s)
unfolding attributes_at
attributes_at_takes s = attributes_take (suc (length s.bytes)) [] s

tag_takes : (s : Stretch) → Takes 1 s (tag_at s)
tag_takes s = leaves_then (unsigned_16_takes s) (λ tag le. leaves_then {n = 0} (leaves_none (requirement (not (tag.0 == 0)) AbbreviationTagZero)) (λ _ _. leaves_ok le))

children_takes : (s : Stretch) → Takes 1 s (children_at s)
children_takes s = leaves_then (byte_takes s) (λ byte le. leaves_then {n = 0} (leaves_none (children_of byte.0)) (λ children _. leaves_ok le))

declaration_takes : (code : ℕ) (s : Stretch) → Takes 1 s (declaration_of code s)
declaration_takes code s =
    leaves_then (tag_takes s) (λ tag le.
    leaves_then {n = 1} (leaves_from (children_takes tag.1) (omega arith)) (λ children less.
    leaves_then {n = 1} (leaves_from (attributes_at_takes children.1) (omega arith)) (λ attributes least. leaves_ok least)))

next_takes : (s : Stretch) → TakesItem 1 s (next_declaration s)
next_takes s =
    leaves_if _ (leaves_ok tt) (leaves_then (unsigned_takes s) (λ code le.
    leaves_if _ (leaves_ok tt) (leaves_then {n = 1} (leaves_from (declaration_takes code.0 code.1) (omega arith)) (λ declaration less. leaves_ok less))))

pub declarations_shrink : Shrinks size_of next_declaration
declarations_shrink = items_shrink next_declaration next_takes

-- ---- tables

-- what the declarations seen and those that are left make
abbrev pub table_from : List Declaration → Stretch → Result (List Declaration) Error
table_from seen s = table_of seen (items_of size_of next_declaration s)

table_first : (seen : List Declaration) (s : Stretch) → table_from seen s ≡ table_of seen (items_from (items_of size_of next_declaration) (next_declaration s))
table_first seen s = ap (table_of seen) (items-first size_of next_declaration declarations_shrink s)

pub table_refused : (seen : List Declaration) (s : Stretch) (e : Error) → next_declaration s ≡ Err e → table_from seen s ≡ Err e
table_refused seen s e is = table_first seen s ∙ ap (λ next. table_of seen (items_from (items_of size_of next_declaration) next)) is

pub table_end : (seen : List Declaration) (s : Stretch) → next_declaration s ≡ Ok None → table_from seen s ≡ Ok seen
table_end seen s is = table_first seen s ∙ ap (λ next. table_of seen (items_from (items_of size_of next_declaration) next)) is

pub table_more : (seen : List Declaration) (s t : Stretch) (d : Declaration) → next_declaration s ≡ Ok (Some (d, t)) → table_from seen s ≡ (with_declaration seen d >>= λ table. table_from table t)
table_more seen s t d is = table_first seen s ∙ ap (λ next. table_of seen (items_from (items_of size_of next_declaration) next)) is

pub table_start : (s : Stretch) → table_from [] s ≡ table_at s
unfolding table_at
table_start s = refl
