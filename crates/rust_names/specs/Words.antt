-- What productions write, and the letters of types (RFC 2603).
use Rattle.std.specs.Prelude.{ℕ, ◌==◌, List, codes, if◌then◌else◌, Option, Some, None}
use Rattle.rust_names.specs.declared.symbol.Phrase.{Phrase}
use Rattle.rust_names.specs.declared.symbol.Phrase.TheVariants as phrases

-- What a phrase is written as.
abbrev pub phrase_of : Phrase → List ℕ
phrase_of phrases.Comma = codes ", "
phrase_of phrases.As = codes " as "
phrase_of phrases.ValueArguments = codes "::<"
phrase_of phrases.Mutable = codes "mut "
phrase_of phrases.ConstPointer = codes "*const "
phrase_of phrases.MutablePointer = codes "*mut "
phrase_of phrases.Length = codes "; "
phrase_of phrases.Dyn = codes "dyn "
phrase_of phrases.Plus = codes " + "
phrase_of phrases.Unsafe = codes "unsafe "
phrase_of phrases.ExternC = codes "extern \"C\" "
phrase_of phrases.Extern = codes "extern \""
phrase_of phrases.EndExtern = codes "\" "
phrase_of phrases.Function = codes "fn("
phrase_of phrases.Returns = codes " -> "
phrase_of phrases.Equals = codes " = "

-- The type of a letter (<basic-type>).
abbrev pub basic_of : ℕ → Option (List ℕ)
basic_of letter =
    if letter == 97 then Some (codes "i8") else
    if letter == 98 then Some (codes "bool") else
    if letter == 99 then Some (codes "char") else
    if letter == 100 then Some (codes "f64") else
    if letter == 101 then Some (codes "str") else
    if letter == 102 then Some (codes "f32") else
    if letter == 104 then Some (codes "u8") else
    if letter == 105 then Some (codes "isize") else
    if letter == 106 then Some (codes "usize") else
    if letter == 108 then Some (codes "i32") else
    if letter == 109 then Some (codes "u32") else
    if letter == 110 then Some (codes "i128") else
    if letter == 111 then Some (codes "u128") else
    if letter == 115 then Some (codes "i16") else
    if letter == 116 then Some (codes "u16") else
    if letter == 117 then Some (codes "()") else
    if letter == 118 then Some (codes "...") else
    if letter == 120 then Some (codes "i64") else
    if letter == 121 then Some (codes "u64") else
    if letter == 122 then Some (codes "!") else
    if letter == 112 then Some (codes "_") else
    None

-- What a namespace of special names is written as, if it isn't written as its letter: C and S.
abbrev pub special_of : ℕ → Option (List ℕ)
special_of namespace =
    if namespace == 67 then Some (codes "closure") else
    if namespace == 83 then Some (codes "shim") else
    None
