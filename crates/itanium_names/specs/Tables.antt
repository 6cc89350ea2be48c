-- Codes of types, operators and abbreviations, and what they are written as.
use Rattle.std.specs.Prelude.{ℕ, ◌+◌, ◌*◌, ◌==◌, List, codes, if◌then◌else◌, Option, Some, None}
use Rattle.itanium_names.specs.declared.symbol.Phrase.{Phrase}
use Rattle.itanium_names.specs.declared.symbol.Phrase.TheVariants as phrases

-- The type of a code (5.1.5.2, <builtin-type>).
abbrev pub builtin_of : ℕ → Option (List ℕ)
builtin_of code =
    if code == 118 then Some (codes "void") else
    if code == 119 then Some (codes "wchar_t") else
    if code == 98 then Some (codes "bool") else
    if code == 99 then Some (codes "char") else
    if code == 97 then Some (codes "signed char") else
    if code == 104 then Some (codes "unsigned char") else
    if code == 115 then Some (codes "short") else
    if code == 116 then Some (codes "unsigned short") else
    if code == 105 then Some (codes "int") else
    if code == 106 then Some (codes "unsigned int") else
    if code == 108 then Some (codes "long") else
    if code == 109 then Some (codes "unsigned long") else
    if code == 120 then Some (codes "long long") else
    if code == 121 then Some (codes "unsigned long long") else
    if code == 110 then Some (codes "__int128") else
    if code == 111 then Some (codes "unsigned __int128") else
    if code == 102 then Some (codes "float") else
    if code == 100 then Some (codes "double") else
    if code == 101 then Some (codes "long double") else
    if code == 103 then Some (codes "__float128") else
    if code == 122 then Some (codes "...") else
    None

-- The type of a code that begins with D, by its second letter.
abbrev pub builtin_d_of : ℕ → Option (List ℕ)
builtin_d_of code =
    if code == 100 then Some (codes "decimal64") else
    if code == 101 then Some (codes "decimal128") else
    if code == 102 then Some (codes "decimal32") else
    if code == 104 then Some (codes "half") else
    if code == 115 then Some (codes "char16_t") else
    if code == 117 then Some (codes "char8_t") else
    if code == 105 then Some (codes "char32_t") else
    if code == 97 then Some (codes "auto") else
    if code == 99 then Some (codes "decltype(auto)") else
    if code == 110 then Some (codes "decltype(nullptr)") else
    None

-- What an abbreviation stands for, by its letter (5.1.10).
abbrev pub standard_of : ℕ → Option (List ℕ)
standard_of code =
    if code == 97 then Some (codes "std::allocator") else
    if code == 98 then Some (codes "std::basic_string") else
    if code == 115 then Some (codes "std::basic_string<char, std::char_traits<char>, std::allocator<char> >") else
    if code == 105 then Some (codes "std::basic_istream<char, std::char_traits<char> >") else
    if code == 111 then Some (codes "std::basic_ostream<char, std::char_traits<char> >") else
    if code == 100 then Some (codes "std::basic_iostream<char, std::char_traits<char> >") else
    None

-- Where the last name in it ends; it begins behind the five bytes of std::.
abbrev pub standard_end_of : ℕ → Option (ℕ)
standard_end_of code =
    if code == 97 then Some 14 else
    if code == 98 then Some 17 else
    if code == 115 then Some 17 else
    if code == 105 then Some 18 else
    if code == 111 then Some 18 else
    if code == 100 then Some 19 else
    None

-- An operator by its two letters, the first of which counts 256 times (5.1.3.2, <operator-name>).
abbrev pub operator_by : ℕ → Option (List ℕ)
operator_by code =
    if code == 0x6e77 then Some (codes " new") else
    if code == 0x6e61 then Some (codes " new[]") else
    if code == 0x646c then Some (codes " delete") else
    if code == 0x6461 then Some (codes " delete[]") else
    if code == 0x6177 then Some (codes " co_await") else
    if code == 0x6e67 then Some (codes "-") else
    if code == 0x6164 then Some (codes "&") else
    if code == 0x6465 then Some (codes "*") else
    if code == 0x636f then Some (codes "~") else
    if code == 0x706c then Some (codes "+") else
    if code == 0x6d69 then Some (codes "-") else
    if code == 0x6d6c then Some (codes "*") else
    if code == 0x6476 then Some (codes "/") else
    if code == 0x726d then Some (codes "%") else
    if code == 0x616e then Some (codes "&") else
    if code == 0x6f72 then Some (codes "|") else
    if code == 0x656f then Some (codes "^") else
    if code == 0x6153 then Some (codes "=") else
    if code == 0x704c then Some (codes "+=") else
    if code == 0x6d49 then Some (codes "-=") else
    if code == 0x6d4c then Some (codes "*=") else
    if code == 0x6456 then Some (codes "/=") else
    if code == 0x724d then Some (codes "%=") else
    if code == 0x614e then Some (codes "&=") else
    if code == 0x6f52 then Some (codes "|=") else
    if code == 0x654f then Some (codes "^=") else
    if code == 0x6c73 then Some (codes "<<") else
    if code == 0x7273 then Some (codes ">>") else
    if code == 0x6c53 then Some (codes "<<=") else
    if code == 0x7253 then Some (codes ">>=") else
    if code == 0x6571 then Some (codes "==") else
    if code == 0x6e65 then Some (codes "!=") else
    if code == 0x6c74 then Some (codes "<") else
    if code == 0x6774 then Some (codes ">") else
    if code == 0x6c65 then Some (codes "<=") else
    if code == 0x6765 then Some (codes ">=") else
    if code == 0x7373 then Some (codes "<=>") else
    if code == 0x6e74 then Some (codes "!") else
    if code == 0x6161 then Some (codes "&&") else
    if code == 0x6f6f then Some (codes "||") else
    if code == 0x7070 then Some (codes "++") else
    if code == 0x6d6d then Some (codes "--") else
    if code == 0x636d then Some (codes ",") else
    if code == 0x706d then Some (codes "->*") else
    if code == 0x7074 then Some (codes "->") else
    if code == 0x636c then Some (codes "()") else
    if code == 0x6978 then Some (codes "[]") else
    if code == 0x7175 then Some (codes "?") else
    if code == 0x7073 then Some (codes "+") else
    None

abbrev pub operator_of : ℕ → ℕ → Option (List ℕ)
operator_of first second = operator_by (first * 256 + second)

-- What a phrase is written as.
abbrev pub phrase_of : Phrase → List ℕ
phrase_of phrases.Std = codes "std"
phrase_of phrases.Scope = codes "::"
phrase_of phrases.Operator = codes "operator"
phrase_of phrases.LiteralOperator = codes "operator\"\" "
phrase_of phrases.UnnamedType = codes "{unnamed type#"
phrase_of phrases.Lambda = codes "{lambda("
phrase_of phrases.EndLambda = codes ")#"
phrase_of phrases.AbiTag = codes "[abi:"
phrase_of phrases.Clone = codes " [clone "
phrase_of phrases.StringLiteral = codes "::string literal"
phrase_of phrases.DefaultArgument = codes "::{default arg#"
phrase_of phrases.VirtualTable = codes "vtable for "
phrase_of phrases.TableOfTables = codes "VTT for "
phrase_of phrases.TypeInfo = codes "typeinfo for "
phrase_of phrases.TypeInfoName = codes "typeinfo name for "
phrase_of phrases.ConstructionTable = codes "construction vtable for "
phrase_of phrases.InBase = codes "-in-"
phrase_of phrases.NonVirtualThunk = codes "non-virtual thunk to "
phrase_of phrases.VirtualThunk = codes "virtual thunk to "
phrase_of phrases.CovariantThunk = codes "covariant return thunk to "
phrase_of phrases.ThreadInit = codes "TLS init function for "
phrase_of phrases.ThreadWrapper = codes "TLS wrapper function for "
phrase_of phrases.Guard = codes "guard variable for "
phrase_of phrases.Temporary = codes "reference temporary #"
phrase_of phrases.TemporaryFor = codes " for "
phrase_of phrases.HiddenAlias = codes "hidden alias for "
phrase_of phrases.Clones = codes "transaction clone for "
phrase_of phrases.Const = codes " const"
phrase_of phrases.Volatile = codes " volatile"
phrase_of phrases.ConstVolatile = codes " const volatile"
phrase_of phrases.LvalueThis = codes " &"
phrase_of phrases.RvalueThis = codes " &&"
phrase_of phrases.True = codes "true"
phrase_of phrases.False = codes "false"
phrase_of phrases.CastBool = codes "(bool)"
phrase_of phrases.UnsignedLongSuffix = codes "ul"
phrase_of phrases.LongLongSuffix = codes "ll"
phrase_of phrases.UnsignedLongLongSuffix = codes "ull"
phrase_of phrases.NoBound = codes " []"
phrase_of phrases.Bound = codes " ["
phrase_of phrases.Vector = codes " __vector("
phrase_of phrases.Noexcept = codes " noexcept"
phrase_of phrases.MemberPointer = codes "::*"
phrase_of phrases.BrainFloat = codes "std::bfloat16_t"
phrase_of phrases.Float16 = codes "_Float16"
