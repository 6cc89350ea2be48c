-- The operations that are left, code by code and info by info.
use Rattle.std.proofs.Common.{◌≡◌, ◌∙◌, ℕ, zero, suc, ◌<◌, Bool, true, false, List, [], ◌∷◌, ◌++◌, length, drop, refl, ap, sym}
use Rattle.std.specs.Prelude.{◌&&◌, flat_map, Option, Some, None, Result, Ok, Err, IsSome, is_some, nat_lt, if◌then◌else◌}
use Rattle.std.specs.Option.{option_map, option_and_then}
use Rattle.std.proofs.lemmas.List.Concat.{flat_map-cons}
use Rattle.framehop_errors.specs.declared.pe.PeUnwinderError.{PeUnwinderError}
use Rattle.framehop_errors.specs.declared.pe.PeUnwinderError.TheVariants.{UnwindInfoParseError}
use Rattle.framehop_pe_codes.specs.Codes.{code_of, codes_of}
use Rattle.framehop_pe_codes.specs.InfoViews.{IsInfo, header_seen, with_operation}
use Rattle.framehop_pe_codes.specs.Infos.{Info, chain_from, info_at, info_of, operations_of, ran_codes, with_codes}
use Rattle.framehop_pe_codes.specs.Refusals.{or_refusal, result_and_then}
use Rattle.framehop_pe_codes.specs.Sections.{Memory}
use Rattle.framehop_pe_codes.specs.declared.info.UnwindInfo.{UnwindInfo}
use Rattle.framehop_pe_codes.specs.declared.operation.UnwindCode.{UnwindCode}
use Rattle.framehop_pe_codes.specs.declared.operation.UnwindOperation.{UnwindOperation}
use Rattle.framehop_pe_codes.proofs.Codes.{codes-none, codes-refused, codes-cons}

abbrev pub Operations : Type 0
Operations = Result (List UnwindOperation) PeUnwinderError

-- the operations of some codes and of the infos after them
abbrev pub both : Option (List UnwindCode) → Result (List Info) PeUnwinderError → Operations
both found chain =
    result_and_then (or_refusal UnwindInfoParseError found) (λ codes. result_and_then chain (λ infos. Ok (operations_of codes ++ flat_map (λ info. operations_of info.codes) infos)))

-- an info before others
abbrev pub before : Info → Result (List Info) PeUnwinderError → Result (List Info) PeUnwinderError
before info chain = result_and_then chain (λ infos. Ok (info ∷ infos))

both-before : (info : Info) (chain : Result (List Info) PeUnwinderError) → both (Some []) (before info chain) ≡ both (Some info.codes) chain
both-before info (Ok infos) = ap (λ l. Ok l) (flat_map-cons (λ (i : Info). operations_of i.codes) info infos)
both-before info (Err e) = refl

both-cons : (code : UnwindCode) (found : Option (List UnwindCode)) (chain : Result (List Info) PeUnwinderError)
    → both (option_map (λ codes. code ∷ codes) found) chain ≡ with_operation code.operation (both found chain)
both-cons code None chain = refl
both-cons code (Some codes) (Ok infos) = refl
both-cons code (Some codes) (Err e) = refl

pub info-found : (is_first_framed : Bool) (info : UnwindInfo) (bytes : List ℕ) → IsInfo is_first_framed info bytes
    → (codes : List UnwindCode) → codes_of (is_first_framed && is_some info.frame_register) info.codes.now ≡ Some codes
    → info_of is_first_framed bytes ≡ Some (with_codes (header_seen info) codes)
info-found is_first_framed info bytes is codes found =
    ap (option_and_then (λ header. option_map (with_codes header) (codes_of (is_first_framed && is_some header.frame_register) header.code_bytes))) is.header
    ∙ ap (option_map (with_codes (header_seen info))) found

chain-end : (n : ℕ) (memory : Memory) (is_first_framed : Bool) → chain_from n memory is_first_framed None ≡ Ok []
chain-end zero memory is_first_framed = refl
chain-end (suc n) memory is_first_framed = refl

module _ (memory : Memory) (is_first_framed is_framed : Bool) (codes : List ℕ) (empty : length codes ≡ 0) where
  first : (chain : Result (List Info) PeUnwinderError) → both (codes_of is_framed codes) chain ≡ both (Some []) chain
  first chain = ap (λ (found : Option (List UnwindCode)). both found chain) (codes-none is_framed codes empty)

  pub left-end : (n : ℕ) (chained : Option ℕ) → chained ≡ None → both (codes_of is_framed codes) (chain_from n memory is_first_framed chained) ≡ Ok []
  left-end n chained none =
      ap (λ (c : Option ℕ). both (codes_of is_framed codes) (chain_from n memory is_first_framed c)) none
      ∙ first (chain_from n memory is_first_framed None)
      ∙ ap (both (Some [])) (chain-end n memory is_first_framed)

  pub left-too-many : (n : ℕ) (chained : Option ℕ) (address : ℕ) → n ≡ 0 → chained ≡ Some address
      → both (codes_of is_framed codes) (chain_from n memory is_first_framed chained) ≡ Err UnwindInfoParseError
  left-too-many n chained address none is =
      first (chain_from n memory is_first_framed chained)
      ∙ ap (λ (c : Option ℕ). both (Some []) (chain_from n memory is_first_framed c)) is
      ∙ ap (λ (k : ℕ). both (Some []) (chain_from k memory is_first_framed (Some address))) none

  at-info : (n m : ℕ) (chained : Option ℕ) (address : ℕ) → n ≡ suc m → chained ≡ Some address
      → both (codes_of is_framed codes) (chain_from n memory is_first_framed chained)
      ≡ both (Some []) (result_and_then (info_at memory is_first_framed address) (λ info. before info (chain_from m memory is_first_framed info.chained)))
  at-info n m chained address some is =
      first (chain_from n memory is_first_framed chained)
      ∙ ap (λ (c : Option ℕ). both (Some []) (chain_from n memory is_first_framed c)) is
      ∙ ap (λ (k : ℕ). both (Some []) (chain_from k memory is_first_framed (Some address))) some

  pub left-unread : (n m : ℕ) (chained : Option ℕ) (address : ℕ) (e : PeUnwinderError) → n ≡ suc m → chained ≡ Some address → memory address ≡ Err e
      → both (codes_of is_framed codes) (chain_from n memory is_first_framed chained) ≡ Err e
  left-unread n m chained address e some is fails =
      at-info n m chained address some is
      ∙ ap (λ (r : Result (List ℕ) PeUnwinderError). both (Some []) (result_and_then (result_and_then r (λ bytes. or_refusal UnwindInfoParseError (info_of is_first_framed bytes)))
      (λ info. before info (chain_from m memory is_first_framed info.chained)))) fails

  pub left-refused : (n m : ℕ) (chained : Option ℕ) (address : ℕ) (bytes : List ℕ) → n ≡ suc m → chained ≡ Some address → memory address ≡ Ok bytes → info_of is_first_framed bytes ≡ None
      → both (codes_of is_framed codes) (chain_from n memory is_first_framed chained) ≡ Err UnwindInfoParseError
  left-refused n m chained address bytes some is reads none =
      at-info n m chained address some is
      ∙ ap (λ (r : Result (List ℕ) PeUnwinderError). both (Some []) (result_and_then (result_and_then r (λ bytes. or_refusal UnwindInfoParseError (info_of is_first_framed bytes)))
      (λ info. before info (chain_from m memory is_first_framed info.chained)))) reads
      ∙ ap (λ (o : Option Info). both (Some []) (result_and_then (or_refusal UnwindInfoParseError o) (λ info. before info (chain_from m memory is_first_framed info.chained)))) none

  pub left-info : (n m : ℕ) (chained : Option ℕ) (address : ℕ) (bytes : List ℕ) (info : UnwindInfo) → n ≡ suc m → chained ≡ Some address → memory address ≡ Ok bytes
      → IsInfo is_first_framed info bytes
      → both (codes_of is_framed codes) (chain_from n memory is_first_framed chained)
      ≡ both (codes_of (is_first_framed && is_some info.frame_register) info.codes.now) (chain_from m memory is_first_framed info.chained)
  left-info n m chained address bytes info some is reads found = by (codes_of (is_first_framed && is_some info.frame_register) info.codes.now) refl found.codes
    where
      by : (o : Option (List UnwindCode)) → codes_of (is_first_framed && is_some info.frame_register) info.codes.now ≡ o → IsSome o
          → both (codes_of is_framed codes) (chain_from n memory is_first_framed chained)
          ≡ both (codes_of (is_first_framed && is_some info.frame_register) info.codes.now) (chain_from m memory is_first_framed info.chained)
      by None is_none never = cc
      by (Some there) is_some tests =
          at-info n m chained address some is
          ∙ ap (λ (r : Result (List ℕ) PeUnwinderError). both (Some []) (result_and_then (result_and_then r (λ bytes. or_refusal UnwindInfoParseError (info_of is_first_framed bytes)))
          (λ info. before info (chain_from m memory is_first_framed info.chained)))) reads
          ∙ ap (λ (o : Option Info). both (Some []) (result_and_then (or_refusal UnwindInfoParseError o) (λ info. before info (chain_from m memory is_first_framed info.chained))))
          (info-found is_first_framed info bytes found there is_some)
          ∙ both-before (with_codes (header_seen info) there) (chain_from m memory is_first_framed info.chained)
          ∙ ap (λ (o : Option (List UnwindCode)). both o (chain_from m memory is_first_framed info.chained)) (sym is_some)

-- one code more
pub left-code : (is_framed : Bool) (codes : List ℕ) (chain : Result (List Info) PeUnwinderError) (code : UnwindCode) (size : ℕ) → 0 < length codes → code_of is_framed codes ≡ Some (code, size)
    → both (codes_of is_framed codes) chain ≡ with_operation code.operation (both (codes_of is_framed (drop size codes)) chain)
left-code is_framed codes chain code size some found =
    ap (λ (o : Option (List UnwindCode)). both o chain) (codes-cons is_framed codes code size some found) ∙ both-cons code (codes_of is_framed (drop size codes)) chain

pub left-no-code : (is_framed : Bool) (codes : List ℕ) (chain : Result (List Info) PeUnwinderError) → 0 < length codes → code_of is_framed codes ≡ None
    → both (codes_of is_framed codes) chain ≡ Err UnwindInfoParseError
left-no-code is_framed codes chain some none = ap (λ (o : Option (List UnwindCode)). both o chain) (codes-refused is_framed codes some none)

-- ---- leading codes

ran-cons : (offset : ℕ) (code : UnwindCode) (found : Option (List UnwindCode)) → nat_lt offset code.prolog_offset ≡ false
    → option_map (ran_codes offset) (option_map (λ codes. code ∷ codes) found) ≡ option_map (λ codes. code ∷ codes) found
ran-cons offset code None ran = refl
ran-cons offset code (Some codes) ran = ap (λ (b : Bool). Some (if b then ran_codes offset codes else code ∷ codes)) ran

ran-skip : (offset : ℕ) (code : UnwindCode) (found : Option (List UnwindCode)) → nat_lt offset code.prolog_offset ≡ true
    → option_map (ran_codes offset) (option_map (λ codes. code ∷ codes) found) ≡ option_map (ran_codes offset) found
ran-skip offset code None later = refl
ran-skip offset code (Some codes) later = ap (λ (b : Bool). Some (if b then ran_codes offset codes else code ∷ codes)) later

module _ (is_framed : Bool) (offset : ℕ) (codes : List ℕ) where
  pub ran-none : length codes ≡ 0 → codes_of is_framed codes ≡ option_map (ran_codes offset) (codes_of is_framed codes)
  ran-none empty = codes-none is_framed codes empty ∙ ap (option_map (ran_codes offset)) (sym (codes-none is_framed codes empty))

  pub ran-refused : 0 < length codes → code_of is_framed codes ≡ None → codes_of is_framed codes ≡ option_map (ran_codes offset) (codes_of is_framed codes)
  ran-refused some none = codes-refused is_framed codes some none ∙ ap (option_map (ran_codes offset)) (sym (codes-refused is_framed codes some none))

  pub ran-here : (code : UnwindCode) (size : ℕ) → 0 < length codes → code_of is_framed codes ≡ Some (code, size) → nat_lt offset code.prolog_offset ≡ false
      → codes_of is_framed codes ≡ option_map (ran_codes offset) (codes_of is_framed codes)
  ran-here code size some found ran =
      let at = codes-cons is_framed codes code size some found in
      at ∙ sym (ran-cons offset code (codes_of is_framed (drop size codes)) ran) ∙ ap (option_map (ran_codes offset)) (sym at)

  pub ran-later : (code : UnwindCode) (size : ℕ) → 0 < length codes → code_of is_framed codes ≡ Some (code, size) → nat_lt offset code.prolog_offset ≡ true
      → option_map (ran_codes offset) (codes_of is_framed (drop size codes)) ≡ option_map (ran_codes offset) (codes_of is_framed codes)
  ran-later code size some found later =
      let at = codes-cons is_framed codes code size some found in
      sym (ran-skip offset code (codes_of is_framed (drop size codes)) later) ∙ ap (option_map (ran_codes offset)) (sym at)
