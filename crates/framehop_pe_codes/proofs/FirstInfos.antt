-- The first info of a chain, and the codes that are left after it.
use Rattle.std.proofs.Common.{◌≡◌, ◌∙◌, ℕ, Bool, true, List, ap, sym, refl}
use Rattle.std.specs.Prelude.{Option, Some, None, Ok, IsSome, is_some}
use Rattle.std.specs.Option.{option_map}
use Rattle.framehop_errors.specs.declared.pe.PeUnwinderError.TheVariants.{UnwindInfoParseError}
use Rattle.framehop_pe_codes.specs.Codes.{codes_of}
use Rattle.framehop_pe_codes.specs.CodesToUndo.{operations_from}
use Rattle.framehop_pe_codes.specs.InfoViews.{IsFirst, IsFirstAt, IsInfo, header_seen}
use Rattle.framehop_pe_codes.specs.Infos.{Info, chain_from, info_of, ran_codes, with_codes}
use Rattle.framehop_pe_codes.specs.Machine.{framed}
use Rattle.framehop_pe_codes.specs.Refusals.{PeResult, or_refusal, result_and_then}
use Rattle.framehop_pe_codes.specs.Sections.{Memory}
use Rattle.framehop_pe_codes.specs.declared.info.UnwindInfo.{UnwindInfo}
use Rattle.framehop_pe_codes.specs.declared.operation.UnwindCode.{UnwindCode}
use Rattle.framehop_pe_codes.proofs.ChainCodes.{both, info-found}

-- an info that is read at an address is the first of its chain
pub first-at : (memory : Memory) (info : UnwindInfo) (address : ℕ) (bytes : List ℕ) → memory address ≡ Ok bytes → IsInfo true info bytes
    → IsFirstAt memory info address
first-at memory info address bytes reads found = by (codes_of (is_some info.frame_register) info.codes.now) refl found.codes
  where
    by : (o : Option (List UnwindCode)) → codes_of (is_some info.frame_register) info.codes.now ≡ o → IsSome o → IsFirstAt memory info address
    by None is never = cc
    by (Some codes) is some = record {
      first = with_codes (header_seen info) codes;
      is_first = record { codes = is; is = refl };
      read = ap (λ (r : PeResult (List ℕ)). result_and_then r (λ bytes. or_refusal UnwindInfoParseError (info_of true bytes))) reads
          ∙ ap (or_refusal UnwindInfoParseError) (info-found true info bytes found codes is);
    }

-- the codes that are left after the first info
pub left-after : (memory : Memory) (info : UnwindInfo) (first : Info) (offset : ℕ) (rest : List ℕ) (is_framed : Bool) → is_framed ≡ is_some info.frame_register → IsFirst info first
    → codes_of is_framed rest ≡ option_map (ran_codes offset) (codes_of is_framed info.codes.now)
    → both (codes_of is_framed rest) (chain_from 31 memory is_framed info.chained) ≡ operations_from memory first offset
left-after memory info first offset rest is_framed framed is_first left =
    ap (λ (o : Option (List UnwindCode)). both o (chain_from 31 memory is_framed info.chained)) left
    ∙ ap (λ (b : Bool). both (option_map (ran_codes offset) (codes_of b info.codes.now)) (chain_from 31 memory b info.chained)) framed
    ∙ ap (λ (o : Option (List UnwindCode)). both (option_map (ran_codes offset) o) (chain_from 31 memory (is_some info.frame_register) info.chained)) is_first.codes
    ∙ ap (λ (i : Info). operations_from memory i offset) (sym is_first.is)
