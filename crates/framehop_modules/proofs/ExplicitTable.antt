-- The names of sections that are given one by one: which are of one section, and what is left of the others.
use Rattle.std.proofs.Common.{◌≡◌, ◌∙◌, ap, sym, refl, ℕ, List, Bool, true, false, Option, Some, None}
use Rattle.std.specs.Prelude.{codes, bytes_eq, ◌||◌, if◌then◌else◌, option_and_then, IfSome}
use Rattle.std.proofs.lemmas.Slice.Eq.{bytes_eq-Decides}
use Rattle.framehop_modules.specs.Sections.{bare_name, may_be_one}
use Rattle.framehop_modules.specs.ExplicitTable.{kind_named, data_of}
use Rattle.framehop_modules.specs.declared.module_section_info.ExplicitModuleSectionInfo.{ExplicitModuleSectionInfo}
use Rattle.framehop_modules.specs.declared.module_section_info.SectionKind.{SectionKind}
use Rattle.framehop_modules.specs.declared.module_section_info.SectionKind.TheVariants.{Text, Got, EhFrame, EhFrameHdr, DebugFrame, Stubs, StubHelper, UnwindInfo}

-- the name of a section without what stands before it
abbrev bare_of : SectionKind → List ℕ
bare_of Text = codes "text"
bare_of Got = codes "got"
bare_of EhFrame = codes "eh_frame"
bare_of EhFrameHdr = codes "eh_frame_hdr"
bare_of DebugFrame = codes "debug_frame"
bare_of Stubs = codes "stubs"
bare_of StubHelper = codes "stub_helper"
bare_of UnwindInfo = codes "unwind_info"

module _ (name one : List ℕ) (x k : SectionKind) (rest : Option SectionKind) (bare : bare_name one ≡ bare_of x) (others : rest ≡ Some k → bare_name name ≡ bare_of k) where
  by_one : (p : Bool) → bytes_eq name one ≡ p → (if p then Some x else rest) ≡ Some k → bare_name name ≡ bare_of k
  by_one true is named = let same : x ≡ k = cc in ap bare_name ((bytes_eq-Decides name one).0 is) ∙ bare ∙ ap bare_of same
  by_one false is named = others named

  by_two : (other : List ℕ) → bare_name other ≡ bare_of x → (p q : Bool) → bytes_eq name one ≡ p → bytes_eq name other ≡ q → (if p || q then Some x else rest) ≡ Some k → bare_name name ≡ bare_of k
  by_two other also true q is isq named = let same : x ≡ k = cc in ap bare_name ((bytes_eq-Decides name one).0 is) ∙ bare ∙ ap bare_of same
  by_two other also false true is isq named = let same : x ≡ k = cc in ap bare_name ((bytes_eq-Decides name other).0 isq) ∙ also ∙ ap bare_of same
  by_two other also false false is isq named = others named

-- all names of a section are one but for what stands before it
named-bare : (name : List ℕ) (k : SectionKind) → kind_named name ≡ Some k → bare_name name ≡ bare_of k
named-bare name k =
    by_two name (codes "__text") Text k _ refl (
    by_two name (codes "__got") Got k _ refl (
    by_two name (codes "__eh_frame") EhFrame k _ refl (
    by_two name (codes "__eh_frame_hdr") EhFrameHdr k _ refl (
    by_two name (codes "__debug_frame") DebugFrame k _ refl (
    by_one name (codes "__stubs") Stubs k _ refl (
    by_one name (codes "__stub_helper") StubHelper k _ refl (
    by_one name (codes "__unwind_info") UnwindInfo k _ refl (
    λ none. absurd cc)
    (bytes_eq name (codes "__unwind_info")) refl)
    (bytes_eq name (codes "__stub_helper")) refl)
    (bytes_eq name (codes "__stubs")) refl)
    (codes ".debug_frame") refl (bytes_eq name (codes "__debug_frame")) (bytes_eq name (codes ".debug_frame")) refl refl)
    (codes ".eh_frame_hdr") refl (bytes_eq name (codes "__eh_frame_hdr")) (bytes_eq name (codes ".eh_frame_hdr")) refl refl)
    (codes ".eh_frame") refl (bytes_eq name (codes "__eh_frame")) (bytes_eq name (codes ".eh_frame")) refl refl)
    (codes ".got") refl (bytes_eq name (codes "__got")) (bytes_eq name (codes ".got")) refl refl)
    (codes ".text") refl (bytes_eq name (codes "__text")) (bytes_eq name (codes ".text")) refl refl

-- a name of another section is not the name of this one
pub apart : (name other : List ℕ) (k : SectionKind) → kind_named name ≡ Some k → may_be_one name other ≡ false → kind_named other ≡ Some k → ⊥
apart name other k here differ there =
    let same : bare_name name ≡ bare_name other = named-bare name k here ∙ sym (named-bare other k there) in
    let one : may_be_one name other ≡ true = (bytes_eq-Decides (bare_name name) (bare_name other)).1 same in
    cc

-- what holds anyway holds of what was handed out
pub in_any_case : {A : Type 0} (o : Option A) (P : Type 0) → P → IfSome o (λ _. P)
in_any_case (Some x) P p = p
in_any_case None P p = tt

-- the data of the other sections stays when that of one is handed out
module _ {D : Type 0} (info : ExplicitModuleSectionInfo D) (left : Option D) where
  pub text-apart : (o : Option SectionKind) → (o ≡ Some Text → ⊥) → option_and_then (data_of (record info { text = left })) o ≡ option_and_then (data_of info) o
  text-apart None differs = refl
  text-apart (Some Text) differs = absurd (differs refl)
  text-apart (Some Got) differs = refl
  text-apart (Some EhFrame) differs = refl
  text-apart (Some EhFrameHdr) differs = refl
  text-apart (Some DebugFrame) differs = refl
  text-apart (Some Stubs) differs = refl
  text-apart (Some StubHelper) differs = refl
  text-apart (Some UnwindInfo) differs = refl

  pub eh_frame-apart : (o : Option SectionKind) → (o ≡ Some EhFrame → ⊥) → option_and_then (data_of (record info { eh_frame = left })) o ≡ option_and_then (data_of info) o
  eh_frame-apart None differs = refl
  eh_frame-apart (Some Text) differs = refl
  eh_frame-apart (Some Got) differs = refl
  eh_frame-apart (Some EhFrame) differs = absurd (differs refl)
  eh_frame-apart (Some EhFrameHdr) differs = refl
  eh_frame-apart (Some DebugFrame) differs = refl
  eh_frame-apart (Some Stubs) differs = refl
  eh_frame-apart (Some StubHelper) differs = refl
  eh_frame-apart (Some UnwindInfo) differs = refl

  pub eh_frame_hdr-apart : (o : Option SectionKind) → (o ≡ Some EhFrameHdr → ⊥) → option_and_then (data_of (record info { eh_frame_hdr = left })) o ≡ option_and_then (data_of info) o
  eh_frame_hdr-apart None differs = refl
  eh_frame_hdr-apart (Some Text) differs = refl
  eh_frame_hdr-apart (Some Got) differs = refl
  eh_frame_hdr-apart (Some EhFrame) differs = refl
  eh_frame_hdr-apart (Some EhFrameHdr) differs = absurd (differs refl)
  eh_frame_hdr-apart (Some DebugFrame) differs = refl
  eh_frame_hdr-apart (Some Stubs) differs = refl
  eh_frame_hdr-apart (Some StubHelper) differs = refl
  eh_frame_hdr-apart (Some UnwindInfo) differs = refl

  pub debug_frame-apart : (o : Option SectionKind) → (o ≡ Some DebugFrame → ⊥) → option_and_then (data_of (record info { debug_frame = left })) o ≡ option_and_then (data_of info) o
  debug_frame-apart None differs = refl
  debug_frame-apart (Some Text) differs = refl
  debug_frame-apart (Some Got) differs = refl
  debug_frame-apart (Some EhFrame) differs = refl
  debug_frame-apart (Some EhFrameHdr) differs = refl
  debug_frame-apart (Some DebugFrame) differs = absurd (differs refl)
  debug_frame-apart (Some Stubs) differs = refl
  debug_frame-apart (Some StubHelper) differs = refl
  debug_frame-apart (Some UnwindInfo) differs = refl

  pub unwind_info-apart : (o : Option SectionKind) → (o ≡ Some UnwindInfo → ⊥) → option_and_then (data_of (record info { unwind_info = left })) o ≡ option_and_then (data_of info) o
  unwind_info-apart None differs = refl
  unwind_info-apart (Some Text) differs = refl
  unwind_info-apart (Some Got) differs = refl
  unwind_info-apart (Some EhFrame) differs = refl
  unwind_info-apart (Some EhFrameHdr) differs = refl
  unwind_info-apart (Some DebugFrame) differs = refl
  unwind_info-apart (Some Stubs) differs = refl
  unwind_info-apart (Some StubHelper) differs = refl
  unwind_info-apart (Some UnwindInfo) differs = absurd (differs refl)
