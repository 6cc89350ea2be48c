-- The names of sections of a PE file: which are of one section, and what is left of the others.
use Rattle.std.proofs.Common.{◌≡◌, ◌∙◌, ap, sym, refl, ℕ, List, Bool, true, false, Option, Some, None}
use Rattle.std.specs.Prelude.{codes, bytes_eq, if◌then◌else◌, option_and_then}
use Rattle.std.proofs.lemmas.Slice.Eq.{bytes_eq-Decides}
use Rattle.framehop_modules.specs.Sections.{bare_name, may_be_one}
use Rattle.framehop_modules.specs.PeTable.{pe_data_of, pe_kind_named}
use Rattle.framehop_modules.specs.declared.pe_section_info.PeModuleSectionInfo.{PeModuleSectionInfo}
use Rattle.framehop_modules.specs.declared.pe_section_info.PeSectionKind.{PeSectionKind}
use Rattle.framehop_modules.specs.declared.pe_section_info.PeSectionKind.TheVariants.{Pdata, Rdata, Xdata, Text}

abbrev name_of : PeSectionKind → List ℕ
name_of Pdata = codes ".pdata"
name_of Rdata = codes ".rdata"
name_of Xdata = codes ".xdata"
name_of Text = codes ".text"

by-test : (name : List ℕ) (x k : PeSectionKind) (rest : Option PeSectionKind) → (rest ≡ Some k → name ≡ name_of k)
    → (p : Bool) → bytes_eq name (name_of x) ≡ p → (if p then Some x else rest) ≡ Some k → name ≡ name_of k
by-test name x k rest others true is named = let same : x ≡ k = cc in (bytes_eq-Decides name (name_of x)).0 is ∙ ap name_of same
by-test name x k rest others false is named = others named

-- a section has one name
named : (name : List ℕ) (k : PeSectionKind) → pe_kind_named name ≡ Some k → name ≡ name_of k
named name k =
    by-test name Pdata k _ (
    by-test name Rdata k _ (
    by-test name Xdata k _ (
    by-test name Text k _ (λ none. absurd cc)
    (bytes_eq name (codes ".text")) refl)
    (bytes_eq name (codes ".xdata")) refl)
    (bytes_eq name (codes ".rdata")) refl)
    (bytes_eq name (codes ".pdata")) refl

-- a name of another section is not the name of this one
pub pe-apart : (name other : List ℕ) (k : PeSectionKind) → pe_kind_named name ≡ Some k → may_be_one name other ≡ false → pe_kind_named other ≡ Some k → ⊥
pe-apart name other k here differ there =
    let same : name ≡ other = named name k here ∙ sym (named other k there) in
    let one : may_be_one name other ≡ true = (bytes_eq-Decides (bare_name name) (bare_name other)).1 (ap bare_name same) in
    cc

-- the data of the other sections stays when that of one is handed out
module _ {D : Type 0} (info : PeModuleSectionInfo D) (left : Option D) where
  pub pdata-apart : (o : Option PeSectionKind) → (o ≡ Some Pdata → ⊥) → option_and_then (pe_data_of (record info { pdata = left })) o ≡ option_and_then (pe_data_of info) o
  pdata-apart None differs = refl
  pdata-apart (Some Pdata) differs = absurd (differs refl)
  pdata-apart (Some Rdata) differs = refl
  pdata-apart (Some Xdata) differs = refl
  pdata-apart (Some Text) differs = refl

  pub rdata-apart : (o : Option PeSectionKind) → (o ≡ Some Rdata → ⊥) → option_and_then (pe_data_of (record info { rdata = left })) o ≡ option_and_then (pe_data_of info) o
  rdata-apart None differs = refl
  rdata-apart (Some Pdata) differs = refl
  rdata-apart (Some Rdata) differs = absurd (differs refl)
  rdata-apart (Some Xdata) differs = refl
  rdata-apart (Some Text) differs = refl

  pub xdata-apart : (o : Option PeSectionKind) → (o ≡ Some Xdata → ⊥) → option_and_then (pe_data_of (record info { xdata = left })) o ≡ option_and_then (pe_data_of info) o
  xdata-apart None differs = refl
  xdata-apart (Some Pdata) differs = refl
  xdata-apart (Some Rdata) differs = refl
  xdata-apart (Some Xdata) differs = absurd (differs refl)
  xdata-apart (Some Text) differs = refl

  pub pe-text-apart : (o : Option PeSectionKind) → (o ≡ Some Text → ⊥) → option_and_then (pe_data_of (record info { text = left })) o ≡ option_and_then (pe_data_of info) o
  pe-text-apart None differs = refl
  pe-text-apart (Some Pdata) differs = refl
  pe-text-apart (Some Rdata) differs = refl
  pe-text-apart (Some Xdata) differs = refl
  pe-text-apart (Some Text) differs = absurd (differs refl)
