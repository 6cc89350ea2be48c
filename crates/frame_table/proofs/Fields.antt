-- The fields of a document.
use Rattle.std.proofs.Common.{◌≡◌, ℕ, List, Option, Ok, Vec, Global}
use Rattle.json_program.specs.Faults.{Checked, ◌⊛◌, both}
use Rattle.json_program.specs.Decoded.{result_map}
use Rattle.json_program.proofs.Laws.{first-field, and-field, as_it_is}
use Rattle.frame_table.specs.Document.{stated_of}
use Rattle.frame_table_files.specs.declared.section_name.SectionName.{SectionName}
use Rattle.frame_table.specs.declared.names.Machine.{Machine}

abbrev pub Bytes : Type 0
Bytes = Vec ℕ Global

abbrev pub One : Type 0
One = SectionName × Option Machine

abbrev pub Two : Type 0
Two = One × ℕ

abbrev pub Three : Type 0
Three = Two × ℕ

abbrev pub Four : Type 0
Four = Three × Bytes

pub five_fields : (n : Checked SectionName) (m : Checked (Option Machine)) (s z : Checked ℕ) (b : Checked Bytes)
    (one : Checked One) (two : Checked Two) (three : Checked Three) (four : Checked Four)
    (N : Checked SectionName) (M : Checked (Option Machine)) (S Z : Checked ℕ) (B : Checked (List ℕ))
    → n ≡ N → m ≡ M → s ≡ S → z ≡ Z → result_map (λ v. v.items) b ≡ B
    → one ≡ both n m → two ≡ both one s → three ≡ both two z → four ≡ both three b
    → result_map (λ p. stated_of p.0.0.0.0 p.0.0.0.1 p.0.0.1 p.0.1 p.1.items) four ≡ Ok stated_of ⊛ N ⊛ M ⊛ S ⊛ Z ⊛ B
five_fields n m s z b one two three four N M S Z B n_is m_is s_is z_is b_is one_is two_is three_is four_is =
    and-field (λ p. stated_of p.0.0.0 p.0.0.1 p.0.1 p.1) (λ v. v.items) three b four _ B
    (and-field (λ p. stated_of p.0.0 p.0.1 p.1) (λ v. v) two z three _ Z
    (and-field (λ p. stated_of p.0 p.1) (λ v. v) one s two _ S
    (and-field stated_of (λ v. v) n m one _ M (first-field stated_of (λ v. v) n N (as_it_is n N n_is)) (as_it_is m M m_is) one_is)
    (as_it_is s S s_is) two_is)
    (as_it_is z Z z_is) three_is)
    b_is four_is
