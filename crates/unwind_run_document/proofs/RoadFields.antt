-- The fields of the command `roads`.
use Rattle.std.proofs.Common.{◌≡◌, ℕ, List, Ok, Vec, Global}
use Rattle.unwind_run_document.specs.declared.command.FrameKind.{FrameKind}
use Rattle.unwind_run_document.specs.declared.command.Stack.{Stack}
use Rattle.unwind_run_document.specs.declared.command.StatedTables.{StatedTables}
use Rattle.unwind_run_document.specs.declared.registers.StatedRegisters.{StatedRegisters}
use Rattle.json_program.specs.Faults.{Checked, ◌⊛◌, both}
use Rattle.unwind_run_document.specs.Lookups.{tables_of, road_steps_of}
use Rattle.unwind_run_document.specs.Tasks.{RoadSteps, StackWords, TableData}
use Rattle.json_program.specs.Decoded.{result_map}
use Rattle.unwind_run_document.specs.CommandViews.{tables_view, words_view}
use Rattle.json_program.proofs.Laws.{first-field, and-field, as_it_is}

abbrev pub Bytes : Type 0
Bytes = Vec ℕ Global

abbrev pub One : Type 0
One = Bytes × ℕ

abbrev pub Two : Type 0
Two = One × Bytes

abbrev pub Three : Type 0
Three = Two × ℕ

abbrev pub Four : Type 0
Four = Three × ℕ

-- the section and the header that the five fields make
abbrev pub tables_made : Four → TableData
tables_made p = tables_of p.0.0.0.0.items p.0.0.0.1 p.0.0.1.items p.0.1 p.1

pub table_fields : (s : Checked Bytes) (a : Checked ℕ) (h : Checked Bytes) (b v : Checked ℕ)
    (one : Checked One) (two : Checked Two) (three : Checked Three) (four : Checked Four)
    (S : Checked (List ℕ)) (A : Checked ℕ) (H : Checked (List ℕ)) (B V : Checked ℕ)
    → result_map (λ x. x.items) s ≡ S → a ≡ A → result_map (λ x. x.items) h ≡ H → b ≡ B → v ≡ V
    → one ≡ both s a → two ≡ both one h → three ≡ both two b → four ≡ both three v
    → result_map tables_made four ≡ Ok tables_of ⊛ S ⊛ A ⊛ H ⊛ B ⊛ V
table_fields s a h b v one two three four S A H B V s_is a_is h_is b_is v_is one_is two_is three_is four_is =
    and-field (λ p. tables_of p.0.0.0.items p.0.0.1 p.0.1.items p.1) (λ x. x) three v four _ V
    (and-field (λ p. tables_of p.0.0.items p.0.1 p.1.items) (λ x. x) two b three _ B
    (and-field (λ p. tables_of p.0.items p.1) (λ x. x.items) one h two _ H
    (and-field (λ t. tables_of t.items) (λ x. x) s a one _ A (first-field tables_of (λ x. x.items) s S s_is) (as_it_is a A a_is) one_is)
    h_is two_is)
    (as_it_is b B b_is) three_is)
    (as_it_is v V v_is) four_is

abbrev pub Framed : Type 0
Framed = StatedTables × (FrameKind × ℕ)

abbrev pub Stepped : Type 0
Stepped = (Framed × StatedRegisters) × Stack

-- the steps that the four fields make
abbrev pub roads_made : Stepped → RoadSteps
roads_made p = road_steps_of (tables_view p.0.0.0) p.0.0.1 p.0.1 (words_view p.1)

pub road_fields : (t : Checked StatedTables) (f : Checked (FrameKind × ℕ)) (r : Checked StatedRegisters) (s : Checked Stack)
    (one : Checked Framed) (two : Checked (Framed × StatedRegisters)) (three : Checked Stepped)
    (T : Checked TableData) (F : Checked (FrameKind × ℕ)) (R : Checked StatedRegisters) (S : Checked StackWords)
    → result_map tables_view t ≡ T → f ≡ F → r ≡ R → result_map words_view s ≡ S
    → one ≡ both t f → two ≡ both one r → three ≡ both two s
    → result_map roads_made three ≡ Ok road_steps_of ⊛ T ⊛ F ⊛ R ⊛ S
road_fields t f r s one two three T F R S t_is f_is r_is s_is one_is two_is three_is =
    and-field (λ p. road_steps_of (tables_view p.0.0) p.0.1 p.1) words_view two s three _ S
    (and-field (λ p. road_steps_of (tables_view p.0) p.1) (λ x. x) one r two _ R
    (and-field (λ x. road_steps_of (tables_view x)) (λ x. x) t f one _ F (first-field road_steps_of tables_view t T t_is) (as_it_is f F f_is) one_is)
    (as_it_is r R r_is) two_is)
    s_is three_is
