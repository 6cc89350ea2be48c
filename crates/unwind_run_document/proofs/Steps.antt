-- The fields of a step and of a walk.
use Rattle.std.proofs.Common.{◌≡◌, ℕ, List, Option, Bool, true, cond, Ok, Vec, Global, sym, ap, ◌∙◌}
use Rattle.unwind_run_document.specs.declared.command.FrameKind.{FrameKind}
use Rattle.unwind_run_document.specs.declared.command.Stack.{Stack}
use Rattle.unwind_run_document.specs.declared.registers.StatedRegisters.{StatedRegisters}
use Rattle.json_program.specs.Faults.{Checked, ◌⊛◌, both}
use Rattle.unwind_run_document.specs.Registers.{all_bits, registers_of}
use Rattle.unwind_run_document.specs.Steps.{stepping_of, walking_of}
use Rattle.unwind_run_document.specs.Tasks.{StackWords}
use Rattle.json_program.specs.Decoded.{result_map}
use Rattle.unwind_run_document.specs.CommandViews.{words_view}
use Rattle.json_program.proofs.Laws.{first-field, and-field, as_it_is}

-- the value of a test that holds
pub under : {A : Type 0} (has : Bool) (x y z : A) → has ≡ true → x ≡ y → x ≡ cond has y z
under has x y z holds is = is ∙ ap (λ b. cond b y z) (sym holds)

abbrev pub Others : Type 0
Others = List (Option ℕ)

abbrev pub registers : ℕ → ℕ → ℕ → Others → StatedRegisters
registers ip sp bp others = registers_of ip sp bp all_bits others

pub three_registers : (ip sp bp : Checked ℕ) (o : Checked Others) (one : Checked (ℕ × ℕ)) (two : Checked ((ℕ × ℕ) × ℕ)) (three : Checked (((ℕ × ℕ) × ℕ) × Others))
    (a b c : Checked ℕ) (d : Checked Others)
    → ip ≡ a → sp ≡ b → bp ≡ c → o ≡ d → one ≡ both ip sp → two ≡ both one bp → three ≡ both two o
    → result_map (λ p. registers p.0.0.0 p.0.0.1 p.0.1 p.1) three ≡ Ok registers ⊛ a ⊛ b ⊛ c ⊛ d
three_registers ip sp bp o one two three a b c d ip_is sp_is bp_is o_is one_is two_is three_is =
    and-field (λ p. registers p.0.0 p.0.1 p.1) (λ v. v) two o three _ d
    (and-field (λ p. registers p.0 p.1) (λ v. v) one bp two _ c
    (and-field registers (λ v. v) ip sp one _ b (first-field registers (λ v. v) ip a (as_it_is ip a ip_is)) (as_it_is sp b sp_is) one_is)
    (as_it_is bp c bp_is) two_is)
    (as_it_is o d o_is) three_is

pub four_registers : (lr sp fp mask : Checked ℕ) (o : Checked Others)
    (one : Checked (ℕ × ℕ)) (two : Checked ((ℕ × ℕ) × ℕ)) (three : Checked (((ℕ × ℕ) × ℕ) × ℕ)) (four : Checked ((((ℕ × ℕ) × ℕ) × ℕ) × Others))
    (a b c d : Checked ℕ) (e : Checked Others)
    → lr ≡ a → sp ≡ b → fp ≡ c → mask ≡ d → o ≡ e → one ≡ both lr sp → two ≡ both one fp → three ≡ both two mask → four ≡ both three o
    → result_map (λ p. registers_of p.0.0.0.0 p.0.0.0.1 p.0.0.1 p.0.1 p.1) four ≡ Ok registers_of ⊛ a ⊛ b ⊛ c ⊛ d ⊛ e
four_registers lr sp fp mask o one two three four a b c d e lr_is sp_is fp_is mask_is o_is one_is two_is three_is four_is =
    and-field (λ p. registers_of p.0.0.0 p.0.0.1 p.0.1 p.1) (λ v. v) three o four _ e
    (and-field (λ p. registers_of p.0.0 p.0.1 p.1) (λ v. v) two mask three _ d
    (and-field (λ p. registers_of p.0 p.1) (λ v. v) one fp two _ c
    (and-field registers_of (λ v. v) lr sp one _ b (first-field registers_of (λ v. v) lr a (as_it_is lr a lr_is)) (as_it_is sp b sp_is) one_is)
    (as_it_is fp c fp_is) two_is)
    (as_it_is mask d mask_is) three_is)
    (as_it_is o e o_is) four_is

abbrev pub Numbers : Type 0
Numbers = Vec ℕ Global

pub two_fields : (start : Checked ℕ) (words : Checked Numbers) (one : Checked (ℕ × Numbers)) (S : Checked ℕ) (W : Checked (List ℕ))
    → start ≡ S → result_map (λ v. v.items) words ≡ W → one ≡ both start words
    → result_map (λ p. (p.0, p.1.items)) one ≡ both S W
two_fields start words one S W start_is words_is one_is =
    and-field (λ x y. (x, y)) (λ v. v.items) start words one _ W (first-field (λ x y. (x, y)) (λ v. v) start S (as_it_is start S start_is)) words_is one_is

pub five_fields : (u c : Checked ℕ) (f : Checked (FrameKind × ℕ)) (r : Checked StatedRegisters) (s : Checked Stack)
    (one : Checked (ℕ × ℕ)) (two : Checked ((ℕ × ℕ) × (FrameKind × ℕ))) (three : Checked (((ℕ × ℕ) × (FrameKind × ℕ)) × StatedRegisters))
    (four : Checked ((((ℕ × ℕ) × (FrameKind × ℕ)) × StatedRegisters) × Stack))
    (U C : Checked ℕ) (F : Checked (FrameKind × ℕ)) (R : Checked StatedRegisters) (S : Checked StackWords)
    → u ≡ U → c ≡ C → f ≡ F → r ≡ R → result_map words_view s ≡ S
    → one ≡ both u c → two ≡ both one f → three ≡ both two r → four ≡ both three s
    → result_map (λ p. stepping_of p.0.0.0.0 p.0.0.0.1 p.0.0.1 p.0.1 (words_view p.1)) four ≡ Ok stepping_of ⊛ U ⊛ C ⊛ F ⊛ R ⊛ S
five_fields u c f r s one two three four U C F R S u_is c_is f_is r_is s_is one_is two_is three_is four_is =
    and-field (λ p. stepping_of p.0.0.0 p.0.0.1 p.0.1 p.1) words_view three s four _ S
    (and-field (λ p. stepping_of p.0.0 p.0.1 p.1) (λ v. v) two r three _ R
    (and-field (λ p. stepping_of p.0 p.1) (λ v. v) one f two _ F
    (and-field stepping_of (λ v. v) u c one _ C (first-field stepping_of (λ v. v) u U (as_it_is u U u_is)) (as_it_is c C c_is) one_is)
    (as_it_is f F f_is) two_is)
    (as_it_is r R r_is) three_is)
    s_is four_is

pub six_fields : (u c p l : Checked ℕ) (r : Checked StatedRegisters) (s : Checked Stack)
    (one : Checked (ℕ × ℕ)) (two : Checked ((ℕ × ℕ) × ℕ)) (three : Checked (((ℕ × ℕ) × ℕ) × ℕ))
    (four : Checked ((((ℕ × ℕ) × ℕ) × ℕ) × StatedRegisters)) (five : Checked (((((ℕ × ℕ) × ℕ) × ℕ) × StatedRegisters) × Stack))
    (U C P L : Checked ℕ) (R : Checked StatedRegisters) (S : Checked StackWords)
    → u ≡ U → c ≡ C → p ≡ P → l ≡ L → r ≡ R → result_map words_view s ≡ S
    → one ≡ both u c → two ≡ both one p → three ≡ both two l → four ≡ both three r → five ≡ both four s
    → result_map (λ p. walking_of p.0.0.0.0.0 p.0.0.0.0.1 p.0.0.0.1 p.0.0.1 p.0.1 (words_view p.1)) five ≡ Ok walking_of ⊛ U ⊛ C ⊛ P ⊛ L ⊛ R ⊛ S
six_fields u c p l r s one two three four five U C P L R S u_is c_is p_is l_is r_is s_is one_is two_is three_is four_is five_is =
    and-field (λ p. walking_of p.0.0.0.0 p.0.0.0.1 p.0.0.1 p.0.1 p.1) words_view four s five _ S
    (and-field (λ p. walking_of p.0.0.0 p.0.0.1 p.0.1 p.1) (λ v. v) three r four _ R
    (and-field (λ p. walking_of p.0.0 p.0.1 p.1) (λ v. v) two l three _ L
    (and-field (λ p. walking_of p.0 p.1) (λ v. v) one p two _ P
    (and-field walking_of (λ v. v) u c one _ C (first-field walking_of (λ v. v) u U (as_it_is u U u_is)) (as_it_is c C c_is) one_is)
    (as_it_is p P p_is) two_is)
    (as_it_is l L l_is) three_is)
    (as_it_is r R r_is) four_is)
    s_is five_is
