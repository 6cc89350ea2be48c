-- The fields of a load, of an unload and of a section.
use Rattle.std.proofs.Common.{◌≡◌, ℕ, List, Option, option_map, Ok, String, Vec, Global, string_bytes}
use Rattle.unwind_run_document.specs.declared.command.AddressRange.{AddressRange}
use Rattle.unwind_run_document.specs.declared.command.StatedOptions.{StatedOptions}
use Rattle.unwind_run_document.specs.declared.command.StatedSection.{StatedSection as Section}
use Rattle.json_program.specs.Faults.{Checked, ◌⊛◌, both}
use Rattle.unwind_run_document.specs.Loads.{loading_of, unloading_of}
use Rattle.unwind_run_document.specs.Tasks.{Loading, StatedSection}
use Rattle.json_program.specs.Decoded.{result_map}
use Rattle.unwind_run_document.specs.CommandViews.{sections_view}
use Rattle.json_program.proofs.Laws.{first-field, and-field, as_it_is}

abbrev pub Text : Type 0
Text = String Global

abbrev pub Bytes : Type 0
Bytes = Vec ℕ Global

abbrev pub bytes_view : Option Bytes → Option (List ℕ)
bytes_view = option_map (λ b. b.items)

abbrev pub section : List ℕ → Option AddressRange → Option (List ℕ) → StatedSection
section name range bytes = record { name = name; range = range; bytes = bytes }

pub three_fields : (n : Checked Text) (r : Checked (Option AddressRange)) (b : Checked (Option Bytes))
    (one : Checked (Text × Option AddressRange)) (two : Checked ((Text × Option AddressRange) × Option Bytes))
    (N : Checked (List ℕ)) (R : Checked (Option AddressRange)) (B : Checked (Option (List ℕ)))
    → result_map string_bytes n ≡ N → r ≡ R → result_map bytes_view b ≡ B → one ≡ both n r → two ≡ both one b
    → result_map (λ p. section (string_bytes p.0.0) p.0.1 (bytes_view p.1)) two ≡ Ok section ⊛ N ⊛ R ⊛ B
three_fields n r b one two N R B n_is r_is b_is one_is two_is =
    and-field (λ p. section (string_bytes p.0) p.1) bytes_view one b two _ B
    (and-field (λ t. section (string_bytes t)) (λ v. v) n r one _ R (first-field section string_bytes n N n_is) (as_it_is r R r_is) one_is)
    b_is two_is

abbrev pub One : Type 0
One = ℕ × Text

abbrev pub Two : Type 0
Two = One × ℕ

abbrev pub Three : Type 0
Three = Two × ℕ

abbrev pub Four : Type 0
Four = Three × ℕ

abbrev pub Five : Type 0
Five = Four × ℕ

abbrev pub Six : Type 0
Six = Five × Vec Section Global

abbrev pub Seven : Type 0
Seven = Six × Vec Section Global

abbrev pub Eight : Type 0
Eight = Seven × StatedOptions

-- the load that the eight fields make with the options
abbrev pub loaded : Eight → Loading
loaded p =
    loading_of p.0.0.0.0.0.0.0.0 (string_bytes p.0.0.0.0.0.0.0.1) p.0.0.0.0.0.0.1 p.0.0.0.0.0.1 p.0.0.0.0.1 p.0.0.0.1 (sections_view p.0.0.1.items)
    (sections_view p.0.1.items) p.1

pub nine_fields : (u : Checked ℕ) (n : Checked Text) (s e b v : Checked ℕ) (ss gs : Checked (Vec Section Global)) (o : Checked StatedOptions)
    (one : Checked One) (two : Checked Two) (three : Checked Three) (four : Checked Four) (five : Checked Five) (six : Checked Six) (seven : Checked Seven) (eight : Checked Eight)
    (U : Checked ℕ) (N : Checked (List ℕ)) (S E B V : Checked ℕ) (SS GS : Checked (List StatedSection)) (O : Checked StatedOptions)
    → u ≡ U → result_map string_bytes n ≡ N → s ≡ S → e ≡ E → b ≡ B → v ≡ V → result_map (λ x. sections_view x.items) ss ≡ SS → result_map (λ x. sections_view x.items) gs ≡ GS → o ≡ O
    → one ≡ both u n → two ≡ both one s → three ≡ both two e → four ≡ both three b → five ≡ both four v → six ≡ both five ss → seven ≡ both six gs → eight ≡ both seven o
    → result_map loaded eight ≡ Ok loading_of ⊛ U ⊛ N ⊛ S ⊛ E ⊛ B ⊛ V ⊛ SS ⊛ GS ⊛ O
nine_fields u n s e b v ss gs o one two three four five six seven eight U N S E B V SS GS O u_is n_is s_is e_is b_is v_is ss_is gs_is o_is one_is two_is three_is four_is five_is six_is seven_is eight_is =
    and-field (λ p. loading_of p.0.0.0.0.0.0.0 (string_bytes p.0.0.0.0.0.0.1) p.0.0.0.0.0.1 p.0.0.0.0.1 p.0.0.0.1 p.0.0.1 (sections_view p.0.1.items) (sections_view p.1.items)) (λ x. x) seven o eight _ O
    (and-field (λ p. loading_of p.0.0.0.0.0.0 (string_bytes p.0.0.0.0.0.1) p.0.0.0.0.1 p.0.0.0.1 p.0.0.1 p.0.1 (sections_view p.1.items)) (λ x. sections_view x.items) six gs seven _ GS
    (and-field (λ p. loading_of p.0.0.0.0.0 (string_bytes p.0.0.0.0.1) p.0.0.0.1 p.0.0.1 p.0.1 p.1) (λ x. sections_view x.items) five ss six _ SS
    (and-field (λ p. loading_of p.0.0.0.0 (string_bytes p.0.0.0.1) p.0.0.1 p.0.1 p.1) (λ x. x) four v five _ V
    (and-field (λ p. loading_of p.0.0.0 (string_bytes p.0.0.1) p.0.1 p.1) (λ x. x) three b four _ B
    (and-field (λ p. loading_of p.0.0 (string_bytes p.0.1) p.1) (λ x. x) two e three _ E
    (and-field (λ p. loading_of p.0 (string_bytes p.1)) (λ x. x) one s two _ S
    (and-field loading_of string_bytes u n one _ N (first-field loading_of (λ x. x) u U (as_it_is u U u_is)) n_is one_is)
    (as_it_is s S s_is) two_is)
    (as_it_is e E e_is) three_is)
    (as_it_is b B b_is) four_is)
    (as_it_is v V v_is) five_is)
    ss_is six_is)
    gs_is seven_is)
    (as_it_is o O o_is) eight_is

pub unload_fields : (u s : Checked ℕ) (one : Checked (ℕ × ℕ)) (U S : Checked ℕ) → u ≡ U → s ≡ S → one ≡ both u s
    → result_map (λ p. unloading_of p.0 p.1) one ≡ Ok unloading_of ⊛ U ⊛ S
unload_fields u s one U S u_is s_is one_is =
    and-field unloading_of (λ v. v) u s one _ S (first-field unloading_of (λ v. v) u U (as_it_is u U u_is)) (as_it_is s S s_is) one_is
