-- The sizes of attribute values that their forms alone decide (DWARF 5, 7.5.5 and 7.5.6).
use Rattle.std.specs.Prelude.{ℕ, ◌==◌, List, [], ◌∷◌, Bool, true, false, Option, Some, None, if◌then◌else◌}
use Rattle.dwarf_constants.specs.Format.{word_size}
use Rattle.dwarf_constants.specs.declared.common.Encoding.{Encoding}
use Rattle.dwarf_constants.specs.declared.constants.form.DwForm.{DwForm}
use Rattle.dwarf_constants.specs.declared.constants.form.TheConstants.{DW_FORM_GNU_ref_alt, DW_FORM_GNU_strp_alt, DW_FORM_addr, DW_FORM_addrx1, DW_FORM_addrx2, DW_FORM_addrx3, DW_FORM_addrx4, DW_FORM_data1, DW_FORM_data16, DW_FORM_data2, DW_FORM_data4, DW_FORM_data8, DW_FORM_flag, DW_FORM_flag_present, DW_FORM_implicit_const, DW_FORM_line_strp, DW_FORM_ref1, DW_FORM_ref2, DW_FORM_ref4, DW_FORM_ref8, DW_FORM_ref_addr, DW_FORM_ref_sig8, DW_FORM_ref_sup4, DW_FORM_ref_sup8, DW_FORM_sec_offset, DW_FORM_strp, DW_FORM_strp_sup, DW_FORM_strx1, DW_FORM_strx2, DW_FORM_strx3, DW_FORM_strx4}

-- the form of this number is among these
abbrev pub among : ℕ → List DwForm → Bool
among form [] = false
among form (f ∷ fs) = if form == f.0 then true else among form fs

-- the forms of values that take no byte
abbrev pub forms_of_0 : List DwForm
forms_of_0 = DW_FORM_flag_present ∷ DW_FORM_implicit_const ∷ []

-- the forms of values of one byte
abbrev pub forms_of_1 : List DwForm
forms_of_1 = DW_FORM_data1 ∷ DW_FORM_flag ∷ DW_FORM_ref1 ∷ DW_FORM_strx1 ∷ DW_FORM_addrx1 ∷ []

-- the forms of values of two bytes
abbrev pub forms_of_2 : List DwForm
forms_of_2 = DW_FORM_data2 ∷ DW_FORM_ref2 ∷ DW_FORM_strx2 ∷ DW_FORM_addrx2 ∷ []

-- the forms of values of three bytes
abbrev pub forms_of_3 : List DwForm
forms_of_3 = DW_FORM_strx3 ∷ DW_FORM_addrx3 ∷ []

-- the forms of values of four bytes
abbrev pub forms_of_4 : List DwForm
forms_of_4 = DW_FORM_data4 ∷ DW_FORM_ref4 ∷ DW_FORM_ref_sup4 ∷ DW_FORM_strx4 ∷ DW_FORM_addrx4 ∷ []

-- the forms of values of eight bytes
abbrev pub forms_of_8 : List DwForm
forms_of_8 = DW_FORM_data8 ∷ DW_FORM_ref8 ∷ DW_FORM_ref_sig8 ∷ DW_FORM_ref_sup8 ∷ []

-- the forms of values that are offsets of the format's size
abbrev pub forms_of_offsets : List DwForm
forms_of_offsets =
    DW_FORM_strp ∷ DW_FORM_sec_offset ∷ DW_FORM_strp_sup ∷ DW_FORM_line_strp
    ∷ DW_FORM_GNU_ref_alt ∷ DW_FORM_GNU_strp_alt ∷ []

-- the size of a form's values in bytes, if it is always the same
abbrev pub fixed_size : ℕ → Option ℕ
fixed_size form =
    if among form forms_of_0 then Some 0
    else (if among form forms_of_1 then Some 1
    else (if among form forms_of_2 then Some 2
    else (if among form forms_of_3 then Some 3
    else (if among form forms_of_4 then Some 4
    else (if among form forms_of_8 then Some 8
    else (if form == DW_FORM_data16.0 then Some 16 else None))))))

-- the size of a form's values in bytes, if the form decides it; DW_FORM_ref_addr has an address's size in version 2, and then
-- an offset's
abbrev pub form_size : Encoding → ℕ → Option ℕ
form_size e form =
    if form == DW_FORM_addr.0 then Some e.address_size
    else (if among form forms_of_offsets then Some (word_size e.format)
    else (if form == DW_FORM_ref_addr.0
    then Some (if e.version == 2 then e.address_size else word_size e.format)
    else fixed_size form))
