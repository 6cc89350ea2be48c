-- The names of the constants, and how a constant is printed.
use Rattle.std.specs.Prelude.{ℕ, List, [], ◌∷◌, ◌++◌, ◌==◌, false, if◌then◌else◌, codes, Option, Some, None, unwrap_or}
use Rattle.std.specs.Fmt.{digits}

-- the name in the first row with the value
abbrev pub name_in : List (ℕ × List ℕ) → ℕ → Option (List ℕ)
name_in [] value = None
name_in (entry ∷ entries) value = if value == entry.0 then Some entry.1 else name_in entries value

-- a value as it is printed: its name, or its type's name and its hexadecimal digits
abbrev pub shown_code : List (ℕ × List ℕ) → List ℕ → ℕ → List ℕ
shown_code names type_name value =
    unwrap_or (name_in names value)
    (codes "Unknown " ++ type_name ++ codes ": 0x" ++ digits 16 false value)

-- call frame instructions (DWARF 5, 7.24, table 7.29), with the two in use by GNU and for AArch64
abbrev pub cfa_names : List (ℕ × List ℕ)
cfa_names =
    (0x40, codes "DW_CFA_advance_loc") ∷ (0x80, codes "DW_CFA_offset") ∷
    (0xc0, codes "DW_CFA_restore") ∷ (0x00, codes "DW_CFA_nop") ∷ (0x01, codes "DW_CFA_set_loc") ∷
    (0x02, codes "DW_CFA_advance_loc1") ∷ (0x03, codes "DW_CFA_advance_loc2") ∷
    (0x04, codes "DW_CFA_advance_loc4") ∷ (0x05, codes "DW_CFA_offset_extended") ∷
    (0x06, codes "DW_CFA_restore_extended") ∷ (0x07, codes "DW_CFA_undefined") ∷
    (0x08, codes "DW_CFA_same_value") ∷ (0x09, codes "DW_CFA_register") ∷
    (0x0a, codes "DW_CFA_remember_state") ∷ (0x0b, codes "DW_CFA_restore_state") ∷
    (0x0c, codes "DW_CFA_def_cfa") ∷ (0x0d, codes "DW_CFA_def_cfa_register") ∷
    (0x0e, codes "DW_CFA_def_cfa_offset") ∷ (0x0f, codes "DW_CFA_def_cfa_expression") ∷
    (0x10, codes "DW_CFA_expression") ∷ (0x11, codes "DW_CFA_offset_extended_sf") ∷
    (0x12, codes "DW_CFA_def_cfa_sf") ∷ (0x13, codes "DW_CFA_def_cfa_offset_sf") ∷
    (0x14, codes "DW_CFA_val_offset") ∷ (0x15, codes "DW_CFA_val_offset_sf") ∷
    (0x16, codes "DW_CFA_val_expression") ∷ (0x2d, codes "DW_CFA_AARCH64_negate_ra_state") ∷
    (0x2e, codes "DW_CFA_GNU_args_size") ∷ []

-- whether entries have children (DWARF 5, 7.5.3, table 7.4)
abbrev pub children_names : List (ℕ × List ℕ)
children_names =
    (0x00, codes "DW_CHILDREN_no") ∷ (0x01, codes "DW_CHILDREN_yes") ∷ []

-- forms of attributes (DWARF 5, 7.5.6, table 7.6), with four of GNU
abbrev pub form_names : List (ℕ × List ℕ)
form_names =
    (0x01, codes "DW_FORM_addr") ∷ (0x03, codes "DW_FORM_block2") ∷ (0x04, codes "DW_FORM_block4") ∷
    (0x05, codes "DW_FORM_data2") ∷ (0x06, codes "DW_FORM_data4") ∷ (0x07, codes "DW_FORM_data8") ∷
    (0x08, codes "DW_FORM_string") ∷ (0x09, codes "DW_FORM_block") ∷
    (0x0a, codes "DW_FORM_block1") ∷ (0x0b, codes "DW_FORM_data1") ∷ (0x0c, codes "DW_FORM_flag") ∷
    (0x0d, codes "DW_FORM_sdata") ∷ (0x0e, codes "DW_FORM_strp") ∷ (0x0f, codes "DW_FORM_udata") ∷
    (0x10, codes "DW_FORM_ref_addr") ∷ (0x11, codes "DW_FORM_ref1") ∷ (0x12, codes "DW_FORM_ref2") ∷
    (0x13, codes "DW_FORM_ref4") ∷ (0x14, codes "DW_FORM_ref8") ∷
    (0x15, codes "DW_FORM_ref_udata") ∷ (0x16, codes "DW_FORM_indirect") ∷
    (0x17, codes "DW_FORM_sec_offset") ∷ (0x18, codes "DW_FORM_exprloc") ∷
    (0x19, codes "DW_FORM_flag_present") ∷ (0x1a, codes "DW_FORM_strx") ∷
    (0x1b, codes "DW_FORM_addrx") ∷ (0x1c, codes "DW_FORM_ref_sup4") ∷
    (0x1d, codes "DW_FORM_strp_sup") ∷ (0x1e, codes "DW_FORM_data16") ∷
    (0x1f, codes "DW_FORM_line_strp") ∷ (0x20, codes "DW_FORM_ref_sig8") ∷
    (0x21, codes "DW_FORM_implicit_const") ∷ (0x22, codes "DW_FORM_loclistx") ∷
    (0x23, codes "DW_FORM_rnglistx") ∷ (0x24, codes "DW_FORM_ref_sup8") ∷
    (0x25, codes "DW_FORM_strx1") ∷ (0x26, codes "DW_FORM_strx2") ∷ (0x27, codes "DW_FORM_strx3") ∷
    (0x28, codes "DW_FORM_strx4") ∷ (0x29, codes "DW_FORM_addrx1") ∷
    (0x2a, codes "DW_FORM_addrx2") ∷ (0x2b, codes "DW_FORM_addrx3") ∷
    (0x2c, codes "DW_FORM_addrx4") ∷ (0x1f01, codes "DW_FORM_GNU_addr_index") ∷
    (0x1f02, codes "DW_FORM_GNU_str_index") ∷ (0x1f20, codes "DW_FORM_GNU_ref_alt") ∷
    (0x1f21, codes "DW_FORM_GNU_strp_alt") ∷ []

-- operations whose opcode holds no number (DWARF 5, 7.7.1, table 7.9)
abbrev pub plain_operation_names : List (ℕ × List ℕ)
plain_operation_names =
    (0x03, codes "DW_OP_addr") ∷ (0x08, codes "DW_OP_const1u") ∷ (0x09, codes "DW_OP_const1s") ∷
    (0x0a, codes "DW_OP_const2u") ∷ (0x0b, codes "DW_OP_const2s") ∷ (0x0c, codes "DW_OP_const4u") ∷
    (0x0d, codes "DW_OP_const4s") ∷ (0x0e, codes "DW_OP_const8u") ∷ (0x0f, codes "DW_OP_const8s") ∷
    (0x10, codes "DW_OP_constu") ∷ (0x11, codes "DW_OP_consts") ∷ (0x12, codes "DW_OP_dup") ∷
    (0x13, codes "DW_OP_drop") ∷ (0x14, codes "DW_OP_over") ∷ (0x15, codes "DW_OP_pick") ∷
    (0x16, codes "DW_OP_swap") ∷ (0x17, codes "DW_OP_rot") ∷ (0x19, codes "DW_OP_abs") ∷
    (0x1a, codes "DW_OP_and") ∷ (0x1b, codes "DW_OP_div") ∷ (0x1c, codes "DW_OP_minus") ∷
    (0x1d, codes "DW_OP_mod") ∷ (0x1e, codes "DW_OP_mul") ∷ (0x1f, codes "DW_OP_neg") ∷
    (0x20, codes "DW_OP_not") ∷ (0x21, codes "DW_OP_or") ∷ (0x22, codes "DW_OP_plus") ∷
    (0x23, codes "DW_OP_plus_uconst") ∷ (0x24, codes "DW_OP_shl") ∷ (0x25, codes "DW_OP_shr") ∷
    (0x26, codes "DW_OP_shra") ∷ (0x27, codes "DW_OP_xor") ∷ (0x28, codes "DW_OP_bra") ∷
    (0x29, codes "DW_OP_eq") ∷ (0x2a, codes "DW_OP_ge") ∷ (0x2b, codes "DW_OP_gt") ∷
    (0x2c, codes "DW_OP_le") ∷ (0x2d, codes "DW_OP_lt") ∷ (0x2e, codes "DW_OP_ne") ∷
    (0x2f, codes "DW_OP_skip") ∷ (0x92, codes "DW_OP_bregx") ∷ (0x96, codes "DW_OP_nop") ∷ []

-- operations whose opcode holds a number below 32, from 0x30 on
abbrev pub literal_names : List (ℕ × List ℕ)
literal_names =
    (0x30, codes "DW_OP_lit0") ∷ (0x31, codes "DW_OP_lit1") ∷ (0x32, codes "DW_OP_lit2") ∷
    (0x33, codes "DW_OP_lit3") ∷ (0x34, codes "DW_OP_lit4") ∷ (0x35, codes "DW_OP_lit5") ∷
    (0x36, codes "DW_OP_lit6") ∷ (0x37, codes "DW_OP_lit7") ∷ (0x38, codes "DW_OP_lit8") ∷
    (0x39, codes "DW_OP_lit9") ∷ (0x3a, codes "DW_OP_lit10") ∷ (0x3b, codes "DW_OP_lit11") ∷
    (0x3c, codes "DW_OP_lit12") ∷ (0x3d, codes "DW_OP_lit13") ∷ (0x3e, codes "DW_OP_lit14") ∷
    (0x3f, codes "DW_OP_lit15") ∷ (0x40, codes "DW_OP_lit16") ∷ (0x41, codes "DW_OP_lit17") ∷
    (0x42, codes "DW_OP_lit18") ∷ (0x43, codes "DW_OP_lit19") ∷ (0x44, codes "DW_OP_lit20") ∷
    (0x45, codes "DW_OP_lit21") ∷ (0x46, codes "DW_OP_lit22") ∷ (0x47, codes "DW_OP_lit23") ∷
    (0x48, codes "DW_OP_lit24") ∷ (0x49, codes "DW_OP_lit25") ∷ (0x4a, codes "DW_OP_lit26") ∷
    (0x4b, codes "DW_OP_lit27") ∷ (0x4c, codes "DW_OP_lit28") ∷ (0x4d, codes "DW_OP_lit29") ∷
    (0x4e, codes "DW_OP_lit30") ∷ (0x4f, codes "DW_OP_lit31") ∷ []

-- operations whose opcode holds a register below 32, from 0x70 on
abbrev pub register_offset_names : List (ℕ × List ℕ)
register_offset_names =
    (0x70, codes "DW_OP_breg0") ∷ (0x71, codes "DW_OP_breg1") ∷ (0x72, codes "DW_OP_breg2") ∷
    (0x73, codes "DW_OP_breg3") ∷ (0x74, codes "DW_OP_breg4") ∷ (0x75, codes "DW_OP_breg5") ∷
    (0x76, codes "DW_OP_breg6") ∷ (0x77, codes "DW_OP_breg7") ∷ (0x78, codes "DW_OP_breg8") ∷
    (0x79, codes "DW_OP_breg9") ∷ (0x7a, codes "DW_OP_breg10") ∷ (0x7b, codes "DW_OP_breg11") ∷
    (0x7c, codes "DW_OP_breg12") ∷ (0x7d, codes "DW_OP_breg13") ∷ (0x7e, codes "DW_OP_breg14") ∷
    (0x7f, codes "DW_OP_breg15") ∷ (0x80, codes "DW_OP_breg16") ∷ (0x81, codes "DW_OP_breg17") ∷
    (0x82, codes "DW_OP_breg18") ∷ (0x83, codes "DW_OP_breg19") ∷ (0x84, codes "DW_OP_breg20") ∷
    (0x85, codes "DW_OP_breg21") ∷ (0x86, codes "DW_OP_breg22") ∷ (0x87, codes "DW_OP_breg23") ∷
    (0x88, codes "DW_OP_breg24") ∷ (0x89, codes "DW_OP_breg25") ∷ (0x8a, codes "DW_OP_breg26") ∷
    (0x8b, codes "DW_OP_breg27") ∷ (0x8c, codes "DW_OP_breg28") ∷ (0x8d, codes "DW_OP_breg29") ∷
    (0x8e, codes "DW_OP_breg30") ∷ (0x8f, codes "DW_OP_breg31") ∷ []

-- operations on the numbers of an expression, its stack and registers (DWARF 5, 7.7.1, table 7.9)
abbrev pub operation_names : List (ℕ × List ℕ)
operation_names = plain_operation_names ++ literal_names ++ register_offset_names

-- encodings of pointers (LSB 5.0, 10.5): formats, applications, the indirect bit, and none
abbrev pub pointer_names : List (ℕ × List ℕ)
pointer_names =
    (0x00, codes "DW_EH_PE_absptr") ∷ (0x01, codes "DW_EH_PE_uleb128") ∷
    (0x02, codes "DW_EH_PE_udata2") ∷ (0x03, codes "DW_EH_PE_udata4") ∷
    (0x04, codes "DW_EH_PE_udata8") ∷ (0x09, codes "DW_EH_PE_sleb128") ∷
    (0x0a, codes "DW_EH_PE_sdata2") ∷ (0x0b, codes "DW_EH_PE_sdata4") ∷
    (0x0c, codes "DW_EH_PE_sdata8") ∷ (0x10, codes "DW_EH_PE_pcrel") ∷
    (0x20, codes "DW_EH_PE_textrel") ∷ (0x30, codes "DW_EH_PE_datarel") ∷
    (0x40, codes "DW_EH_PE_funcrel") ∷ (0x50, codes "DW_EH_PE_aligned") ∷
    (0x80, codes "DW_EH_PE_indirect") ∷ (0xff, codes "DW_EH_PE_omit") ∷ []
