-- What the bytes of a document state: one section, or the document's fault.
use Rattle.std.specs.Prelude.{ℕ, nat_lt, if◌then◌else◌, List, [], ◌∷◌, length, codes, bytes_eq, ok_or, Result, Ok, Err, Option, Some, None}
use Rattle.serde_json.specs.Data.{Data}
use Rattle.serde_json.specs.Find.{get}
use Rattle.serde_json.specs.Written.{has_float}
use Rattle.json_program.specs.declared.fault.Fault.{Fault}
use Rattle.json_program.specs.declared.fault.FaultName.{FaultName}
use Rattle.json_program.specs.declared.fault.FaultName.TheVariants.{TooLong, NotJson, FloatNumber, BadDocument, BadCommand, BadNumber}
use Rattle.json_program.specs.declared.transfer.TheConstants.{DOCUMENT_LIMIT}
use Rattle.json_program.specs.Faults.{Checked, ◌>>=◌, ◌⊛◌}
use Rattle.json_program.specs.Json.{address_value, bytes_value, field, has_only, json_of, number_value, optional_value, text_value}
use Rattle.dwarf_readers.specs.InitialLength.{is_size}
use Rattle.frame_table_files.specs.SectionNames.{named}
use Rattle.frame_table_files.specs.declared.section_name.SectionName.{SectionName}
use Rattle.frame_table.specs.declared.names.Machine.{Machine}
use Rattle.frame_table.specs.declared.names.Machine.TheVariants.{X86_64, AArch64}

-- a section: its name, its machine, if that is stated, its start, the size of an address if no CIE states it, and its bytes
pub record Stated : Type 0 where
  pub name : SectionName
  pub machine : Option Machine
  pub start : ℕ
  pub address_size : ℕ
  pub bytes : List ℕ

-- a value that has to be the name of a section
abbrev pub name_value : Data → Checked SectionName
name_value d = do
  text ← text_value d
  ok_or (named text) BadCommand

-- the machine of a name
abbrev pub machine_named : List ℕ → Option Machine
machine_named text =
    if bytes_eq text (codes "x86_64") then Some X86_64
    else if bytes_eq text (codes "aarch64") then Some AArch64
    else None

-- a value that has to be the name of a machine
abbrev pub machine_value : Data → Checked Machine
machine_value d = do
  text ← text_value d
  ok_or (machine_named text) BadCommand

-- a size that addresses have, in bytes
abbrev pub size_of_addresses : ℕ → Checked ℕ
size_of_addresses size = if is_size size then Ok size else Err BadNumber

-- a value that has to be a size of addresses
abbrev pub size_value : Data → Checked ℕ
size_value d = do
  size ← number_value d
  size_of_addresses size

-- the fields of a document
abbrev pub field_names : List (List ℕ)
field_names = codes "name" ∷ codes "machine" ∷ codes "start" ∷ codes "address_size" ∷ codes "bytes" ∷ []

-- the section of these parts
abbrev pub stated_of : SectionName → Option Machine → ℕ → ℕ → List ℕ → Stated
stated_of name machine start address_size bytes = record {
  name = name;
  machine = machine;
  start = start;
  address_size = address_size;
  bytes = bytes;
}

-- the section that the fields of an object state
abbrev pub fields_in : Data → Checked Stated
fields_in d =
    Ok stated_of ⊛ field name_value (codes "name") d ⊛ optional_value machine_value (get (codes "machine") d)
    ⊛ field address_value (codes "start") d ⊛ field size_value (codes "address_size") d ⊛ field bytes_value (codes "bytes") d

-- the section that a value states
abbrev pub stated_by : Data → Checked Stated
stated_by d = if has_float d then Err FloatNumber else if has_only field_names d then fields_in d else Err BadCommand

-- a fault of a field is the document's
abbrev pub of_document : FaultName → FaultName
of_document BadCommand = BadDocument
of_document name = name

-- a fault is that of the document itself, which is unit 0
abbrev pub in_document : {A : Type 0} → Checked A → Result A Fault
in_document (Ok x) = Ok x
in_document (Err name) = Err (record { name = of_document name; number = 0 })

-- the section that bytes state
abbrev pub stated_value : List ℕ → Checked Stated
stated_value bytes = if nat_lt DOCUMENT_LIMIT (length bytes) then Err TooLong else ok_or (json_of bytes) NotJson >>= stated_by

-- what a document states, or its fault
abbrev pub stated_in : List ℕ → Result Stated Fault
stated_in bytes = in_document (stated_value bytes)
