-- The names of frames, by what is known of files and of the kernel.
use Rattle.std.specs.Prelude.{◌≡◌, ℕ, ◌==◌, List, [], ◌++◌, codes, slice_get, Bool, MatchBool, Option, Some, None, IsSomeAnd}
use Rattle.std.specs.Map.{lookup}
use Rattle.std.specs.Option.{option_map_or}
use Rattle.folded_stacks.specs.Names.{kernel_name}
use Rattle.function_index.specs.Indexes.{OrderedFunctions, name_by}
use Rattle.line_parts.specs.Parts.{hex_of}
use Rattle.kernel_symbols.specs.Lines.{SymbolParts}
use Rattle.kernel_symbols.specs.Symbols as kernel
use Rattle.fold_stacks.specs.FrameTexts.{function_text, unknown_text}
use Rattle.sample_stacks.specs.declared.modules.CodePlace.{CodePlace}
use Rattle.fold_stacks.specs.Kept.{KeepsNumbers, StaysKnown}
use Rattle.fold_stacks.specs.declared.frames.UserFrame.{UserFrame}

-- What is known of a file: its name and its functions.
pub record FileNames : Type 0 where
  pub name : List ℕ
  pub functions : OrderedFunctions

-- The names so far, each with a number, what is known of files by their numbers, and the kernel's functions once they are known.
pub record LabelState : Type 0 where
  pub names : List (List ℕ)
  pub files : List (ℕ × FileNames)
  pub kernel : Option (List SymbolParts)

-- nothing yet
abbrev pub no_labels : LabelState
no_labels = record { names = []; files = []; kernel = None }

-- what is known of a file
abbrev pub known_file : List (ℕ × FileNames) → ℕ → Option FileNames
known_file files file = lookup (λ number. file == number) files

-- ---- names

-- the name of a function by its symbol, and else of one that isn't known in a file of this name
abbrev pub symbol_text : List ℕ → Option (List ℕ) → List ℕ
symbol_text file symbol = option_map_or function_text symbol (unknown_text file)

-- the name at an address of a file
abbrev pub place_text : FileNames → ℕ → List ℕ
place_text file address = symbol_text file.name (name_by file.functions address)

-- the name of a function of the kernel by its symbol, and else of one that isn't known
abbrev pub kernel_symbol_text : Option (List ℕ) → List ℕ
kernel_symbol_text symbol = option_map_or kernel_name symbol (unknown_text (codes "unknown"))

-- the name at an address of the kernel
abbrev pub kernel_text : List SymbolParts → ℕ → List ℕ
kernel_text symbols address = kernel_symbol_text (kernel.name_by symbols address)

-- an address as a name
abbrev pub address_text : ℕ → List ℕ
address_text address = codes "0x" ++ hex_of 0 address

-- A number is that of a name.
abbrev pub HasName : List (List ℕ) → ℕ → List ℕ → Type 0
HasName names number text = slice_get names number ≡ Some text

-- A number is that of the name at an address of a file, of which this is known.
abbrev pub NamesPlace : List (List ℕ) → Option FileNames → ℕ → ℕ → Type 0
NamesPlace names file address number = IsSomeAnd file (λ known. HasName names number (place_text known address))

-- A number is that of the name at an address of the kernel, whose functions are these.
abbrev pub NamesKernel : List (List ℕ) → Option (List SymbolParts) → ℕ → ℕ → Type 0
NamesKernel names kernel address number = IsSomeAnd kernel (λ symbols. HasName names number (kernel_text symbols address))

-- A number is that of the name of a function that isn't known, in some file.
abbrev pub NamesUnknown : List (List ℕ) → ℕ → Type 0
NamesUnknown names number = (file : List ℕ) × HasName names number (unknown_text file)

-- A number is that of the name at a place in a file, or of a function that isn't known if the frame's place isn't.
abbrev pub NamesIfPlaced : LabelState → Option CodePlace → ℕ → Type 0
NamesIfPlaced state (Some place) number = NamesPlace state.names (known_file state.files place.file) place.address number
NamesIfPlaced state None number = NamesUnknown state.names number

-- A number is that of the name of a frame of user code, or of its address as a name.
abbrev pub NamesFrame : LabelState → Bool → UserFrame → ℕ → Type 0
NamesFrame state addresses frame number =
    MatchBool addresses (HasName state.names number (address_text frame.address)) (NamesIfPlaced state frame.place number)

-- The same of a frame of the kernel.
abbrev pub NamesKernelFrame : LabelState → Bool → ℕ → ℕ → Type 0
NamesKernelFrame state addresses address number =
    MatchBool addresses (HasName state.names number (address_text address)) (NamesKernel state.names state.kernel address number)

-- ---- what is known is kept

-- The same of each file.
abbrev pub KeepsFiles : List (ℕ × FileNames) → List (ℕ × FileNames) → Type 0
KeepsFiles old new = (file : ℕ) → StaysKnown (known_file old file) (known_file new file)

-- Names keep their numbers, and what is known of files and of the kernel stays known.
pub record KeepsLabels (old new : LabelState) : Type 0 where
  pub names : KeepsNumbers old.names new.names
  pub files : KeepsFiles old.files new.files
  pub kernel : StaysKnown old.kernel new.kernel
