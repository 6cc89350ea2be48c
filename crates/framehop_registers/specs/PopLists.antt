-- Pop lists of x86_64: which callee-saved registers are popped, and in which order, as a count and a number.
use Rattle.std.specs.Prelude.{◌≡◌, ◌≢◌, ℕ, zero, suc, ◌+◌, ◌*◌, ◌/◌, ◌%◌, ◌==◌, List, [], ◌∷◌, length, take, drop, swap, slice_index_or, All, AllPairs, Contains}
use Rattle.std.specs.List.{position_or_len}
use Rattle.framehop_registers.specs.Registers.{dwarf_number}
use Rattle.framehop_registers.specs.declared.x86_64.unwindregs.Reg.{Reg}
use Rattle.framehop_registers.specs.declared.x86_64.unwindregs.Reg.TheVariants.{RBX, RSI, RDI, RBP, R12, R13, R14, R15}

-- The registers that a function gives back as it found them, the stack pointer apart, by one of the two calling
-- conventions of x86_64 (System V ABI, figure 3.4; Microsoft's has RDI and RSI too).
abbrev pub callee_saved : List Reg
callee_saved = RBX ∷ RBP ∷ RDI ∷ RSI ∷ R12 ∷ R13 ∷ R14 ∷ R15 ∷ []

-- A pop list: callee-saved registers, each at most once.
pub record IsPopList (registers : List Reg) : Type 0 where
  pub saved : All (λ register. Contains callee_saved register) registers
  pub distinct : AllPairs (λ earlier later. earlier ≢ later) registers

-- The index of a register in a list, or the list's length if it isn't there.
abbrev pub place_in_list : Reg → List Reg → ℕ
place_in_list register registers = position_or_len (λ other. dwarf_number other == dwarf_number register) registers

-- What is left behind the one at a place, once it and the first have changed places.
abbrev pub left_behind : List Reg → ℕ → List Reg
left_behind left place = drop 1 (swap left 0 place)

-- The number of registers that come one after the other out of those left: the place of the first, and the number of
-- the others as often as there were places. So out of eight the places count 1, 8, 8 x 7, 8 x 7 x 6 times and so on.
abbrev pub number_among : List Reg → List Reg → ℕ
number_among left [] = 0
number_among left (register ∷ more) =
    let place = place_in_list register left in
    place + length left * number_among (left_behind left place) more

-- The order number of a pop list.
abbrev pub order_number : List Reg → ℕ
order_number registers = number_among callee_saved registers

-- How many orders all eight have: 8!.
abbrev pub order_count : ℕ
order_count = 40320

-- So many of the registers left, by the number that they have among them.
unfoldable pub registers_with : ℕ → List Reg → ℕ → List Reg
registers_with zero left number = []
registers_with (suc count) left number =
    let place = number % length left in
    slice_index_or left place RBX ∷ registers_with count (left_behind left place) (number / length left)

-- The pop list with a count and a number.
abbrev pub pop_list : ℕ → ℕ → List Reg
pop_list count number = registers_with count callee_saved number

-- An order of all eight.
pub record IsOrder (order : List Reg) : Type 0 where
  pub pops : IsPopList order
  pub all : length order ≡ 8

-- The first registers, as many as the count says, of an order of all eight that has the number.
pub record BeginsOrder (registers : List Reg) (count number : ℕ) : Type 0 where
  pub order : List Reg
  pub is_order : IsOrder order
  pub has_number : order_number order ≡ number
  pub begins : registers ≡ take count order
