-- The numbers that calls answer.
use Rattle.std.specs.Prelude.{ℕ, List, Bool, ◌==◌}
use Rattle.std.specs.List.{list_any}
use Rattle.framehop_registers.specs.declared.error.Error.{Error}
use Rattle.framehop_registers.specs.declared.error.Error.TheVariants.{CouldNotReadStack, FramepointerUnwindingMovedBackwards, DidNotAdvance, IntegerOverflow, ReturnAddressIsNull, OutOfMemory}

-- it is done; of a step: the frame has a caller
abbrev pub ok : ℕ
ok = 0

-- the frame has no caller
abbrev pub end_of_stack : ℕ
end_of_stack = 1

-- a word has to be known first
abbrev pub need_word : ℕ
need_word = 2

-- there is no room for another frame
abbrev pub full : ℕ
full = 3

-- the errors of a step
abbrev pub error_status : Error → ℕ
error_status (CouldNotReadStack address) = 16
error_status FramepointerUnwindingMovedBackwards = 17
error_status DidNotAdvance = 18
error_status IntegerOverflow = 19
error_status ReturnAddressIsNull = 20
error_status OutOfMemory = 21

-- there is no memory
abbrev pub out_of_memory : ℕ
out_of_memory = 21

-- the counter of generations gave all its numbers
abbrev pub generations_exhausted : ℕ
generations_exhausted = 22

-- a handle has no session
abbrev pub no_value : ℕ
no_value = 32

-- the session has no unwinder of a number
abbrev pub no_unwinder : ℕ
no_unwinder = 33

-- the session has no cache of a number
abbrev pub no_cache : ℕ
no_cache = 34

-- the session is of the other architecture
abbrev pub other_architecture : ℕ
other_architecture = 35

-- a number is none of those that the call knows
abbrev pub bad_argument : ℕ
bad_argument = 36

-- a status is one of these
abbrev pub is_among : ℕ → List ℕ → Bool
is_among status statuses = list_any (λ one. status == one) statuses
