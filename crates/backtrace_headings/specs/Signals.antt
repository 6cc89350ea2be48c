-- Signals in words. Names and numbers: signal(7), of x86_64 and aarch64. Codes: sigaction(2), "The si_code field", in the words of Linux's
-- include/uapi/asm-generic/siginfo.h, without those for the mapped object.
use Rattle.std.specs.Prelude.{ℕ, ◌-◌, ◌^◌, ◌==◌, nat_lt, if◌then◌else◌, List, [], ◌∷◌, ◌++◌, codes, decimal, Option, Some, None, unwrap_or}
use Rattle.json_program.specs.Lines.{hexadecimal}
use Rattle.core_files.specs.declared.signal_info.SignalOrigin.{SignalOrigin}
use Rattle.core_files.specs.declared.signal_info.SignalOrigin.TheVariants.{Fault, Process, Kernel, Other}

-- the words in the first row with a number
abbrev pub words_in : List (ℕ × List ℕ) → ℕ → Option (List ℕ)
words_in [] number = None
words_in (row ∷ rows) number = if number == row.0 then Some row.1 else words_in rows number

-- the names of the standard signals
unfoldable pub signal_names : List (ℕ × List ℕ)
signal_names =
    (1, codes "SIGHUP") ∷ (2, codes "SIGINT") ∷ (3, codes "SIGQUIT") ∷ (4, codes "SIGILL") ∷ (5, codes "SIGTRAP") ∷ (6, codes "SIGABRT")
    ∷ (7, codes "SIGBUS") ∷ (8, codes "SIGFPE") ∷ (9, codes "SIGKILL") ∷ (10, codes "SIGUSR1") ∷ (11, codes "SIGSEGV") ∷ (12, codes "SIGUSR2")
    ∷ (13, codes "SIGPIPE") ∷ (14, codes "SIGALRM") ∷ (15, codes "SIGTERM") ∷ (16, codes "SIGSTKFLT") ∷ (17, codes "SIGCHLD")
    ∷ (18, codes "SIGCONT") ∷ (19, codes "SIGSTOP") ∷ (20, codes "SIGTSTP") ∷ (21, codes "SIGTTIN") ∷ (22, codes "SIGTTOU")
    ∷ (23, codes "SIGURG") ∷ (24, codes "SIGXCPU") ∷ (25, codes "SIGXFSZ") ∷ (26, codes "SIGVTALRM") ∷ (27, codes "SIGPROF")
    ∷ (28, codes "SIGWINCH") ∷ (29, codes "SIGIO") ∷ (30, codes "SIGPWR") ∷ (31, codes "SIGSYS") ∷ []

-- the name of a signal, or its number
abbrev pub signal_name : ℕ → List ℕ
signal_name number = unwrap_or (words_in signal_names number) (codes "signal " ++ decimal number)

-- the codes of SIGILL
abbrev pub illegal_codes : List (ℕ × List ℕ)
illegal_codes =
    (1, codes "illegal opcode") ∷ (2, codes "illegal operand") ∷ (3, codes "illegal addressing mode") ∷ (4, codes "illegal trap")
    ∷ (5, codes "privileged opcode") ∷ (6, codes "privileged register") ∷ (7, codes "coprocessor error") ∷ (8, codes "internal stack error")
    ∷ (9, codes "unimplemented instruction address") ∷ []

-- of SIGTRAP
abbrev pub trap_codes : List (ℕ × List ℕ)
trap_codes =
    (1, codes "process breakpoint") ∷ (2, codes "process trace trap") ∷ (3, codes "process taken branch trap")
    ∷ (4, codes "hardware breakpoint/watchpoint") ∷ (5, codes "undiagnosed trap") ∷ (6, codes "perf event with sigtrap=1") ∷ []

-- of SIGBUS
abbrev pub bus_codes : List (ℕ × List ℕ)
bus_codes =
    (1, codes "invalid address alignment") ∷ (2, codes "non-existent physical address") ∷ (3, codes "object specific hardware error")
    ∷ (4, codes "hardware memory error consumed on a machine check: action required")
    ∷ (5, codes "hardware memory error detected in process but not consumed: action optional") ∷ []

-- of SIGFPE
abbrev pub float_codes : List (ℕ × List ℕ)
float_codes =
    (1, codes "integer divide by zero") ∷ (2, codes "integer overflow") ∷ (3, codes "floating point divide by zero")
    ∷ (4, codes "floating point overflow") ∷ (5, codes "floating point underflow") ∷ (6, codes "floating point inexact result")
    ∷ (7, codes "floating point invalid operation") ∷ (8, codes "subscript out of range")
    ∷ (14, codes "undiagnosed floating-point exception") ∷ (15, codes "trap on condition") ∷ []

-- of SIGSEGV
abbrev pub memory_codes : List (ℕ × List ℕ)
memory_codes =
    (1, codes "address not mapped") ∷ (2, codes "invalid permissions") ∷ (3, codes "failed address bound checks")
    ∷ (4, codes "failed protection key checks") ∷ (8, codes "asynchronous ARM MTE error") ∷ (9, codes "synchronous ARM MTE exception")
    ∷ (10, codes "control protection fault") ∷ []

-- a code of a signal's own in words
unfoldable pub fault_words : ℕ → ℕ → Option (List ℕ)
fault_words signal code =
    if signal == 4 then words_in illegal_codes code else
    if signal == 5 then words_in trap_codes code else
    if signal == 7 then words_in bus_codes code else
    if signal == 8 then words_in float_codes code else
    if signal == 11 then words_in memory_codes code else
    None

-- a code by its number, an int of 32 bits
abbrev pub code_text : ℕ → List ℕ
code_text code = if nat_lt code (2 ^ 31) then codes "code " ++ decimal code else codes "code -" ++ decimal (2 ^ 32 - code)

-- a code of a signal's own in words, or by its number
abbrev pub fault_text : ℕ → ℕ → List ℕ
fault_text signal code = unwrap_or (fault_words signal code) (code_text code)

-- the words before a process that sent a signal
unfoldable pub sent_by : List ℕ
sent_by = codes "sent by process "

-- the process that sent a signal
abbrev pub process_text : ℕ → List ℕ
process_text id = sent_by ++ decimal id

-- the user of the process that sent a signal
unfoldable pub user_text : ℕ → List ℕ
user_text user = codes ", user " ++ decimal user

-- the process that sent a signal, with its user
abbrev pub sender_text : ℕ → ℕ → List ℕ
sender_text id user = process_text id ++ user_text user

-- where a signal came from
abbrev pub origin_text : ℕ → SignalOrigin → List ℕ
origin_text signal (Fault code address) = fault_text signal code ++ codes ", at " ++ hexadecimal address
origin_text signal (Process id user) = sender_text id user
origin_text signal Kernel = codes "sent by the kernel"
origin_text signal (Other code) = code_text code
