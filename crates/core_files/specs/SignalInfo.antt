-- NT_SIGINFO: the signal that ended a process (Linux, include/uapi/asm-generic/siginfo.h, `siginfo_t` of 128 bytes).
--
--   0 si_signo   4 si_errno   8 si_code (4 bytes each)   16 si_addr (8 bytes) of a fault; si_pid, si_uid (4 bytes each) of what was sent
--
-- Which of these there are is said by signal and code (kernel/signal.c, `siginfo_layout`). Codes below 0 are in two's complement.
use Rattle.std.specs.Prelude.{ℕ, ◌==◌, ◌&&◌, ◌||◌, Bool, nat_lt, if◌then◌else◌, List, length, Option, Some, None}
use Rattle.core_files.specs.declared.signal_info.SignalInfo.{SignalInfo}
use Rattle.core_files.specs.declared.signal_info.SignalOrigin.{SignalOrigin}
use Rattle.core_files.specs.declared.signal_info.SignalOrigin.TheVariants.{Fault, Process, Kernel, Other}
use Rattle.core_files.specs.Bytes.{u32_at, u64_at}

-- A fault: SIGILL, SIGTRAP, SIGBUS, SIGFPE or SIGSEGV, with a code between SI_USER and SI_KERNEL.
abbrev pub is_fault : ℕ → ℕ → Bool
is_fault signal code =
    ((signal == 4) || (signal == 5) || (signal == 7) || (signal == 8) || (signal == 11)) && nat_lt 0 code && nat_lt code 0x80

-- A process sent it: SI_USER, SI_QUEUE (-1) or SI_TKILL (-6).
abbrev pub is_sent : ℕ → Bool
is_sent code = (code == 0) || (code == 0xffffffff) || (code == 0xfffffffa)

-- Where a signal with a code came from.
abbrev pub signal_origin : List ℕ → ℕ → ℕ → SignalOrigin
signal_origin descriptor signal code =
    if is_fault signal code then Fault code (u64_at descriptor 16) else
    if is_sent code then Process (u32_at descriptor 16) (u32_at descriptor 20) else
    if code == 0x80 then Kernel else
    Other code

-- The signal of a descriptor.
abbrev pub signal_info : List ℕ → Option SignalInfo
signal_info descriptor =
    if length descriptor == 128
    then Some (record { signal = u32_at descriptor 0; origin = signal_origin descriptor (u32_at descriptor 0) (u32_at descriptor 8) })
    else None
