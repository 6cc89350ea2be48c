-- Call chains: addresses, with numbers between them that say where the next ones run (Linux, include/uapi/linux/perf_event.h, enum
-- perf_callchain_context).
use Rattle.std.specs.Prelude.{ℕ, ◌==◌, nat_lt, if◌then◌else◌, List, [], ◌∷◌, Option, Some, None}
use Rattle.perf_files.specs.declared.chain.ChainFrame.{ChainFrame}
use Rattle.perf_files.specs.declared.chain.Context.{Context}
use Rattle.perf_files.specs.declared.chain.Context.TheVariants.{User, Kernel, Hypervisor, Other}

-- The context that a word says, if it is no address: 2^64 - 32, 2^64 - 128, 2^64 - 512, or another number from 2^64 - 4095 on
-- (PERF_CONTEXT_MAX).
abbrev pub context_of : ℕ → Option Context
context_of word =
    if word == 0xffffffffffffffe0 then Some Hypervisor else
    if word == 0xffffffffffffff80 then Some Kernel else
    if word == 0xfffffffffffffe00 then Some User else
    if nat_lt word 0xfffffffffffff001 then None else
    Some Other

-- The frames of words after a context.
abbrev pub frames_after : Option Context → Context → ℕ → (Context → List ChainFrame) → List ChainFrame
frames_after (Some next) context word others = others next
frames_after None context word others = record { context = context; address = word } ∷ others context

-- The frames of a call chain, which begins in a context.
unfoldable pub chain_frames : Context → List ℕ → List ChainFrame
chain_frames context [] = []
chain_frames context (word ∷ words) = frames_after (context_of word) context word (λ next. chain_frames next words)
