-- What a core says of its process as values of JSON.
use Rattle.std.specs.Prelude.{ℕ, List, [], ◌∷◌, codes, Option, Some, None, option_map, option_and_then}
use Rattle.json.specs.Json.{Json}
use Rattle.core_files.specs.ProcessInfo.{ProcessSaid}
use Rattle.core_files.specs.declared.signal_info.SignalOrigin.{SignalOrigin}
use Rattle.core_files.specs.declared.signal_info.SignalOrigin.TheVariants.{Fault, Process, Kernel, Other}
use Rattle.backtrace_headings.specs.Headings.{command_of}
use Rattle.backtrace_headings.specs.Signals.{code_text, fault_text, signal_name}
use Rattle.backtrace_headings.specs.declared.heading.EndSignal.{EndSignal}
use Rattle.backtrace_json.specs.Threads.{text_if}
use Rattle.backtrace_json.specs.Values.{address_value, number_value, object_of, or_null, text_value}

-- the command of a process, if it is known
abbrev pub command_value : Option ProcessSaid → Json
command_value process = text_if (option_map command_of process)

-- why a signal came, in words
unfoldable pub cause_text : ℕ → SignalOrigin → List ℕ
cause_text signal (Fault code address) = fault_text signal code
cause_text signal (Process id user) = codes "sent by a process"
cause_text signal Kernel = codes "sent by the kernel"
cause_text signal (Other code) = code_text code

-- the address of a fault
abbrev pub fault_address : SignalOrigin → Option ℕ
fault_address (Fault code address) = Some address
fault_address (Process id user) = None
fault_address Kernel = None
fault_address (Other code) = None

-- a process with its user
abbrev pub sender_value : ℕ → ℕ → Json
sender_value id user = object_of ((codes "process", number_value id) ∷ (codes "user", number_value user) ∷ [])

-- the process that sent a signal
abbrev pub sender_of : SignalOrigin → Option Json
sender_of (Fault code address) = None
sender_of (Process id user) = Some (sender_value id user)
sender_of Kernel = None
sender_of (Other code) = None

-- a signal
abbrev pub ended_value : EndSignal → Json
ended_value ended = object_of (
    (codes "number", number_value ended.signal)
    ∷ (codes "name", text_value (signal_name ended.signal))
    ∷ (codes "cause", text_if (option_map (cause_text ended.signal) ended.origin))
    ∷ (codes "address", or_null (option_map address_value (option_and_then fault_address ended.origin)))
    ∷ (codes "sender", or_null (option_and_then sender_of ended.origin))
    ∷ [])

-- the signal that ended a process, if one did
abbrev pub signal_value : Option EndSignal → Json
signal_value signal = or_null (option_map ended_value signal)
