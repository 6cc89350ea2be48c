use Rattle.std.proofs.Common.{◌≡◌, ◌^◌, ◌<◌, drop}
use Rattle.json_program.specs.Json.{hex_number}
use Rattle.json_program.proofs.address.number_of.Given as goal

abbrev pub invariant-loop-c : goal.invariant-loop-c
invariant-loop-c l = (hex_number 0 l.digits ≡ hex_number l.number (drop l.c-index l.digits)) × (l.number < 16 ^ l.c-index)
