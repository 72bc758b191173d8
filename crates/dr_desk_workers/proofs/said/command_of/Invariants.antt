use Rattle.std.proofs.Common.{◌≡◌, take, flat_map}
use Rattle.dr_desk_workers.specs.Said.{command_in}
use Rattle.dr_desk_workers.proofs.said.command_of.Given as goal

abbrev pub invariant-loop-pdu : goal.invariant-loop-pdu
invariant-loop-pdu l = l.text.items ≡ flat_map command_in (take l.pdu-index l.pdus)
