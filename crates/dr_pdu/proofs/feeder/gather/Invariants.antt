use Rattle.std.proofs.Common.{length, drop, ◌-◌, ◌≤◌}
use Rattle.dr_base.specs.Runs.{Run}
use Rattle.dr_pdu.specs.Feeding.{StartsPdu}
use Rattle.dr_pdu.proofs.feeder.gather.Given as goal

abbrev pub invariant-loop-pdu : goal.invariant-loop-pdu
invariant-loop-pdu l = (l.used ≤ length l.text) × Run (StartsPdu l.limit) l.pdus.items l.text (drop l.used l.text)

abbrev pub decreases-loop-pdu : goal.decreases-loop-pdu
decreases-loop-pdu l = length l.text - l.used
