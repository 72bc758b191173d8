-- The code and the name of what a ledger refuses, as they are printed, logged and answered.
use Rattle.std.specs.Prelude.{codes}
use Rattle.dr_base.specs.Texts.{Text}
use Rattle.dr_ledger.specs.declared.fault.LedgerFault.{LedgerFault}
use Rattle.dr_ledger.specs.declared.fault.LedgerFault.TheVariants as ledger

abbrev pub code_of : LedgerFault → Text
code_of ledger.NoLine = codes "G1 NoLine"
code_of ledger.Conflict = codes "G2 Conflict"
code_of ledger.Store = codes "G3 Store"
code_of ledger.NotWaiting = codes "G4 NotWaiting"
code_of ledger.NotHeld = codes "G5 NotHeld"
code_of ledger.NotOver = codes "G7 NotOver"
code_of ledger.Memory = codes "Memory"
