-- What faults of a past and of a line say of an opening that begins with it.
use Rattle.dr_ledger_history.specs.declared.line.HistoryFault.{HistoryFault}
use Rattle.dr_ledger_history.specs.declared.line.HistoryFault.TheVariants as history
use Rattle.dr_store_sealed.specs.declared.fault.SealFault.{SealFault}
use Rattle.dr_store_sealed.specs.declared.fault.SealFault.TheVariants as seal
use Rattle.dr_store_past.specs.declared.fault.PastFault.{PastFault}
use Rattle.dr_store_past.specs.declared.fault.PastFault.TheVariants as past
use Rattle.dr_store_begun.specs.declared.fault.BeginFault.{BeginFault}
use Rattle.dr_store_begun.specs.declared.fault.BeginFault.TheVariants as why

-- want of memory is one refusal, wherever it comes
abbrev pub fault_of_seal : SealFault → BeginFault
fault_of_seal seal.Memory = why.Memory
fault_of_seal other = why.Unread (past.Sealed other)

abbrev pub fault_of_past : PastFault → BeginFault
fault_of_past (past.Sealed fault) = fault_of_seal fault
fault_of_past other = why.Unread other

-- a line that isn't taken
abbrev pub fault_of_telling : HistoryFault → BeginFault
fault_of_telling history.NoCall = why.NoHistory
fault_of_telling history.Memory = why.Memory
