-- The PDUs of a command and of a data set, in a context, within a limit.
use Rattle.std.specs.Prelude.{ℕ, List}
use Rattle.dr_pdu.specs.declared.pdu.Pdu.{Pdu}
use Rattle.dr_dimse.specs.declared.command.Command.{Command}
use Rattle.dr_dimse.specs.Written as command
use Rattle.dr_nego.specs.declared.fragment.FragmentKind.TheVariants as kind
use Rattle.dr_nego.specs.Fragments.{fragment_pdus}

abbrev pub command_pdus : ℕ → ℕ → Command → List Pdu
command_pdus limit id c = fragment_pdus limit id kind.Command (command.written c)

abbrev pub data_pdus : ℕ → ℕ → List ℕ → List Pdu
data_pdus limit id body = fragment_pdus limit id kind.DataSet body
