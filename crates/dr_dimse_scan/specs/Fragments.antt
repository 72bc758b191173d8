-- The data set in the values of a message (PS3.8 E.2).
use Rattle.std.specs.Prelude.{ℕ, List, not, filter}
use Rattle.dr_pdu.specs.declared.pdu.Pdv.{Pdv}
use Rattle.dr_dimse.specs.Messages.{is_command, joined}

-- the fragments of the data set among these values, one after the other
abbrev pub data_text : List Pdv → List ℕ
data_text ps = joined (filter (λ p. not (is_command p)) ps)
