use Rattle.dr_cert_text.proofs.Injective.{same_line, same_hop, stops_apart, same_stop}
use Rattle.dr_cert_text.proofs.laws.printed_rows_tell_what_they_are_of.Goals as goal

pub returns-clause-line : goal.returns-clause-line
returns-clause-line c = same_line

pub returns-clause-hop : goal.returns-clause-hop
returns-clause-hop c = same_hop

pub returns-clause-stop : goal.returns-clause-stop
returns-clause-stop c = stops_apart

pub returns-clause-up_to_rank : goal.returns-clause-up_to_rank
returns-clause-up_to_rank c = same_stop
