use Rattle.dr_pdu.proofs.CutLemmas.{cuts_of_a_stream, cuts_midstream, still_no_pdu, starts_nothing, same_limit}
use Rattle.dr_pdu.proofs.laws.cuts_do_not_matter.Goals as goal

pub returns : goal.returns
returns c = record {
  start = cuts_of_a_stream;
  midstream = cuts_midstream;
  kept = still_no_pdu;
  kept_at_first = starts_nothing;
  limit = same_limit;
}
