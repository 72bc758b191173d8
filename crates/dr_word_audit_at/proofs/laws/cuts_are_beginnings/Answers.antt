use Rattle.dr_word_audit_at.proofs.CutsBegin.{cuts_begin, whole_is_a_cut}
use Rattle.dr_word_audit_at.proofs.laws.cuts_are_beginnings.Goals as goal

pub returns-clause-begins : goal.returns-clause-begins
returns-clause-begins c = cuts_begin

pub returns-clause-whole : goal.returns-clause-whole
returns-clause-whole c = whole_is_a_cut
