use Rattle.dr_world_tie.proofs.Fragments.{pieces_make_commands as lemma, pieces_make_stores}
use Rattle.dr_world_tie.proofs.pieces_make_commands.Goals as goal

pub returns-clause-alone : goal.returns-clause-alone
returns-clause-alone c = lemma

pub returns-clause-with_data : goal.returns-clause-with_data
returns-clause-with_data c = pieces_make_stores
