use Rattle.dr_store_audit.proofs.Less.{last_is_older, no_older_is_new, oldest}
use Rattle.dr_store_audit.proofs.laws.older_files_lack_some.Goals as goal

pub returns-clause-last : goal.returns-clause-last
returns-clause-last c = last_is_older

pub returns-clause-older : goal.returns-clause-older
returns-clause-older c = no_older_is_new

pub returns-clause-oldest : goal.returns-clause-oldest
returns-clause-oldest c = oldest
