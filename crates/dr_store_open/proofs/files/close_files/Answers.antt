use Rattle.std.proofs.Common.{subst}
use Rattle.sqlite.specs.Closing.{IsCopied}
use Rattle.dr_store_open.proofs.files.close_files.Goals as goal

pub returns-in-Ok-clause-copied : goal.returns-in-Ok-clause-copied
returns-in-Ok-clause-copied g c clean =
    subst (λ h. IsCopied h c.in-Ok.files) c.into_connection.ensures.conn (c.in-Ok.ensures.copied clean)
