use Rattle.sqlite_wal.specs.Files.{image_at}
use Rattle.dr_store_open.proofs.Stops.{files_found, files_made, files_new}
use Rattle.dr_store_open.proofs.files.open_path.Goals as goal

pub returns-in-Ok-clause-found : goal.returns-in-Ok-clause-found
returns-in-Ok-clause-found g c =
    files_found (image_at g.T.Start) c.in-Ok.conn c.on.result c.in-Ok.ensures.opened
    (λ clean. (c.in-Ok.ensures.found clean).holds) c.on.ensures.found c.on.ensures.clean

pub returns-in-Ok-clause-made : goal.returns-in-Ok-clause-made
returns-in-Ok-clause-made g c =
    files_made (image_at g.T.Start) c.in-Ok.conn c.on.result c.in-Ok.ensures.opened
    (λ clean. (c.in-Ok.ensures.found clean).reads) c.on.ensures.made c.on.ensures.clean

pub returns-in-Ok-clause-wanted : goal.returns-in-Ok-clause-wanted
returns-in-Ok-clause-wanted g c =
    files_new _ (image_at g.T.Start) c.in-Ok.conn c.on.result c.in-Ok.ensures.opened
    (λ clean. (c.in-Ok.ensures.found clean).reads) c.on.ensures.wanted c.on.ensures.clean

pub returns-in-Ok-clause-begun : goal.returns-in-Ok-clause-begun
returns-in-Ok-clause-begun g c =
    files_new _ (image_at g.T.Start) c.in-Ok.conn c.on.result c.in-Ok.ensures.opened
    (λ clean. (c.in-Ok.ensures.found clean).reads) c.on.ensures.begun c.on.ensures.clean
