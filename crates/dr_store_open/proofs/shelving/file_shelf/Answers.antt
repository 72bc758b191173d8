use Rattle.dr_store_open.proofs.Opens.{if_ok_as, shows_made}
use Rattle.dr_store_open.proofs.shelving.file_shelf.Goals as goal

pub returns-in-Ok-clause-shows : goal.returns-in-Ok-clause-shows
returns-in-Ok-clause-shows g c =
    if_ok_as _ _ c.shelf_over.result (λ shelf shows. shows_made g.F.Disk.Disk.seen c.args.made c.in-Ok.disk shelf c.in-Ok.ensures.same shows)
    c.shelf_over.ensures.shows
