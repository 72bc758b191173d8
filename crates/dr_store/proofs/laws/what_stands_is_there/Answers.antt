use Rattle.dr_store.proofs.Owns.{stood_read}
use Rattle.dr_store.proofs.Readable.{all_there}
use Rattle.dr_store.proofs.laws.what_stands_is_there.Goals as goal

pub returns : goal.returns
returns g c =
    let shelf = c.args.shelf.now in
    all_there (g.B.Shelf.stands shelf) (g.B.Shelf.read_of shelf) (λ cell bytes stands.
    stood_read (g.B.Shelf.passes shelf cell) (g.B.Shelf.read_of shelf cell) (g.B.Shelf.body_of shelf cell) bytes (g.B.Shelf.reads shelf cell) (g.B.Shelf.only shelf cell bytes stands) (g.B.Shelf.passed shelf cell bytes stands))
