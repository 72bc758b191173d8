use Rattle.dr_store_shelf.proofs.Looked.{ok_map, read_alike}
use Rattle.dr_store_shelf.proofs.in_file.InFileShelf.get.Goals as goal

pub returns-clause-read : goal.returns-clause-read
returns-clause-read g c =
    ok_map c.find.result (λ got read clean bytes stands. read clean bytes stands.0)
    (rw c.deref.ensures.value at c.find.ensures.read)

pub returns-clause-why : goal.returns-clause-why
returns-clause-why g c = rw c.deref.ensures.value at c.find.ensures.why

pub returns-clause-reads : goal.returns-clause-reads
returns-clause-reads g c = λ clean cell used.
    read_alike _ _ cell _ _ c.find.ensures.key (c.find.ensures.shows clean cell used)
