use Rattle.dr_store_shelf.proofs.either.LedgerShelfShelf.let_go.Goals as goal

pub returns-in-InFile-clause-keeps : goal.returns-in-InFile-clause-keeps
returns-in-InFile-clause-keeps g c = rw c.in-InFile.is c.let_go-in-InFile.ensures.keeps

pub returns-in-InFile-clause-since : goal.returns-in-InFile-clause-since
returns-in-InFile-clause-since g c = rw c.in-InFile.is c.let_go-in-InFile.ensures.since

pub returns-in-InFile-clause-shows : goal.returns-in-InFile-clause-shows
returns-in-InFile-clause-shows g c = rw c.in-InFile.is c.let_go-in-InFile.ensures.shows
