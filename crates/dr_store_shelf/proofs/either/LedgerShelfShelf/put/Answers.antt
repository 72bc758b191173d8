use Rattle.dr_store_shelf.proofs.either.LedgerShelfShelf.put.Goals as goal

pub returns-in-InFile-clause-beside : goal.returns-in-InFile-clause-beside
returns-in-InFile-clause-beside g c = rw c.in-InFile.is c.put-in-InFile.ensures.beside

pub returns-in-InFile-clause-keeps : goal.returns-in-InFile-clause-keeps
returns-in-InFile-clause-keeps g c = rw c.in-InFile.is c.put-in-InFile.ensures.keeps

pub returns-in-InFile-clause-ends : goal.returns-in-InFile-clause-ends
returns-in-InFile-clause-ends g c = rw c.in-InFile.is c.put-in-InFile.ensures.ends

pub returns-in-InFile-clause-shows : goal.returns-in-InFile-clause-shows
returns-in-InFile-clause-shows g c = rw c.in-InFile.is c.put-in-InFile.ensures.shows
