use Rattle.dr_store_shelf.proofs.either.LedgerShelfShelf.get.Goals as goal

pub returns-in-InRow-clause-why : goal.returns-in-InRow-clause-why
returns-in-InRow-clause-why g c = rw c.in-InRow.is c.get.ensures.why

pub returns-in-InFile-clause-read : goal.returns-in-InFile-clause-read
returns-in-InFile-clause-read g c = rw c.in-InFile.is c.get-in-InFile.ensures.read

pub returns-in-InFile-clause-keeps : goal.returns-in-InFile-clause-keeps
returns-in-InFile-clause-keeps g c = rw c.in-InFile.is c.get-in-InFile.ensures.keeps

pub returns-in-InFile-clause-why : goal.returns-in-InFile-clause-why
returns-in-InFile-clause-why g c = rw c.in-InFile.is c.get-in-InFile.ensures.why

pub returns-in-InFile-clause-since : goal.returns-in-InFile-clause-since
returns-in-InFile-clause-since g c = rw c.in-InFile.is c.get-in-InFile.ensures.since

pub returns-in-InFile-clause-shows : goal.returns-in-InFile-clause-shows
returns-in-InFile-clause-shows g c = rw c.in-InFile.is c.get-in-InFile.ensures.shows
