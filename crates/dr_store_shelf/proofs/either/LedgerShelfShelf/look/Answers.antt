use Rattle.dr_store_shelf.proofs.either.LedgerShelfShelf.look.Goals as goal

pub returns-in-InFile-clause-found : goal.returns-in-InFile-clause-found
returns-in-InFile-clause-found g c = rw c.in-InFile.is c.look-in-InFile.ensures.found

pub returns-in-InFile-clause-keeps : goal.returns-in-InFile-clause-keeps
returns-in-InFile-clause-keeps g c = rw c.in-InFile.is c.look-in-InFile.ensures.keeps

pub returns-in-InFile-clause-uses : goal.returns-in-InFile-clause-uses
returns-in-InFile-clause-uses g c = rw c.in-InFile.is c.look-in-InFile.ensures.uses

pub returns-in-InFile-clause-since : goal.returns-in-InFile-clause-since
returns-in-InFile-clause-since g c = rw c.in-InFile.is c.look-in-InFile.ensures.since

pub returns-in-InFile-clause-shows : goal.returns-in-InFile-clause-shows
returns-in-InFile-clause-shows g c = rw c.in-InFile.is c.look-in-InFile.ensures.shows

pub returns-in-InFile-clause-read : goal.returns-in-InFile-clause-read
returns-in-InFile-clause-read g c = rw c.in-InFile.is c.look-in-InFile.ensures.read
