-- What a call on a node's ledger leaves of its premise, and what it leaves of the node.
use Rattle.std.specs.Prelude.{◌≡◌, Result}
use Rattle.dr_site.specs.Parts.{Part}
use Rattle.dr_ledger.specs.declared.fault.LedgerFault.{LedgerFault}
use Rattle.dr_ledger.specs.declared.ledger.Ledger.{Ghosts}
use Rattle.dr_ledger.specs.Adopting.{site_after}
use Rattle.dr_ledger.specs.Replies.{Counts, LastsThrough}
use Rattle.dr_node.specs.declared.node.Node.{Node}
use Rattle.dr_node.specs.Sides.{sides_after}

-- The premise of the node's ledger: where it stands after the call it stood before, only what the
-- ledger trusts, a failed store or want of memory can end it, and each failure of the store is
-- counted.
pub record KeepsPremise {A L : Type 0} {l : Ghosts L} (result : Result A LedgerFault)
    (old new : Node L l) : Type 0 where
  pub counts : Counts result (l.failed old.desk.ledger) (l.failed new.desk.ledger)
  pub stood : l.stands new.desk.ledger → l.stands old.desk.ledger
  pub lasts : LastsThrough l.trusts l.stands old.desk.ledger result new.desk.ledger

-- The call only reads: the ledger's book and its data sets are as they were, and so is whether its
-- store is to refuse the next line.
pub record OnlyReads {A L : Type 0} {l : Ghosts L} (result : Result A LedgerFault)
    (old new : Node L l) : Type 0 where
  pub premise : KeepsPremise result old new
  pub same : l.stands new.desk.ledger
      → (l.book new.desk.ledger ≡ l.book old.desk.ledger)
      × (l.bodies new.desk.ledger ≡ l.bodies old.desk.ledger)
  pub armed : l.armed new.desk.ledger ≡ l.armed old.desk.ledger

-- The rest of the node is as it was: the site of its ledger, its links, and its own site.
pub record KeepsRest {L : Type 0} {l : Ghosts L} (old new : Node L l) : Type 0 where
  pub of : l.site new.desk.ledger ≡ l.site old.desk.ledger
  pub links : new.links ≡ old.links
  pub site : new.site ≡ old.site

-- The rest of the node after an adoption: the site is its part of the next plan, and it has no
-- link. Where the adoption was refused, all of it is as it was.
pub record TakesSite {L : Type 0} {l : Ghosts L} (own : Part)
    (result : Result (Unit {0}) LedgerFault) (old new : Node L l) : Type 0 where
  pub of : l.site new.desk.ledger ≡ site_after result own (l.site old.desk.ledger)
  pub links : new.links ≡ sides_after result old.links
  pub site : new.site ≡ site_after result own old.site
