use Rattle.std.proofs.Common.{◌∙◌, ap, subst, Ok}
use Rattle.dr_route.specs.Routes.{local}
use Rattle.dr_ledger.specs.Books.{Book}
use Rattle.dr_ledger.specs.Items.{instance_of}
use Rattle.dr_ledger.specs.Replies.{Arrives}
use Rattle.dr_ledger.specs.SiteRoutes.{site_routing}
use Rattle.dr_site.specs.Parts.{Part}
use Rattle.dr_word_serve.proofs.submitting.send_ledger.Goals as goal

pub returns-in-Ok : goal.returns-in-Ok
returns-in-Ok g c =
    let taken = c.in_ok-take_in.ensures in
    let after = g.L.Ledger.book c.take_in.new.ledger in
    let P : Part → Type 0 = λ site. Arrives (site_routing site) local (instance_of c.args.item) (g.L.Ledger.book c.new-port.result.desk.ledger) (Ok taken.0) after in
    let Q : Book → Type 0 = λ book. Arrives (site_routing c.args.node.site.now) local (instance_of c.args.item) book (Ok taken.0) after in
    let site = ap g.L.Ledger.site c.new-port.ensures ∙ c.requires in (
      taken.0,
      record { desk = record { ledger = c.take_in.new.ledger }; taken = c.new-port.result.taken },
      λ stands. subst Q (ap g.L.Ledger.book c.new-port.ensures) (subst P site (taken.1 stands)),
      taken.2,
      c.in-Ok.ensures,
    )
