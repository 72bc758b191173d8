use Rattle.std.proofs.Common.{sym, ◌∙◌}
use Rattle.std.proofs.lemmas.Bool.{false≢true}
use Rattle.dr_world.specs.Reports.{books_of}
use Rattle.dr_world.proofs.Listed.{named_as, reported_as}
use Rattle.dr_world.proofs.listing.report_at.Goals as goal

pub returns-then-is_among-clause-report : goal.returns-then-is_among-clause-report
returns-then-is_among-clause-report g c = λ all.
    named_as c.args.others.now (books_of c.args.nodes.now c.args.name.now) c.in_ok-listing.field-0 c.in-Some.listing c.args.name.now c.args.out.now.items c.put_foreign.new.out.items (c.is_among.ensures.0 c.if-is_among.true)
    c.in-Some.is (c.in_ok-listing.ensures.lists all) c.in_ok-put_foreign.ensures

pub returns-clause-report : goal.returns-clause-report
returns-clause-report g c = λ all.
    reported_as c.args.others.now (books_of c.args.nodes.now c.args.name.now) c.in_ok-listing.field-0 c.in-Some.listing c.args.name.now c.args.out.now.items c.put_listing.new.out.items
    (λ among. false≢true (sym c.if-is_among.false ∙ c.is_among.ensures.1 among)) c.in-Some.is (c.in_ok-listing.ensures.lists all) c.in_ok-put_listing.ensures
