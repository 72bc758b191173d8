use Rattle.std.proofs.Common.{take}
use Rattle.dr_cert_diff.specs.Going.{Adds, AtSite, Over}
use Rattle.dr_cert_diff.proofs.going.over_sites.Given as goal

abbrev pub invariant-loop-site : goal.invariant-loop-site
invariant-loop-site l = Adds l.fn.both.old.now.plan l.fn.both.new.now.plan (Over (take l.site-index l.fn.sites) (AtSite l.fn.both.old.now.plan l.fn.both.new.now.plan)) l.initial.changes.items l.changes.items
