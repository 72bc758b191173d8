use Rattle.std.proofs.Common.{T, subst, sym}
use Rattle.std.specs.FinMap.{is_sorted}
use Rattle.std.specs.FinMap.Entries.{is_sorted-put}
use Rattle.dr_ledger_views.proofs.table.put.Goals as goal

pub returns-clause-sorted : goal.returns-clause-sorted
returns-clause-sorted g c = subst (λ es. T (is_sorted g.K.Ord.cmp es)) (sym c.put_in.ensures) (is_sorted-put g.K.Ord.cmp g.met.K.Ord.total c.args.key c.args.value c.args.entries.now.items c.requires.sorted)
