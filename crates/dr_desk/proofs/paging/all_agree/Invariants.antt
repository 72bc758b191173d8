use Rattle.std.proofs.Common.{drop, All}
use Rattle.std.specs.List.{AllByRecursion}
use Rattle.dr_desk.specs.Paging.{AgreesWith}
use Rattle.dr_desk.proofs.paging.all_agree.Given as goal

abbrev pub invariant-loop-pass : goal.invariant-loop-pass
invariant-loop-pass g l = AllByRecursion (λ p. All (AgreesWith l.after l.page) p.receipts.items) (drop l.pass-index l.passes) → AllByRecursion (λ p. All (AgreesWith l.after l.page) p.receipts.items) l.passes
