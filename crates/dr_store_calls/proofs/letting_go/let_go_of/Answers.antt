use Rattle.std.proofs.Common.{Option, Some, subst, sym}
use Rattle.dr_ledger.specs.declared.content.Job.{Job}
use Rattle.dr_store_calls.specs.LettingGo.{KeepsApart}
use Rattle.dr_store_calls.proofs.letting_go.let_go_of.Goals as goal

pub returns-in-Some-clause-keeps : goal.returns-in-Some-clause-keeps
returns-in-Some-clause-keeps g c =
    let was = c.args.shelf.now in
    let shelf = c.let_go.new.self in
    let Apart = g.B.Shelf.apart (g.B.Shelf.named was) in
    let P : Option Job → Type 0 =
    λ found. KeepsApart Apart (g.B.Shelf.uses was) (g.B.Shelf.stands was) (g.B.Shelf.uses shelf)
    (g.B.Shelf.stands shelf) found in
    subst P (sym c.in-Some.is) (λ other apart used.
    let from = subst (λ cell. Apart cell other) (sym c.as_bytes.ensures) apart in (
      c.let_go.ensures.uses other from used,
      λ bytes stood. (c.let_go.ensures.keeps other bytes from used stood).1,
    ))
