use Rattle.std.proofs.Common.{◌≡◌, ◌∷◌, ◌∙◌, inl, inr, sym, ap, subst, List}
use Rattle.dr_base.specs.Texts.{Text}
use Rattle.dr_check.specs.declared.fault.Fault.TheVariants as fault
use Rattle.dr_check.specs.declared.search.WalkEnd.TheVariants as end
use Rattle.dr_check.specs.Searching.{IsFirstEnd}
use Rattle.dr_check.proofs.checker.stopped_by.Goals as goal

pub returns-in-NoContext : goal.returns-in-NoContext
returns-in-NoContext c = λ plan site over begins first.
    let named : IsFirstEnd plan c.args.cell c.args.walk.items end.NoContext = rw c.in-NoContext.is at first in
    let P : List Text → Type 0 = λ walk. IsFirstEnd plan c.args.cell walk end.NoContext in
    let both = subst P (sym c.from_vec-walk.ensures) named in
    let walk : c.from_vec-walk.result ≡ site ∷ over = c.from_vec-walk.ensures ∙ begins in
    (both.0, both.1, (over, inl (ap (λ (nodes : List Text). fault.NoContext nodes c.args.cell) walk)))

pub returns-in-Cycle : goal.returns-in-Cycle
returns-in-Cycle c = λ plan site over begins first.
    let named : IsFirstEnd plan c.args.cell c.args.walk.items end.Cycle = rw c.in-Cycle.is at first in
    let P : List Text → Type 0 = λ walk. IsFirstEnd plan c.args.cell walk end.Cycle in
    let both = subst P (sym c.from_vec-walk.ensures) named in
    let walk : c.from_vec-walk.result ≡ site ∷ over = c.from_vec-walk.ensures ∙ begins in
    (both.0, both.1, (over, inr (inl (ap (λ (nodes : List Text). fault.Cycle nodes c.args.cell) walk))))

pub returns-in-DeadEnd : goal.returns-in-DeadEnd
returns-in-DeadEnd c = λ plan site over begins first.
    let named : IsFirstEnd plan c.args.cell c.args.walk.items end.DeadEnd = rw c.in-DeadEnd.is at first in
    let P : List Text → Type 0 = λ walk. IsFirstEnd plan c.args.cell walk end.DeadEnd in
    let both = subst P (sym c.from_vec-walk.ensures) named in
    let walk : c.from_vec-walk.result ≡ site ∷ over = c.from_vec-walk.ensures ∙ begins in
    (both.0, both.1, (over, inr (inr (ap (λ (nodes : List Text). fault.DeadEnd nodes c.args.cell) walk))))
