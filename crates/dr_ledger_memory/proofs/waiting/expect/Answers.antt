use Rattle.std.proofs.Common.{◌≡◌, ◌++◌, ◌∷◌, [], ◌+◌, true, List, Contains, take, ap, sym, subst, inl, inr, arith}
use Rattle.std.specs.BTreeSet as sorted
use Rattle.std.proofs.lemmas.List.{take_more, take_all}
use Rattle.std.proofs.lemmas.List.Elements.{Contains-push_cases}
use Rattle.dr_base.specs.Texts.{Text}
use Rattle.dr_ledger.specs.declared.item.Progress.TheVariants.{Waiting}
use Rattle.dr_ledger_memory.specs.Dues.{due_cmp}
use Rattle.dr_ledger_memory.specs.Entries.{OwnRow}
use Rattle.dr_ledger_memory.proofs.waiting.expect.Goals as goal

pub loop-row-preserved : goal.loop-row-preserved
loop-row-preserved c =
    let rows = c.args.rows.now in
    let i = c.loop-row.row-index in
    let v = c.expect_one.new.keys in
    let e = take_more rows i c.row-item.result c.loop-row-test.true in
    let more : take (i + 1) rows ≡ take i rows ++ c.row-item.result ∷ [] = rw (← c.row-item.is) at e in (
      λ key h. c.expect_one.ensures.grows key (c.loop-row.invariant.0 key h),
      λ dest tries due m.
          let P : List OwnRow → Type 0 = λ es. Contains es (dest, Waiting tries due) in
          elim (Contains-push_cases (take i rows) c.row-item.result (dest, Waiting tries due) (subst P more m)) [
            | inl before ↦ c.expect_one.ensures.grows (dest, (due, c.args.uid.now)) (c.loop-row.invariant.1 dest tries due before)
            | inr same ↦ (
                let Q : Text → Type 0 = λ d. sorted.contains due_cmp v (d, (due, c.args.uid.now)) ≡ true in
                subst Q (ap (λ (r : OwnRow). r.0) same) (c.in_ok-expect_one.ensures.there tries due (ap (λ (r : OwnRow). r.1) same)))
          ],
    )

pub returns-clause-there : goal.returns-clause-there
returns-clause-there c = λ dest tries due m.
    let P : List OwnRow → Type 0 = λ es. Contains es (dest, Waiting tries due) in
    c.loop-row.invariant.1 dest tries due (subst P (sym (take_all c.loop-row.row-index c.args.rows.now (omega (arith, c.loop-row-test.false)))) m)
