use Rattle.std.proofs.Common.{◌≡◌, ◌+◌, ◌++◌, ◌∷◌, [], arith, inl, inr, refl, Contains, List, subst, sym, take}
use Rattle.std.proofs.lemmas.List.{take_all, take_more}
use Rattle.std.proofs.lemmas.List.Elements.{Contains-push_cases}
use Rattle.dr_ledger_history.specs.declared.line.JournalLine.{JournalLine}
use Rattle.dr_ledger_history.specs.Lines.{line_of}
use Rattle.dr_world_audit.specs.Sites.{IsUnfair}
use Rattle.dr_world_audit.proofs.audit.first_unfair.Goals as goal

pub loop-line-preserved : goal.loop-line-preserved
loop-line-preserved c =
    let all = c.args.lines.now in
    let i = c.loop-line.line-index in
    let one = c.line-item.result in
    let e = take_more all i one c.loop-line-test.true in
    let more : take (i + 1) all ≡ take i all ++ one ∷ [] = rw (← c.line-item.is) at e in
    λ line among.
    let P : List JournalLine → Type 0 = λ ls. Contains ls line in
    let Q : JournalLine → Type 0 = λ l. IsUnfair c.args.ours.now.keys (line_of l) → ⊥ in
    elim (Contains-push_cases (take i all) one line (subst P more among)) [
      | inl was ↦ c.loop-line.invariant line was
      | inr same ↦ subst Q same (c.if-is_unfair.ensures.no refl)
    ]

pub returns : goal.returns
returns c = λ line among. (
    let P : List JournalLine → Type 0 = λ ls. Contains ls line in
    c.loop-line.invariant line (subst P (sym (take_all c.loop-line.line-index c.args.lines.now (omega (arith, c.loop-line-test.false)))) among)
    )
