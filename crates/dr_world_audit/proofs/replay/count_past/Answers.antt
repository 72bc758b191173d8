use Rattle.std.proofs.Common.{◌≡◌, ◌+◌, ◌∙◌, ◌++◌, ◌∷◌, [], ap, arith, subst, sym, take}
use Rattle.std.specs.Prelude.{map as mapped}
use Rattle.std.proofs.lemmas.List.{map_more}
use Rattle.dr_ledger.specs.Histories.{IsBeforeAdoption}
use Rattle.dr_ledger_history.specs.Lines.{line_of}
use Rattle.dr_world_journals.specs.Journals.{until_adoption}
use Rattle.dr_world_audit.proofs.Replaying.{ends_with, until_here, until_still}
use Rattle.dr_world_audit.proofs.replay.count_past.Goals as goal
use Rattle.dr_world_audit.proofs.replay.count_past.Goals.{then-is_adoption, else-is_adoption}

pub loop-i-preserved : goal.loop-i-preserved
loop-i-preserved c =
    let lines = c.args.lines.now in
    let i = c.loop-i.i in
    let line = c.index-lines-i.result in
    let e = map_more line_of lines i line c.loop-i-test.true in
    let more : mapped line_of (take (i + 1) lines) ≡ mapped line_of (take i lines) ++ line_of line ∷ [] = rw (← c.index-lines-i.is) at e in
    elim c.if-is_adoption.branch [
      | then-is_adoption w ↦ (
        omega (arith, w.end-is),
        ap (λ n. mapped line_of (take n lines)) w.end-is ∙ (more ∙ (sym (until_here (mapped line_of (take i lines)) (line_of line) (sym c.is_adoption.ensures ∙ w.if-is_adoption.true)) ∙ ap until_adoption (sym more))),
        subst IsBeforeAdoption (sym (ap (λ n. mapped line_of (take n lines)) w.end-is ∙ more)) (ends_with (mapped line_of (take i lines)) (line_of line) (sym c.is_adoption.ensures ∙ w.if-is_adoption.true)),
      )
      | else-is_adoption w ↦ (
        omega (arith, w.end-is, c.loop-i.invariant.0),
        ap (λ n. mapped line_of (take n lines)) w.end-is ∙ (c.loop-i.invariant.1 ∙ (sym (until_still (mapped line_of (take i lines)) (line_of line) (sym c.is_adoption.ensures ∙ w.if-is_adoption.false)) ∙ ap until_adoption (sym more))),
        subst IsBeforeAdoption (sym (ap (λ n. mapped line_of (take n lines)) w.end-is)) c.loop-i.invariant.2,
      )
    ]
