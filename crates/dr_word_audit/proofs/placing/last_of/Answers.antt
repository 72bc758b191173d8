use Rattle.std.proofs.Common.{◌≡◌, ◌∙◌, ◌+◌, ◌++◌, ◌∷◌, [], ℕ, List, Option, arith, length, subst, sym, ap, take}
use Rattle.std.specs.Prelude.{map as mapped}
use Rattle.std.proofs.lemmas.List.{map_more}
use Rattle.dr_ledger.specs.Books.{Line}
use Rattle.dr_ledger_history.specs.Lines.{line_of}
use Rattle.dr_word_audit.specs.Places.{IsLast, says}
use Rattle.dr_word_audit.proofs.Lasting.{as_many, last_more, taken}
use Rattle.dr_word_audit.proofs.placing.last_of.Goals as goal

pub loop-i-preserved : goal.loop-i-preserved
loop-i-preserved c =
    let test = says c.args.mismatch.now in
    let lines = c.args.lines.now in
    let i = c.loop-i.i in
    let line = c.index-lines-i.result in
    let e = map_more line_of lines i line c.loop-i-test.true in
    let more : mapped line_of (take (i + 1) lines) ≡ mapped line_of (take i lines) ++ line_of line ∷ [] = rw (← c.index-lines-i.is) at e in
    let place : i + 1 ≡ length (mapped line_of (take i lines)) + 1 = ap (λ n. n + 1) (sym (as_many line_of (take i lines) ∙ taken lines i c.loop-i-test.true)) in
    let P : List Line → Option ℕ → Type 0 = λ ls found. IsLast test ls found in
    let so = last_more test (mapped line_of (take i lines)) (line_of line) c.loop-i.found (i + 1) c.says.result place c.says.ensures c.loop-i.invariant in
    subst (λ (ls : List Line). P ls c.later-found.result) (sym more) (subst (λ (found : Option ℕ). P (mapped line_of (take i lines) ++ line_of line ∷ []) found) (sym c.later-found.ensures) so)
