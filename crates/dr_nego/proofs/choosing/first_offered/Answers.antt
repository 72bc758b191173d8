use Rattle.std.proofs.Common.{◌≡◌, ◌+◌, List, ◌∷◌, Some, None, Option, drop, sym, ap, ◌∙◌}
use Rattle.std.proofs.lemmas.List.{drop_more}
use Rattle.dr_base.specs.declared.syntax.Syntax.{Syntax}
use Rattle.dr_route.specs.declared.accept.AcceptRow.{AcceptRow}
use Rattle.dr_nego.specs.Answering.{first_proposed, syntaxes_for}
use Rattle.dr_nego.specs.Tests.{offered_by}
use Rattle.dr_nego.proofs.Searching.{offered_first, offered_later}
use Rattle.dr_nego.proofs.choosing.first_offered.Goals as goal

pub returns-in-Some : goal.returns-in-Some
returns-in-Some c =
    let d = drop_more c.args.rows.now c.loop-row.row-index c.row-item.result c.loop-row-test.true in
    let split : drop c.loop-row.row-index c.args.rows.now ≡ c.row-item.result ∷ drop (c.loop-row.row-index + 1) c.args.rows.now = rw (← c.row-item.is) at d in
    let found : offered_by c.row-item.result c.args.caller.now c.args.proposal.now ≡ Some c.in-Some.syntax = sym c.in-Some.ensures in
    let sought : List AcceptRow → Option Syntax = λ rows. first_proposed c.args.proposal.now (syntaxes_for rows c.args.caller.now c.args.proposal.now.class) in
    sym (offered_first c.args.caller.now c.args.proposal.now c.row-item.result (drop (c.loop-row.row-index + 1) c.args.rows.now) c.in-Some.syntax found) ∙ (ap sought (sym split) ∙ c.loop-row.invariant)

pub loop-row-preserved : goal.loop-row-preserved
loop-row-preserved c =
    let d = drop_more c.args.rows.now c.loop-row.row-index c.row-item.result c.loop-row-test.true in
    let split : drop c.loop-row.row-index c.args.rows.now ≡ c.row-item.result ∷ drop (c.loop-row.row-index + 1) c.args.rows.now = rw (← c.row-item.is) at d in
    let nothing : offered_by c.row-item.result c.args.caller.now c.args.proposal.now ≡ None = sym c.in_default.ensures in
    let sought : List AcceptRow → Option Syntax = λ rows. first_proposed c.args.proposal.now (syntaxes_for rows c.args.caller.now c.args.proposal.now.class) in
    sym (offered_later c.args.caller.now c.args.proposal.now c.row-item.result (drop (c.loop-row.row-index + 1) c.args.rows.now) nothing) ∙ (ap sought (sym split) ∙ c.loop-row.invariant)
