use Rattle.std.proofs.Common.{List, ℕ, refl, sym, subst, true}
use Rattle.std.proofs.lemmas.Bool.{false≢true}
use Rattle.dr_session.specs.declared.ends.LinkAction.{LinkAction}
use Rattle.dr_session.specs.Links.{PerformsOne}
use Rattle.dr_session.proofs.sessions.perform_one.Goals as goal

pub returns-in-Write-clause-performs : goal.returns-in-Write-clause-performs
returns-in-Write-clause-performs g c =
    let P : LinkAction → Type 0 = λ a. PerformsOne g.L.Link.sends g.L.Link.closes c.send.result c.args.link.now a c.send.new.self in
    let Q : List ℕ → Type 0 = λ b. g.L.Link.sends c.args.link.now b c.send.result c.send.new.self in
    subst P (sym c.in-Write.is) (subst Q c.as_bytes.ensures c.send.ensures.sends)

pub returns-in-Write-clause-counts : goal.returns-in-Write-clause-counts
returns-in-Write-clause-counts g c = c.send.ensures.counts

pub returns-in-Close-clause-performs : goal.returns-in-Close-clause-performs
returns-in-Close-clause-performs g c =
    let P : LinkAction → Type 0 = λ a. PerformsOne g.L.Link.sends g.L.Link.closes true c.args.link.now a c.close.new.self in
    subst P (sym c.in-Close.is) (refl, c.close.ensures.closes)

pub returns-in-Close-clause-counts : goal.returns-in-Close-clause-counts
returns-in-Close-clause-counts g c = (c.close.ensures.counts, λ e. absurd (false≢true (sym e)))
