use Rattle.std.proofs.Common.{subst}
use Rattle.dr_word_audit_at.specs.Pages.{Asks}
use Rattle.dr_word_audit_at.proofs.Numbering.{page_as}
use Rattle.dr_word_audit_at.proofs.paging.read_page.Goals as goal

pub returns-in-Ok-clause-page : goal.returns-in-Ok-clause-page
returns-in-Ok-clause-page g c =
    page_as g.A.Asks.answers c.args.meant.name.now c.args.meant.digest.now c.args.node.now c.ask_lines.new.node c.args.lines.now c.add_page.new.lines c.in-Ok.answer c.add_page.result
    (subst (λ n. Asks g.A.Asks.answers n c.args.node.now c.in-Ok.answer c.ask_lines.new.node) c.len.ensures c.in-Ok.ensures.asks) c.add_page.ensures.grows
