use Rattle.std.proofs.Common.{subst, Err}
use Rattle.dr_site.specs.Sites.{IsSiteOf}
use Rattle.dr_site.specs.declared.site.SiteFault.{SiteFault}
use Rattle.dr_word_adopt.proofs.looking.part_of.Goals as goal

pub returns-in-Err-NoNode : goal.returns-in-Err-NoNode
returns-in-Err-NoNode c =
    let Q : SiteFault → Type 0 = λ fault. IsSiteOf c.args.sealed.now.plan c.args.sealed.now.certificate c.args.name.now (Err fault) in
    subst Q c.in-Err-NoNode.field-0-is c.in-Err-NoNode.ensures
