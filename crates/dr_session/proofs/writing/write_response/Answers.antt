use Rattle.std.proofs.Common.{◌≡◌, ap, refl, ◌∙◌}
use Rattle.dr_dimse.specs.Written as command
use Rattle.dr_session.specs.declared.ends.LinkAction.TheVariants.{Write}
use Rattle.dr_session.specs.Messages.{command_pdus}
use Rattle.dr_nego.specs.Fragments.{spellings}
use Rattle.dr_session.proofs.writing.write_response.Goals as goal

pub returns : goal.returns
returns c =
    let text : c.deref.result.now ≡ command.written c.args.command.now = c.deref.ensures.value ∙ c.in_ok-text.ensures in
    let bytes : c.from_vec.result ≡ spellings (command_pdus c.args.terms.now.limit c.args.context c.args.command.now) =
    c.from_vec.ensures ∙ (rw (c.new-out.ensures.items, text, c.as_agreed-agreed.ensures.same) at c.in_ok-put_fragments.ensures.ok) in
    ap Write bytes
