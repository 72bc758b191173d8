use Rattle.std.proofs.Common.{◌≡◌, ◌++◌, ap, sym, refl, subst, ◌∙◌, arith}
use Rattle.dr_base.specs.Texts.{Text}
use Rattle.dr_base.specs.Uids.{IsUid}
use Rattle.dr_session.proofs.Named.{named}
use Rattle.std.proofs.lemmas.List.Concat.{flat_map-append}
use Rattle.dr_dimse.specs.Written as command
use Rattle.dr_dimse.specs.declared.command.Command.TheVariants.{StoreRq}
use Rattle.dr_pdu.specs.Written.{written}
use Rattle.dr_session.specs.declared.ends.LinkAction.TheVariants.{Write}
use Rattle.dr_session.specs.Messages.{command_pdus, data_pdus}
use Rattle.dr_nego.specs.Fragments.{spellings}
use Rattle.dr_session.proofs.writing.write_store.Goals as goal

pub returns : goal.returns
returns c =
    let read : c.deref.result.now ≡ command.written (StoreRq c.args.id c.in_ok-clone.field-0 c.in_ok-clone-2.field-0) = c.deref.ensures.value ∙ c.in_ok-text.ensures in
    let text : c.deref.result.now ≡ command.written (StoreRq c.args.id c.args.job.now.key.class c.args.job.now.uid) = read ∙ rw (c.in_ok-clone.ensures, c.in_ok-clone-2.ensures) refl in
    let first : c.put_fragments.new.out.items ≡ spellings (command_pdus c.args.terms.now.limit c.args.context (StoreRq c.args.id c.args.job.now.key.class c.args.job.now.uid)) =
    rw (c.new-out.ensures.items, text, c.as_agreed-agreed.ensures.same) at c.in_ok-put_fragments.ensures.ok in
    let both : c.put_fragments-2.new.out.items ≡ spellings (command_pdus c.args.terms.now.limit c.args.context (StoreRq c.args.id c.args.job.now.key.class c.args.job.now.uid)) ++ spellings (data_pdus c.args.terms.now.limit c.args.context c.args.job.now.body) =
    rw (first, c.as_bytes.ensures, c.as_agreed-agreed.ensures.same) at c.in_ok-put_fragments-2.ensures.ok in
    ap Write (c.from_vec.ensures ∙ (both ∙ sym (flat_map-append written (command_pdus c.args.terms.now.limit c.args.context (StoreRq c.args.id c.args.job.now.key.class c.args.job.now.uid)) (data_pdus c.args.terms.now.limit c.args.context c.args.job.now.body))))

pub write_command-requires : goal.write_command-requires
write_command-requires c =
    let names = named c.args.job.now c.requires in
    let P : Text → Type 0 = λ t. IsUid t in
    (omega arith, subst P (sym c.in_ok-clone.ensures) names.0, subst P (sym c.in_ok-clone-2.ensures) names.1)
