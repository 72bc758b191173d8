use Rattle.std.proofs.Common.{◌≡◌, ◌++◌, ap, sym, refl, subst, ◌∙◌, arith}
use Rattle.dr_base.specs.Texts.{Text}
use Rattle.dr_base.specs.Uids.{IsUid}
use Rattle.std.proofs.lemmas.List.Concat.{flat_map-append}
use Rattle.dr_dimse.specs.Written as command
use Rattle.dr_dimse.specs.declared.command.Command.TheVariants.{StoreRq}
use Rattle.dr_pdu.specs.Written.{written}
use Rattle.dr_session.specs.Messages.{command_pdus, data_pdus}
use Rattle.dr_nego.specs.Fragments.{spellings}
use Rattle.dr_world.proofs.speaking.job_text.Goals as goal

pub returns : goal.returns
returns c =
    let read : c.deref.result.now ≡ command.written (StoreRq 1 c.in_ok-clone.field-0 c.in_ok-clone-2.field-0) = c.deref.ensures.value ∙ c.in_ok-text.ensures in
    let text : c.deref.result.now ≡ command.written (StoreRq 1 c.args.job.now.key.class c.args.job.now.uid) = read ∙ rw (c.in_ok-clone.ensures, c.in_ok-clone-2.ensures) refl in
    let first : c.put_fragments.new.out.items ≡ spellings (command_pdus 1024 c.args.context (StoreRq 1 c.args.job.now.key.class c.args.job.now.uid)) =
    rw (c.new-out.ensures.items, text, c.within-terms.ensures) at c.in_ok-put_fragments.ensures.ok in
    let both : c.put_fragments-2.new.out.items ≡ spellings (command_pdus 1024 c.args.context (StoreRq 1 c.args.job.now.key.class c.args.job.now.uid)) ++ spellings (data_pdus 1024 c.args.context c.args.job.now.body) =
    rw (first, c.as_bytes.ensures, c.within-terms.ensures) at c.in_ok-put_fragments-2.ensures.ok in
    c.from_vec.ensures ∙ (both ∙ sym (flat_map-append written (command_pdus 1024 c.args.context (StoreRq 1 c.args.job.now.key.class c.args.job.now.uid)) (data_pdus 1024 c.args.context c.args.job.now.body)))

pub write_command-requires : goal.write_command-requires
write_command-requires c =
    let P : Text → Type 0 = λ t. IsUid t in
    (omega arith, subst P (sym c.in_ok-clone.ensures) c.requires.class, subst P (sym c.in_ok-clone-2.ensures) c.requires.instance)
