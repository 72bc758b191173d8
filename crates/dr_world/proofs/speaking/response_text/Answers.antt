use Rattle.std.proofs.Common.{◌≡◌, [], false, refl, sym, subst, ◌∙◌, arith}
use Rattle.dr_base.specs.Texts.{Text}
use Rattle.dr_dimse.specs.Written as command
use Rattle.dr_dimse.specs.Written.{IsText}
use Rattle.dr_dimse.specs.declared.command.Command.TheVariants.{StoreRsp}
use Rattle.dr_nego.specs.Fragments.{spellings}
use Rattle.dr_world.specs.Orders.{response_pdus}
use Rattle.dr_world.proofs.speaking.response_text.Goals as goal

pub write_command-requires : goal.write_command-requires
write_command-requires c =
    let nothing : IsText [] = (refl, omega arith) in
    (c.ranges.to.fits, c.ranges.status.fits, subst IsText (sym (c.from_vec.ensures ∙ c.new.ensures.items)) nothing, subst IsText (sym (c.from_vec-2.ensures ∙ c.new-2.ensures.items)) nothing)

pub returns : goal.returns
returns c =
    let class : c.from_vec.result ≡ [] = c.from_vec.ensures ∙ c.new.ensures.items in
    let instance : c.from_vec-2.result ≡ [] = c.from_vec-2.ensures ∙ c.new-2.ensures.items in
    let text : c.deref.result.now ≡ command.written (StoreRsp c.args.to c.args.status [] [] false) =
    c.deref.ensures.value ∙ (c.in_ok-text.ensures ∙ (λ i. command.written (StoreRsp c.args.to c.args.status (class i) (instance i) false))) in
    let bytes : c.from_vec-3.result ≡ spellings (response_pdus c.args.context c.args.to c.args.status) =
    c.from_vec-3.ensures ∙ (rw (c.new-out.ensures.items, text, c.within-terms.ensures) at c.in_ok-put_fragments.ensures.ok) in
    bytes
