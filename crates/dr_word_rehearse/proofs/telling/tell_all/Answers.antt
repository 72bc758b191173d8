use Rattle.std.proofs.Common.{◌∙◌, Bool, ap, cond, sym}
use Rattle.dr_run_open.specs.declared.status.Status.TheVariants.{Success, Refused}
use Rattle.dr_word_rehearse.specs.Endings.{printed_of}
use Rattle.dr_word_rehearse.proofs.Printed.{wrote}
use Rattle.dr_word_rehearse.proofs.telling.tell_all.Goals as goal

pub returns-then-fits : goal.returns-then-fits
returns-then-fits g c = (
  wrote (g.W.Write.contents c.args.output.now) (g.W.Write.contents c.write_text.new.output) (printed_of c.args.all.now) c.whole_text.result c.whole_text.ensures c.in_ok-write_text.ensures,
  sym (ap (λ (b : Bool). cond b Success Refused) (sym c.fits-fits.ensures ∙ c.if-fits.true)),
)

pub returns : goal.returns
returns g c = (
  wrote (g.W.Write.contents c.args.output.now) (g.W.Write.contents c.write_text.new.output) (printed_of c.args.all.now) c.whole_text.result c.whole_text.ensures c.in_ok-write_text.ensures,
  sym (ap (λ (b : Bool). cond b Success Refused) (sym c.fits-fits.ensures ∙ c.if-fits.false)),
)

pub whole_text-requires : goal.whole_text-requires
whole_text-requires g c = c.fits-fits.ensures
