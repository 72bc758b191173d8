use Rattle.dr_base.specs.Texts.{next_field}
use Rattle.dr_word_at.proofs.Pieces.{one_field}
use Rattle.dr_word_at.proofs.shown.put_alone.Goals as goal

pub returns : goal.returns
returns c = one_field c.args.out.now.items (next_field c.args.field.now) c.add_field.new.out.items c.in_ok-add_field.ensures
