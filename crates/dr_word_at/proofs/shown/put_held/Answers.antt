use Rattle.std.proofs.Common.{refl, ◌∷◌, []}
use Rattle.std.specs.Prelude.{codes}
use Rattle.dr_base.specs.Texts.{next_field}
use Rattle.dr_word_at.proofs.Pieces.{two_fields}
use Rattle.dr_word_at.proofs.shown.put_held.Goals as goal

pub returns : goal.returns
returns c =
    let cause = c.in_ok-cause.cause.now in (
      codes "held" ∷ cause ∷ [],
      (cause, c.in_ok-cause.ensures, refl),
      two_fields c.args.out.now.items (next_field (codes "held")) (next_field cause) c.add_field.new.out.items c.put_text.new.out.items c.in_ok-add_field.ensures c.in_ok-put_text.ensures,
    )
