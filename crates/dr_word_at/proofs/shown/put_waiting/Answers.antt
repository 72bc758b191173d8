use Rattle.std.proofs.Common.{refl, ◌∷◌, []}
use Rattle.std.specs.Prelude.{codes, decimal}
use Rattle.dr_base.specs.Texts.{next_field}
use Rattle.dr_word_at.proofs.Pieces.{three_fields}
use Rattle.dr_word_at.proofs.shown.put_waiting.Goals as goal

pub returns : goal.returns
returns c =
    let tries = c.in_ok-tries.tries in
    let due = c.in_ok-due.due in (
      codes "waiting" ∷ decimal tries ∷ decimal due ∷ [],
      (tries, due, c.in_ok-tries.ensures, c.in_ok-due.ensures, refl),
      three_fields c.args.out.now.items (next_field (codes "waiting")) (next_field (decimal tries)) (next_field (decimal due)) c.add_field.new.out.items c.add_number.new.out.items c.add_number-2.new.out.items
          c.in_ok-add_field.ensures c.in_ok-add_number.ensures c.in_ok-add_number-2.ensures,
    )
