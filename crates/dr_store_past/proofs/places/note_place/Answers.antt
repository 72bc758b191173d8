use Rattle.std.proofs.Common.{rules, inl}
use Rattle.dr_store_past.proofs.Noting.{is_far}
use Rattle.dr_store_past.proofs.places.note_place.Goals as goal

pub returns-clause-noted : goal.returns-clause-noted
returns-clause-noted c =
    inl (
      is_far c.args.places.now.items c.args.place.now c.place_before-near.result (rw c.as_slice.ensures.value at c.place_before-near.ensures) (search rules),
      c.in_ok-push.ensures.items,
    )
