use Rattle.std.proofs.Common.{◌≡◌}
use Rattle.form_urlencoded.specs.Form.{raw_pairs as pairs_of}
use Rattle.form_urlencoded.specs.Parse.{raw_pairs_left}
use Rattle.dr_run_request.specs.Forms.{first_value}
use Rattle.dr_run_request.proofs.form.raw_value.Given as goal

abbrev pub invariant-loop-key : goal.invariant-loop-key
invariant-loop-key l =
    (goal.iterator-loop-key).can_next l.key-iterator
    × ((goal.iterator-loop-key).is_finite l.key-iterator
    × (first_value (pairs_of l.fn.form) l.fn.name ≡ first_value (raw_pairs_left l.key-iterator) l.fn.name))
