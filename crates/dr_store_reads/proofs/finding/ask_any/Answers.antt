use Rattle.std.proofs.Common.{◌∙◌, ◌==◌, ap, length, not}
use Rattle.dr_store_reads.proofs.Outcomes.{decoded, refused}
use Rattle.dr_store_reads.proofs.finding.ask_any.Goals as goal

pub returns-in_err-rows : goal.returns-in_err-rows
returns-in_err-rows g c = record { asked = refused c.from_residual.ensures (λ plain. plain) c.in_err-rows.ensures.asked }

pub returns : goal.returns
returns g c =
    record {
      asked = decoded _ (λ plain. plain)
          (λ plain shown. (c.in_ok-rows.rows.items, shown, ap not c.is_empty.ensures ∙ ap (λ rows. not (length rows == 0)) c.as_slice.ensures.value))
          c.in_ok-rows.ensures.asked;
    }
