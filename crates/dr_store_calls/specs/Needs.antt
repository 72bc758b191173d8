-- Whether a data set is needed still.
use Rattle.std.specs.Prelude.{◌≡◌, ◌⊎◌, true}
use Rattle.std.specs.FinSet as set
use Rattle.sqlite.specs.Tree.{Trees}
use Rattle.dr_base.specs.Texts.{Text}
use Rattle.dr_ledger.specs.declared.item.Progress.{Progress}
use Rattle.dr_ledger.specs.Books.{is_queued}
use Rattle.dr_store_schema.specs.Books.{all_kept_in}
use Rattle.dr_store_reads.specs.Queries.{IsOpenElsewhere}

-- the instance is kept
abbrev pub IsKeptIn : Trees → Text → Type 0
IsKeptIn db uid = set.contains (all_kept_in (db 7)) uid ≡ true

-- where its row for that destination comes to this, the data set of the instance is needed still
abbrev pub IsNeededStill : Trees → Text → Text → Progress → Type 0
IsNeededStill db uid dest to =
    (is_queued to ≡ true) ⊎ (IsOpenElsewhere db uid dest ⊎ IsKeptIn db uid)
