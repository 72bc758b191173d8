-- What rows need.
use Rattle.std.specs.Prelude.{◌≡◌, Contains, List, true}
use Rattle.dr_base.specs.Texts.{Text}
use Rattle.dr_ledger.specs.declared.item.Progress.{Progress}
use Rattle.dr_ledger.specs.Books.{is_queued}
use Rattle.dr_ledger.specs.Pairs.{Pair}

-- a row of the uid waits or is held
abbrev pub IsOpenIn : List (Pair × Progress) → Text → Type 0
IsOpenIn rows uid =
    (dest : Text) × (row : Progress) × Contains rows ((uid, dest), row) × (is_queued row ≡ true)
