-- Laws of unfit rows.
use Rattle.std.specs.Prelude.{◌≡◌, List, []}
use Rattle.dr_base.specs.Texts.{Text}
use Rattle.dr_plan_model.specs.Networks.{Network}
use Rattle.dr_ledger.specs.Books.{Book}
use Rattle.dr_ledger.specs.Adopting.{IsFit}
use Rattle.dr_ledger.specs.Pairs.{Pair}
use Rattle.dr_ledger_unfit.specs.Unfit.{AreUnfit}

-- two answers to one question are the same
abbrev pub UnfitAreOne : Type 0
UnfitAreOne =
    (next : Network) (name : Text) (b : Book) (one other : List Pair)
    → AreUnfit next name b one → AreUnfit next name b other → one ≡ other

-- where none is unfit, a ledger of that book may adopt the next plan
abbrev pub NoneIsFit : Type 0
NoneIsFit =
    (next : Network) (name : Text) (b : Book) → AreUnfit next name b [] → IsFit next name b
