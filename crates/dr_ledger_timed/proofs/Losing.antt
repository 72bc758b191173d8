-- What a call loses none of, where the meter was begun before it.
use Rattle.std.proofs.Common.{◌≡◌, subst}
use Rattle.dr_ledger.specs.Bodies.{Bodies, LosesNone}
use Rattle.dr_ledger.specs.Books.{Book}

pub begun : (before began b : Book) (old mid new : Bodies) → began ≡ before → mid ≡ old → LosesNone began mid b new → LosesNone before old b new
begun before began b old mid new same_book same_bodies loses =
    let P : Book → Type 0 = λ x. LosesNone x old b new in
    let Q : Bodies → Type 0 = λ y. LosesNone began y b new in
    subst P same_book (subst Q same_bodies loses)
