-- Rows that are queued again, one after the other.
use Rattle.std.proofs.Common.{◌≡◌, ◌∙◌, ◌<◌, ◌+◌, ◌++◌, ◌∷◌, [], ℕ, List, Ok, take, get_or, length, refl, sym, ap, subst}
use Rattle.std.proofs.lemmas.List.{take_more}
use Rattle.dr_base.specs.Texts.{Text}
use Rattle.dr_ledger.specs.Books.{Book}
use Rattle.dr_ledger.specs.Replies.{Requeues}
use Rattle.dr_word_list.specs.Requeuings.{RequeuesEach}

each_push : (uids : List Text) (uid dest : Text) (old mid new : Book) → RequeuesEach uids dest old mid → Requeues uid dest mid (Ok tt) new → RequeuesEach (uids ++ uid ∷ []) dest old new
each_push [] uid dest old mid new so_far one =
    let P : Book → Type 0 = λ b. Requeues uid dest b (Ok tt) new in
    (new, subst P so_far one, refl)
each_push (x ∷ xs) uid dest old mid new so_far one = (so_far.0, so_far.1, each_push xs uid dest so_far.0 mid new so_far.2 one)

-- one row more
pub each_more : (uids : List Text) (i : ℕ) (uid dest : Text) (old mid new : Book) → i < length uids → uid ≡ get_or uids i uid → RequeuesEach (take i uids) dest old mid
    → Requeues uid dest mid (Ok tt) new → RequeuesEach (take (i + 1) uids) dest old new
each_more uids i uid dest old mid new lt at so_far one =
    let pushed : take (i + 1) uids ≡ take i uids ++ uid ∷ [] = take_more uids i uid lt ∙ ap (λ (u : Text). take i uids ++ u ∷ []) (sym at) in
    let P : List Text → Type 0 = λ us. RequeuesEach us dest old new in
    subst P (sym pushed) (each_push (take i uids) uid dest old mid new so_far one)
