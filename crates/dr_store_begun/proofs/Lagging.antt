-- What follows of balances from the definitions alone.
use Rattle.std.proofs.Common.{◌≡◌, List, [], ◌∷◌, true, true≢false, refl, sym, ap, subst, ◌∙◌, arith, length-take}
use Rattle.std.specs.Prelude.{codes}
use Rattle.std.specs.FinSet as set
use Rattle.std.proofs.lemmas.List.{take_at}
use Rattle.dr_base.specs.Texts.{text_cmp}
use Rattle.dr_ledger.specs.Books.{Line}
use Rattle.dr_ledger.proofs.Maps.{texts}
use Rattle.dr_ledger_history.specs.Contents.{Content}
use Rattle.dr_ledger_balance.specs.Contents.{IsBalanceOf}
use Rattle.dr_store_begun.specs.Laws.{BalancesBeyondAreWrong, BalancesStayRight, NoLinesKeepNothing, NoLinesMakeNothing}

pub stays_right : BalancesStayRight
stays_right lines more b is = subst (λ (ls : List Line). IsBalanceOf ls b) (sym (take_at lines more b.count is.counted)) is

pub beyond_is_wrong : BalancesBeyondAreWrong
beyond_is_wrong lines b more is =
    let counted = is.counted in
    let cut = length-take b.count lines in omega (arith, counted, cut, more)

pub none_make_nothing : NoLinesMakeNothing
none_make_nothing lines = record { counted = refl; told = record { past = tt; fold = refl } }

pub none_keep_nothing : NoLinesKeepNothing
none_keep_nothing lines is =
    let uid = codes "1.2" in
    let said : set.contains {R = text_cmp} (set.from_list (uid ∷ [])) uid ≡ true = set.contains-from_list texts.total (uid ∷ []) uid in
    let same = ap (λ (c : Content). set.contains c.kept uid) is.told.fold in
    true≢false (sym said ∙ same ∙ set.contains-empty text_cmp uid)
