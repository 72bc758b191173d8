-- What an adoption makes of the book, and of a ledger's tables.
use Rattle.std.proofs.Common.{◌≡◌, ◌≤◌, ◌+◌, [], ◌∷◌, ◌++◌, refl, sym, ap, subst, ◌∙◌, arith}
use Rattle.std.specs.FinMap as map
use Rattle.sqlite.specs.Order.{column}
use Rattle.dr_site.specs.Parts.{Part}
use Rattle.dr_ledger.specs.Bodies.{Bodies}
use Rattle.dr_ledger.specs.Books.{Adoption, Book, after}
use Rattle.dr_ledger.specs.Histories.{IsJournalled}
use Rattle.dr_ledger.specs.SiteRoutes.{site_routing}
use Rattle.dr_ledger.proofs.Needs.{adoptions_need_the_same}
use Rattle.dr_ledger_past.proofs.Goings.{adoptions_go_on}
use Rattle.dr_ledger_past.specs.Pasts.{with_past}
use Rattle.dr_store_sealed.specs.declared.seal.Seal.{Seal}
use Rattle.dr_store_schema.specs.Books.{AreBelow, all_kept_in, arrivals_in, bodies_by, bodies_of, book_of, contents_in, items_in, lines_in, lines_of, names_in, prints_in, wholes_in}
use Rattle.dr_store_changes.specs.Bringing.{HasCells}
use Rattle.dr_store_changes.proofs.Numbers.{lines_put}
use Rattle.dr_store_calls.specs.Calling.{IsLedgerOf}
use Rattle.dr_store_calls.specs.AdoptionLaws.{AdoptedLedgersAreOfTheNext, AdoptionsAdopt}
use Rattle.dr_store_writes.specs.Effects.{adopted_line}
use Rattle.dr_store_changes.proofs.Together.{untouched}
use Rattle.dr_store_calls.proofs.Ledgers.{one_line_more}

pub adoptions_adopt : AdoptionsAdopt
adoptions_adopt old new plan n moment below w =
    let lines : lines_of new ≡ lines_of old ++ Adoption ∷ [] =
    (λ i. lines_in (w.targets i) (w.journal i)) ∙ lines_put (old 12) n _ (old 11) below in (
      λ i. record {
        items = items_in (prints_in (w.prints i)) (w.items i);
        arrivals = arrivals_in (w.arrivals i);
        kept = all_kept_in (w.kept i);
        rows = w.rows i;
        lines = lines i;
      },
      λ i. bodies_by (contents_in (w.items i)) (wholes_in (w.prints i)),
    )

-- what was needed is needed
needed_still : (b : Book) (bodies : Bodies) → HasCells b bodies → HasCells (after Adoption b) bodies
needed_still b bodies has = record {
  there = λ uid. let same = adoptions_need_the_same b uid in (λ body. same.1 ((has.there uid).0 body), λ needed. (has.there uid).1 (same.0 needed));
}

pub adopted_ledgers_are_of_the_next : AdoptedLedgersAreOfTheNext
adopted_ledgers_are_of_the_next past part next old new plan n moment below l w owned seal =
    let it = adoptions_adopt old new plan n moment below w in
    let b = book_of old in
    record {
      owned = owned;
      counted = l.counted ∙ ap (λ (s : Seal). s.count) (sym seal);
      together = untouched old new w.items w.prints l.together;
      numbered = one_line_more n (adopted_line n moment) old new refl w.journal l.numbered;
      ahead = λ m later. ap (λ rows. names_in rows m) w.targets ∙ l.ahead m (omega (arith, later));
      journalled = subst (λ (x : Book). IsJournalled (site_routing next) (with_past past x)) (sym it.0) (adoptions_go_on (site_routing part) (site_routing next) past b l.journalled);
      bodied = subst (λ (x : Book). HasCells x (bodies_of new)) (sym it.0) (subst (HasCells (after Adoption b)) (sym it.1) (needed_still b (bodies_of old) l.bodied));
    }
