-- What a shared desk lists at one moment.
use Rattle.std.proofs.Common.{◌≡◌, length, sym, ap, ◌∙◌, subst}
use Rattle.std.specs.FinMap as map
use Rattle.dr_ledger.specs.Books.{Book}
use Rattle.dr_ledger.specs.Pairs.{pair_cmp}
use Rattle.dr_ledger.specs.Replies.{AreKept, Lists}
use Rattle.dr_desk.specs.declared.holdings.Holdings.{Holdings}
use Rattle.dr_desk.specs.Reading.{AreHoldings}

-- lists that were read one after another, while the book stayed, are its lists
pub listed_by : (b mid last : Book) (held : Holdings) → mid ≡ b → last ≡ mid → Lists pair_cmp b.arrivals held.arrivals → AreKept mid held.kept
    → held.rows ≡ map.entries last.rows → length b.lines ≡ held.lines → AreHoldings b held
listed_by b mid last held one two arrivals kept rows lines = record {
  arrivals = arrivals;
  kept = (let P : Book → Type 0 = λ x. AreKept x held.kept in subst P one kept);
  rows = rows ∙ ap (λ (x : Book). map.entries x.rows) (two ∙ one);
  lines = sym lines;
}
