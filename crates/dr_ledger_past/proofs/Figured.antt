-- The figures of an example.
use Rattle.std.proofs.Common.{◌≡◌, refl, sym, ap, ◌∙◌, inl, arith}
use Rattle.std.proofs.Common.{[], ◌∷◌, Option, Some, codes, true≢false}
use Rattle.std.specs.FinMap as map
use Rattle.std.specs.FinSet as set
use Rattle.dr_base.specs.Texts.{text_cmp}
use Rattle.dr_ledger.specs.declared.item.Progress.{Progress}
use Rattle.dr_ledger.specs.declared.item.Progress.TheVariants.{Waiting}
use Rattle.dr_ledger.specs.Books.{Book, Fold, after, arrived_row, empty_book, with_rows}
use Rattle.dr_ledger.specs.Histories.{IsJournalled, IsPast, IsSomeCall}
use Rattle.dr_ledger.specs.Pairs.{Pair, pair_cmp}
use Rattle.dr_ledger.specs.Showing.{an_image}
use Rattle.dr_ledger.proofs.Folding.{journal_is_past}
use Rattle.dr_ledger.proofs.Maps.{contains_new, filled_is, get_new, text_pairs, texts}
use Rattle.dr_ledger.proofs.Wholes.{no_entry}
use Rattle.dr_ledger_past.specs.Figures.{PastFiguresAreRight, a_past, a_routing, a_settling}
use Rattle.dr_ledger_past.specs.Figures.{an_arrival, what_it_made}
use Rattle.dr_ledger_past.specs.Pasts.{with_past}
use Rattle.dr_ledger_past.proofs.Goings.{journalled}

-- the image is new to a node to which nothing came
is_new : IsSomeCall an_arrival empty_book
is_new = (
  λ held there. absurd (no_entry text_cmp an_image.uid held there),
  set.contains-empty pair_cmp (codes "CT1", an_image.uid),
)

accepted : IsPast a_past empty_book
accepted = (is_new, tt)

-- the past is one under the plan
alone : IsJournalled a_routing (Fold a_past)
alone = (
  [],
  record {
    since = a_past;
    lines = refl;
    before = inl refl;
    accepted = tt;
    history = ((record { line = tt; same = is_new.0 }, is_new.1, refl, refl), tt);
    fold = refl;
  },
)

-- the image waits for ARCH
waits : map.get what_it_made.rows (an_image.uid, codes "ARCH") ≡ Some (Waiting 0 0)
unfolding with_rows
waits =
    let at : Pair = (an_image.uid, codes "ARCH") in
    get_new text_pairs map.empty at (arrived_row (map.get map.empty at))
    ∙ ap (λ (o : Option Progress). Some (arrived_row o)) (map.get-empty pair_cmp at)

-- the image is there
item_there : map.get (Fold a_past).items an_image.uid ≡ Some an_image
item_there = filled_is texts map.empty an_image.uid an_image is_new.0

lost : IsJournalled a_routing (with_past a_past empty_book) → ⊥
lost j =
    no_entry text_cmp an_image.uid an_image
    (ap (λ (b : Book). map.get b.items an_image.uid) j.1.fold ∙ item_there)

-- CT1 has brought it
again : IsJournalled a_routing (with_past a_past (Fold a_past)) → ⊥
again j =
    let all : IsPast (an_arrival ∷ an_arrival ∷ []) empty_book =
    journal_is_past a_routing j.0 (with_past a_past (Fold a_past)) j.1 in
    true≢false (sym (contains_new text_pairs set.empty (codes "CT1", an_image.uid)) ∙ all.1.0.1)

pub figures : PastFiguresAreRight
figures = record {
  lines = refl;
  right_away = journalled a_routing a_past what_it_made accepted refl (inl (alone, tt));
  answered =
      journalled a_routing a_past (after a_settling what_it_made) accepted refl
      (inl (alone, (((0, 0, waits), omega arith), tt)));
  lost = lost;
  again = again;
  alone = alone;
}
