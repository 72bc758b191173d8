-- Lines of a journal by their own numbers, told by notes and goals of a span.
use Rattle.std.proofs.Common.{◌≡◌, ◌==◌, ℕ, ◌+◌, ◌<◌, ◌≤◌, true, cond, List, [], ◌∷◌, map as mapped, refl, sym, ap, ◌∙◌, arith}
use Rattle.std.specs.FinMap as map
use Rattle.sqlite.specs.Order.{Row}
use Rattle.sqlite.specs.Tree.{Trees}
use Rattle.dr_base.specs.Texts.{text_cmp}
use Rattle.dr_route.specs.Routes.{local}
use Rattle.dr_ledger.specs.Books.{Line, Arrival}
use Rattle.dr_ledger_views.specs.Numbers.{counted, is_within, lines_within}
use Rattle.dr_ledger_views.proofs.Numbered.{within}
use Rattle.dr_store_schema.specs.Books.{keeps_in, named_in, targets_in}
use Rattle.dr_store_lists.specs.Lists.{Goal, line_of}
use Rattle.dr_store_lists.specs.declared.listing.JournalRow.{JournalRow}
use Rattle.dr_store_lists.specs.declared.listing.JournalRow.TheVariants as note
use Rattle.dr_store_audit.specs.Goals.{keep_of, to_of}
use Rattle.dr_store_audit.specs.Journal.{line_told, lines_told}
use Rattle.dr_store_audit.proofs.Goaled.{keeps, targets}
use Rattle.dr_store_views.specs.Spans.{AreGoalsWithin, AreNotesWithin, CountsUp, numbered_of}

-- tables with these rows for target
abbrev with_targets : Trees → List Row → Trees
with_targets db rows = λ tree. cond (tree == 12) rows (db tree)

module _ (db : Trees) (after last : ℕ) (goals : List Goal) (are : AreGoalsWithin db after last goals) where
  abbrev own : Trees
  own = with_targets db are.some

  keeps_at : (n : ℕ) → is_within after last n ≡ true → keeps_in (db 12) n ≡ keep_of goals n
  keeps_at n lies = sym (keeps own goals are.lists n ∙ ap (λ (rs : List Row). map.contains_key (map.from_entries {R = text_cmp} (mapped named_in rs)) local) (are.whole n lies))

  targets_at : (n : ℕ) → is_within after last n ≡ true → targets_in (db 12) n ≡ to_of goals n
  targets_at n lies = sym (targets own goals are.lists n ∙ ap (λ (rs : List Row). map.keys (map.remove (map.from_entries {R = text_cmp} (mapped named_in rs)) local)) (are.whole n lies))

  line_is : (n : ℕ) → is_within after last n ≡ true → (x : JournalRow) → line_told goals n x ≡ line_of (db 12) n x
  line_is n lies (note.Arrival caller item) = λ i. Arrival caller item (sym (targets_at n lies) i) (sym (keeps_at n lies) i)
  line_is n lies (note.Repeat caller item) = refl
  line_is n lies (note.Settling uid dest what now) = refl
  line_is n lies (note.Requeuing uid dest) = refl
  line_is n lies (note.Dropping uid dest now) = refl
  line_is n lies (note.Forgetting uid) = refl
  line_is n lies note.Adoption = refl

  counted_are : (n : ℕ) (notes : List (ℕ × JournalRow)) → after ≤ n → CountsUp n last notes → counted n (lines_told goals notes) ≡ mapped (λ (e : ℕ × JournalRow). (e.0, line_of (db 12) e.0 e.1)) notes
  counted_are n [] le up = refl
  counted_are n (e ∷ notes) le up =
      let is : e.0 ≡ n + 1 = up.1 in
      let low : n < last = up.0 in
      let lies : is_within after last e.0 ≡ true = within after last e.0 (omega (arith, is, le)) (omega (arith, is, low)) in
      let first : (n + 1, line_told goals e.0 e.1) ≡ (e.0, line_of (db 12) e.0 e.1) = λ i. (sym is i, line_is e.0 lies e.1 i) in
      let more = counted_are (n + 1) notes (omega (arith, le)) up.2 in
      λ i. first i ∷ more i

  pub told_within : (lines : List Line) (notes : List (ℕ × JournalRow)) → AreNotesWithin db after last notes → lines ≡ lines_told goals notes → counted after lines ≡ lines_within after last (numbered_of db)
  told_within lines notes within_span told = ap (counted after) told ∙ counted_are after notes (omega arith) within_span.up ∙ within_span.lines (db 12)
