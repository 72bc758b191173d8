use Rattle.std.proofs.Common.{◌≡◌, ◌∙◌, ap, sym}
use Rattle.std.specs.FinMap as map
use Rattle.dr_ledger.specs.Books.{arrived_row}
use Rattle.dr_ledger.specs.Pairs.{Pair, pair_cmp}
use Rattle.dr_ledger.proofs.Maps.{text_pairs}
use Rattle.dr_ledger_history.specs.Trees.{as_map, stands}
use Rattle.dr_ledger_history.proofs.Mapped.{get_at, row_made, row_stands}
use Rattle.dr_ledger_history.proofs.trees.fill_one.Goals as goal

pub returns-then-stands : goal.returns-then-stands
returns-then-stands c =
    let m = as_map pair_cmp c.args.rows.now in
    let at : Pair = (c.in_ok-clone.field-0, c.in_ok-clone-2.field-0) in
    let same : ◌≡◌ {A = Pair} at (c.args.uid.now, c.args.dest.now) = λ j. (c.in_ok-clone.ensures j, c.in_ok-clone-2.ensures j) in
    let found = c.copied.ensures ∙ (c.get.ensures.value ∙ sym (get_at text_pairs c.args.rows.now at)) in
    row_stands c.args.rows.now at (sym (ap stands found) ∙ (sym c.stands.ensures ∙ c.if-stands.true))
    ∙ ap (λ k. map.insert m k (arrived_row (map.get m k))) same

pub returns : goal.returns
returns c =
    let m = as_map pair_cmp c.args.rows.now in
    let at : Pair = (c.in_ok-clone.field-0, c.in_ok-clone-2.field-0) in
    let same : ◌≡◌ {A = Pair} at (c.args.uid.now, c.args.dest.now) = λ j. (c.in_ok-clone.ensures j, c.in_ok-clone-2.ensures j) in
    let found = c.copied.ensures ∙ (c.get.ensures.value ∙ sym (get_at text_pairs c.args.rows.now at)) in
    row_made c.args.rows.now c.insert.new.self at (sym (ap stands found) ∙ (sym c.stands.ensures ∙ c.if-stands.false)) c.in_ok-insert.ensures.updates.0
    ∙ ap (λ k. map.insert m k (arrived_row (map.get m k))) same
