use Rattle.std.proofs.Common.{◌∙◌, ◌++◌, ◌∷◌, [], ℕ, List, ap, refl}
use Rattle.std.specs.Prelude.{codes, flat_map}
use Rattle.dr_base.specs.Texts.{Text, next_field}
use Rattle.dr_ledger_report.specs.Reports.{line_of}
use Rattle.dr_word_at.proofs.Pieces.{as_row, chained}
use Rattle.dr_word_at.proofs.shown.put_row.Goals as goal

pub returns : goal.returns
returns c =
    let old = c.args.out.now.items in
    let uid = c.in_ok-uid.uid.now in
    let dest = c.in_ok-dest.dest.now in
    let came = c.in_ok-put_progress.ensures in
    let w : Text = codes "row" in
    let u : Text = next_field uid in
    let d : Text = next_field dest in
    let f : Text = flat_map next_field came.0 in
    let l : Text = 10 ∷ [] in
    let added = chained old (w ++ u ++ d ++ f) l c.put_progress.new.out.items c.put_end.new.out.items
    (chained old (w ++ u ++ d) f c.put_text-2.new.out.items c.put_progress.new.out.items
    (chained old (w ++ u) d c.put_text.new.out.items c.put_text-2.new.out.items
    (chained old w u c.extend_from_slice.new.self.items c.put_text.new.out.items
    c.in_ok-extend_from_slice.ensures.items c.in_ok-put_text.ensures) c.in_ok-put_text-2.ensures) came.2) c.in_ok-put_end.ensures in (
      line_of w (uid ∷ dest ∷ came.0),
      (uid, dest, came.0, c.in_ok-uid.ensures, c.in_ok-dest.ensures, came.1, refl),
      added ∙ ap (λ (x : List ℕ). old ++ x) (as_row w u d f l),
    )
