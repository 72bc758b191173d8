use Rattle.std.proofs.Common.{◌∙◌, ◌++◌, ◌∷◌, [], ℕ, List, ap}
use Rattle.std.specs.Prelude.{codes, decimal}
use Rattle.dr_base.specs.Texts.{Text, next_field}
use Rattle.dr_ledger_report.specs.Reports.{number_field}
use Rattle.dr_word_list.proofs.Pieces.{as_fields, chained}
use Rattle.dr_word_list.proofs.summary.put_queue_line.Goals as goal

pub returns : goal.returns
returns c =
    let old = c.args.out.now.items in
    let dest = c.args.dest.now in
    let word : Text = codes "queue" in
    let name : Text = next_field dest in
    let a : Text = next_field (codes "waiting") in
    let b : Text = next_field (decimal c.args.counts.waiting) in
    let e : Text = next_field (codes "held") in
    let f : Text = next_field (decimal c.args.counts.held) in
    let g : Text = next_field (codes "done") in
    let h : Text = next_field (decimal c.args.counts.done) in
    let o : Text = next_field (codes "oldest") in
    let m : Text = next_field (number_field c.args.counts.oldest) in
    let l : Text = 10 ∷ [] in
    let added = chained old (word ++ name ++ (a ++ b) ++ (e ++ f) ++ (g ++ h) ++ o ++ m) l c.put_moment.new.out.items c.push.new.self.items
    (chained old (word ++ name ++ (a ++ b) ++ (e ++ f) ++ (g ++ h) ++ o) m c.add_field-2.new.out.items c.put_moment.new.out.items
    (chained old (word ++ name ++ (a ++ b) ++ (e ++ f) ++ (g ++ h)) o c.put_counted-3.new.out.items c.add_field-2.new.out.items
    (chained old (word ++ name ++ (a ++ b) ++ (e ++ f)) (g ++ h) c.put_counted-2.new.out.items c.put_counted-3.new.out.items
    (chained old (word ++ name ++ (a ++ b)) (e ++ f) c.put_counted.new.out.items c.put_counted-2.new.out.items
    (chained old (word ++ name) (a ++ b) c.add_field.new.out.items c.put_counted.new.out.items
    (chained old word name c.extend_from_slice.new.self.items c.add_field.new.out.items
    c.in_ok-extend_from_slice.ensures.items c.in_ok-add_field.ensures) c.in_ok-put_counted.ensures) c.in_ok-put_counted-2.ensures) c.in_ok-put_counted-3.ensures) c.in_ok-add_field-2.ensures) c.in_ok-put_moment.ensures) c.in_ok-push.ensures.items in
    added ∙ ap (λ (x : List ℕ). old ++ x) (as_fields word name a b e f g h o m l)
