use Rattle.std.proofs.Common.{◌++◌}
use Rattle.std.specs.Prelude.{codes}
use Rattle.dr_base.specs.Texts.{Text}
use Rattle.dr_word_audit.specs.Figures.{count_fields}
use Rattle.dr_word_audit.proofs.Pieces.{chained}
use Rattle.dr_word_audit.proofs.figuring.put_figures.Goals as goal

pub returns : goal.returns
returns c =
    let old = c.args.out.now.items in
    let f = c.args.figures.now in
    let a : Text = count_fields (codes "arrivals") f.arrivals in
    let k : Text = count_fields (codes "kept") f.kept in
    let w : Text = count_fields (codes "waiting") f.waiting in
    let h : Text = count_fields (codes "held") f.held in
    let d : Text = count_fields (codes "dropped") f.dropped in
    let o : Text = count_fields (codes "others") f.others in
    chained old (a ++ k ++ w ++ h ++ d) o c.put_count-5.new.out.items c.put_count-6.new.out.items
    (chained old (a ++ k ++ w ++ h) d c.put_count-4.new.out.items c.put_count-5.new.out.items
    (chained old (a ++ k ++ w) h c.put_count-3.new.out.items c.put_count-4.new.out.items
    (chained old (a ++ k) w c.put_count-2.new.out.items c.put_count-3.new.out.items
    (chained old a k c.put_count.new.out.items c.put_count-2.new.out.items
    c.in_ok-put_count.ensures c.in_ok-put_count-2.ensures) c.in_ok-put_count-3.ensures) c.in_ok-put_count-4.ensures) c.in_ok-put_count-5.ensures) c.in_ok-put_count-6.ensures
