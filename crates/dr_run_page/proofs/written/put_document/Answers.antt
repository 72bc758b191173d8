use Rattle.std.proofs.Common.{◌++◌, filter, flat_map, take}
use Rattle.std.specs.Prelude.{option_copied}
use Rattle.dr_run_page.specs.Documents.{association_row, associations_head, figures, head}
use Rattle.dr_run_page.specs.Documents.{held_head, held_row, is_held, queue_row}
use Rattle.dr_run_page.specs.Documents.{queues_head, recent_row, recents_head, tail}
use Rattle.dr_run_answer.proofs.Chained.{chained}
use Rattle.dr_run_page.proofs.written.put_document.Goals as goal

pub returns : goal.returns
returns c =
    let old = c.args.out.now.items in
    let shown = c.args.shown.now in
    let key = option_copied shown.key in
    let queues = c.args.queues.now in
    let p0 = head shown.name.now in
    let p1 = figures shown.name.now shown.since shown.moment shown.counts queues in
    let p2 = queues_head in
    let p3 = flat_map (queue_row shown.moment key) queues in
    let p4 = associations_head in
    let p5 = flat_map (association_row shown.moment) c.args.associations.now in
    let p6 = recents_head in
    let p7 = flat_map recent_row c.args.recents.now in
    let p8 = held_head in
    let p9 = flat_map (held_row key) (take 100 (filter is_held c.args.rows.now)) in
    let p10 = tail in
    let e1 = chained old (p0) p1 c.put_head.new.out.items c.put_node.new.out.items
    c.in_ok-put_head.ensures c.in_ok-put_node.ensures in
    let e2 = chained old (p0 ++ p1) p2 c.put_node.new.out.items c.extend_from_slice.new.self.items
    e1 c.in_ok-extend_from_slice.ensures.items in
    let e3 = chained old (p0 ++ p1 ++ p2) p3 c.extend_from_slice.new.self.items c.put_queues.new.out.items
    e2 c.in_ok-put_queues.ensures in
    let e4 = chained old (p0 ++ p1 ++ p2 ++ p3) p4 c.put_queues.new.out.items c.extend_from_slice-2.new.self.items
    e3 c.in_ok-extend_from_slice-2.ensures.items in
    let e5 = chained old (p0 ++ p1 ++ p2 ++ p3 ++ p4) p5 c.extend_from_slice-2.new.self.items c.put_associations.new.out.items
    e4 c.in_ok-put_associations.ensures in
    let e6 = chained old (p0 ++ p1 ++ p2 ++ p3 ++ p4 ++ p5) p6 c.put_associations.new.out.items c.extend_from_slice-3.new.self.items
    e5 c.in_ok-extend_from_slice-3.ensures.items in
    let e7 = chained old (p0 ++ p1 ++ p2 ++ p3 ++ p4 ++ p5 ++ p6) p7 c.extend_from_slice-3.new.self.items c.put_recents.new.out.items
    e6 c.in_ok-put_recents.ensures in
    let e8 = chained old (p0 ++ p1 ++ p2 ++ p3 ++ p4 ++ p5 ++ p6 ++ p7) p8 c.put_recents.new.out.items c.extend_from_slice-4.new.self.items
    e7 c.in_ok-extend_from_slice-4.ensures.items in
    let e9 = chained old (p0 ++ p1 ++ p2 ++ p3 ++ p4 ++ p5 ++ p6 ++ p7 ++ p8) p9 c.extend_from_slice-4.new.self.items c.put_all_held.new.out.items
    e8 c.in_ok-put_all_held.ensures in
    chained old (p0 ++ p1 ++ p2 ++ p3 ++ p4 ++ p5 ++ p6 ++ p7 ++ p8 ++ p9) p10 c.put_all_held.new.out.items c.extend_from_slice-5.new.self.items
    e9 c.in_ok-extend_from_slice-5.ensures.items
