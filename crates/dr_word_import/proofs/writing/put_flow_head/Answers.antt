use Rattle.std.proofs.Common.{◌++◌, ◌∷◌, [], codes}
use Rattle.dr_word_import.specs.Tables.{line, quoted}
use Rattle.dr_word_import.proofs.Writes.{chained}
use Rattle.dr_word_import.proofs.writing.put_flow_head.Goals as goal

pub returns : goal.returns
returns c =
    let old = c.args.out.now.items in
    let first = 10 ∷ [] in
    let second = line (codes "[[flow]]") in
    let third = line (codes "at = " ++ quoted c.args.it.now.name) in
    let last = line (codes "to = " ++ quoted c.args.gate.now) in
    chained old (first ++ second ++ third) last c.put_named.new.out.items c.put_named-2.new.out.items
    (chained old (first ++ second) third c.put_line.new.out.items c.put_named.new.out.items
    (chained old first second c.push.new.self.items c.put_line.new.out.items c.in_ok-push.ensures.items c.in_ok-put_line.ensures)
    c.in_ok-put_named.ensures)
    c.in_ok-put_named-2.ensures
