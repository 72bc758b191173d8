use Rattle.std.proofs.Common.{◌++◌}
use Rattle.std.specs.Prelude.{codes}
use Rattle.dr_base.specs.Syntaxes.{syntax_uid}
use Rattle.dr_ledger_text.specs.Members.{word}
use Rattle.dr_ledger_text.proofs.Chained.{chained}
use Rattle.dr_ledger_text.proofs.line.put_key.Goals as goal

pub returns : goal.returns
returns c =
    let old = c.args.out.now.items in
    let key = c.args.instance.now.key in
    let p0 = word (codes "class") key.class in
    let p1 = word (codes "syntax") (syntax_uid key.syntax) in
    let p2 = word (codes "modality") key.modality in
    let p3 = word (codes "station") key.station in
    let e1 = chained old p0 p1 c.put_named.new.out.items c.put_word.new.out.items c.in_ok-put_named.ensures (rw c.uid.ensures at c.in_ok-put_word.ensures) in
    let e2 = chained old (p0 ++ p1) p2 c.put_word.new.out.items c.put_named-2.new.out.items e1 c.in_ok-put_named-2.ensures in
    chained old (p0 ++ p1 ++ p2) p3 c.put_named-2.new.out.items c.put_named-3.new.out.items e2 c.in_ok-put_named-3.ensures
