use Rattle.std.proofs.Common.{◌≡◌, ◌+◌, ◌++◌, ◌∷◌, [], sym, subst, List, take, Some}
use Rattle.std.specs.BTreeMap.{Updates}
use Rattle.std.proofs.lemmas.List.{take_more}
use Rattle.dr_plan_sound.specs.declared.certificate.Stop.{Stop}
use Rattle.dr_plan_sound.specs.declared.certificate.Line.{Line}
use Rattle.dr_plan_sound.specs.Stops.{stop_cmp}
use Rattle.dr_cert.specs.Indexing.{AreRanksOf}
use Rattle.dr_cert.proofs.Indexes.{ranks_more}
use Rattle.dr_cert.proofs.index.ranks_of.Goals as goal

pub loop-line-preserved : goal.loop-line-preserved
loop-line-preserved c =
    let e = take_more c.args.lines.now c.loop-line.line-index c.line-item.result c.loop-line-test.true in
    let more : take (c.loop-line.line-index + 1) c.args.lines.now ≡ take c.loop-line.line-index c.args.lines.now ++ c.line-item.result ∷ [] = rw (← c.line-item.is) at e in
    let P : Stop → Type 0 = λ k. Updates stop_cmp c.loop-line.ranks c.insert.new.self k (Some c.line-item.result.rank) in
    let Q : List Line → Type 0 = λ ls. AreRanksOf ls c.insert.new.self in
    subst Q (sym more) (ranks_more (take c.loop-line.line-index c.args.lines.now) c.line-item.result c.loop-line.ranks c.insert.new.self c.loop-line.invariant (subst P c.in_ok-copy_stop.ensures c.in_ok-insert.ensures.updates))
