use Rattle.std.proofs.Common.{ap, subst, List}
use Rattle.dr_route.specs.Cells.{InCell}
use Rattle.dr_plan_model.specs.Networks.{Network}
use Rattle.dr_plan_model.specs.Walks.{IsReached}
use Rattle.dr_plan_sound.specs.declared.certificate.Stop.{Stop}
use Rattle.dr_plan_sound.specs.declared.certificate.Line.{Line}
use Rattle.dr_plan_sound.specs.Soundness.{IsRank}
use Rattle.dr_cert.specs.Indexing.{HasRank, HasNoLine}
use Rattle.dr_cert.specs.Sealing.{Certified}
use Rattle.dr_cert.proofs.Ranking.{lies_there, rank_there, no_rank}
use Rattle.dr_cert.proofs.sealed.Sealed.rank.Goals as goal

pub returns-in-Some : goal.returns-in-Some
returns-in-Some c =
    let i = c.self.invariant in
    let lies = lies_there c.self.inside.parts.value.plan c.self.inside.parts.value.literals c.args.key.now c.cell_of.result i.literals_are (subst (λ p. InCell p.literals c.cell_of.result c.args.key.now) c.as_ref-parts.ensures c.cell_of.ensures) in
    let L : List Line → Type 0 = λ ls. HasRank ls c.new-stop.result c.in-Some.rank in
    let S : Stop → Type 0 = λ s. HasRank c.self.inside.parts.value.index.items s c.in-Some.rank in
    let P : Network → Type 0 = λ p. IsReached p c.args.key.now c.args.caller.now c.args.node.now × IsRank p c.args.key.now c.args.caller.now c.args.node.now c.in-Some.rank in
    subst P (ap (λ (s : Certified). s.plan) c.self.view_is)
    (rank_there c.self.inside.parts.value.plan i.formed c.self.inside.parts.value.index.items i.ranked c.args.key.now _ lies c.args.caller.now c.args.node.now c.in-Some.rank
    (subst S c.new-stop.ensures
    (subst (λ p. HasRank p.index.items c.new-stop.result c.in-Some.rank) c.as_ref-parts.ensures (subst L c.as_slice.ensures.value c.in-Some.ensures))))

pub returns-in-None : goal.returns-in-None
returns-in-None c =
    let i = c.self.invariant in
    let lies = lies_there c.self.inside.parts.value.plan c.self.inside.parts.value.literals c.args.key.now c.cell_of.result i.literals_are (subst (λ p. InCell p.literals c.cell_of.result c.args.key.now) c.as_ref-parts.ensures c.cell_of.ensures) in
    let L : List Line → Type 0 = λ ls. HasNoLine ls c.new-stop.result in
    let S : Stop → Type 0 = λ s. HasNoLine c.self.inside.parts.value.index.items s in
    let P : Network → Type 0 = λ p. IsReached p c.args.key.now c.args.caller.now c.args.node.now → ⊥ in
    subst P (ap (λ (s : Certified). s.plan) c.self.view_is)
    (no_rank c.self.inside.parts.value.plan i.formed c.self.inside.parts.value.index.items i.ranked c.args.key.now _ lies c.args.caller.now c.args.node.now
    (subst S c.new-stop.ensures
    (subst (λ p. HasNoLine p.index.items c.new-stop.result) c.as_ref-parts.ensures (subst L c.as_slice.ensures.value c.in-None.ensures))))
