use Rattle.std.proofs.Common.{get_or, ◌≡◌, ℕ, ◌+◌, ◌<◌, ◌++◌, ◌∷◌, [], sym, subst, List, take, length, Contains, Some}
use Rattle.std.proofs.lemmas.List.{take_more}
use Rattle.std.proofs.lemmas.List.Elements.{Contains-get_or}
use Rattle.std.proofs.lemmas.Option.{slice_get-get_or}
use Rattle.dr_base.specs.Texts.{Text}
use Rattle.dr_plan_model.specs.Networks.{Network}
use Rattle.dr_plan_sound.specs.declared.certificate.Stop.{Stop}
use Rattle.dr_plan_sound.specs.declared.certificate.Line.{Line}
use Rattle.dr_cert.specs.Indexing.{HasNoLine}
use Rattle.dr_cert.specs.Walking.{IsComeTo, AfterMark, AfterTargets, next_stop}
use Rattle.dr_cert.proofs.Marks.{unchanged, in_lines}
use Rattle.dr_cert.proofs.Following.{targets_none, targets_more, target_missing}
use Rattle.dr_cert.proofs.walker.Walker.mark_targets.Goals as goal

among : (all : List Text) (k : ℕ) (t : Text) → t ≡ get_or all k t → k < length all → Contains all t
among all k t is h = let P : Text → Type 0 = λ x. Contains all x in subst P (sym is) (Contains-get_or all k t h)

pub loop-to-init : goal.loop-to-init
loop-to-init c = targets_none c.args.self.now c.args.stop.now c.requires.walking (unchanged c.args.self.now)

pub mark-requires-clause-come_to : goal.mark-requires-clause-come_to
mark-requires-clause-come_to c =
    let come = c.requires.come_to c.to-item.result (among c.args.targets.now c.loop-to.to-index c.to-item.result c.to-item.is c.loop-to-test.true) in
    let P : Network → Type 0 = λ p. IsComeTo p (next_stop c.args.stop.now c.to-item.result) in
    let Q : Stop → Type 0 = λ s. IsComeTo c.loop-to.self.plan.now s in
    subst Q (sym c.of_cell.ensures) (subst P (sym c.loop-to.invariant.1.plan) come)

pub returns-in_default : goal.returns-in_default
returns-in_default c =
    let come = c.requires.come_to c.to-item.result (among c.args.targets.now c.loop-to.to-index c.to-item.result c.to-item.is c.loop-to-test.true) in
    let none : HasNoLine c.loop-to.self.lines.now c.of_cell.result = rw c.in_default.is at c.in_ok-place.ensures in
    let Q : Stop → Type 0 = λ s. HasNoLine c.loop-to.self.lines.now s in
    target_missing c.args.self.now c.loop-to.self (next_stop c.args.stop.now c.to-item.result) c.requires.walking.formed c.loop-to.invariant.1 come (subst Q c.of_cell.ensures none)

pub bounds-lines-place : goal.bounds-lines-place
bounds-lines-place c =
    let after : AfterMark c.loop-to.self c.mark.new.self c.of_cell.result (Some c.in-Some.place) = rw c.in-Some.is at c.in_ok-place.ensures in
    let h = in_lines c.loop-to.self.lines.now c.of_cell.result c.in-Some.place after.3 in
    let P : List Line → Type 0 = λ ls. c.in-Some.place < length ls in
    subst P c.loop-to.invariant.1.lines h

pub loop-to-preserved : goal.loop-to-preserved
loop-to-preserved c =
    let lines : List Line = c.args.self.now.lines.now in
    let line : Line = get_or lines c.in-Some.place c.index-lines-place.result in
    let after : AfterMark c.loop-to.self c.mark.new.self c.of_cell.result (Some c.in-Some.place) = rw c.in-Some.is at c.in_ok-place.ensures in
    let P : List Line → Type 0 = λ ls. c.in-Some.place < length ls in
    let h : c.in-Some.place < length lines = subst P c.loop-to.invariant.1.lines (in_lines c.loop-to.self.lines.now c.of_cell.result c.in-Some.place after.3) in
    let Q : Stop → Type 0 = λ s. AfterMark c.loop-to.self c.mark.new.self s (Some c.in-Some.place) in
    let e = take_more c.args.targets.now c.loop-to.to-index c.to-item.result c.loop-to-test.true in
    let more : take (c.loop-to.to-index + 1) c.args.targets.now ≡ take c.loop-to.to-index c.args.targets.now ++ c.to-item.result ∷ [] = rw (← c.to-item.is) at e in
    let R : List Text → Type 0 = λ ts. AfterTargets c.args.self.now c.mark.new.self c.args.stop.now ts (Some c.max-rank.result) in
    let S : ℕ → Type 0 = λ n. AfterTargets c.args.self.now c.mark.new.self c.args.stop.now (take c.loop-to.to-index c.args.targets.now ++ c.to-item.result ∷ []) (Some n) in
    subst R (sym more) (subst S (sym c.max-rank.ensures)
    (targets_more c.args.self.now c.loop-to.self c.mark.new.self c.args.stop.now (take c.loop-to.to-index c.args.targets.now) c.to-item.result c.loop-to.rank c.in-Some.place line
    c.loop-to.invariant (subst Q c.of_cell.ensures after) (slice_get-get_or lines c.in-Some.place c.index-lines-place.result h)))
