use Rattle.std.proofs.Common.{◌≡◌, ℕ, ◌<◌, ◌≤◌, sym, ap, subst, List, length, get_or, Contains, arith, rules}
use Rattle.std.proofs.lemmas.List.Elements.{Contains-get_or}
use Rattle.dr_plan_sound.specs.declared.certificate.Line.{Line}
use Rattle.dr_cert.specs.Surveying.{EachAt, IsSurveyOf}
use Rattle.dr_cert.specs.Walking.{IsFollowed}
use Rattle.dr_cert.proofs.Walked.{place_below, few_reached, walk_begins, walk_goes_on, missing_before, walk_ends}
use Rattle.dr_cert.proofs.walker.Walker.walk.Goals as goal

reached_there : (rs : List ℕ) (n place : ℕ) → place ≡ get_or rs n place → n < length rs → Contains rs place
reached_there rs n place at h = let P : ℕ → Type 0 = λ p. Contains rs p in subst P (sym at) (Contains-get_or rs n place h)

pub loop-next-init : goal.loop-next-init
loop-next-init c = walk_begins c.args.self.now c.new-survey.result c.requires c.new-survey.ensures

pub line_at-line-requires : goal.line_at-line-requires
line_at-line-requires c =
    let h : c.loop-next.next < length c.loop-next.self.reached.items = search rules in
    place_below c.loop-next.self c.loop-next.invariant.walking c.index.result.now (reached_there c.loop-next.self.reached.items c.loop-next.next c.index.result.now c.index.ensures h)

pub look-requires-clause-walking : goal.look-requires-clause-walking
look-requires-clause-walking c = c.loop-next.invariant.walking

pub look-requires-clause-come_to : goal.look-requires-clause-come_to
look-requires-clause-come_to c =
    let h : c.loop-next.next < length c.loop-next.self.reached.items = search rules in
    c.loop-next.invariant.walking.come_to c.index.result.now c.line_at-line.result.now (reached_there c.loop-next.self.reached.items c.loop-next.next c.index.result.now c.index.ensures h) c.line_at-line.ensures

pub returns-in_default : goal.returns-in_default
returns-in_default c =
    missing_before c.args.self.now c.loop-next.self c.loop-next.invariant.further (rw c.in_default.is at c.in_ok-seen.ensures)

pub loop-next-smaller : goal.loop-next-smaller
loop-next-smaller c =
    let h : c.loop-next.next < length c.loop-next.self.reached.items = search rules in
    let few = few_reached c.loop-next.self c.loop-next.invariant.walking in
    let same : length c.loop-next.self.lines.now ≡ length c.args.self.now.lines.now = ap (λ (ls : List Line). length ls) c.loop-next.invariant.further.lines in
    omega (arith, h, few, same)

pub loop-next-preserved : goal.loop-next-preserved
loop-next-preserved c =
    let h : c.loop-next.next < length c.loop-next.self.reached.items = search rules in
    walk_goes_on c.args.self.now c.loop-next.self c.look.new.self c.loop-next.survey c.in-Some.seen c.and-survey.result c.loop-next.next c.index.result.now c.line_at-line.result.now
    c.loop-next.invariant h c.index.ensures c.line_at-line.ensures (rw c.in-Some.is at c.in_ok-seen.ensures) c.and-survey.ensures

pub returns : goal.returns
returns c =
    let high : length c.loop-next.self.reached.items ≤ c.loop-next.next = search rules in
    let all = walk_ends c.loop-next.self.reached.items c.loop-next.next c.loop-next.invariant.within high in
    let P : List ℕ → Type 0 = λ rs. EachAt c.args.self.now.lines.now rs (IsFollowed c.args.self.now.plan.now c.args.self.now.lines.now c.loop-next.self.reached.items) in
    let Q : List ℕ → Type 0 = λ rs. IsSurveyOf c.args.self.now.plan.now c.args.self.now.lines.now rs c.loop-next.survey in
    (c.loop-next.invariant.walking, c.loop-next.invariant.further, subst P all c.loop-next.invariant.followed, subst Q all c.loop-next.invariant.surveyed)
