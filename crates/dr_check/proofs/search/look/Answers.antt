use Rattle.std.proofs.Common.{◌≡◌, inl, inr, refl, sym, ◌∙◌, ap, subst, List, [], ◌∷◌, ◌++◌, Contains, Some, None}
use Rattle.std.specs.BTreeMap.{btree_map_len}
use Rattle.std.proofs.lemmas.Bool.{false≢true}
use Rattle.std.proofs.Math.Logic.{⊎_elim}
use Rattle.dr_base.specs.Texts.{Text}
use Rattle.dr_route.specs.Laws.{key_of}
use Rattle.dr_route.specs.declared.key.Key.{Key}
use Rattle.dr_plan_model.specs.Walks.{Keeps, Sends}
use Rattle.dr_plan_model.proofs.Gathered.{nothing_in_nil}
use Rattle.dr_plan_sound.specs.declared.certificate.Stop.{Stop}
use Rattle.dr_check.specs.declared.search.Mark.{Mark}
use Rattle.dr_check.specs.declared.search.Mark.TheVariants.{Open}
use Rattle.dr_check.specs.Searching.{IsTrail, mark_at, stop_at, IsTaken}
use Rattle.dr_check.proofs.Trails.{shows_no_context, shows_cycle, shows_dead_end}
use Rattle.dr_check.proofs.Steps.{too_large}
use Rattle.dr_check.proofs.search.look.Goals as goal

pub returns-then-not-is_accepted : goal.returns-then-not-is_accepted
returns-then-not-is_accepted c =
    let T : Key → Type 0 = λ k. IsTrail c.args.plan.now k (c.args.search.now.path.items ++ c.args.node.now ∷ []) c.args.caller.now c.args.node.now in
    let trail = subst T c.requires.key c.requires.trail in
    let refused : IsTaken c.args.plan.now c.args.cell.now c.args.caller.now c.args.node.now → ⊥ = λ taken. false≢true (c.if-not-is_accepted.ensures.1 taken) in (
      shows_no_context c.args.plan.now c.requires.formed c.args.cell.now c.requires.cell _ c.args.caller.now c.args.node.now trail
          (λ here. refused (inl here)) (λ accepted. refused (inr accepted)),
      tt,
    )

pub returns-in-Some-Open : goal.returns-in-Some-Open
returns-in-Some-Open c =
    let T : Key → Type 0 = λ k. IsTrail c.args.plan.now k (c.args.search.now.path.items ++ c.args.node.now ∷ []) c.args.caller.now c.args.node.now in
    let trail = subst T c.requires.key c.requires.trail in
    let P : Stop → Type 0 = λ s. mark_at c.args.search.now.marks s ≡ Some Open in
    let marked : mark_at c.args.search.now.marks (stop_at c.args.caller.now c.args.node.now c.args.cell.now) ≡ Some Open =
    subst P c.in_ok-stop.ensures (sym c.in-Some-Open.ensures ∙ ap (λ (m : Mark). Some m) c.in-Some-Open.field-0-is) in (
      shows_cycle c.args.plan.now c.requires.formed c.args.cell.now c.requires.cell _ c.args.caller.now c.args.node.now trail
          c.args.search.now.path.items refl (c.requires.searching.on_path (stop_at c.args.caller.now c.args.node.now c.args.cell.now) marked).1,
      c.if-not-is_accepted.ensures.0 refl,
    )

pub returns-then-is_dead_end : goal.returns-then-is_dead_end
returns-then-is_dead_end c =
    let T : Key → Type 0 = λ k. IsTrail c.args.plan.now k (c.args.search.now.path.items ++ c.args.node.now ∷ []) c.args.caller.now c.args.node.now in
    let trail = subst T c.requires.key c.requires.trail in
    let dead = c.if-is_dead_end.ensures.dead refl in
    let K : Key → Type 0 = λ k. Keeps c.args.plan.now c.args.node.now c.args.caller.now k in
    let P : Stop → Type 0 = λ s. mark_at c.args.search.now.marks s ≡ None in (
      shows_dead_end c.args.plan.now c.requires.formed c.args.cell.now c.requires.cell _ c.args.caller.now c.args.node.now trail
          (λ kept. false≢true (sym dead.1 ∙ c.in_ok-targets.ensures.keep.1 (subst K (sym c.requires.key) kept)))
          (λ to sent.
          let S : Key → Type 0 = λ k. Sends c.args.plan.now c.args.node.now c.args.caller.now k to in
          let L : List Text → Type 0 = λ names. Contains names to in
          nothing_in_nil to (subst L dead.0 ((c.in_ok-targets.ensures.to to).1 (subst S (sym c.requires.key) sent)))),
      (c.if-not-is_accepted.ensures.0 refl, subst P c.in_ok-stop.ensures (sym c.in-None.ensures)),
    )

pub returns-then-len-eq-MOST_LINES : goal.returns-then-len-eq-MOST_LINES
returns-then-len-eq-MOST_LINES c =
    let T : Key → Type 0 = λ k. IsTrail c.args.plan.now k (c.args.search.now.path.items ++ c.args.node.now ∷ []) c.args.caller.now c.args.node.now in
    let trail = subst T c.requires.key c.requires.trail in
    let P : Stop → Type 0 = λ s. mark_at c.args.search.now.marks s ≡ None in
    let fresh : mark_at c.args.search.now.marks (stop_at c.args.caller.now c.args.node.now c.args.cell.now) ≡ None = subst P c.in_ok-stop.ensures (sym c.in-None.ensures) in
    let len : btree_map_len c.args.search.now.marks ≡ 65536 = sym c.len.ensures.len ∙ c.if-len-eq-MOST_LINES.true in
    (too_large c.args.plan.now c.requires.formed c.args.cell.now c.requires.cell c.args.search.now c.requires.searching _ c.args.caller.now c.args.node.now trail fresh c.len.ensures.ordered len, tt)

pub returns : goal.returns
returns c =
    let P : Stop → Type 0 = λ s. mark_at c.args.search.now.marks s ≡ None in
    let S : Key → Text → Type 0 = λ k to. Sends c.args.plan.now c.args.node.now c.args.caller.now k to in
    let K : Key → Type 0 = λ k. Keeps c.args.plan.now c.args.node.now c.args.caller.now k in
    let forth : (to : Text) → S c.args.key.now to → S (key_of c.args.cell.now) to = λ to h. let F : Key → Type 0 = λ k. S k to in subst F c.requires.key h in
    let back : (to : Text) → S (key_of c.args.cell.now) to → S c.args.key.now to = λ to h. let F : Key → Type 0 = λ k. S k to in subst F (sym c.requires.key) h in
    record {
      same = c.in_ok-stop.ensures;
      fresh = subst P c.in_ok-stop.ensures (sym c.in-None.ensures);
      small = λ full. c.if-len-eq-MOST_LINES.false (c.len.ensures.len ∙ full);
      named = λ to. (λ among. forth to ((c.in_ok-targets.ensures.to to).0 among), λ sent. (c.in_ok-targets.ensures.to to).1 (back to sent));
      ordered = c.in_ok-targets.ensures.ordered;
      goes_on = ⊎_elim
          (λ kept. inl (subst K c.requires.key (c.in_ok-targets.ensures.keep.0 kept)))
          (λ named. inr (named.0, forth named.0 ((c.in_ok-targets.ensures.to named.0).0 named.1)))
          (c.if-is_dead_end.ensures.alive refl);
      taken = c.if-not-is_accepted.ensures.0 refl;
    }
