use Rattle.std.proofs.Common.{rules, refl, sym, ◌∙◌, arith, below_more}
use Rattle.std.proofs.lemmas.Slice.Eq.{bytes_eq-Decides}
use Rattle.std.proofs.lemmas.Bool.{false≢true}
use Rattle.dr_plan_text.proofs.Keys.{found_among, not_among, lent_at}
use Rattle.dr_plan_text.proofs.form.is_among.Goals as goal

pub returns-then-eq : goal.returns-then-eq
returns-then-eq c =
    let same = (bytes_eq-Decides _ _).0 (sym c.if-eq.ensures) in
    (λ _. found_among c.args.known.now c.loop-k.k-index _ c.args.key.now c.loop-k-test.true same, λ _. refl)

pub loop-k-preserved : goal.loop-k-preserved
loop-k-preserved c =
    below_more _ _ c.loop-k.invariant
    (λ e. let here = sym (lent_at c.args.known.now c.loop-k.k-index _ _ c.loop-k-test.true) ∙ e in
    false≢true (c.if-eq.ensures ∙ (bytes_eq-Decides _ _).1 here))

pub returns : goal.returns
returns c = (λ h. absurd (search (rules, false≢true)), λ among. absurd (not_among c.args.known.now c.args.key.now c.loop-k.k-index (omega arith) c.loop-k.invariant among))
