use Rattle.std.proofs.Common.{◌≡◌, ◌++◌, [], List, ℕ, sym, ap, subst, ◌∙◌, append_assoc, refl, length, Err}
use Rattle.std.proofs.lemmas.List.{append-nil}
use Rattle.std.proofs.lemmas.Bool.{eqb-true}
use Rattle.dr_dataset.specs.Hearing.{Hears}
use Rattle.dr_dataset.specs.declared.hearing.ScanPlace.TheVariants.{Failed as InFailed}
use Rattle.dr_dataset.proofs.HearLemmas.{all_taken, failed, failed_same, in_order}
use Rattle.dr_dataset.proofs.hearing.Scan.feed.Goals as goal

pub pieces-init : goal.pieces-init
pieces-init c = ([], refl, λ s text h. subst (λ (x : List ℕ). Hears s x c.args.self.now) (sym (append-nil text)) h, λ f h. h)

pub pieces-preserved : goal.pieces-preserved
pieces-preserved c =
    let i = c.pieces.invariant in
    let t = c.take-rest.ensures in (
      i.0 ++ t.0,
      i.1 ∙ ap (λ (x : List ℕ). i.0 ++ x) t.1 ∙ sym (append_assoc i.0 t.0 c.take-rest.result.now),
      λ s text h. subst (λ (x : List ℕ). Hears s x c.take-rest.new.self) (append_assoc text i.0 t.0) (t.3 s (text ++ i.0) (i.2 s text h)),
      λ f h. t.4 f (i.3 f h),
    )

pub returns-in-Failed-clause-hears : goal.returns-in-Failed-clause-hears
returns-in-Failed-clause-hears c =
    let i = c.pieces.invariant in
    let all = all_taken c.args.piece.now i.0 c.pieces.rest.now i.1 (eqb-true (length c.pieces.rest.now) 0 (sym c.is_empty.ensures ∙ c.pieces-test.false)) in
    λ s text h. subst (λ (x : List ℕ). Hears s (text ++ x) c.pieces.self) all (i.2 s text h)

pub returns-in_default : goal.returns-in_default
returns-in_default c =
    let i = c.pieces.invariant in
    let all = all_taken c.args.piece.now i.0 c.pieces.rest.now i.1 (eqb-true (length c.pieces.rest.now) 0 (sym c.is_empty.ensures ∙ c.pieces-test.false)) in
    record { hears = λ s text h. subst (λ (x : List ℕ). Hears s (text ++ x) c.pieces.self) all (i.2 s text h); first = λ s text h. in_order c.pieces.self c.in_default.not-Failed s (text ++ c.args.piece.now) (subst (λ (x : List ℕ). Hears s (text ++ x) c.pieces.self) all (i.2 s text h)); answer = c.in_default.not-Failed; again = λ f h. absurd (c.in_default.not-Failed f (i.3 f h)) }

pub returns-in-Failed-clause-again : goal.returns-in-Failed-clause-again
returns-in-Failed-clause-again c =
    let i = c.pieces.invariant in
    λ f h. let same : InFailed c.in-Failed.fault ≡ InFailed f = sym c.in-Failed.is ∙ i.3 f h in ap Err (failed_same c.in-Failed.fault f same)

pub returns-in-Failed-clause-first : goal.returns-in-Failed-clause-first
returns-in-Failed-clause-first c =
    let i = c.pieces.invariant in
    let all = all_taken c.args.piece.now i.0 c.pieces.rest.now i.1 (eqb-true (length c.pieces.rest.now) 0 (sym c.is_empty.ensures ∙ c.pieces-test.false)) in
    λ s text h. failed c.pieces.self c.in-Failed.fault c.in-Failed.is s (text ++ c.args.piece.now) (subst (λ (x : List ℕ). Hears s (text ++ x) c.pieces.self) all (i.2 s text h))
