use Rattle.std.proofs.Common.{◌≡◌, ◌∙◌, ◌∷◌, [], ℕ, Bool, List, ap, false, length, refl, rules, sym, true, true≢false}
use Rattle.std.specs.Prelude.{◌==◌, ◌≢◌}
use Rattle.std.proofs.Math.Dec.{eqb-suc-zero}
use Rattle.dr_base.specs.Texts.{Text}
use Rattle.dr_word_adopt.proofs.beginning.some_of.Goals as goal

nothing_in : (names : List Text) (none : Bool) → none ≡ (length names == 0) → none ≡ true → names ≡ []
nothing_in [] none is empty = refl
nothing_in (name ∷ names) none is empty = absurd (true≢false (sym empty ∙ is ∙ eqb-suc-zero (length names)))

something_in : (names : List Text) (none : Bool) → none ≡ (length names == 0) → none ≡ false → names ≢ []
something_in names none is more empty = true≢false (sym (ap (λ (ns : List Text). length ns == 0) empty) ∙ sym is ∙ more)

pub returns-then-is_empty : goal.returns-then-is_empty
returns-then-is_empty c =
    let long : length c.args.ours.items ≡ c.args.ours.len = search rules in
    let is = c.is_empty.ensures ∙ sym (ap (λ (n : ℕ). n == 0) long) in
    (c.from.ensures, nothing_in c.args.ours.items c.is_empty.result is c.if-is_empty.true)

pub returns : goal.returns
returns c =
    let long : length c.args.ours.items ≡ c.args.ours.len = search rules in
    let is = c.is_empty.ensures ∙ sym (ap (λ (n : ℕ). n == 0) long) in
    (refl, something_in c.args.ours.items c.is_empty.result is c.if-is_empty.false)
