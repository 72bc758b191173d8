use Rattle.std.proofs.Common.{refl, sym, ◌∙◌, subst, Contains}
use Rattle.std.proofs.lemmas.Bool.{false≢true}
use Rattle.dr_base.specs.Texts.{Text}
use Rattle.dr_route.proofs.names.is_in_set.Goals as goal

pub returns-in-Some : goal.returns-in-Some
returns-in-Some c =
    let P : Text → Type 0 = λ t. Contains c.args.set.now t in
    (λ always. subst P (c.in-Some.ensures.1 ∙ c.as_bytes.ensures) c.in-Some.ensures.0, λ has. refl)

pub returns-in-None : goal.returns-in-None
returns-in-None c =
    let P : Text → Type 0 = λ t. Contains c.args.set.now t in
    (λ never. absurd (false≢true never), λ has. absurd (c.in-None.ensures (subst P (sym c.as_bytes.ensures) has)))
