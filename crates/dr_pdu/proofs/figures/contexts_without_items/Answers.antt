use Rattle.std.proofs.Common.{◌≡◌, ◌∙◌, refl, ap, List, ◌∷◌, ◌++◌, [], ℕ, get_or, cond, eqb, None, Some, sym, arith}
use Rattle.std.specs.Prelude.{codes}
use Rattle.dr_pdu.specs.declared.pdu.Pdu.{Pdu}
use Rattle.dr_pdu.specs.declared.pdu.Pdu.TheVariants.{AssociateRq, AssociateAc, AssociateRj, Transfer, ReleaseRq, ReleaseRp, Abort}
use Rattle.std.specs.Option.{option_map}
use Rattle.dr_base.specs.Padding.{unpadded}
use Rattle.dr_pdu.specs.Grammar.{IsProposal, IsBody}
use Rattle.dr_pdu.specs.Items.{Item, first_body}
use Rattle.dr_pdu.specs.Vectors.{front, syntax_alone, class_alone, bare_proposal, bare_items, bare_body}
use Rattle.dr_pdu.specs.Written.{implicit}
use Rattle.dr_base.specs.Standard.{verification}
use Rattle.dr_pdu.proofs.ContextLemmas.{answer_says, proposal_says, association_says}
use Rattle.dr_pdu.proofs.figures.contexts_without_items.Goals as goal

pub returns-clause-refused : goal.returns-clause-refused
returns-clause-refused c = (9, 9, [], [], refl, refl, refl)

pub returns-clause-accepted : goal.returns-clause-accepted
returns-clause-accepted c = λ a h.
    let says = answer_says (1 ∷ 0 ∷ 0 ∷ 0 ∷ []) [] a refl h in
    let accepted : 0 ≡ a.result = ap (λ (t : List ℕ). get_or t 2 0) h.4 in
    let e : None ≡ Some a.syntax = ap (λ (n : ℕ). cond (eqb n 0) (option_map unpadded (first_body 0x40 [])) (Some [])) accepted ∙ says.syntax in
    absurd (cc)

pub returns-clause-proposed : goal.returns-clause-proposed
returns-clause-proposed c = λ a h. let says = proposal_says (1 ∷ 0 ∷ 0 ∷ 0 ∷ []) [] a refl h in absurd (cc (says.class))

pub returns-clause-no_class : goal.returns-clause-no_class
returns-clause-no_class c = λ a h. let says = proposal_says syntax_alone (record { kind = 0x40; body = implicit } ∷ []) a ([], (0, omega arith, refl), refl) h in absurd (cc (says.class))

pub returns-clause-no_syntax : goal.returns-clause-no_syntax
returns-clause-no_syntax c = λ a h. let says = proposal_says class_alone (record { kind = 0x30; body = verification } ∷ []) a ([], (0, omega arith, refl), refl) h in absurd (says.some (sym says.syntaxes))

pub returns-clause-both : goal.returns-clause-both
returns-clause-both c =
    let items : List Item = record { kind = 0x30; body = verification } ∷ record { kind = 0x40; body = implicit } ∷ [] in
    let rest : List ℕ = 0x40 ∷ 0 ∷ 0 ∷ 17 ∷ implicit in
    (0, 0, 0, items, 0x30 ∷ 0 ∷ 0 ∷ 17 ∷ (verification ++ rest), refl, (rest, (0, omega arith, refl), ([], (0, omega arith, refl), refl)), refl, refl, λ e. absurd (cc))

-- what is behind the front is one item, and no application context
no_application : (p : Pdu) → IsBody 1 bare_body p → ⊥
no_application (AssociateRq rq) h =
    let says = association_says 0x20 IsProposal bare_body bare_items front (record { kind = 0x20; body = bare_proposal } ∷ []) rq
    (0, 0, codes "ARCH            ", codes "GATE            ", omega arith, refl, refl, refl, refl, refl, refl) ([], (0, omega arith, refl), refl) h.1 in
    absurd (cc (says.application))
no_application (AssociateAc ac) h = omega (arith, h.0)
no_application (AssociateRj rj) h = omega (arith, h.0)
no_application (Transfer pdvs) h = omega (arith, h.0)
no_application ReleaseRq h = omega (arith, h.0)
no_application ReleaseRp h = omega (arith, h.0)
no_application (Abort a) h = omega (arith, h.0)

pub returns-clause-no_application : goal.returns-clause-no_application
returns-clause-no_application c = no_application
