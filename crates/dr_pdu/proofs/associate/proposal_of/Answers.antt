use Rattle.std.proofs.Common.{◌≡◌, ap, arith, refl, sym, ◌∙◌, None, Some, length}
use Rattle.std.proofs.lemmas.Bool.{eqb-true, eqb-false}
use Rattle.std.proofs.lemmas.List.{nil_from_length}
use Rattle.std.specs.Option.{option_map}
use Rattle.dr_base.specs.Padding.{unpadded}
use Rattle.dr_pdu.specs.Items.{first_body}
use Rattle.dr_pdu.specs.Reads.{items}
use Rattle.dr_pdu.proofs.ContextLemmas.{proposal_says, is_proposal}
use Rattle.dr_pdu.proofs.associate.proposal_of.Goals as goal

pub returns-in_default-first : goal.returns-in_default-first
returns-in_default-first c = λ y h.
    let says = proposal_says c.args.body.now (items c.in_ok-found.found.items) y c.in_ok-found.ensures h in
    let none : None ≡ first_body 0x30 (items c.in_ok-found.found.items) = rw c.deref.ensures.value at c.in_default-first.ensures in
    let e : option_map unpadded None ≡ Some y.class = ap (option_map unpadded) none ∙ says.class in
    absurd cc

pub returns-then-is_empty : goal.returns-then-is_empty
returns-then-is_empty c = λ y h.
    let says = proposal_says c.args.body.now (items c.in_ok-found.found.items) y c.in_ok-found.ensures h in
    says.some (sym says.syntaxes ∙ grind (arith, nil_from_length, eqb-true))

pub returns : goal.returns
returns c =
    is_proposal c.args.body.now (items c.in_ok-found.found.items) _ c.in-len4-up.len_at_least refl c.in_ok-found.ensures (record {
      class = grind arith;
      syntaxes = grind arith;
      some = λ e. eqb-false _ _ (sym c.is_empty.ensures ∙ c.if-is_empty.false) (ap length e);
    })
