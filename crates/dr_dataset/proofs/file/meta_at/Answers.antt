use Rattle.std.proofs.Common.{arith, sym, ap, subst, ◌∙◌, refl}
use Rattle.std.specs.Option.{option_copied}
use Rattle.dr_base.specs.declared.syntax.Syntax.{Syntax}
use Rattle.dr_dataset.specs.Wholes.{FailsAtOnce, element_of}
use Rattle.dr_dataset.proofs.FileLemmas.{fails, cut_tag, unnamed, meta_named, ends_here, meta_goes_on}
use Rattle.dr_dataset.proofs.file.meta_at.Goals as goal

pub returns-in_default-clause-meta : goal.returns-in_default-clause-meta
returns-in_default-clause-meta c =
    let i = c.elements.invariant in
    let e = c.in_default.ensures.err in
    fails c.args.text.now i.2.0 c.elements.rest.now c.in_default.field-0 i.2.1 e.0 (subst (λ (s : Syntax). FailsAtOnce s c.elements.rest.now c.in_default.field-0) i.0 e.1) c.elements-test.ensures

pub elements-preserved : goal.elements-preserved
elements-preserved c =
    let i = c.elements.invariant in (
      c.in-Ok.ensures.syntax ∙ i.0,
      c.in-Ok.ensures.ok.0,
      meta_goes_on _ c.args.text.now c.elements.rest.now i.2.0 (element_of c.in-Ok.element) c.in-Ok.after.now _ _ _ _ i.0 c.elements-test.ensures i.2.1 i.2.2 c.in-Ok.ensures.ok.1 c.is-is_name.ensures c.bytes_of.ensures c.first_of-name.ensures,
      omega (arith, i.3, c.in-Ok.ensures.shorter),
    )

pub returns-then-is_cut_tag-clause-meta : goal.returns-then-is_cut_tag-clause-meta
returns-then-is_cut_tag-clause-meta c =
    let i = c.elements.invariant in
    cut_tag c.args.text.now i.2.0 c.elements.rest.now i.2.1 c.if-is_cut_tag.ensures.0 c.if-is_cut_tag.ensures.1

pub returns-in_default-name-clause-meta : goal.returns-in_default-name-clause-meta
returns-in_default-name-clause-meta c =
    let i = c.elements.invariant in
    let ends = ends_here c.elements.rest.now _ refl c.if-is_cut_tag.ensures c.elements-test.ensures in
    unnamed c.args.text.now i.2.0 c.elements.rest.now i.2.1 ends (sym i.2.2 ∙ ap option_copied c.in_default-name.is)

pub returns-clause-meta : goal.returns-clause-meta
returns-clause-meta c =
    let i = c.elements.invariant in
    let ends = ends_here c.elements.rest.now _ refl c.if-is_cut_tag.ensures c.elements-test.ensures in
    meta_named c.args.text.now i.2.0 c.elements.rest.now c.in-Some.name.now i.2.1 ends (sym i.2.2 ∙ ap option_copied c.in-Some.is)
