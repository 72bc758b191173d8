-- Stops that compare as equal are the same.
use Rattle.std.proofs.Common.{◌≡◌, ◌⊎◌, inl, inr, refl, ◌∙◌, ap, true}
use Rattle.std.specs.declared.cmp.Ordering.{Ordering}
use Rattle.std.specs.declared.cmp.Ordering.TheVariants.{Less, Equal, Greater}
use Rattle.std.specs.Ordering.{ordering_then}
use Rattle.std.specs.BTreeMap.{is_at}
use Rattle.std.specs.Cmp.{Equal-is}
use Rattle.std.proofs.lemmas.Cmp.{tied_itself}
use Rattle.std.proofs.lemmas.Bool.{cases_Bool}
use Rattle.std.proofs.lemmas.Map.Lookups.{exact_bytes}
use Rattle.dr_base.specs.Texts.{Text, text_cmp}
use Rattle.dr_base.specs.declared.syntax.Syntax.{Syntax}
use Rattle.dr_base.specs.declared.syntax.Syntax.TheVariants.{Implicit, Explicit}
use Rattle.dr_base.specs.contracts.syntax.SyntaxOrd.TheImpl as syntaxes
use Rattle.dr_route.specs.contracts.cell.OwnedFieldOrd.TheImpl as fields
use Rattle.dr_route.specs.contracts.cell.OwnedCellOrd.TheImpl as cells
use Rattle.dr_route.specs.declared.cell.OwnedField.{OwnedField}
use Rattle.dr_route.specs.declared.cell.OwnedField.TheVariants.{Literal, Prefix, Rest}
use Rattle.dr_route.specs.declared.cell.OwnedCell.{OwnedCell}
use Rattle.dr_plan_sound.specs.declared.certificate.Stop.{Stop}
use Rattle.dr_plan_sound.specs.contracts.certificate.StopOrd.TheImpl.Laws as laws
use Rattle.dr_plan_sound.specs.Stops.{stop_cmp}

then_equal : (o p : Ordering) → ordering_then o p ≡ Equal → (o ≡ Equal) × (p ≡ Equal)
then_equal Less p e = absurd (cc e)
then_equal Equal p e = (refl, e)
then_equal Greater p e = absurd (cc e)

syntax_exact : (a b : Syntax) → syntaxes.cmp-value.it a b ≡ Equal → a ≡ b
syntax_exact Implicit Implicit e = refl
syntax_exact Implicit Explicit e = absurd (cc e)
syntax_exact Explicit Implicit e = absurd (cc e)
syntax_exact Explicit Explicit e = refl

field_exact : (a b : OwnedField) → fields.cmp-value.it a b ≡ Equal → a ≡ b
field_exact (Literal a) (Literal b) e = ap (λ (t : Text). Literal t) (exact_bytes a b e)
field_exact (Literal a) (Prefix b) e = absurd (cc e)
field_exact (Literal a) Rest e = absurd (cc e)
field_exact (Prefix a) (Literal b) e = absurd (cc e)
field_exact (Prefix a) (Prefix b) e = ap (λ (t : Text). Prefix t) (exact_bytes a b e)
field_exact (Prefix a) Rest e = absurd (cc e)
field_exact Rest (Literal b) e = absurd (cc e)
field_exact Rest (Prefix b) e = absurd (cc e)
field_exact Rest Rest e = refl

cell_exact : (a b : OwnedCell) → cells.cmp-value.it a b ≡ Equal → a ≡ b
cell_exact a b e =
    let c = then_equal (text_cmp a.class b.class) _ e in
    let s = then_equal (syntaxes.cmp-value.it a.syntax b.syntax) _ c.1 in
    let m = then_equal (fields.cmp-value.it a.modality b.modality) (fields.cmp-value.it a.station b.station) s.1 in
    let class : a.class ≡ b.class = exact_bytes a.class b.class c.0 in
    let syntax : a.syntax ≡ b.syntax = syntax_exact a.syntax b.syntax s.0 in
    let modality : a.modality ≡ b.modality = field_exact a.modality b.modality m.0 in
    let station : a.station ≡ b.station = field_exact a.station b.station m.1 in
    let mk : Text → Syntax → OwnedField → OwnedField → OwnedCell = λ c s m t. record { class = c; syntax = s; modality = m; station = t } in
    ap (λ (x : Text). mk x a.syntax a.modality a.station) class
    ∙ (ap (λ (x : Syntax). mk b.class x a.modality a.station) syntax
    ∙ (ap (λ (x : OwnedField). mk b.class b.syntax x a.station) modality ∙ ap (λ (x : OwnedField). mk b.class b.syntax b.modality x) station))

pub stop_exact : (a b : Stop) → stop_cmp a b ≡ Equal → a ≡ b
stop_exact a b e =
    let c = then_equal (text_cmp a.caller b.caller) _ e in
    let n = then_equal (text_cmp a.node b.node) (cells.cmp-value.it a.cell b.cell) c.1 in
    let caller : a.caller ≡ b.caller = exact_bytes a.caller b.caller c.0 in
    let node : a.node ≡ b.node = exact_bytes a.node b.node n.0 in
    let cell : a.cell ≡ b.cell = cell_exact a.cell b.cell n.1 in
    let mk : Text → Text → OwnedCell → Stop = λ c n x. record { caller = c; node = n; cell = x } in
    ap (λ (x : Text). mk x a.node a.cell) caller ∙ (ap (λ (x : Text). mk b.caller x a.cell) node ∙ ap (λ (x : OwnedCell). mk b.caller b.node x) cell)

-- the same stop or not
pub same_stop_or_not : (a b : Stop) → (a ≡ b) ⊎ (a ≡ b → ⊥)
same_stop_or_not a b = elim (cases_Bool (is_at (stop_cmp a) b)) [
  | inl same ↦ inl (stop_exact a b ((Equal-is (stop_cmp a b)).0 same))
  | inr other ↦ inr (λ e.
      let self : stop_cmp a a ≡ Equal = tied_itself laws.total-law a in
      let here : is_at (stop_cmp a) a ≡ true = (Equal-is (stop_cmp a a)).1 self in
      absurd (cc (ap (λ (x : Stop). is_at (stop_cmp a) x) e, here, other)))
]
