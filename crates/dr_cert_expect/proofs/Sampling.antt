-- A key that is made of a cell and a row is one of the cell of which the row speaks, where there is any.
use Rattle.std.proofs.Common.{◌≡◌, ℕ, zero, suc, ◌<◌, ◌≤◌, ◌⊎◌, inl, inr, refl, sym, subst, ap, ◌∙◌, List, [], ◌∷◌, ◌++◌, length, Contains, arith, length-append}
use Rattle.std.proofs.lemmas.List.{take_all}
use Rattle.dr_base.specs.Texts.{Text, Begins}
use Rattle.dr_base.specs.Syntaxes.{syntax_uid}
use Rattle.dr_base.specs.declared.syntax.Syntax.{Syntax}
use Rattle.dr_route.specs.Routes.{Matches, MatchesField}
use Rattle.dr_route.specs.Cells.{InField}
use Rattle.dr_route.specs.Laws.{ArePlain, ArePlainValues, IsPart, value_of}
use Rattle.dr_route.specs.declared.key.Key.{Key}
use Rattle.dr_route.specs.declared.rule.FieldPattern.{FieldPattern}
use Rattle.dr_route.specs.declared.rule.FieldPattern.TheVariants as pattern
use Rattle.dr_route.specs.declared.cell.FieldValues.{FieldValues}
use Rattle.dr_route.specs.declared.cell.OwnedField.{OwnedField}
use Rattle.dr_route.specs.declared.cell.OwnedField.TheVariants as part
use Rattle.dr_route.specs.declared.cell.OwnedCell.{OwnedCell}
use Rattle.dr_route.proofs.Agreement.{begins_shorter, begins_through, not_ending_128, part_has_value}
use Rattle.dr_route.proofs.Finding.{begins_length, beginning}
use Rattle.dr_plan_model.specs.Networks.{Network}
use Rattle.dr_plan_model.specs.Plans.{IsWellFormed, LiesIn, literals_of}
use Rattle.dr_plan_model.proofs.WalksAlike.{modalities_are_plain, stations_are_plain}
use Rattle.dr_plan_expect.specs.declared.words.Expectation.{Expectation}
use Rattle.dr_cert_expect.specs.Expected.{SpeaksOf}
use Rattle.dr_cert_expect.specs.Samples.{IsSample, IsSampleValue}

either : (a b : ℕ) → (a ≤ b) ⊎ (b < a)
either zero b = inl (omega arith)
either (suc a) zero = inr (omega arith)
either (suc a) (suc b) = elim (either a b) [ inl h ↦ inl (omega (arith, h)) | inr h ↦ inr (omega (arith, h)) ]

-- ---- values of a field
lies_in_part : (values : FieldValues) (field : OwnedField) (v : Text) → InField values field v → IsPart values field
lies_in_part values (part.Literal literal) v lies = lies.0
lies_in_part values (part.Prefix prefix) v lies = lies.1.among
lies_in_part values part.Rest v lies = tt

-- what begins a text and the byte 128, and is printable, begins the text
within : (texts : List Text) (plain : ArePlain texts) (other prefix : Text) → Contains texts other → Begins other (prefix ++ 128 ∷ []) → Begins other prefix
within texts plain other prefix among begins = elim (either (length other) (length prefix)) [
  | inl few ↦ begins_shorter other prefix (prefix ++ 128 ∷ []) begins (128 ∷ [], refl) few
  | inr more ↦ absurd (
      let n = begins_length other (prefix ++ 128 ∷ []) begins in
      let m = length-append prefix (128 ∷ []) in
      let all : prefix ++ 128 ∷ [] ≡ other = sym (take_all (length other) (prefix ++ 128 ∷ []) (omega (arith, n, m, more))) ∙ beginning other (prefix ++ 128 ∷ []) begins in
      not_ending_128 texts prefix plain (subst (Contains texts) (sym all) among))
]

-- a prefix and the byte 128 lie where a value lies that begins with the prefix, unless the part's own value begins so
under_prefix : (values : FieldValues) (plain : ArePlainValues values) (field : OwnedField) (prefix v : Text) → InField values field v → Begins prefix v →
    (Begins prefix (value_of field) → ⊥) → InField values field (prefix ++ 128 ∷ [])
under_prefix values plain (part.Literal literal) prefix v lies begins other = absurd (other (subst (Begins prefix) (sym lies.1) begins))
under_prefix values plain (part.Prefix own) prefix v lies begins other =
    let own_begins : Begins own prefix = elim (either (length own) (length prefix)) [
      | inl few ↦ begins_shorter own prefix v lies.1.begins begins few
      | inr more ↦ absurd (other (begins_through prefix own (own ++ 128 ∷ []) (begins_shorter prefix own v begins lies.1.begins (omega (arith, more))) (128 ∷ [], refl)))
    ] in (
      not_ending_128 values.literals prefix plain.literals,
      record {
        among = lies.1.among;
        begins = begins_through own prefix (prefix ++ 128 ∷ []) own_begins (128 ∷ [], refl);
        longest = λ longer there is. lies.1.longest longer there (begins_through longer prefix v (within values.prefixes plain.prefixes longer prefix there is) begins);
      },
    )
under_prefix values plain part.Rest prefix v lies begins other = (
  not_ending_128 values.literals prefix plain.literals,
  λ longer there is. lies.1 longer there (begins_through longer prefix v (within values.prefixes plain.prefixes longer prefix there is) begins),
)

value_sample : (values : FieldValues) (plain : ArePlainValues values) (field : OwnedField) (pattern : FieldPattern) (v t : Text) → InField values field v → MatchesField pattern v →
    IsSampleValue pattern (value_of field) t → InField values field t × MatchesField pattern t
value_sample values plain field pattern.Any v t lies matches is =
    (subst (InField values field) (sym is) (part_has_value values field plain (lies_in_part values field v lies)), tt)
value_sample values plain field (pattern.Literal literal) v t lies matches is = (subst (InField values field) (sym matches ∙ sym is) lies, sym is)
value_sample values plain field (pattern.Prefix prefix) v t lies matches (inl is) =
    (subst (InField values field) (sym is.1) (part_has_value values field plain (lies_in_part values field v lies)), subst (Begins prefix) (sym is.1) is.0)
value_sample values plain field (pattern.Prefix prefix) v t lies matches (inr is) =
    (subst (InField values field) (sym is.1) (under_prefix values plain field prefix v lies matches is.0), subst (Begins prefix) (sym is.1) (128 ∷ [], refl))

-- ---- keys
pub sample_is : (plan : Network) → IsWellFormed plan → (row : Expectation) (cell : OwnedCell) (site : Text) (key sample : Key) → LiesIn plan cell key → SpeaksOf row site key →
    IsSample row cell sample → LiesIn plan cell sample × SpeaksOf row site sample
sample_is plan formed row cell site key sample lies speaks is =
    let modality = value_sample (literals_of plan).modalities (modalities_are_plain plan formed) cell.modality row.modality key.modality sample.modality lies.modality speaks.modality is.modality in
    let station = value_sample (literals_of plan).stations (stations_are_plain plan formed) cell.station row.station key.station sample.station lies.station speaks.station is.station in (
      record {
        class = sym is.class;
        syntax = sym is.syntax;
        modality = modality.0;
        station = station.0;
      },
      record {
        at = speaks.at;
        class = subst (Matches row.class) (sym lies.class ∙ sym is.class) speaks.class;
        syntax = subst (λ (s : Syntax). Matches row.syntax (syntax_uid s)) (sym lies.syntax ∙ sym is.syntax) speaks.syntax;
        modality = modality.1;
        station = station.1;
      },
    )
