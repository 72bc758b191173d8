use Rattle.std.proofs.Common.{sym, ◌∙◌, ap, inl, ◌∷◌, ◌++◌, []}
use Rattle.std.specs.Option.{option_copied}
use Rattle.toml.specs.View.{view}
use Rattle.dr_plan_expand.proofs.Saying.{listed_words, no_words, text_of}
use Rattle.dr_plan_expand.proofs.fields.OneOrMoreForm.read.Goals as goal

pub returns-in_default-clause-ok : goal.returns-in_default-clause-ok
returns-in_default-clause-ok c = listed_words (view c.args.value.now) c.read.result c.read.ensures.ok

pub returns-in_default-clause-field : goal.returns-in_default-clause-field
returns-in_default-clause-field c = no_words (view c.args.value.now) c.read.result (sym (ap option_copied c.in_default.is) ∙ c.as_str.ensures) c.read.ensures.field

pub returns-clause-ok : goal.returns-clause-ok
returns-clause-ok c =
    inl (
      c.in-Some.text.now,
      text_of (view c.args.value.now) c.in-Some.text.now (sym (ap option_copied c.in-Some.is) ∙ c.as_str.ensures),
      c.in_ok-push.ensures.ok
          ∙ (λ i. c.new-words.ensures i ++ (c.in_ok-word.ensures ∙ c.as_bytes.ensures.value) i ∷ []),
    )
