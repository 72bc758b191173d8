-- Values that say words.
use Rattle.std.proofs.Common.{◌≡◌, sym, ◌∙◌, ap, inl, inr, Ok, Err, List, Some, None}
use Rattle.std.specs.Prelude.{Result, IfOk, IfErr}
use Rattle.std.proofs.lemmas.Option.{none-some, same_Some}
use Rattle.toml.specs.Data.{Data, string, integer, float, boolean, datetime, array, table, as_str}
use Rattle.dr_base.specs.Texts.{Text}
use Rattle.dr_plan_text.specs.Fields.{SaysText, IsSomeOf, star}
use Rattle.dr_plan_text.specs.declared.fault.ReadFault.{ReadFault}
use Rattle.dr_plan_text.specs.declared.fault.ReadFault.TheVariants.{Field}
use Rattle.dr_plan_expand.specs.Fields.{SaysWords, SaysAnyWords}
use Rattle.dr_plan_expand.specs.declared.short.AnyWords.{AnyWords}
use Rattle.dr_plan_expand.specs.declared.short.AnyWords.TheVariants as any

-- a list of words says them
pub listed_words : (d : Data) (r : Result (List Text) ReadFault) → IfOk r (IsSomeOf SaysText d) → IfOk r (SaysWords d)
listed_words d (Ok words) h = inr h
listed_words d (Err e) h = tt

-- a value that is no text, and no list either, says none
no_word : (d : Data) (words : List Text) → None ≡ as_str d → (IsSomeOf SaysText d words → ⊥) → SaysWords d words → ⊥
no_word d words no_text no_list says = elim says [
  | inl one ↦ none-some one.0 (no_text ∙ ap as_str one.1)
  | inr list ↦ no_list list
]

pub no_words : (d : Data) (r : Result (List Text) ReadFault) → None ≡ as_str d → IfErr r (λ e. e ≡ Field → (words : List Text) → IsSomeOf SaysText d words → ⊥) →
    IfErr r (λ e. e ≡ Field → (words : List Text) → SaysWords d words → ⊥)
no_words d (Ok words) no_text h = tt
no_words d (Err e) no_text h = λ is words. no_word d words no_text (h is words)

pub no_any_words : (d : Data) → (d ≡ star → ⊥) → ((words : List Text) → SaysWords d words → ⊥) → (x : AnyWords) → SaysAnyWords d x → ⊥
no_any_words d no_star none any.Any says = no_star says
no_any_words d no_star none (any.Listed words) says = none words says.1

-- a value with this text is that text
pub text_of : (d : Data) (text : Text) → Some text ≡ as_str d → d ≡ string text
text_of (string s) text e = let same : text ≡ s = same_Some _ _ e in ap string (sym same)
text_of (integer z) text e = absurd (none-some text (sym e))
text_of (float x) text e = absurd (none-some text (sym e))
text_of (boolean b) text e = absurd (none-some text (sym e))
text_of (datetime dt) text e = absurd (none-some text (sym e))
text_of (array ds) text e = absurd (none-some text (sym e))
text_of (table ms) text e = absurd (none-some text (sym e))
