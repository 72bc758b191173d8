-- Definitions that are read from a table, key by key.
use Rattle.std.proofs.Common.{◌≡◌, refl, sym, ◌∙◌, ap, subst, List, [], ◌∷◌, ◌++◌, append_assoc}
use Rattle.std.proofs.lemmas.List.{append-nil}
use Rattle.toml.specs.Data.{Data, Members, no_members, member}
use Rattle.dr_base.specs.Texts.{Text}
use Rattle.dr_plan_text.specs.Fields.{SaysText}
use Rattle.dr_plan_text.proofs.OneAnswer.{SaysText-one, IsSomeOf-one}
use Rattle.dr_plan_expand.specs.Fields.{IsDefinition, AreDefinitions}
use Rattle.dr_plan_expand.specs.declared.short.Definition.{Definition}

-- what the members that are left define, behind what is done, all of them define
pub record Defined (all left : Members) (done : List Definition) : Type 0 where
  pub enough : (more : List Definition) → AreDefinitions left more → AreDefinitions all (done ++ more)
  pub needed : (whole : List Definition) → AreDefinitions all whole → (more : List Definition) × AreDefinitions left more × (whole ≡ done ++ more)

pub defined_start : (all : Members) → Defined all all []
defined_start all = record { enough = λ more h. h; needed = λ whole h. (whole, h, refl) }

same_definition : (name name2 : Text) (words words2 : List Text) → name ≡ name2 → words ≡ words2 →
    (let x : Definition = record { name = name; words = words } in let y : Definition = record { name = name2; words = words2 } in x ≡ y)
same_definition name name2 words words2 e_name e_words = rw (e_name, e_words) refl

pub definition_one : (key : Text) (value : Data) (x y : Definition) → IsDefinition key value x → IsDefinition key value y → x ≡ y
definition_one key value x y a b = same_definition x.name y.name x.words y.words (a.name ∙ sym b.name) (IsSomeOf-one SaysText SaysText-one value x.words y.words a.words b.words)

more_of : (key : Text) (value : Data) (rest : Members) (done more : List Definition) (definition : Definition) → IsDefinition key value definition → AreDefinitions (member key value rest) more →
    (later : List Definition) × AreDefinitions rest later × (done ++ more ≡ (done ++ definition ∷ []) ++ later)
more_of key value rest done [] definition is h = absurd h
more_of key value rest done (x ∷ later) definition is h =
    let same : x ≡ definition = definition_one key value x definition h.0 is in
    (later, h.1, ap (λ (d : Definition). done ++ d ∷ later) same ∙ sym (append_assoc done (definition ∷ []) later))

pub defined_more : (all rest : Members) (key : Text) (value : Data) (done : List Definition) (definition : Definition) → IsDefinition key value definition →
    Defined all (member key value rest) done → Defined all rest (done ++ definition ∷ [])
defined_more all rest key value done definition is so_far = record {
  enough = λ more h. subst (AreDefinitions all) (sym (append_assoc done (definition ∷ []) more)) (so_far.enough (definition ∷ more) (is, h));
  needed = λ whole h.
      let n = so_far.needed whole h in
      let m = more_of key value rest done n.0 definition is n.1 in
      (m.0, m.1, n.2 ∙ m.2);
}

refused_first : (key : Text) (value : Data) (rest : Members) (more : List Definition) → ((x : Definition) → IsDefinition key value x → ⊥) → AreDefinitions (member key value rest) more → ⊥
refused_first key value rest [] none h = h
refused_first key value rest (x ∷ more) none h = none x h.0

pub defined_none : (all rest : Members) (key : Text) (value : Data) (done : List Definition) → ((x : Definition) → IsDefinition key value x → ⊥) →
    Defined all (member key value rest) done → (whole : List Definition) → AreDefinitions all whole → ⊥
defined_none all rest key value done none so_far whole h = let n = so_far.needed whole h in refused_first key value rest n.0 none n.1

pub defined_all : (all : Members) (done : List Definition) → Defined all no_members done → AreDefinitions all done
defined_all all done so_far = subst (AreDefinitions all) (append-nil done) (so_far.enough [] tt)
