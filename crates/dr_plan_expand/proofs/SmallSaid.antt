-- Small words and small tables.
use Rattle.std.proofs.Common.{◌≡◌, ℕ, refl, sym, ◌∙◌, ap, subst, inl, inr, pos, List, [], ◌∷◌, codes, get_or, arith, lit<, lit≤}
use Rattle.std.proofs.lemmas.Option.{same_Some}
use Rattle.toml.specs.Data.{Data, string, integer, array, table, Items, no_items, item, no_members, member}
use Rattle.dr_base.specs.Texts.{Text}
use Rattle.dr_route.specs.declared.rule.FieldPattern.TheVariants as field
use Rattle.dr_plan_text.specs.Fields.{ListsValues, SaysText, star}
use Rattle.dr_plan_text.proofs.SmallTexts.{address_is}
use Rattle.dr_plan_text.proofs.PrefixTexts.{ct_is, mr_is, class_is}
use Rattle.dr_plan_expand.specs.Lists.{Yields}
use Rattle.dr_plan_expand.specs.Words.{Known, OfSet, IsPlainWord, HasUid, HasName, YieldsOfSet}
use Rattle.dr_plan_expand.specs.Small.{scanners, pictures}
use Rattle.dr_plan_expand.specs.SmallTables.{ct_alone, products, own_ct, one_text, KeywordNamesItsClass, NameNamesItsClass, ClassIsCalledByItsName, UidStandsForItself, ProductsSetStands, OwnSetIsFirst, EmptySetIsNone, FirstDefinitionCounts, StrangeSyntaxStandsForItself, NoWordIsNone, NodeIsSaid, MarkedNameIsNone, EmptyRuleIsSaid, RuleIsSaid, RowWithoutClassIsNone, FlowIsSaid, DefinitionsAreSaid, SecondFormatIsNone}
use Rattle.dr_plan_expand.proofs.Yielded.{yields_one}
use Rattle.dr_plan_expand.proofs.OneMeaning.{of_set_one}

first_byte : (x y : Text) (a b : ℕ) → get_or x 0 0 ≡ a → get_or y 0 0 ≡ b → (a ≡ b → ⊥) → x ≡ y → ⊥
first_byte x y a b at bt apart same = apart (sym at ∙ (ap (λ (t : Text). get_or t 0 0) same ∙ bt))

ct : Known
ct = (codes "CTImage", codes "CT Image", codes "1.2")

by_keyword : HasUid (ct ∷ []) (codes "CTImage") (codes "1.2")
unfolding ct
by_keyword = (ct, inl (inl refl, refl), refl)

by_name : HasUid (ct ∷ []) (codes "CT Image") (codes "1.2")
unfolding ct
by_name = (ct, inl (inr refl, refl), refl)

by_uid : HasName (ct ∷ []) (codes "1.2") (codes "CT Image")
unfolding ct
by_uid = (ct, inl (refl, refl), refl)

pub keyword : KeywordNamesItsClass
unfolding ct
keyword = (ct ∷ [], inl ((codes "1.2", by_keyword), refl), by_keyword)

pub name : NameNamesItsClass
unfolding ct
name = (ct ∷ [], inl ((codes "1.2", by_name), refl), by_name)

pub called : ClassIsCalledByItsName
unfolding ct
called = (ct ∷ [], inl ((codes "CT Image", by_uid), refl), by_uid)

pub uid : UidStandsForItself
uid = inl (class_is, refl)

no_ct : codes "mr" ≡ codes "ct" → ⊥
no_ct = first_byte (codes "mr") (codes "ct") 109 99 refl refl (λ e. omega arith)

abbrev Of : OfSet → List Text → Type 0
Of = YieldsOfSet (codes "ct")

mr_none : Yields Of ((codes "mr", codes "2") ∷ []) []
mr_none = ([], [], inr (no_ct, refl), refl, refl)

first_part : Yields Of ((codes "ct", codes "1") ∷ (codes "mr", codes "2") ∷ []) (codes "1" ∷ [])
first_part = (codes "1" ∷ [], [], inl (refl, refl), mr_none, refl)

last_part : Yields Of ((codes "ct", codes "3") ∷ []) (codes "3" ∷ [])
last_part = (codes "3" ∷ [], [], inl (refl, refl), refl, refl)

pub product : ProductsSetStands
product = inr ((λ words d. d.1), (codes "1" ∷ [], codes "3" ∷ [], first_part, (codes "3" ∷ [], [], last_part, refl, refl), refl), (λ e. cc))

pub own : OwnSetIsFirst
own = inl (codes "1" ∷ [], (own_ct, inl (refl, refl), refl), (codes "1" ∷ [], [], (codes "1", inl (class_is, refl), refl), refl, refl))

pub empty : EmptySetIsNone
empty uids is = elim is [
  | inl defined ↦ defined.1.1
  | inr usual ↦ usual.2 (yields_one (Yields Of) (yields_one Of (of_set_one (codes "ct"))) (((codes "mr", codes "2") ∷ []) ∷ []) uids [] usual.1 ([], [], mr_none, refl, refl))
]

pub first : FirstDefinitionCounts
first = (scanners, inl (refl, refl), refl)

pub syntax_itself : StrangeSyntaxStandsForItself
syntax_itself = inr ((λ uid n. n.1), refl)

-- tables
none_listed : (words : List Text) → ListsValues SaysText no_items words → words ≡ []
none_listed [] h = refl
none_listed (word ∷ words) h = absurd h

pub no_word : NoWordIsNone
no_word words says = elim says [
  | inl word ↦ (let same : array no_items ≡ string word.0 = word.1 in cc)
  | inr some ↦ (
      let items : Items = some.0.0 in
      let same : no_items ≡ items = (let arrays : array no_items ≡ array items = some.0.1 in cc) in
      let P : Items → Type 0 = λ i. ListsValues SaysText i words in
      some.1 (none_listed words (subst P (sym same) some.0.2))
      )
]

plain : (word : Text) (byte : ℕ) → get_or word 0 0 ≡ byte → (byte ≡ 64 → ⊥) → IsPlainWord word
plain word byte at other rest e = other (sym at ∙ ap (λ (t : Text). get_or t 0 0) e)

pub node : NodeIsSaid
node = record {
  only = ((1, lit< tt, refl), ((0, lit< tt, refl), tt));
  name = (refl, plain (codes "A") 65 refl (λ e. omega arith));
  listens = (refl, (refl, address_is), refl);
  max_pdu = refl;
  accept = refl;
  rule = refl;
  may_accept = tt;
}

same_string : (a b : Text) → string a ≡ string b → a ≡ b
same_string a b e = cc

pub marked : MarkedNameIsNone
marked node is = is.name.1 (codes "A") (sym (same_string (codes "@A") node.name is.name.0))

pub empty_rule : EmptyRuleIsSaid
empty_rule = record { only = tt; from = refl; class = refl; modality = refl; station = refl; except = refl; to = refl; keep = refl }

no_star : string (codes "@scanners") ≡ star → ⊥
no_star e = first_byte (codes "@scanners") (codes "*") 64 42 refl refl (λ n. omega arith) (same_string (codes "@scanners") (codes "*") e)

no_list : (items : Items) (text : Text) → array items ≡ string text → ⊥
no_list items text e = cc

pub rule : RuleIsSaid
rule = record {
  only = ((1, lit< tt, refl), ((0, lit< tt, refl), ((5, lit< tt, refl), ((2, lit< tt, refl), ((3, lit< tt, refl), ((4, lit< tt, refl), tt))))));
  from = (no_star, inl (codes "@scanners", refl, refl));
  class = (no_list (one_text (codes "1")) (codes "*"), inr ((one_text (codes "1"), refl, (refl, tt)), λ e. cc));
  modality = (refl, mr_is);
  station = (refl, ct_is);
  except = refl;
  to = (one_text (codes "ARCH"), refl, (refl, tt));
  keep = refl;
}

pub row : RowWithoutClassIsNone
row fields is = is.class

pub flow : FlowIsSaid
flow = record {
  only = ((0, lit< tt, refl), ((2, lit< tt, refl), ((4, lit< tt, refl), ((5, lit< tt, refl), ((3, lit< tt, refl), ((1, lit< tt, refl), tt))))));
  at = inl (codes "@scanners", refl, refl);
  to = inr ((one_text (codes "ARCH"), refl, (refl, tt)), λ e. cc);
  class = inl (codes "1", refl, refl);
  syntax = ((one_text (codes "2"), refl, (refl, tt)), λ e. cc);
  modality = refl;
  station = (field.Prefix (codes "CT") ∷ [], (one_text (codes "CT*"), refl, ((refl, ct_is), tt)), refl, refl);
}

pub definitions : DefinitionsAreSaid
definitions = record {
  only = ((0, lit< tt, refl), ((2, lit< tt, refl), ((1, lit< tt, refl), tt)));
  format = refl;
  set = (
    member (codes "pictures") (array (item (string (codes "1.2")) (one_text (codes "1.3")))) no_members,
    refl,
    (record { name = refl; words = ((item (string (codes "1.2")) (one_text (codes "1.3")), refl, (refl, (refl, tt))), λ e. cc) }, tt),
  );
  group = (
    member (codes "scanners") (array (item (string (codes "CT1")) (one_text (codes "CT2")))) no_members,
    refl,
    (record { name = refl; words = ((item (string (codes "CT1")) (one_text (codes "CT2")), refl, (refl, (refl, tt))), λ e. cc) }, tt),
  );
  node = refl;
  flow = refl;
}

apart_numbers : (x y : ℕ) → (x ≡ y → ⊥) → integer (pos x) ≡ integer (pos y) → ⊥
apart_numbers x y apart e = let same : pos x ≡ pos y = cc in let numbers : x ≡ y = cc in apart numbers

pub second_format : SecondFormatIsNone
second_format short is = apart_numbers 2 3 (λ e. omega arith) (same_Some (integer (pos 2)) (integer (pos 3)) is.format)
