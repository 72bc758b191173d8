-- A small plan: how much it is, what it means, and how that is spelled.
use Rattle.std.proofs.Common.{◌≡◌, ℕ, ◌+◌, ◌<◌, refl, sym, subst, ◌∙◌, ◌++◌, inl, inr, pos, List, [], ◌∷◌, codes, Some, None, get_or, ap, sum_by, arith, lit<, lit≤}
use Rattle.std.specs.Prelude.{All, ◌⊎◌}
use Rattle.std.specs.Fmt.{digits}
use Rattle.std.proofs.lemmas.List.Elements.{All-nil, All-cons}
use Rattle.toml.specs.Data.{string, integer, array, table, no_items, item, Members, no_members, member}
use Rattle.toml.specs.Parse.{parse_document}
use Rattle.toml.proofs.OnLiterals.{toml_on_literals}
use Rattle.dr_base.specs.Texts.{Text}
use Rattle.dr_route.specs.declared.rule.Pattern.TheVariants.{Literal}
use Rattle.dr_route.specs.declared.accept.Callers.TheVariants as called
use Rattle.dr_plan_model.specs.Formed.{IsClass, IsDigit}
use Rattle.dr_plan_model.specs.declared.listens.Listens.TheVariants.{At}
use Rattle.dr_plan_model.specs.declared.plan.Format.TheVariants.{Three}
use Rattle.dr_plan_text.specs.declared.words.PlanText.{PlanText}
use Rattle.dr_plan_text.specs.declared.words.NodeText.{NodeText}
use Rattle.dr_plan_text.proofs.SmallTexts.{address_is}
use Rattle.dr_plan_expand.specs.Lists.{Yields}
use Rattle.dr_plan_expand.specs.Words.{Known, OfSet, IsPlainWord, HasUid, Names, YieldsClass, YieldsClasses, YieldsNodes, YieldsSyntax}
use Rattle.dr_plan_expand.specs.Standard.{syntaxes_1, syntax_tables, class_tables, usual_tables}
use Rattle.dr_plan_expand.specs.Meanings.{lookups_of, YieldsRows, YieldsRules, YieldsNode, YieldsFlows}
use Rattle.dr_plan_expand.specs.Amounts.{most, words_size}
use Rattle.dr_plan_expand.specs.Tables.{IsShortNode}
use Rattle.dr_plan_expand.specs.Small.{scanners, pictures, small, small_row, small_rule, small_node, small_flow, small_meaning, meant_row, meant_rule, meant_node, meant_flow, one_node_text, SmallPlanIsCounted, SmallPlanMeans, SmallPartIsSpelled, OneNodeIsItsOwn}
use Rattle.dr_plan_expand.specs.SmallTables.{addressed_node}
use Rattle.dr_plan_expand.specs.Laws.{ListOfManyWordsIsTooMuch}
use Rattle.dr_plan_expand.specs.declared.short.Definition.{Definition}
use Rattle.dr_plan_expand.specs.declared.short.ShortPlan.{ShortPlan}
use Rattle.dr_plan_expand.proofs.Summed.{listed_many}

pub many_words : ListOfManyWordsIsTooMuch
many_words size words many = let same = listed_many (sum_by size words) many in omega arith

pub counted : SmallPlanIsCounted
counted = refl

-- the words of the plan
plain : (word : Text) (first : ℕ) → get_or word 0 0 ≡ first → (first ≡ 64 → ⊥) → IsPlainWord word
plain word first at other rest e = other (sym at ∙ ap (λ (t : Text). get_or t 0 0) e)

itself : (groups : List Definition) (word : Text) (first : ℕ) → get_or word 0 0 ≡ first → (first ≡ 64 → ⊥) → YieldsNodes groups word (word ∷ [])
itself groups word first at other = inr (plain word first at other, refl)

group : YieldsNodes (scanners ∷ []) (codes "@scanners") (codes "CT1" ∷ codes "CT2" ∷ [])
group = inl (codes "scanners", refl, (scanners, inl (refl, refl), refl))

one_list : {X Y : Type 0} (Of : X → List Y → Type 0) (x : X) (things : List Y) → Of x things → (things ++ [] ≡ things) → Yields Of (x ∷ []) things
one_list Of x things of same = (things, [], of, refl, sym same)

callers : Yields (YieldsNodes (scanners ∷ [])) (codes "@scanners" ∷ codes "MR1" ∷ []) (codes "CT1" ∷ codes "CT2" ∷ codes "MR1" ∷ [])
callers = (codes "CT1" ∷ codes "CT2" ∷ [], codes "MR1" ∷ [], group, one_list (YieldsNodes (scanners ∷ [])) (codes "MR1") (codes "MR1" ∷ []) (itself (scanners ∷ []) (codes "MR1") 77 refl (λ e. omega arith)) refl, refl)

scanning : Yields (YieldsNodes (scanners ∷ [])) (codes "@scanners" ∷ []) (codes "CT1" ∷ codes "CT2" ∷ [])
scanning = one_list (YieldsNodes (scanners ∷ [])) (codes "@scanners") (codes "CT1" ∷ codes "CT2" ∷ []) group refl

archive : Yields (YieldsNodes (scanners ∷ [])) (codes "ARCH" ∷ []) (codes "ARCH" ∷ [])
archive = one_list (YieldsNodes (scanners ∷ [])) (codes "ARCH") (codes "ARCH" ∷ []) (itself (scanners ∷ []) (codes "ARCH") 65 refl (λ e. omega arith)) refl

gate : Yields (YieldsNodes (scanners ∷ [])) (codes "GATE" ∷ []) (codes "GATE" ∷ [])
gate = one_list (YieldsNodes (scanners ∷ [])) (codes "GATE") (codes "GATE" ∷ []) (itself (scanners ∷ []) (codes "GATE") 71 refl (λ e. omega arith)) refl

class_of : (last : ℕ) → IsDigit last → IsClass (49 ∷ 46 ∷ last ∷ [])
class_of last digit =
    let P : ℕ → Type 0 = λ byte. IsDigit byte ⊎ (byte ≡ 46) in
    record {
      some = λ e. cc;
      short = lit≤ tt;
      digits = All-cons P 49 (46 ∷ last ∷ []) (inl (lit≤ tt, lit≤ tt)) (All-cons P 46 (last ∷ []) (inr refl) (All-cons P last [] (inl digit) (All-nil P)));
    }

class : (tables : List (List Known)) (uid : Text) → IsClass uid → YieldsClass tables uid (uid ∷ [])
class tables uid is = (uid, inl (is, refl), refl)

set : (tables : List (List Known)) (usual : List (List OfSet)) → YieldsClasses tables usual (pictures ∷ []) (codes "@pictures") (codes "1.2" ∷ codes "1.3" ∷ [])
set tables usual = inl (
  codes "pictures",
  refl,
  inl (
    codes "1.2" ∷ codes "1.3" ∷ [],
    (pictures, inl (refl, refl), refl),
    (
      codes "1.2" ∷ [],
      codes "1.3" ∷ [],
      class tables (codes "1.2") (class_of 50 (lit≤ tt, lit≤ tt)),
      one_list (YieldsClass tables) (codes "1.3") (codes "1.3" ∷ []) (class tables (codes "1.3") (class_of 51 (lit≤ tt, lit≤ tt))) refl,
      refl,
    ),
  ),
)

picturing : Yields (YieldsClasses class_tables usual_tables (pictures ∷ [])) (codes "@pictures" ∷ []) (codes "1.2" ∷ codes "1.3" ∷ [])
picturing = one_list (YieldsClasses class_tables usual_tables (pictures ∷ [])) (codes "@pictures") (codes "1.2" ∷ codes "1.3" ∷ []) (set class_tables usual_tables) refl

explicit : HasUid syntaxes_1 (codes "ExplicitVRLittleEndian") (codes "1.2.840.10008.1.2.1")
unfolding syntaxes_1
explicit = (
  (codes "ExplicitVRLittleEndian", codes "Explicit VR Little Endian", codes "1.2.840.10008.1.2.1"),
  inr (
    (λ called. elim called [
      | inl keyword ↦ (let d : ◌≡◌ {A = ℕ} 73 69 = ap (λ (t : Text). get_or t 0 0) keyword in omega arith)
      | inr name ↦ (let d : ◌≡◌ {A = ℕ} 73 69 = ap (λ (t : Text). get_or t 0 0) name in omega arith)
    ]),
    inl (inl refl, refl),
  ),
  refl,
)

named : Names syntax_tables (codes "ExplicitVRLittleEndian") (codes "1.2.840.10008.1.2.1")
named = (syntaxes_1, inl ((codes "1.2.840.10008.1.2.1", explicit), refl), explicit)

coding : Yields (YieldsSyntax syntax_tables) (codes "ExplicitVRLittleEndian" ∷ []) (codes "1.2.840.10008.1.2.1" ∷ [])
coding = one_list (YieldsSyntax syntax_tables) (codes "ExplicitVRLittleEndian") (codes "1.2.840.10008.1.2.1" ∷ []) (inl (codes "1.2.840.10008.1.2.1", named, refl)) refl

rows : YieldsRows (lookups_of small) small_row (meant_row (codes "1.2") ∷ meant_row (codes "1.3") ∷ [])
rows = record {
  from = called.Listed (codes "CT1" ∷ codes "CT2" ∷ codes "MR1" ∷ []);
  classes = codes "1.2" ∷ codes "1.3" ∷ [];
  syntaxes = codes "1.2.840.10008.1.2.1" ∷ [];
  each_caller = (codes "CT1" ∷ codes "CT2" ∷ codes "MR1" ∷ [], callers, refl);
  each_class = picturing;
  each_syntax = coding;
  are = refl;
}

rules : YieldsRules (lookups_of small) small_rule
    (meant_rule (codes "CT1") (codes "1.2") ∷ meant_rule (codes "CT1") (codes "1.3") ∷ meant_rule (codes "CT2") (codes "1.2") ∷ meant_rule (codes "CT2") (codes "1.3") ∷ [])
rules = record {
  froms = Literal (codes "CT1") ∷ Literal (codes "CT2") ∷ [];
  classes = Literal (codes "1.2") ∷ Literal (codes "1.3") ∷ [];
  to = codes "ARCH" ∷ [];
  each_caller = (codes "CT1" ∷ codes "CT2" ∷ [], scanning, refl);
  each_class = (codes "1.2" ∷ codes "1.3" ∷ [], picturing, refl);
  each_target = archive;
  are = refl;
}

flows : YieldsFlows (lookups_of small) small_flow (meant_flow (codes "CT1") ∷ meant_flow (codes "CT2") ∷ [])
flows = record {
  ats = codes "CT1" ∷ codes "CT2" ∷ [];
  tos = codes "GATE" ∷ [];
  classes = codes "1.2" ∷ codes "1.3" ∷ [];
  syntaxes = codes "1.2.840.10008.1.2.1" ∷ [];
  each_at = scanning;
  each_to = gate;
  each_class = picturing;
  each_syntax = coding;
  are = refl;
}

pub small_means : SmallPlanMeans
small_means = record {
  format = refl;
  nodes = one_list (YieldsNode (lookups_of small)) small_node small_meaning.nodes (record {
    accepts = meant_row (codes "1.2") ∷ meant_row (codes "1.3") ∷ [];
    rules = meant_rule (codes "CT1") (codes "1.2") ∷ meant_rule (codes "CT1") (codes "1.3") ∷ meant_rule (codes "CT2") (codes "1.2") ∷ meant_rule (codes "CT2") (codes "1.3") ∷ [];
    each_row = one_list (YieldsRows (lookups_of small)) small_row (meant_row (codes "1.2") ∷ meant_row (codes "1.3") ∷ []) rows refl;
    each_rule = one_list (YieldsRules (lookups_of small)) small_rule
        (meant_rule (codes "CT1") (codes "1.2") ∷ meant_rule (codes "CT1") (codes "1.3") ∷ meant_rule (codes "CT2") (codes "1.2") ∷ meant_rule (codes "CT2") (codes "1.3") ∷ []) rules refl;
    are = refl;
  }) refl;
  flows = one_list (YieldsFlows (lookups_of small)) small_flow (meant_flow (codes "CT1") ∷ meant_flow (codes "CT2") ∷ []) flows refl;
}

pub spelled : SmallPartIsSpelled
unfolding digits
spelled = refl

-- the text of one node
node_members : Members
node_members = member (codes "address") (string (codes "h:1")) (member (codes "max_pdu") (integer (pos 16384)) (member (codes "name") (string (codes "A")) no_members))

root_members : Members
root_members = member (codes "format") (integer (pos 3)) (member (codes "node") (array (item (table node_members) no_items)) no_members)

parsed : parse_document one_node_text ≡ Some root_members
unfolding toml_on_literals root_members node_members
parsed = refl

said : IsShortNode node_members addressed_node
unfolding node_members
said = record {
  only = ((1, lit< tt, refl), ((2, lit< tt, refl), ((0, lit< tt, refl), tt)));
  name = (refl, plain (codes "A") 65 refl (λ e. omega arith));
  listens = (refl, (refl, address_is), refl);
  max_pdu = refl;
  accept = refl;
  rule = refl;
  may_accept = tt;
}

one_node : ShortPlan
one_node = record { sets = []; groups = []; nodes = addressed_node ∷ []; flows = [] }

one_meaning : NodeText
one_meaning = record { name = codes "A"; listens = At (codes "h:1") None; max_pdu = pos 16384; accepts = []; rules = [] }

pub own_node : OneNodeIsItsOwn
unfolding lib.Utf8.encode root_members digits one_node one_meaning
own_node = record {
  root = root_members;
  tree = ((one_node_text, (refl, refl)), parsed);
  stands = record {
    short = one_node;
    plan = record { format = Three; nodes = one_meaning ∷ []; flows = [] };
    says = record {
      only = ((0, lit< tt, refl), ((3, lit< tt, refl), tt));
      format = refl;
      set = refl;
      group = refl;
      node = (item (table node_members) no_items, refl, ((node_members, refl, said), tt));
      flow = refl;
    };
    within = lit≤ tt;
    means = record {
      format = refl;
      nodes = (one_meaning ∷ [], [], record { accepts = []; rules = []; each_row = refl; each_rule = refl; are = refl }, refl, refl);
      flows = refl;
    };
    is = refl;
  };
}
