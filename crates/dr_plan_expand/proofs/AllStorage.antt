-- The classes of a set that comes with the product, by computation.
use Rattle.std.proofs.Common.{◌≡◌, refl, sym, ◌∙◌, subst, inl, inr, List, [], ◌∷◌, ◌++◌, codes, true, false}
use Rattle.std.specs.Prelude.{cond}
use Rattle.std.specs.Str.{bytes_eq}
use Rattle.std.proofs.lemmas.Bool.{false≢true, cond_both}
use Rattle.std.proofs.lemmas.Slice.Eq.{bytes_eq-Decides}
use Rattle.dr_base.specs.Texts.{Text}
use Rattle.dr_plan_expand.specs.Lists.{Yields}
use Rattle.dr_plan_expand.specs.Words.{OfSet, YieldsOfSet}
use Rattle.dr_plan_expand.specs.Standard.{usual_tables, usual_sets_1, usual_sets_2, usual_sets_3, usual_sets_4, usual_sets_5, classes_1, classes_2, classes_3, classes_4, classes_5}
use Rattle.dr_plan_expand.specs.Laws.{every_class, AllStorageIsEveryClass}

abbrev one_of : Text → OfSet → List Text
one_of set class = cond (bytes_eq class.0 set) (class.1 ∷ []) []

abbrev uids_of : Text → List OfSet → List Text
uids_of set [] = []
uids_of set (class ∷ classes) = one_of set class ++ uids_of set classes

abbrev all_of : Text → List (List OfSet) → List Text
all_of set [] = []
all_of set (table ∷ tables) = uids_of set table ++ all_of set tables

one_is : (set : Text) (class : OfSet) → YieldsOfSet set class (one_of set class)
one_is set class = cond_both (bytes_eq class.0 set) (class.1 ∷ []) [] (λ (uids : List Text). YieldsOfSet set class uids)
    (λ e. inl ((bytes_eq-Decides class.0 set).0 e, refl))
    (λ e. inr ((λ same. false≢true (sym e ∙ (bytes_eq-Decides class.0 set).1 same)), refl))

table_is : (set : Text) (table : List OfSet) → Yields (YieldsOfSet set) table (uids_of set table)
table_is set [] = refl
table_is set (class ∷ classes) = (one_of set class, uids_of set classes, one_is set class, table_is set classes, refl)

all_is : (set : Text) (tables : List (List OfSet)) → Yields (Yields (YieldsOfSet set)) tables (all_of set tables)
all_is set [] = refl
all_is set (table ∷ tables) = (uids_of set table, all_of set tables, table_is set table, all_is set tables, refl)

same : all_of (codes "all-storage") usual_tables ≡ every_class
unfolding usual_sets_1 usual_sets_2 usual_sets_3 usual_sets_4 usual_sets_5 classes_1 classes_2 classes_3 classes_4 classes_5
same = refl

pub all_storage : AllStorageIsEveryClass
all_storage = subst (λ (uids : List Text). Yields (Yields (YieldsOfSet (codes "all-storage"))) usual_tables uids) same (all_is (codes "all-storage") usual_tables)
