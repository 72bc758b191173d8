-- The tables of the standard and of the product, without where their texts lie in memory.
use Rattle.std.specs.Prelude.{List, [], ◌∷◌, map}
use Rattle.dr_plan_expand.specs.Words.{Known, OfSet}
use Rattle.dr_plan_expand.specs.declared.classes.TheConstants.{CLASSES_1, CLASSES_2, CLASSES_3}
use Rattle.dr_plan_expand.specs.declared.classes.TheConstants.{CLASSES_4, CLASSES_5}
use Rattle.dr_plan_expand.specs.declared.syntaxes.TheConstants.{SYNTAXES_1}
use Rattle.dr_plan_expand.specs.declared.usual.TheConstants.{USUAL_SETS_1, USUAL_SETS_2}
use Rattle.dr_plan_expand.specs.declared.usual.TheConstants.{USUAL_SETS_3}
use Rattle.dr_plan_expand.specs.declared.usual.TheConstants.{USUAL_SETS_4, USUAL_SETS_5}

-- the storage classes of PS3.6, part 1
unfoldable pub classes_1 : List Known
classes_1 = map (λ e. (e.0.now, e.1.now, e.2.now)) CLASSES_1

-- the storage classes of PS3.6, part 2
unfoldable pub classes_2 : List Known
classes_2 = map (λ e. (e.0.now, e.1.now, e.2.now)) CLASSES_2

-- the storage classes of PS3.6, part 3
unfoldable pub classes_3 : List Known
classes_3 = map (λ e. (e.0.now, e.1.now, e.2.now)) CLASSES_3

-- the storage classes of PS3.6, part 4
unfoldable pub classes_4 : List Known
classes_4 = map (λ e. (e.0.now, e.1.now, e.2.now)) CLASSES_4

-- the storage classes of PS3.6, part 5
unfoldable pub classes_5 : List Known
classes_5 = map (λ e. (e.0.now, e.1.now, e.2.now)) CLASSES_5

-- all parts of them, in order
abbrev pub class_tables : List (List Known)
class_tables = classes_1 ∷ classes_2 ∷ classes_3 ∷ classes_4 ∷ classes_5 ∷ []

-- the transfer syntaxes that are routed, part 1
unfoldable pub syntaxes_1 : List Known
syntaxes_1 = map (λ e. (e.0.now, e.1.now, e.2.now)) SYNTAXES_1

-- all parts of them, in order
abbrev pub syntax_tables : List (List Known)
syntax_tables = syntaxes_1 ∷ []

-- the classes of the sets that come with the product, part 1
unfoldable pub usual_sets_1 : List OfSet
usual_sets_1 = map (λ e. (e.0.now, e.1.now)) USUAL_SETS_1

-- the classes of the sets that come with the product, part 2
unfoldable pub usual_sets_2 : List OfSet
usual_sets_2 = map (λ e. (e.0.now, e.1.now)) USUAL_SETS_2

-- the classes of the sets that come with the product, part 3
unfoldable pub usual_sets_3 : List OfSet
usual_sets_3 = map (λ e. (e.0.now, e.1.now)) USUAL_SETS_3

-- the classes of the sets that come with the product, part 4
unfoldable pub usual_sets_4 : List OfSet
usual_sets_4 = map (λ e. (e.0.now, e.1.now)) USUAL_SETS_4

-- the classes of the sets that come with the product, part 5
unfoldable pub usual_sets_5 : List OfSet
usual_sets_5 = map (λ e. (e.0.now, e.1.now)) USUAL_SETS_5

-- all parts of them, in order
abbrev pub usual_tables : List (List OfSet)
usual_tables = usual_sets_1 ∷ usual_sets_2 ∷ usual_sets_3 ∷ usual_sets_4 ∷ usual_sets_5 ∷ []
