-- A value says one thing, and a list says one list.
use Rattle.std.proofs.Common.{◌≡◌, refl, sym, ◌∙◌, List, [], ◌∷◌, Option, Some, None, length, ◌==◌, true, arith}
use Rattle.std.proofs.lemmas.Bool.Decides.{nat_tests}
use Rattle.toml.specs.Data.{Data, string, array, Items, no_items, item}
use Rattle.dr_base.specs.Texts.{Text}
use Rattle.dr_route.specs.declared.accept.Callers.{Callers}
use Rattle.dr_route.specs.declared.accept.Callers.TheVariants as callers
use Rattle.dr_plan_text.specs.Fields.{SaysText, SaysFormed, SaysCallers, ListsValues, IsListOf, IsSomeOf, Given, star}

-- what a value says, it alone says
abbrev pub SaysOne : {X : Type 0} → (Data → X → Type 0) → Type 0
SaysOne {X} Says = (d : Data) (x y : X) → Says d x → Says d y → x ≡ y

pub SaysText-one : SaysOne SaysText
SaysText-one d x y a b = let same : string x ≡ string y = sym a ∙ b in cc

pub SaysFormed-one : (IsFormed : Text → Type 0) → SaysOne (SaysFormed IsFormed)
SaysFormed-one IsFormed d x y a b = SaysText-one d x y a.0 b.0

pub Lists-one : {X : Type 0} (Says : Data → X → Type 0) → SaysOne Says → (items : Items) (xs ys : List X) → ListsValues Says items xs → ListsValues Says items ys → xs ≡ ys
Lists-one Says one no_items [] [] a b = refl
Lists-one Says one no_items [] (y ∷ ys) a b = absurd b
Lists-one Says one no_items (x ∷ xs) ys a b = absurd a
Lists-one Says one (item d items) [] ys a b = absurd a
Lists-one Says one (item d items) (x ∷ xs) [] a b = absurd b
Lists-one Says one (item d items) (x ∷ xs) (y ∷ ys) a b =
    let head = one d x y a.0 b.0 in
    let tail = Lists-one Says one items xs ys a.1 b.1 in
    cc (head, tail)

pub IsListOf-one : {X : Type 0} (Says : Data → X → Type 0) → SaysOne Says → SaysOne (IsListOf Says)
IsListOf-one Says one d xs ys a b =
    let same : array a.0 ≡ array b.0 = sym a.1 ∙ b.1 in
    let items : a.0 ≡ b.0 = cc in
    Lists-one Says one b.0 xs ys (rw items at a.2) b.2

pub Given-one : {X : Type 0} (Says : Data → X → Type 0) → SaysOne Says → (field : Option Data) (x y : X) → Given Says field x → Given Says field y → x ≡ y
Given-one Says one None x y a b = absurd a
Given-one Says one (Some d) x y a b = one d x y a b

-- a value that is no `*`, and no list either, says no callers
pub no_callers : (d : Data) → (d ≡ star → ⊥) → ((names : List Text) → IsListOf SaysText d names → ⊥) → (x : Callers) → SaysCallers d x → ⊥
no_callers d no_star no_list callers.Any says = no_star says
no_callers d no_star no_list (callers.Listed names) says = no_list names says

pub is_nil : {X : Type 0} (xs : List X) → true ≡ (length xs == 0) → xs ≡ []
is_nil [] e = refl
is_nil (x ∷ xs) e = absurd (let n : length (x ∷ xs) ≡ 0 = grind (arith, nat_tests) in omega arith)

-- an array that says no values says none in any way
none_listed : {X : Type 0} (Says : Data → X → Type 0) (items : Items) (xs : List X) → ListsValues Says items [] → ListsValues Says items xs → xs ≡ []
none_listed Says no_items [] a b = refl
none_listed Says no_items (x ∷ xs) a b = absurd b
none_listed Says (item d items) xs a b = absurd a

pub none_said : {X : Type 0} (Says : Data → X → Type 0) (d : Data) (xs ys : List X) → IsListOf Says d xs → true ≡ (length xs == 0) → IsSomeOf Says d ys → ⊥
none_said Says d xs ys a e b =
    let same : array a.0 ≡ array b.0.0 = sym a.1 ∙ b.0.1 in
    let items : a.0 ≡ b.0.0 = cc in
    let none : ListsValues Says b.0.0 [] = rw (items, is_nil xs e) at a.2 in
    b.1 (none_listed Says b.0.0 ys none b.0.2)

pub IsSomeOf-one : {X : Type 0} (Says : Data → X → Type 0) → SaysOne Says → SaysOne (IsSomeOf Says)
IsSomeOf-one Says one d xs ys a b = IsListOf-one Says one d xs ys a.0 b.0
