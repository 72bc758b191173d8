-- Where a node listens: its fields say one thing of it.
use Rattle.std.proofs.Common.{◌≡◌, refl, sym, ◌∙◌, subst, List, Option, Some, None, Bool, true, false, codes}
use Rattle.std.proofs.lemmas.Option.{none-some, same_Some}
use Rattle.toml.specs.Data.{Data, boolean, Members, get_member}
use Rattle.dr_base.specs.Texts.{Text}
use Rattle.dr_plan_model.specs.Formed.{IsAddress}
use Rattle.dr_plan_model.specs.declared.listens.Listens.{Listens}
use Rattle.dr_plan_model.specs.declared.listens.Listens.TheVariants.{Nowhere, At}
use Rattle.dr_plan_text.specs.Fields.{SaysFormed, SaysSome, Given, GivenOr}
use Rattle.dr_plan_text.specs.Listening.{CallsOnly, SaysListens, IsListens}
use Rattle.dr_plan_text.proofs.OneAnswer.{SaysOne, SaysFormed-one, Given-one}

flags : true ≡ false → ⊥
flags e = cc

booleans_apart : boolean true ≡ boolean false → ⊥
booleans_apart e = let same : true ≡ false = cc in flags same

-- `listens = false` doesn't say that a node listens
said_false : (may : Bool) (value : Option Data) → value ≡ Some (boolean false) → SaysListens may value → ⊥
said_false false value is says = none-some (boolean false) (sym says ∙ is)
said_false true None is says = none-some (boolean false) is
said_false true (Some d) is says = booleans_apart (sym says ∙ same_Some d (boolean false) is)

pub calls_and_listens : (may : Bool) (fields : Members) → CallsOnly fields → SaysListens may (get_member (codes "listens") fields) → ⊥
calls_and_listens may fields calls says = said_false may (get_member (codes "listens") fields) calls says

pub SaysSome-one : {X : Type 0} (Says : Data → X → Type 0) → SaysOne Says → SaysOne (SaysSome Says)
SaysSome-one Says one d None y a b = absurd a
SaysSome-one Says one d (Some x) None a b = absurd b
SaysSome-one Says one d (Some x) (Some y) a b = λ i. Some (one d x y a b i)

bind_one : (field : Option Data) (x y : Option Text) → GivenOr None (SaysSome (SaysFormed IsAddress)) field x → GivenOr None (SaysSome (SaysFormed IsAddress)) field y → x ≡ y
bind_one None x y a b = a ∙ sym b
bind_one (Some d) x y a b = SaysSome-one (SaysFormed IsAddress) (SaysFormed-one IsAddress) d x y a b

pub IsListens-one : (may : Bool) (fields : Members) (x y : Listens) → IsListens may fields x → IsListens may fields y → x ≡ y
IsListens-one may fields Nowhere Nowhere a b = refl
IsListens-one may fields Nowhere (At address bind) a b = absurd (calls_and_listens may fields a.0 b.0)
IsListens-one may fields (At address bind) Nowhere a b = absurd (calls_and_listens may fields b.0 a.0)
IsListens-one may fields (At address bind) (At address2 bind2) a b =
    let addresses = Given-one (SaysFormed IsAddress) (SaysFormed-one IsAddress) _ address address2 a.1 b.1 in
    let binds = bind_one _ bind bind2 a.2 b.2 in
    λ i. At (addresses i) (binds i)

-- what only calls gives no address and nothing to bind to
pub calls_and_gives : (may : Bool) (fields : Members) → CallsOnly fields
    → ((get_member (codes "address") fields ≡ None) × (get_member (codes "bind") fields ≡ None) → ⊥)
    → (place : Listens) → IsListens may fields place → ⊥
calls_and_gives may fields calls gives Nowhere is = gives (is.1, is.2)
calls_and_gives may fields calls gives (At address bind) is = calls_and_listens may fields calls is.0

-- what doesn't only call, and doesn't say that it listens, listens in no way
pub neither : (may : Bool) (fields : Members) → (CallsOnly fields → ⊥) → (SaysListens may (get_member (codes "listens") fields) → ⊥)
    → (place : Listens) → IsListens may fields place → ⊥
neither may fields no_call no_say Nowhere is = no_call is.0
neither may fields no_call no_say (At address bind) is = no_say is.0

-- nor does it listen without an address
pub no_address : (may : Bool) (fields : Members) → (CallsOnly fields → ⊥) → ((address : Text) → Given (SaysFormed IsAddress) (get_member (codes "address") fields) address → ⊥)
    → (place : Listens) → IsListens may fields place → ⊥
no_address may fields no_call none Nowhere is = no_call is.0
no_address may fields no_call none (At address bind) is = none address is.1

-- nor where what it is to bind to is ill-formed
pub no_bind : (may : Bool) (fields : Members) → (CallsOnly fields → ⊥)
    → ((bind : Option Text) → GivenOr None (SaysSome (SaysFormed IsAddress)) (get_member (codes "bind") fields) bind → ⊥)
    → (place : Listens) → IsListens may fields place → ⊥
no_bind may fields no_call none Nowhere is = no_call is.0
no_bind may fields no_call none (At address bind) is = none bind is.2

-- a value that says nothing says nothing that might be left out
pub says_no_other : {X : Type 0} (Says : Data → X → Type 0) (d : Data) → ((x : X) → Says d x → ⊥) → (x : Option X) → SaysSome Says d x → ⊥
says_no_other Says d none None says = says
says_no_other Says d none (Some x) says = none x says
