-- What a word names, in the first table that has it.
use Rattle.std.proofs.Common.{subst, Option, Some, None, List}
use Rattle.std.specs.Borrow.{Bor}
use Rattle.std.specs.Prelude.{MatchOption}
use Rattle.dr_base.specs.Texts.{Text}
use Rattle.dr_plan_expand.specs.Lists.{IsFirst}
use Rattle.dr_plan_expand.specs.Words.{Calls, HasName, IsKnownIn, Known, HasUid, HasSome, Names}
use Rattle.dr_plan_expand.proofs.OneMeaning.{first_one}

-- in that table it is what is found there
pub named_in : (tables : List (List Known)) (word : Text) (table : List Known) → IsFirst (HasSome word) tables table → (r : Option (Bor Text)) →
    MatchOption r ((uid : Text) → HasUid table word uid → ⊥) (λ uid. HasUid table word uid.now) →
    MatchOption r ((uid : Text) → Names tables word uid → ⊥) (λ uid. Names tables word uid.now)
named_in tables word table is None h = λ uid names.
    let H : List Known → Type 0 = λ t. HasUid t word uid in
    h uid (subst H (first_one (HasSome word) tables names.0 table names.1 is) names.2)
named_in tables word table is (Some uid) h = (table, is, h)

-- what a table calls a UID is what all of them call it, where that table is the first that knows it
pub called_in : (tables : List (List Known)) (uid : Text) (table : List Known) → IsFirst (IsKnownIn uid) tables table → (r : Option (Bor Text)) →
    MatchOption r ((name : Text) → HasName table uid name → ⊥) (λ name. HasName table uid name.now) →
    MatchOption r ((name : Text) → Calls tables uid name → ⊥) (λ name. Calls tables uid name.now)
called_in tables uid table is None h = λ name calls.
    let H : List Known → Type 0 = λ t. HasName t uid name in
    h name (subst H (first_one (IsKnownIn uid) tables calls.0 table calls.1 is) calls.2)
called_in tables uid table is (Some name) h = (table, is, h)
