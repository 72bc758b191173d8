-- Values that a column takes as they are.
use Rattle.std.proofs.Common.{◌≡◌, ◌^◌, ℕ, ℤ, pos, negsuc, Bool, true, false, cond, min, Option, None, Some, refl}
use Rattle.sqlite.specs.Cast.{cast}
use Rattle.sqlite.specs.declared.types.Value.{Value}
use Rattle.sqlite.specs.declared.types.Value.TheVariants.{Null, Int}
use Rattle.sqlite.specs.Kind.TheVariants.{Integer}
use Rattle.sqlite.specs.Ops.{unary}
use Rattle.sqlite.specs.Values.{bound_value}
use Rattle.dr_ledger.specs.declared.item.Cause.TheVariants as cause
use Rattle.dr_ledger.specs.declared.item.Outcome.{Outcome}
use Rattle.dr_ledger.specs.declared.item.Outcome.TheVariants as outcome
use Rattle.dr_ledger.specs.declared.item.Progress.{Progress}
use Rattle.dr_ledger.specs.declared.item.Progress.TheVariants.{Waiting, Held, Done, Dropped}
use Rattle.dr_store_schema.specs.Cells.{moment_value, outcome_value, why_of}

either : (b : Bool) (x : Value) → cond b x x ≡ x
either true x = refl
either false x = refl

pub cast_null : cast Integer Null ≡ Null
unfolding unary
cast_null = either _ Null

pub cast_int : (n : ℤ) → cast Integer (Int n) ≡ Int n
unfolding unary
cast_int n = either _ (Int n)

pub cast_why : (p : Progress) → cast Integer (why_of p) ≡ why_of p
cast_why (Waiting tries due) = cast_null
cast_why (Held (cause.Status status)) = cast_int (pos status)
cast_why (Held cause.NoContext) = cast_null
cast_why (Held cause.Unreadable) = cast_int (negsuc 1)
cast_why Done = cast_null
cast_why Dropped = cast_null

pub cast_outcome : (what : Outcome) → cast Integer (outcome_value what) ≡ outcome_value what
cast_outcome (outcome.Status status) = cast_int (pos status)
cast_outcome outcome.Broken = cast_null
cast_outcome outcome.NoContext = cast_int (negsuc 0)
cast_outcome outcome.Unreadable = cast_int (negsuc 1)

pub cast_moment : (moment : Option ℕ) → cast Integer (moment_value moment) ≡ moment_value moment
cast_moment None = cast_null
cast_moment (Some now) = cast_int (pos (min now (2 ^ 62)))

pub bound_why : (p : Progress) → bound_value (why_of p) ≡ why_of p
bound_why (Waiting tries due) = refl
bound_why (Held (cause.Status status)) = refl
bound_why (Held cause.NoContext) = refl
bound_why (Held cause.Unreadable) = refl
bound_why Done = refl
bound_why Dropped = refl

pub bound_outcome : (what : Outcome) → bound_value (outcome_value what) ≡ outcome_value what
bound_outcome (outcome.Status status) = refl
bound_outcome outcome.Broken = refl
bound_outcome outcome.NoContext = refl
bound_outcome outcome.Unreadable = refl

pub bound_moment : (moment : Option ℕ) → bound_value (moment_value moment) ≡ moment_value moment
bound_moment None = refl
bound_moment (Some now) = refl
