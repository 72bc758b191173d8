-- An index that was made says that the trees list the tables.
use Rattle.std.proofs.Common.{◌≡◌, ◌∙◌, ℕ, Bool, true, false, inl, inr, IsTrue, List, [], Result, Ok, Err, OnOk, sym, subst}
use Rattle.std.specs.Prelude.{MatchBool}
use Rattle.std.proofs.lemmas.Bool.{cases_Bool}
use Rattle.sqlite.specs.Effect.{IsDatabase}
use Rattle.sqlite.specs.Order.{Row}
use Rattle.sqlite.specs.State.{State, ExecutesIn, ExecutesInside, IsUnchanged, Runs, RunsCommand, shows_rows, text_of}
use Rattle.sqlite.specs.Clock.{timed}
use Rattle.sqlite.specs.declared.error.Error.{Error}
use Rattle.sqlite.specs.declared.error.Error.TheVariants.{ExecuteReturnedResults, SqliteFailure}
use Rattle.sqlite.specs.declared.error.ErrorCode.TheVariants.{TransactionState}
use Rattle.sqlite_schema.specs.declared.command.Command.{Command}
use Rattle.sqlite_schema.specs.declared.command.Command.TheVariants.{CreateIndex}
use Rattle.sqlite_resolve.specs.declared.compiled.Compiled.{Compiled}
use Rattle.dr_store_schema.specs.Statements as text
use Rattle.dr_store_open.specs.Renewing.{OnlyIndexes}
use Rattle.dr_store_open.proofs.Queried.{arrivals_indexed}

no_count : (count : ℕ) (e : Error) → Ok count ≡ Err e → ⊥
no_count count e h = cc

-- what is run where no transaction is open is refused
pub ran_inside : (P : Type 0) (sql : List ℕ) (params : Row) (old new : State) (r : Result ℕ Error) (count : ℕ) → (old.in_transaction ≡ false → (r ≡ Err (SqliteFailure TransactionState)) × P)
    → (IsTrue old.in_transaction → ExecutesInside 0 sql params old new r) → r ≡ Ok count → (n : ℕ) × ExecutesInside 0 sql params old new (Ok n)
ran_inside P sql params old new r count ended runs is = elim (cases_Bool old.in_transaction) [
  | inl open_still ↦ (count, subst (ExecutesInside 0 sql params old new) is (runs open_still))
  | inr closed ↦ absurd (no_count count (SqliteFailure TransactionState) (sym is ∙ (ended closed).0))
]

alone : (b : Bool) (old new : State) (sql : List ℕ) (c : Compiled) (params : Row) (count at : ℕ) → c.command ≡ CreateIndex at
    → MatchBool b ((Ok count ≡ Err ExecuteReturnedResults) × IsUnchanged old new) (RunsCommand old new sql c params (Ok count)) → IsDatabase new.now
alone true old new sql c params count at is h = absurd (no_count count ExecuteReturnedResults h.0)
alone false old new sql c params count at is h = (subst (λ (command : Command). Runs old new c.returning command (text_of sql c) params count) is h).sound

executed : (sql : List ℕ) (params : Row) (old new : State) (count : ℕ) → OnlyIndexes sql → ExecutesInside 0 sql params old new (Ok count) → IsDatabase new.now
unfolding ExecutesIn
executed sql params old new count indexes h =
    let c = h.0.0 in
    let made = indexes old.now.schema c h.0.1.is in
    alone (shows_rows false c) old new sql c (timed params c.formats h.0.1.now) count made.0 made.1 h.0.2

pub index_listed : {A E : Type 0} (r : Result A E) (old new : State) → OnOk r ((count : ℕ) × ExecutesInside 0 text.create_arrival_uid [] old new (Ok count)) → OnOk r (IsDatabase new.now)
index_listed (Ok x) old new ran = executed text.create_arrival_uid [] old new ran.0 arrivals_indexed ran.1
index_listed (Err e) old new ran = tt
