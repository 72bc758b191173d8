-- What a text means over whatever tables: a query only asks, and CREATE INDEX only makes an index.
use Rattle.std.proofs.Common.{◌≡◌, ◌∙◌, ◌+◌, ℕ, Bool, true, false, true≢false, if◌then◌else◌, List, [], is_some, Option, None, Ok, Err, refl, sym, ap, subst}
use Rattle.std.specs.Option.{option_or}
use Rattle.sqlite.specs.Given.{IsPlain}
use Rattle.sqlite.specs.Listing.{if_select, listing_schema, reads_listing, understood}
use Rattle.sqlite.specs.Schema.{Schema}
use Rattle.sqlite_ast.specs.declared.CreateIndex.{CreateIndex}
use Rattle.sqlite_ast.specs.declared.Statement.{Statement}
use Rattle.sqlite_ast.specs.declared.Statement.TheVariants as written
use Rattle.sqlite_syntax.specs.declared.statement.Parsed.{Parsed}
use Rattle.sqlite_schema.specs.declared.command.Command.{Command}
use Rattle.sqlite_schema.specs.declared.command.Command.TheVariants.{CreateIndex as MakeIndex, Nothing}
use Rattle.sqlite_schema.specs.declared.command.Returning.{Returning}
use Rattle.sqlite_schema.specs.declared.schema.Index.{Index}
use Rattle.sqlite_schema.specs.declared.schema.Table.{Table}
use Rattle.sqlite_schema.specs.Names.{index_named, table_named, view_named}
use Rattle.sqlite_resolve.specs.Body.{table_at}
use Rattle.sqlite_resolve.specs.Compile.{command, compiled, create_index, creates, first, is_reserved, meaning, planned, returning, small, target, timed, with_command}
use Rattle.sqlite_resolve.specs.Define as define
use Rattle.sqlite_resolve.specs.Lowering.{Checked, and_then}
use Rattle.sqlite_resolve.specs.Scope.{Name}
use Rattle.sqlite_resolve.specs.declared.compiled.Compiled.{Compiled}
use Rattle.sqlite_resolve.specs.declared.error.CompileError.{CompileError}
use Rattle.sqlite_resolve.specs.declared.error.CompileError.TheVariants.{Exists, Misuse, NoSuchTable}
use Rattle.sqlite_tied.specs.Compute.{everything}
use Rattle.dr_store_schema.specs.Statements as text
use Rattle.dr_store_open.specs.Renewing.{OnlyAsks, OnlyIndexes, all_calls}

-- ---- one step after another

same_ok : (A : Type 0) (r : Checked A) (x y : A) → r ≡ Ok x → r ≡ Ok y → x ≡ y
same_ok A r x y one two = cc

then_ok : (A B : Type 0) (r : Checked A) (f : A → Checked B) (y : B) → and_then r f ≡ Ok y → (x : A) × (r ≡ Ok x) × (f x ≡ Ok y)
then_ok A B (Ok x) f y h = (x, refl, h)
then_ok A B (Err e) f y h = absurd (let refused = h in cc)

either_understood : (b : Bool) (one two : Checked Compiled) (it : Compiled) → one ≡ Err NoSuchTable → (if b then one else two) ≡ Ok it → (b ≡ false) × (two ≡ Ok it)
either_understood true one two it none h = absurd (let refused = sym none ∙ h in cc)
either_understood false one two it none h = (refl, h)

-- a text that asks for nothing of the list of tables is compiled over the tables
compiled_is : (schema : Schema) (sql : List ℕ) (it : Compiled) → if_select (compiled listing_schema sql) ≡ Err NoSuchTable → understood schema sql ≡ Ok it
    → (reads_listing schema sql ≡ false) × (compiled schema sql ≡ Ok it)
unfolding understood
compiled_is schema sql it none h = either_understood (reads_listing schema sql) (if_select (compiled listing_schema sql)) (compiled schema sql) it none h

-- what it is compiled of
abbrev Found : Type 0
Found = Command × Option Returning

abbrev Plan : Type 0
Plan = List Name × Found

planned_as : (schema : Schema) (sql : List ℕ) (it : Compiled) → compiled schema sql ≡ Ok it
    → (p : Parsed) × (first sql ≡ Ok p) × (plan : Plan) × (planned schema p ≡ Ok plan) × (with_command p plan ≡ it)
unfolding compiled
planned_as schema sql it h =
    let one = then_ok Parsed Compiled (first sql) (λ p. and_then (planned schema p) (λ plan. Ok (with_command p plan))) it h in
    let two = then_ok Plan Compiled (planned schema one.0) (λ plan. Ok (with_command one.0 plan)) it one.2 in
    (one.0, one.1, two.0, two.1, same_ok Compiled (Ok (with_command one.0 two.0)) (with_command one.0 two.0) it refl two.2)

meant_as : (schema : Schema) (p : Parsed) (plan : Plan) → planned schema p ≡ Ok plan
    → (plan.0 ≡ timed schema p.formats p.statement) × (base : ℕ) × (returning schema base p.statement ≡ Ok plan.1.1) × (command schema p.formats base p.statement ≡ Ok plan.1.0)
unfolding planned meaning
meant_as schema p plan h =
    let formats = timed schema p.formats p.statement in
    let base = small p.names + small formats in
    let one = then_ok Found Plan (meaning schema p base) (λ found. Ok (formats, found)) plan h in
    let whole : Plan = (formats, one.0) in
    let all : whole ≡ plan = same_ok Plan (Ok whole) whole plan refl one.2 in
    let two = then_ok (Option Returning) Found (returning schema base p.statement) (λ shown. and_then (command schema p.formats base p.statement) (λ c. Ok (c, shown))) one.0 one.1 in
    let three = then_ok Command Found (command schema p.formats base p.statement) (λ c. Ok (c, two.0)) one.0 two.2 in
    let both : Found = (three.0, two.0) in
    let found : both ≡ plan.1 = same_ok Found (Ok both) both one.0 refl three.2 ∙ ap (λ (x : Plan). x.1) all in (
      ap (λ (x : Plan). x.0) (sym all),
      base,
      subst (λ (x : Found). returning schema base p.statement ≡ Ok x.1) found two.1,
      subst (λ (x : Found). command schema p.formats base p.statement ≡ Ok x.0) found three.1,
    )

-- ---- a query

abbrev IsSelect : Statement → Type 0
IsSelect (written.Select s) = Unit {0}
IsSelect _ = ⊥

abbrev IsSelectText : Checked Parsed → Type 0
IsSelectText (Ok p) = IsSelect p.statement × (p.formats ≡ [])
IsSelectText (Err e) = ⊥

select_timed : (schema : Schema) (formats : List Name) (s : Statement) → IsSelect s → timed schema formats s ≡ formats
unfolding timed
select_timed schema formats (written.Select s) is = refl
select_timed schema formats _ is = absurd is

select_returning : (schema : Schema) (base : ℕ) (s : Statement) → IsSelect s → returning schema base s ≡ Ok None
unfolding returning
select_returning schema base (written.Select s) is = refl
select_returning schema base _ is = absurd is

only_asks : (sql : List ℕ) → IsSelectText (first sql) → if_select (compiled listing_schema sql) ≡ Err NoSuchTable → OnlyAsks sql
only_asks sql selects none schema it is =
    let over = compiled_is schema sql it none is in
    let parts = planned_as schema sql it over.1 in
    let p = parts.0 in
    let plan = parts.2 in
    let says : IsSelect p.statement × (p.formats ≡ []) = subst IsSelectText parts.1 selects in
    let meant = meant_as schema p plan parts.3 in
    let none_shown : plan.1.1 ≡ None =
    same_ok (Option Returning) (returning schema meant.1 p.statement) plan.1.1 None meant.2 (select_returning schema meant.1 p.statement says.0) in
    let none_timed : plan.0 ≡ [] = meant.0 ∙ select_timed schema p.formats p.statement says.0 ∙ says.1 in
    record {
      plain = subst IsPlain (sym is) (ap (λ (c : Compiled). c.returning) (sym parts.4) ∙ none_shown, ap (λ (c : Compiled). c.formats) (sym parts.4) ∙ none_timed);
      listing = over.0;
    }

pub site_asked : OnlyAsks text.the_site
unfolding first everything understood listing_schema
site_asked = only_asks text.the_site (tt, refl) refl

pub items_asked : OnlyAsks text.all_items
unfolding first everything understood listing_schema
items_asked = only_asks text.all_items (tt, refl) refl

pub arrivals_asked : OnlyAsks text.all_arrivals
unfolding first everything understood listing_schema
arrivals_asked = only_asks text.all_arrivals (tt, refl) refl

pub kept_asked : OnlyAsks text.all_kept
unfolding first everything understood listing_schema
kept_asked = only_asks text.all_kept (tt, refl) refl

pub rows_asked : OnlyAsks text.all_rows
unfolding first everything understood listing_schema
rows_asked = only_asks text.all_rows (tt, refl) refl

pub calls_asked : OnlyAsks all_calls
unfolding first everything understood listing_schema
calls_asked = only_asks all_calls (tt, refl) refl

-- ---- an index

abbrev IsNewIndex : Statement → Type 0
IsNewIndex (written.CreateIndex def) = def.if_missing ≡ false
IsNewIndex _ = ⊥

abbrev IsIndexText : Checked Parsed → Type 0
IsIndexText (Ok p) = IsNewIndex p.statement
IsIndexText (Err e) = ⊥

abbrev whether : Bool → Bool → Bool → Bool → Checked Bool
whether reserved other same if_missing = if reserved then Err Misuse else (if other then Err Exists else (if same then (if if_missing then Ok false else Err Exists) else Ok true))

-- what isn't passed over where it is there is made
is_made : (reserved other same if_missing made : Bool) → if_missing ≡ false → whether reserved other same if_missing ≡ Ok made → made ≡ true
is_made true other same if_missing made always h = absurd (let refused = h in cc)
is_made false true same if_missing made always h = absurd (let refused = h in cc)
is_made false false true true made always h = absurd (true≢false always)
is_made false false true false made always h = absurd (let refused = h in cc)
is_made false false false if_missing made always h = same_ok Bool (Ok true) made true h refl

created_new : (if_missing : Bool) (name : Name) (same other : Option ℕ) (made : Bool) → if_missing ≡ false → creates if_missing name same other ≡ Ok made → made ≡ true
unfolding creates
created_new if_missing name same other made always h = is_made (is_reserved name) (is_some other) (is_some same) if_missing made always h

not_refused : (A : Type 0) (b : Bool) (e : CompileError) (r : Checked A) (x : A) → (if b then Err e else r) ≡ Ok x → r ≡ Ok x
not_refused A true e r x h = absurd (let refused = h in cc)
not_refused A false e r x h = h

index_made : (schema : Schema) (def : CreateIndex) (c : Command) → def.if_missing ≡ false → create_index schema def ≡ Ok c → (at : ℕ) × (c ≡ MakeIndex at)
unfolding create_index
index_made schema def c always h =
    let Makes : ℕ → Table → Bool → Checked Command = λ at table is_new. if is_new then and_then (define.index table def) (λ _. Ok (MakeIndex at)) else Ok Nothing in
    let same = index_named schema def.name in
    let other = option_or (table_named schema def.name) (view_named schema def.name) in
    let Over : ℕ → Table → Checked Command = λ at table. and_then (creates def.if_missing def.name same other) (Makes at table) in
    let At : ℕ → Checked Command = λ at. and_then (table_at schema at) (Over at) in
    let allowed = not_refused Command (is_reserved def.table) Misuse (and_then (target schema def.table) At) c h in
    let one = then_ok ℕ Command (target schema def.table) At c allowed in
    let two = then_ok Table Command (table_at schema one.0) (Over one.0) c one.2 in
    let three = then_ok Bool Command (creates def.if_missing def.name same other) (Makes one.0 two.0) c two.2 in
    let new : three.0 ≡ true = created_new def.if_missing def.name same other three.0 always three.1 in
    let four = then_ok Index Command (define.index two.0 def) (λ _. Ok (MakeIndex one.0)) c (subst (λ b. Makes one.0 two.0 b ≡ Ok c) new three.2) in
    (one.0, same_ok Command (Ok (MakeIndex one.0)) c (MakeIndex one.0) four.2 refl)

index_command : (schema : Schema) (formats : List Name) (base : ℕ) (s : Statement) (c : Command) → IsNewIndex s → command schema formats base s ≡ Ok c → (at : ℕ) × (c ≡ MakeIndex at)
unfolding command
index_command schema formats base (written.CreateIndex def) c is h = index_made schema def c is h
index_command schema formats base _ c is h = absurd is

only_indexes : (sql : List ℕ) → IsIndexText (first sql) → if_select (compiled listing_schema sql) ≡ Err NoSuchTable → OnlyIndexes sql
only_indexes sql indexes none schema it is =
    let over = compiled_is schema sql it none is in
    let parts = planned_as schema sql it over.1 in
    let meant = meant_as schema parts.0 parts.2 parts.3 in
    let made = index_command schema parts.0.formats meant.1 parts.0.statement parts.2.1.0 (subst IsIndexText parts.1 indexes) meant.3 in
    (made.0, ap (λ (c : Compiled). c.command) (sym parts.4) ∙ made.1)

pub arrivals_indexed : OnlyIndexes text.create_arrival_uid
unfolding first everything understood listing_schema
arrivals_indexed = only_indexes text.create_arrival_uid refl refl
