-- The tables of files from before, written out.
use Rattle.std.proofs.Common.{◌≡◌, ◌∙◌, refl, sym, ap, Bool, true, false, length, ℕ, arith}
use Rattle.std.specs.Fmt.{digits}
use Rattle.sqlite.specs.Schema.{Schema}
use Rattle.dr_store_schema.specs.Tables.{tables}
use Rattle.dr_store_audit.specs.declared.older.Lacks.{Lacks}
use Rattle.dr_store_audit.specs.Older.{LastIsOlder, NoOlderIsNew, OldestHasSix, older_tables}
use Rattle.dr_store_audit.specs.OlderTables.{older_schema}

-- by cases of what is lacking; the number in an index's name is its digits
pub written_out : (p t d : Bool) → older_schema (record { print = p; target = t; due = d }) ≡ older_tables (record { print = p; target = t; due = d })
unfolding digits
written_out true true true = refl
written_out true true false = refl
written_out true false true = refl
written_out true false false = refl
written_out false true true = refl
written_out false true false = refl
written_out false false true = refl
written_out false false false = refl

pub last_is_older : LastIsOlder
unfolding digits
last_is_older = record { tables_are = refl; indexes_are = refl }

pub oldest : OldestHasSix
oldest = refl

tables_of : Schema → ℕ
tables_of schema = length schema.tables

indexes_of : Schema → ℕ
indexes_of schema = length schema.indexes

-- they have fewer tables, or fewer indexes
differ : (p t d : Bool) → older_tables (record { print = p; target = t; due = d }) ≡ tables → ⊥
unfolding tables_of indexes_of
differ true true true same = let n : 6 ≡ 8 = ap tables_of same in omega (arith, n)
differ true true false same = let n : 6 ≡ 8 = ap tables_of same in omega (arith, n)
differ true false true same = let n : 7 ≡ 8 = ap tables_of same in omega (arith, n)
differ true false false same = let n : 7 ≡ 8 = ap tables_of same in omega (arith, n)
differ false true true same = let n : 7 ≡ 8 = ap tables_of same in omega (arith, n)
differ false true false same = let n : 7 ≡ 8 = ap tables_of same in omega (arith, n)
differ false false true same = let n : 6 ≡ 8 = ap indexes_of same in omega (arith, n)
differ false false false same = let n : 7 ≡ 8 = ap indexes_of same in omega (arith, n)

pub no_older_is_new : NoOlderIsNew
no_older_is_new schema older same = differ older.0.print older.0.target older.0.due (sym older.1 ∙ same)
