-- A file without tables is none from before.
use Rattle.std.proofs.Common.{◌≡◌, ◌∙◌, [], List, Bool, true, false, length, sym, ap, arith}
use Rattle.sqlite.specs.Schema.{Schema}
use Rattle.sqlite.specs.Table.{Table}
use Rattle.dr_store_audit.specs.Older.{IsOlder, older_tables}

has_some : (p t d : Bool) → (older_tables (record { print = p; target = t; due = d })).tables ≡ [] → ⊥
has_some true true true none = let n : 6 ≡ 0 = ap (λ (ts : List Table). length ts) none in omega (arith, n)
has_some true true false none = let n : 6 ≡ 0 = ap (λ (ts : List Table). length ts) none in omega (arith, n)
has_some true false true none = let n : 7 ≡ 0 = ap (λ (ts : List Table). length ts) none in omega (arith, n)
has_some true false false none = let n : 7 ≡ 0 = ap (λ (ts : List Table). length ts) none in omega (arith, n)
has_some false true true none = let n : 7 ≡ 0 = ap (λ (ts : List Table). length ts) none in omega (arith, n)
has_some false true false none = let n : 7 ≡ 0 = ap (λ (ts : List Table). length ts) none in omega (arith, n)
has_some false false true none = let n : 8 ≡ 0 = ap (λ (ts : List Table). length ts) none in omega (arith, n)
has_some false false false none = let n : 8 ≡ 0 = ap (λ (ts : List Table). length ts) none in omega (arith, n)

pub blank_no_older : (schema : Schema) → schema.tables ≡ [] → IsOlder schema → ⊥
blank_no_older schema none older = has_some older.0.print older.0.target older.0.due (ap (λ (s : Schema). s.tables) (sym older.1) ∙ none)
