-- Where an instance is from: what two queries of the tables answer, one behind the other.
use Rattle.std.specs.Prelude.{◌≡◌, ℕ, pos, negsuc, false, List, [], ◌∷◌, Option, None, Some}
use Rattle.sqlite.specs.Collation.TheVariants.{Binary}
use Rattle.sqlite.specs.declared.types.Value.TheVariants.{Int, Text as TextCell}
use Rattle.sqlite.specs.Order.{Row, column}
use Rattle.sqlite.specs.Program.{overlay}
use Rattle.sqlite.specs.Query.{IsAnswer, Query, inner, end}
use Rattle.sqlite.specs.Term.{Term, lit, col, op2}
use Rattle.sqlite.specs.Tree.{Trees}
use Rattle.sqlite_sql.specs.declared.ops.BinaryOp.TheVariants.{Compare}
use Rattle.sqlite_sql.specs.declared.ops.CompareOp.TheVariants.{Eq}
use Rattle.dr_base.specs.Texts.{Text}
use Rattle.dr_ledger_views.specs.declared.moments.Origin.{Origin}
use Rattle.dr_store_schema.specs.Cells.{moment_in, moment_value, number_in, text_in}
use Rattle.dr_store_reads.specs.Queries.{first_of}

-- the rows of a table of which conditions hold, in no order
abbrev pub such : ℕ → List Term → List Term → Query
such tree conditions shown = record {
  from = inner tree end;
  filter = conditions;
  group = None;
  project = shown;
  distinct = false;
  collations = [];
  order = [];
  limit = lit (Int (negsuc 0));
  offset = lit (Int (pos 0));
}

-- the column is equal to the parameter of that place
abbrev pub is_given : ℕ → ℕ → Term
is_given at place = op2 (Compare Eq Binary) (col 1 at) (col 0 place)

-- the rowid and the class of the item of a uid
abbrev pub line_query : Query
line_query = such 1 (is_given 1 0 ∷ []) (col 1 0 ∷ col 1 2 ∷ [])

-- the moment of the line of that number, if it is of a first arrival of that uid
abbrev pub moment_query : Query
moment_query =
    such 11
    (is_given 0 0 ∷ op2 (Compare Eq Binary) (col 1 2) (lit (Int (pos 0))) ∷ is_given 4 1 ∷ [])
    (col 1 7 ∷ [])

-- the number and the class in a row
abbrev pub numbered : Row → ℕ × Text
numbered row = (number_in (column row 0), text_in (column row 1))

-- the moment in the first row, if there is one
abbrev pub first_moment_in : List Row → Option ℕ
first_moment_in [] = None
first_moment_in (row ∷ rows) = moment_in (column row 0)

-- the number under which the instance of that uid stands, which is that of the line by which it
-- came, and its class; or that none is there
abbrev pub IsLineOf : Text → Trees → Option (ℕ × Text) → Type 0
IsLineOf uid db found =
    (rows : List Row)
    × IsAnswer line_query (overlay db []) (TextCell uid ∷ []) rows
    × (found ≡ first_of numbered rows)

-- the moment of that line, if it is of a first arrival of that uid and has one
abbrev pub IsMomentOf : ℕ → Text → Trees → Option ℕ → Type 0
IsMomentOf n uid db moment =
    (rows : List Row)
    × IsAnswer moment_query (overlay db []) (moment_value (Some n) ∷ TextCell uid ∷ []) rows
    × (moment ≡ first_moment_in rows)

-- the class of the instance, and the moment of its line; or that it isn't there
abbrev pub IsOriginOf : Text → Trees → Option Origin → Type 0
IsOriginOf uid db None = IsLineOf uid db None
IsOriginOf uid db (Some origin) =
    (n : ℕ) × IsLineOf uid db (Some (n, origin.class)) × IsMomentOf n uid db origin.moment
