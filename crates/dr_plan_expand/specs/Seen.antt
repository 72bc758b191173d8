-- The tables in which words are looked up, as contracts see them.
use Rattle.std.specs.Prelude.{◌≡◌, map}
use Rattle.dr_plan_expand.specs.Words.{entries, of_sets}
use Rattle.dr_plan_expand.specs.declared.meant.Tables.{Tables}
use Rattle.dr_plan_expand.specs.declared.lookup.StandardTables.{StandardTables}
use Rattle.dr_plan_expand.specs.Meanings.{Lookups}
use Rattle.dr_plan_expand.specs.Standard.{class_tables, syntax_tables, usual_tables}

-- the tables, without where they lie in memory
abbrev pub seen : Tables → Lookups
seen tables = record {
  classes = map entries tables.classes.now;
  usual = map of_sets tables.usual.now;
  syntaxes = map entries tables.syntaxes.now;
  sets = tables.sets.now;
  groups = tables.groups.now;
}

-- they are all parts of those of the standard and of the product, in order
pub record IsStandard (tables : StandardTables) : Type 0 where
  pub classes : map entries tables.classes ≡ class_tables
  pub usual : map of_sets tables.usual ≡ usual_tables
  pub syntaxes : map entries tables.syntaxes ≡ syntax_tables
