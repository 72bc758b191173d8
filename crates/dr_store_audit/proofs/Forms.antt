-- The tables of a ledger, written out.
use Rattle.std.proofs.Common.{◌≡◌, refl}
use Rattle.std.specs.Fmt.{digits}
use Rattle.dr_store_schema.specs.Tables.{tables}
use Rattle.dr_store_audit.specs.Tables.{ledger_schema}

-- the number in an index's name is its digits
pub written_out : ledger_schema ≡ tables
unfolding digits
written_out = refl
