-- Where an instance is from, by two queries.
use Rattle.std.proofs.Common.{◌≡◌, ℕ, Option, Some, sym, subst}
use Rattle.sqlite.specs.Tree.{Trees}
use Rattle.dr_base.specs.Texts.{Text}
use Rattle.dr_ledger_views.specs.declared.moments.Origin.{Origin}
use Rattle.dr_store_views.specs.Origins.{IsLineOf, IsMomentOf, IsOriginOf}

-- what is told of it with the moment of its line
abbrev pub IsTold : ℕ → Text → Text → Trees → Option Origin → Type 0
IsTold n uid class db origin = (moment : Option ℕ) × IsMomentOf n uid db moment × (origin ≡ Some (record { class = class; moment = moment }))

pub came_so : (uid : Text) (n : ℕ) (class : Text) (db : Trees) (origin : Option Origin) → IsLineOf uid db (Some (n, class)) → IsTold n uid class db origin → IsOriginOf uid db origin
came_so uid n class db origin line told = subst (IsOriginOf uid db) (sym told.2) (n, line, told.1)
