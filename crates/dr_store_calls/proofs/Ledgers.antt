-- What a call leaves of the tables of a ledger.
use Rattle.std.proofs.Common.{◌≡◌, ◌+◌, ℕ, List, drop, length, pos, ap, sym, ◌∙◌}
use Rattle.sqlite.specs.declared.types.Value.TheVariants.{Int}
use Rattle.sqlite.specs.Order.{Row}
use Rattle.sqlite.specs.Tree.{Trees, put_row, rowid}
use Rattle.dr_site.specs.Parts.{Part}
use Rattle.dr_ledger.specs.Books.{Line}
use Rattle.dr_store_sealed.specs.declared.seal.Seal.{Seal}
use Rattle.dr_store_sealed.specs.InTables.{seal_said}
use Rattle.dr_store_changes.specs.Writing.{AreNumberedTo}
use Rattle.dr_store_changes.proofs.Numbers.{lines_count_up}
use Rattle.dr_store_calls.specs.Owners.{IsOwnedBy, behind_mark, cell_in, seal_in}

-- the owner of tables whose owner's row stays
pub still_owned : (part : Part) (base db : Trees) → db 0 ≡ base 0
    → IsOwnedBy part base → IsOwnedBy part db
still_owned part base db site owned = (owned.0, (owned.1.0, (owned.1.1.0, owned.1.1.1, site ∙ owned.1.1.2)))

-- the seal of tables whose owner's row stays
pub same_seal : (base db : Trees) → db 0 ≡ base 0 → seal_in db ≡ seal_in base
same_seal base db site =
    ap (λ (rows : List Row). seal_said (behind_mark (drop 32 (cell_in rows)))) site

-- it counts the same past
pub still_counted : (past : List Line) (base db : Trees) → db 0 ≡ base 0
    → length past ≡ (seal_in base).count → length past ≡ (seal_in db).count
still_counted past base db site counted =
    counted ∙ ap (λ (s : Seal). s.count) (sym (same_seal base db site))

-- lines count up with the one that is added
pub one_line_more : {first : ℕ} (n : ℕ) (line : Row) (base db : Trees) → rowid line ≡ Int (pos n)
    → db 11 ≡ put_row line (base 11) → AreNumberedTo first n (base 11)
    → AreNumberedTo first (n + 1) (db 11)
one_line_more {first} n line base db numbered journal all =
    lines_count_up base db first n (record { row = line; numbered = numbered; journal = journal }) all
