-- The query of all moments.
use Rattle.std.proofs.Common.{◌≡◌, codes, ℕ, List, [], ◌∷◌, map, T, refl}
use Rattle.std.specs.Cmp.{nat_cmp_total}
use Rattle.std.specs.FinMap as fin
use Rattle.std.specs.FinMap.{entries}
use Rattle.std.specs.FinMap.Entries.{is_sorted}
use Rattle.std.specs.Ordering.{nat_cmp}
use Rattle.sqlite.specs.Collation.TheVariants.{Binary}
use Rattle.sqlite.specs.declared.types.Value.TheVariants.{Null}
use Rattle.sqlite.specs.Listing.{understood}
use Rattle.sqlite.specs.Order.{Row}
use Rattle.sqlite.specs.Program.{overlay}
use Rattle.sqlite.specs.Query.{IsAnswer}
use Rattle.sqlite.specs.State.{State, Shown}
use Rattle.sqlite.specs.Term.{Term, col}
use Rattle.sqlite.proofs.Callers.{reads_as}
use Rattle.sqlite_tied.specs.Compute.{everything}
use Rattle.sqlite_value.specs.declared.keys.Key.{Key}
use Rattle.sqlite_value.specs.Keys.{ascending}
use Rattle.dr_store_schema.specs.Tables.{tables}
use Rattle.dr_store_reads.specs.Queries.{HasTables}
use Rattle.dr_store_reads.proofs.Selects.{Is}
use Rattle.dr_store_lists.proofs.Lists.{lists_entries}
use Rattle.dr_store_lists.proofs.Wholes.{listing}
use Rattle.dr_store_moments.specs.Moments.{moments_of, shown_moment}
use Rattle.dr_store_moments.specs.Moments as text

abbrev pub moments_shown : List Term
moments_shown = col 1 0 ∷ col 1 7 ∷ []

abbrev pub moments_order : List (Term × Key)
moments_order = (col 1 0, ascending Binary) ∷ []

pub all_moments : Is text.all_moments (listing 11 moments_shown moments_order) (codes "n" ∷ codes "moment" ∷ [])
unfolding understood everything
all_moments = record { command = refl; listing = refl; plain = (refl, refl) }

pub moments_listed : (old new : State) (rows : List Row) → HasTables old.now → Shown text.all_moments [] old new rows → T (is_sorted nat_cmp (map shown_moment rows)) → map shown_moment rows ≡ entries (moments_of old.now.trees)
moments_listed old new rows has h sorted =
    let answer : IsAnswer (listing 11 moments_shown moments_order) (overlay old.now.trees []) [] rows = (reads_as text.all_moments [] old new tables has _ all_moments.command all_moments.plain all_moments.listing rows h).answer Null in
    lists_entries 11 moments_shown moments_order old.now.trees rows answer answer.grouped nat_cmp_total fin.nat_cmp-IsAntisymmetric shown_moment sorted
