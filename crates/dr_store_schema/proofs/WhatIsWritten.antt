-- What is written into cells, and empty tables.
use Rattle.std.proofs.Common.{◌≡◌, refl, sym, ap, ◌∙◌, ℕ, pos, Bool, true, false, cond, List, [], ◌∷◌, length, map as mapped, Option, None, Some, ◌≤◌, ◌^◌, arith}
use Rattle.std.specs.Cmp.Lexicographic.{nat_list_cmp_total}
use Rattle.std.specs.declared.cmp.Ordering.{Ordering}
use Rattle.std.specs.FinMap as map
use Rattle.std.specs.FinMap.{FinMap}
use Rattle.std.specs.FinSet as set
use Rattle.std.specs.Ordering.{nat_cmp}
use Rattle.std.proofs.lemmas.Map.Lookups.{exact_bytes}
use Rattle.std.proofs.Math.Nat.{min-eq_left}
use Rattle.sqlite.specs.declared.types.Value.TheVariants.{Int}
use Rattle.dr_base.specs.declared.syntax.Syntax.{Syntax}
use Rattle.dr_base.specs.declared.syntax.Syntax.TheVariants.{Implicit, Explicit}
use Rattle.dr_ledger.specs.declared.item.Cause.TheVariants as cause
use Rattle.dr_ledger.specs.declared.item.Outcome.{Outcome}
use Rattle.dr_ledger.specs.declared.item.Outcome.TheVariants as outcome
use Rattle.dr_ledger.specs.declared.item.Progress.{Progress}
use Rattle.dr_ledger.specs.declared.item.Progress.TheVariants.{Waiting, Held, Done, Dropped}
use Rattle.dr_base.specs.Texts.{text_cmp}
use Rattle.dr_ledger.specs.Books.{Line}
use Rattle.dr_store_schema.specs.Books.{bodies_by, is_whole}
use Rattle.dr_store_schema.specs.Cells.{due_of, mark_of, moment_in, moment_value, outcome_in, outcome_value, progress_in, state_of, syntax_marked, tries_of, why_of}
use Rattle.dr_store_schema.specs.Laws.{CellsSayWhatWasWritten, EmptyTablesAreEmpty}

progress_back : (p : Progress) → progress_in (Int (pos (state_of p))) (Int (pos (tries_of p))) (Int (pos (due_of p))) (why_of p) ≡ p
progress_back (Waiting tries due) = refl
progress_back (Held (cause.Status status)) = refl
progress_back (Held cause.NoContext) = refl
progress_back (Held cause.Unreadable) = refl
progress_back Done = refl
progress_back Dropped = refl

pub outcome_back : (what : Outcome) → outcome_in (outcome_value what) ≡ what
outcome_back (outcome.Status status) = refl
outcome_back outcome.Broken = refl
outcome_back outcome.NoContext = refl
outcome_back outcome.Unreadable = refl

syntax_back : (syntax : Syntax) → syntax_marked (mark_of syntax) ≡ syntax
syntax_back Implicit = refl
syntax_back Explicit = refl

moment_back : (now : ℕ) → now ≤ 2 ^ 62 → moment_in (moment_value (Some now)) ≡ Some now
moment_back now early = ap Some (min-eq_left early)

pub cells_say_what_was_written : CellsSayWhatWasWritten
cells_say_what_was_written = record { progress = progress_back; outcome = outcome_back; syntax = syntax_back; moment = moment_back; no_moment = refl }

abbrev wholes_none : FinMap text_cmp ℕ
wholes_none = map.empty

either : {A : Type 0} (b : Bool) → ◌≡◌ {A = Option A} (cond b None None) None
either true = refl
either false = refl

-- nothing is there whatever `print` says
none_left : bodies_by map.empty wholes_none ≡ map.empty
none_left = map.same_map nat_list_cmp_total exact_bytes _ _ (λ uid.
    map.get-retain_keys {R = text_cmp} map.empty (λ x. is_whole (map.get wholes_none x)) uid (λ x same. ap (λ y. is_whole (map.get wholes_none y)) (sym (exact_bytes uid x same)))
    ∙ ap (λ got. cond (is_whole (map.get wholes_none uid)) got None) (map.get-empty text_cmp uid) ∙ either (is_whole (map.get wholes_none uid)) ∙ sym (map.get-empty text_cmp uid))

no_length : {A : Type 0} (xs : List A) → length xs ≡ 0 → xs ≡ []
no_length [] h = refl
no_length (x ∷ xs) h = absurd (omega arith)

pub no_entries : {K : Type 0} (R : K → K → Ordering) (X : Type 0) → map.entries (map.empty {X = X} {R = R}) ≡ []
no_entries R X = no_length (map.entries (map.empty {X = X} {R = R})) (sym (map.len-entries (map.empty {X = X} {R = R})) ∙ map.len-empty R X)

pub empty_tables_are_empty : EmptyTablesAreEmpty
empty_tables_are_empty = record {
  book = λ i. record { items = map.empty; arrivals = set.empty; kept = set.empty; rows = map.empty; lines = ap (mapped (λ (e : ℕ × Line). e.1)) (no_entries nat_cmp Line) i };
  bodies = none_left;
}
