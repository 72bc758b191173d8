-- First arrivals, one part after another.
use Rattle.std.proofs.Common.{◌≡◌, ◌==◌, ℕ, List, [], Bool, true, false, cond, Option, None, IsSome, Ok, Result, refl, sym, ap, subst, ◌∙◌}
use Rattle.std.specs.Cmp.Lexicographic.{nat_list_cmp_total}
use Rattle.std.specs.FinMap as map
use Rattle.std.specs.FinSet as set
use Rattle.std.specs.Ordering.{eq_by_cmp}
use Rattle.std.proofs.lemmas.Map.Lookups.{exact_bytes}
use Rattle.sqlite.specs.declared.error.Error.{Error}
use Rattle.sqlite.specs.Order.{Row}
use Rattle.sqlite.specs.State.{State}
use Rattle.sqlite.specs.Tree.{Trees, put_row}
use Rattle.dr_base.specs.Texts.{Text, text_cmp}
use Rattle.dr_ledger.specs.declared.item.Instance.{Instance}
use Rattle.dr_ledger.specs.Bodies.{Bodies}
use Rattle.dr_ledger.specs.Books.{with_rows}
use Rattle.dr_ledger.specs.Pairs.{Pair}
use Rattle.dr_store_schema.specs.Books.{all_kept_in, arrivals_in, bodies_by, bodies_of, contents_in, is_whole, items_in, names_in, prints_in, rows_in, wholes_in}
use Rattle.dr_store_writes.specs.Effects.{AddsRow, GoesOn, StatementStep, arrived_line}
use Rattle.dr_store_writes.proofs.Maps.{equal}
use Rattle.dr_store_changes.specs.declared.first.Taking.{Taking}
use Rattle.dr_store_changes.specs.declared.first.Taking.TheVariants as taking
use Rattle.dr_store_changes.specs.Bringing.{Brings, KeepsIf, TakesInItem, Then}
use Rattle.dr_store_changes.specs.Changes.{AddsOnlyLine, AddsRows, AddsTargets, HasNeither, HasRows, KeepsOne, NotesArrival, Renews, Stores, TakesBack, with_names, with_waiting}
use Rattle.dr_store_changes.specs.Writing.{IsMade}
use Rattle.dr_store_changes.proofs.Arrivals.{only_line}
use Rattle.dr_store_changes.proofs.LettingGo.{back_body, body_at, gone_body}
use Rattle.dr_store_changes.proofs.Movements.{goes_over}
use Rattle.dr_store_changes.proofs.NewRows.{still}
use Rattle.dr_store_changes.proofs.Steps.{one_then}
use Rattle.dr_store_changes.proofs.Together.{both_put, untouched}

-- nothing is done
pub step_still : (s : State) (Made : Type 0) → (GoesOn s s → Made) → StatementStep {A = Unit {0}} {E = Error} (Ok tt) s s Made
step_still s Made f = record {
  ok = λ clean inside is_open has. f (record { ledger = has; mode = inside; committed = refl; is_open = is_open });
  kept = λ clean. record { was_open = λ h. h; committed = λ h. refl };
  survives = still s;
}

-- one change, and then another that asks for nothing
pub step_then : {A B : Type 0} (old mid new : State) (x : A) (r : Result B Error) (P : Type 0) (One Other : Trees → Trees → Type 0) → StatementStep {E = Error} (Ok x) old mid (P → GoesOn old mid × One old.now.trees mid.now.trees)
    → StatementStep r mid new (Unit {0} → GoesOn mid new × Other mid.now.trees new.now.trees) → StatementStep r old new (P → GoesOn old new × Then One Other old.now.trees new.now.trees)
step_then old mid new x r P One Other one two =
    one_then old mid new x r P (GoesOn old mid × One old.now.trees mid.now.trees) (Unit {0}) (GoesOn mid new × Other mid.now.trees new.now.trees) (GoesOn old new × Then One Other old.now.trees new.now.trees)
    one two (λ p m. (m.0, tt)) (λ p m n. (goes_over old mid new m.0 n.0, (mid.now.trees, m.1, n.1)))

-- ---- the item and its data set

-- to remove what isn't there changes nothing
pub none_left : (bodies : Bodies) (uid : Text) → map.get bodies uid ≡ None → map.remove bodies uid ≡ bodies
none_left bodies uid none = map.same_map nat_list_cmp_total exact_bytes _ _ (λ q. map.get-remove nat_list_cmp_total bodies uid q ∙ go q (eq_by_cmp text_cmp q uid) refl)
  where
    go : (q : Text) (b : Bool) → eq_by_cmp text_cmp q uid ≡ b → cond b None (map.get bodies q) ≡ map.get bodies q
    go q true is = sym (ap (map.get bodies) (exact_bytes q uid (equal _ is)) ∙ none)
    go q false is = refl

no_body : (uid : Text) (db : Trees) → HasNeither uid db → map.get (bodies_of db) uid ≡ None
no_body uid db neither = body_at (contents_in (db 1)) (wholes_in (db 3)) uid ∙ ap (λ w. cond (is_whole w) (map.get (contents_in (db 1)) uid) None) neither.1

pub new_taken : (item : Instance) (body : List ℕ) (old new : Trees) → Stores item body 1 old new → TakesInItem taking.New item body old new
new_taken item body old new s = record {
  items = s.items;
  bodies = (λ i. bodies_by (s.contents i) (s.wholes i)) ∙ back_body (contents_in (old 1)) (wholes_in (old 3)) item.uid body;
  together = both_put old new item.uid body 1 s.contents s.wholes;
  site = s.site;
  arrivals = s.arrivals;
  kept = s.kept;
  queue = s.queue;
  journal = s.journal;
  targets = s.targets;
}

pub bare_taken : (item : Instance) (body : List ℕ) (old new : Trees) → HasNeither item.uid old → Stores item [] 0 old new → TakesInItem taking.Bare item body old new
bare_taken item body old new neither s = record {
  items = s.items;
  bodies = (λ i. bodies_by (s.contents i) (s.wholes i)) ∙ gone_body (contents_in (old 1)) (wholes_in (old 3)) item.uid ∙ none_left (bodies_of old) item.uid (no_body item.uid old neither);
  together = both_put old new item.uid [] 0 s.contents s.wholes;
  site = s.site;
  arrivals = s.arrivals;
  kept = s.kept;
  queue = s.queue;
  journal = s.journal;
  targets = s.targets;
}

pub again_taken : (item : Instance) (body : List ℕ) (old new : Trees) → TakesBack item.uid body old new → TakesInItem taking.Again item body old new
again_taken item body old new t = record {
  items = t.items;
  bodies = t.bodies;
  together = t.together;
  site = t.site;
  arrivals = t.arrivals;
  kept = t.kept;
  queue = t.queue;
  journal = t.journal;
  targets = t.targets;
}

pub nothing_taken : (item : Instance) (body : List ℕ) (db : Trees) → TakesInItem taking.Nothing item body db db
nothing_taken item body db = record { items = refl; bodies = refl; together = λ both. both; site = refl; arrivals = refl; kept = refl; queue = refl; journal = refl; targets = refl }

-- ---- kept, if it is to be

pub kept_if : (uid : Text) (old new : Trees) → KeepsOne uid old new → KeepsIf uid true old new
kept_if uid old new k = record { kept = k.kept; site = k.site; items = k.items; prints = k.prints; arrivals = k.arrivals; queue = k.queue; journal = k.journal; targets = k.targets }

pub not_kept : (uid : Text) (db : Trees) → KeepsIf uid false db db
not_kept uid db = record { kept = refl; site = refl; items = refl; prints = refl; arrivals = refl; queue = refl; journal = refl; targets = refl }

-- ---- its line

pub line_added : (n : ℕ) (moment : Option ℕ) (caller : Text) (item : Instance) (old new : State) → AddsRow 11 (arrived_line n moment 0 caller item) old new → GoesOn old new × AddsOnlyLine (arrived_line n moment 0 caller item) old.now.trees new.now.trees
line_added n moment caller item old new adds = let m = only_line n (arrived_line n moment 0 caller item) old new refl adds in (m.goes_on, m.made)

-- ---- all of it

-- all but the line
abbrev pub Filled : Taking → Text → Instance → List ℕ → List Text → List Text → Bool → Trees → Trees → Type 0
Filled how caller item body again dests keeps = Then (Then (TakesInItem how item body) (NotesArrival (caller, item.uid))) (Then (Then (Renews item.uid again) (AddsRows item.uid dests)) (KeepsIf item.uid keeps))

-- what is taken in changes no row
pub rows_untouched : (how : Taking) (caller : Text) (item : Instance) (body : List ℕ) (again : List Text) (old new : Trees) → Then (TakesInItem how item body) (NotesArrival (caller, item.uid)) old new → HasRows item.uid again old → HasRows item.uid again new
rows_untouched how caller item body again old new taken has dest goes =
    let t = taken.1 in
    let a = taken.2 in
    subst (λ rows. IsSome (map.get (rows_in rows) (item.uid, dest))) (sym (a.queue ∙ t.queue)) (has dest goes)

abbrev pub LineWritten : Text → Instance → List Text → ℕ → Option ℕ → Trees → Trees → Type 0
LineWritten caller item names n moment = Then (AddsOnlyLine (arrived_line n moment 0 caller item)) (AddsTargets n names)

pub brought : (how : Taking) (caller : Text) (item : Instance) (body : List ℕ) (again dests : List Text) (keeps : Bool) (names : List Text) (n : ℕ) (moment : Option ℕ) (old new : Trees)
    → Then (Filled how caller item body again dests keeps) (LineWritten caller item names n moment) old new → Brings how caller item body again dests keeps names n moment old new
brought how caller item body again dests keeps names n moment old new all =
    let at : Pair = (caller, item.uid) in
    let line : Row = arrived_line n moment 0 caller item in
    let filled = all.1 in
    let written = all.2 in
    let t = filled.1.1 in
    let a = filled.1.2 in
    let w = filled.2.1.1 in
    let r = filled.2.1.2 in
    let k = filled.2.2 in
    let l = written.1 in
    let g = written.2 in
    let items = g.items ∙ l.items ∙ k.items ∙ r.items ∙ w.items ∙ a.items in
    let prints = g.prints ∙ l.prints ∙ k.prints ∙ r.prints ∙ w.prints ∙ a.prints in
    record {
      items = (λ i. items_in (prints_in (prints i)) (items i)) ∙ t.items;
      bodies = (λ i. bodies_by (contents_in (items i)) (wholes_in (prints i))) ∙ t.bodies;
      together = λ both. untouched filled.1.0 new items prints (t.together both);
      arrivals = ap arrivals_in (g.arrivals ∙ l.arrivals ∙ k.arrivals ∙ r.arrivals ∙ w.arrivals) ∙ a.arrivals ∙ ap (λ rows. set.insert (arrivals_in rows) at) t.arrivals;
      rows = ap rows_in (g.queue ∙ l.queue ∙ k.queue) ∙ r.rows
          ∙ ap (λ rows. with_rows rows item.uid dests) (w.rows ∙ ap (λ rows. with_waiting (rows_in rows) item.uid again) (a.queue ∙ t.queue));
      kept = ap all_kept_in (g.kept ∙ l.kept) ∙ k.kept ∙ ap (λ rows. cond keeps (set.insert (all_kept_in rows) item.uid) (all_kept_in rows)) (r.kept ∙ w.kept ∙ a.kept ∙ t.kept);
      journal = g.journal ∙ l.journal ∙ ap (put_row line) (k.journal ∙ r.journal ∙ w.journal ∙ a.journal ∙ t.journal);
      targets = λ m. g.targets m ∙ ap (λ rows. cond (n == m) (with_names (names_in rows m) names) (names_in rows m)) (l.targets ∙ k.targets ∙ r.targets ∙ w.targets ∙ a.targets ∙ t.targets);
      site = g.site ∙ l.site ∙ k.site ∙ r.site ∙ w.site ∙ a.site ∙ t.site;
    }

pub arrival_made : (how : Taking) (caller : Text) (item : Instance) (body : List ℕ) (again dests : List Text) (keeps : Bool) (names : List Text) (n : ℕ) (moment : Option ℕ) (old new : State)
    → GoesOn old new × Then (Filled how caller item body again dests keeps) (LineWritten caller item names n moment) old.now.trees new.now.trees
    → IsMade n (Brings how caller item body again dests keeps names n moment) old new
arrival_made how caller item body again dests keeps names n moment old new all =
    let made = brought how caller item body again dests keeps names n moment old.now.trees new.now.trees all.1 in
    record { goes_on = all.0; line = record { row = arrived_line n moment 0 caller item; numbered = refl; journal = made.journal }; made = made }
