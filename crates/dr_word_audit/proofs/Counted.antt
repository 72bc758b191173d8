-- Lines since the last adoption, and how many of them are of a kind.
use Rattle.std.proofs.Common.{◌≡◌, ◌∙◌, ◌+◌, ◌-◌, ◌≤◌, ◌++◌, ◌∷◌, [], suc, ℕ, Bool, true, false, List, cond, length, take, drop, refl, sym, ap, arith}
use Rattle.std.specs.Prelude.{filter, map as mapped}
use Rattle.std.proofs.lemmas.List.{append_assoc, length-append, take_all, take-append-drop}
use Rattle.dr_base.specs.Texts.{Text}
use Rattle.dr_ledger.specs.Books.{Line, Arrival, Repeat, Settling, Requeuing, Dropping, Forgetting, Adoption, since_adoption, since_from, with_line}
use Rattle.dr_ledger_history.specs.Lines.{line_of}
use Rattle.dr_ledger_history.specs.declared.line.JournalLine.{JournalLine}
use Rattle.dr_world_journals.specs.Journals.{until_adoption}
use Rattle.dr_word_audit.specs.Figures.{how_many, is_of}
use Rattle.dr_word_audit.specs.Telling.{is_told, number_told}
use Rattle.dr_word_audit.specs.declared.counting.LineKind.{LineKind}

one_more : {X Y : Type 0} (b : Bool) (x : X) (y : Y) (xs : List X) (ys : List Y) → length xs ≡ length ys → length (cond b (x ∷ xs) xs) ≡ length (cond b (y ∷ ys) ys)
one_more true x y xs ys same = ap (λ n. suc n) same
one_more false x y xs ys same = same

-- what is counted of lines as they are kept is counted of the lines
pub counts_told : (sort : LineKind) (others : List Text) (lines : List JournalLine) → number_told sort others lines ≡ how_many sort others (mapped line_of lines)
counts_told sort others [] = refl
counts_told sort others (x ∷ xs) = one_more (is_of sort others (line_of x)) x (line_of x) (filter (is_told sort others) xs) (filter (is_of sort others) (mapped line_of xs)) (counts_told sort others xs)

-- the lines since the last adoption stand at the end
abbrev Ends : List Line → List Line → Type 0
Ends all since = (past : List Line) × (past ++ since ≡ all)

with_one : (lines s before : List Line) (line : Line) → Ends (before ++ ((s ++ line ∷ []) ++ lines)) (since_from (s ++ line ∷ []) lines) → Ends (before ++ (s ++ line ∷ lines)) (since_from (s ++ line ∷ []) lines)
with_one lines s before line h = (h.0, h.1 ∙ ap (λ (x : List Line). before ++ x) (append_assoc s (line ∷ []) lines))

since_ends : (lines s before : List Line) → Ends (before ++ (s ++ lines)) (since_from s lines)
since_ends [] s before = (before, ap (λ (x : List Line). before ++ x) (sym (nothing s)))
  where
    nothing : (xs : List Line) → xs ++ [] ≡ xs
    nothing [] = refl
    nothing (x ∷ xs) = ap (λ (ys : List Line). x ∷ ys) (nothing xs)
since_ends (Adoption ∷ lines) s before =
    let later = since_ends lines [] (before ++ (s ++ Adoption ∷ [])) in
    (later.0, later.1 ∙ append_assoc before (s ++ Adoption ∷ []) lines ∙ ap (λ (x : List Line). before ++ x) (append_assoc s (Adoption ∷ []) lines))
since_ends (Arrival caller item to keep ∷ lines) s before = with_one lines s before (Arrival caller item to keep) (since_ends lines (s ++ Arrival caller item to keep ∷ []) before)
since_ends (Repeat caller item ∷ lines) s before = with_one lines s before (Repeat caller item) (since_ends lines (s ++ Repeat caller item ∷ []) before)
since_ends (Settling uid dest outcome now ∷ lines) s before = with_one lines s before (Settling uid dest outcome now) (since_ends lines (s ++ Settling uid dest outcome now ∷ []) before)
since_ends (Requeuing uid dest ∷ lines) s before = with_one lines s before (Requeuing uid dest) (since_ends lines (s ++ Requeuing uid dest ∷ []) before)
since_ends (Dropping uid dest now ∷ lines) s before = with_one lines s before (Dropping uid dest now) (since_ends lines (s ++ Dropping uid dest now ∷ []) before)
since_ends (Forgetting uid ∷ lines) s before = with_one lines s before (Forgetting uid) (since_ends lines (s ++ Forgetting uid ∷ []) before)

take_front : (xs ys : List Line) → take (length xs) (xs ++ ys) ≡ xs
take_front [] [] = refl
take_front [] (y ∷ ys) = refl
take_front (x ∷ xs) ys = ap (λ (zs : List Line). x ∷ zs) (take_front xs ys)

drop_front : (xs ys : List Line) → drop (length xs) (xs ++ ys) ≡ ys
drop_front [] [] = refl
drop_front [] (y ∷ ys) = refl
drop_front (x ∷ xs) ys = drop_front xs ys

-- behind those up to the last adoption
pub since_left : (lines : List Line) (past since : List Line) → past ++ since ≡ lines → past ≡ until_adoption lines → since ≡ since_adoption lines
since_left lines past since all until =
    let split = since_ends lines [] [] in
    let count : length lines ≡ length split.0 + length (since_adoption lines) = ap length (sym split.1) ∙ length-append split.0 (since_adoption lines) in
    let place : length lines - length (since_adoption lines) ≡ length split.0 = omega (arith, count) in
    let front : past ≡ split.0 = until ∙ ap (λ n. take n lines) place ∙ ap (λ (xs : List Line). take (length split.0) xs) (sym split.1) ∙ take_front split.0 (since_adoption lines) in
    sym (drop_front past since) ∙ ap (λ (xs : List Line). drop (length past) xs) (all ∙ sym split.1) ∙ ap (λ (xs : List Line). drop (length xs) (split.0 ++ since_adoption lines)) front ∙ drop_front split.0 (since_adoption lines)
