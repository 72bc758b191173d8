-- Journals that are cut one after another, and what stands behind a cut.
use Rattle.std.proofs.Common.{◌≡◌, ◌∙◌, ◌<◌, ◌≤◌, ◌+◌, ◌-◌, ℕ, suc, true, false, cond, min, Option, None, Some, MatchOption, List, [], ◌∷◌, ◌++◌, append_assoc, append-nil, drop, get_or, length, set, take, refl, sym, ap, subst, arith}
use Rattle.std.proofs.lemmas.List.{drop_all, drop_more, length-drop, length-take, set_split, take-append-drop, take_more}
use Rattle.std.specs.Str.{bytes_eq}
use Rattle.dr_base.specs.Texts.{Text}
use Rattle.dr_ledger_history.specs.declared.line.JournalLine.{JournalLine}
use Rattle.dr_world_audit.specs.declared.audit.NodeJournal.{NodeJournal}
use Rattle.dr_word_audit_at.specs.declared.cutting.MissingLine.{MissingLine}
use Rattle.dr_word_audit_at.specs.Cuts.{IsUpToNext, MendsNowhere, Moves, cut_at, cuts, lines_named, mends, put_on, rest_named}

module _ (counts : List ℕ) (read : List NodeJournal) (i : ℕ) (d n : ℕ) (e node : NodeJournal) (few : i < length counts) (lt : i < length read) (at : n ≡ get_or counts i d) (is : node ≡ get_or read i e) where
  count_cut : drop i counts ≡ n ∷ drop (i + 1) counts
  count_cut = drop_more counts i d few ∙ ap (λ (x : ℕ). x ∷ drop (i + 1) counts) (sym at)

  node_cut : drop i read ≡ node ∷ drop (i + 1) read
  node_cut = drop_more read i e lt ∙ ap (λ (x : NodeJournal). x ∷ drop (i + 1) read) (sym is)

  -- one journal more is cut
  pub one_cut : (nodes next whole : List NodeJournal) → next ≡ nodes ++ cut_at n node ∷ [] → nodes ++ cuts (drop i counts) (drop i read) ≡ whole → next ++ cuts (drop (i + 1) counts) (drop (i + 1) read) ≡ whole
  one_cut nodes next whole more so_far =
      let rest = cuts (drop (i + 1) counts) (drop (i + 1) read) in
      ap (λ (ns : List NodeJournal). ns ++ rest) more ∙ append_assoc nodes (cut_at n node ∷ []) rest
      ∙ (λ j. nodes ++ cuts (sym count_cut j) (sym node_cut j)) ∙ so_far

  -- what is behind the cut of the node of a name: of this one, or of one of those that are left
  rest_at : (name : Text) → rest_named name (drop i counts) (drop i read) ≡ cond (bytes_eq node.name name) (drop n node.lines) (rest_named name (drop (i + 1) counts) (drop (i + 1) read))
  rest_at name = λ j. rest_named name (count_cut j) (node_cut j)

  pub rest_here : (name : Text) (rest : List JournalLine) → bytes_eq node.name name ≡ true → rest ≡ rest_named name (drop i counts) (drop i read) → rest ≡ drop n node.lines
  rest_here name rest same so_far = so_far ∙ rest_at name ∙ ap (λ b. cond b (drop n node.lines) (rest_named name (drop (i + 1) counts) (drop (i + 1) read))) same

  pub rest_later : (name : Text) (rest : List JournalLine) → bytes_eq node.name name ≡ false → rest ≡ rest_named name (drop i counts) (drop i read) → rest ≡ rest_named name (drop (i + 1) counts) (drop (i + 1) read)
  rest_later name rest other so_far = so_far ∙ rest_at name ∙ ap (λ b. cond b (drop n node.lines) (rest_named name (drop (i + 1) counts) (drop (i + 1) read))) other

  -- what is before the cut of the node of a name: of this one, or of one of those that are left
  front_at : (name : Text) → lines_named name (cuts (drop i counts) (drop i read)) ≡ cond (bytes_eq node.name name) (take n node.lines) (lines_named name (cuts (drop (i + 1) counts) (drop (i + 1) read)))
  front_at name = λ j. lines_named name (cuts (count_cut j) (node_cut j))

  pub front_here : (name : Text) (front : List JournalLine) → bytes_eq node.name name ≡ true → front ≡ lines_named name (cuts (drop i counts) (drop i read)) → front ≡ take n node.lines
  front_here name front same so_far = so_far ∙ front_at name ∙ ap (λ b. cond b (take n node.lines) (lines_named name (cuts (drop (i + 1) counts) (drop (i + 1) read)))) same

  pub front_later : (name : Text) (front : List JournalLine) → bytes_eq node.name name ≡ false → front ≡ lines_named name (cuts (drop i counts) (drop i read)) → front ≡ lines_named name (cuts (drop (i + 1) counts) (drop (i + 1) read))
  front_later name front other so_far = so_far ∙ front_at name ∙ ap (λ b. cond b (take n node.lines) (lines_named name (cuts (drop (i + 1) counts) (drop (i + 1) read)))) other

  -- a cut that is put on: this one, or one of those that are left
  put_at : (name : Text) (more : ℕ) → put_on name more (drop i counts) (drop i read) ≡ cond (bytes_eq node.name name) ((n + more) ∷ drop (i + 1) counts) (n ∷ put_on name more (drop (i + 1) counts) (drop (i + 1) read))
  put_at name more = λ j. put_on name more (count_cut j) (node_cut j)

  pub put_here : (name : Text) → bytes_eq node.name name ≡ true → ((more : ℕ) → put_on name more counts read ≡ take i counts ++ put_on name more (drop i counts) (drop i read)) → (more : ℕ) → set counts i (n + more) ≡ put_on name more counts read
  put_here name same so_far more =
      let next : suc i ≡ i + 1 = omega arith in
      set_split counts i (n + more) few ∙ ap (λ k. take i counts ++ (n + more) ∷ drop k counts) next
      ∙ sym (so_far more ∙ ap (λ (ns : List ℕ). take i counts ++ ns) (put_at name more ∙ ap (λ b. cond b ((n + more) ∷ drop (i + 1) counts) (n ∷ put_on name more (drop (i + 1) counts) (drop (i + 1) read))) same))

  pub put_later : (name : Text) → bytes_eq node.name name ≡ false → ((more : ℕ) → put_on name more counts read ≡ take i counts ++ put_on name more (drop i counts) (drop i read))
      → (more : ℕ) → put_on name more counts read ≡ take (i + 1) counts ++ put_on name more (drop (i + 1) counts) (drop (i + 1) read)
  put_later name other so_far more =
      let rest = put_on name more (drop (i + 1) counts) (drop (i + 1) read) in
      so_far more ∙ ap (λ (ns : List ℕ). take i counts ++ ns) (put_at name more ∙ ap (λ b. cond b ((n + more) ∷ drop (i + 1) counts) (n ∷ rest)) other)
      ∙ sym (append_assoc (take i counts) (n ∷ []) rest) ∙ ap (λ (ns : List ℕ). ns ++ rest) (sym (take_more counts i d few ∙ ap (λ (x : ℕ). take i counts ++ x ∷ []) (sym at)))

none_left : (ns : List ℕ) (xs : List NodeJournal) → xs ≡ [] → cuts ns xs ≡ []
none_left [] xs e = refl
none_left (n ∷ ns) [] e = refl
none_left (n ∷ ns) (x ∷ xs) e = absurd cc

-- all journals are cut
pub all_cut : (counts : List ℕ) (read : List NodeJournal) (i : ℕ) (nodes whole : List NodeJournal) → length read ≤ i → nodes ++ cuts (drop i counts) (drop i read) ≡ whole → nodes ≡ whole
all_cut counts read i nodes whole le so_far = sym (append-nil nodes) ∙ ap (λ (ns : List NodeJournal). nodes ++ ns) (sym (none_left (drop i counts) (drop i read) (drop_all i read le))) ∙ so_far

none_rest : (name : Text) (ns : List ℕ) (xs : List NodeJournal) → xs ≡ [] → rest_named name ns xs ≡ []
none_rest name [] xs e = refl
none_rest name (n ∷ ns) [] e = refl
none_rest name (n ∷ ns) (x ∷ xs) e = absurd cc

pub no_rest : (name : Text) (counts : List ℕ) (read : List NodeJournal) (i : ℕ) (rest : List JournalLine) → length read ≤ i → rest ≡ rest_named name (drop i counts) (drop i read) → rest ≡ []
no_rest name counts read i rest le so_far = so_far ∙ none_rest name (drop i counts) (drop i read) (drop_all i read le)

-- ---- the next line that says it

none_more : (mend : MissingLine) (lines : List JournalLine) (line : JournalLine) → MendsNowhere mend lines → mends mend line ≡ false → MendsNowhere mend (lines ++ line ∷ [])
none_more mend [] line none one = (one, tt)
none_more mend (l ∷ lines) line none one = (none.0, none_more mend lines line none.1 one)

module _ (mend : MissingLine) (lines : List JournalLine) (i : ℕ) (d line : JournalLine) (lt : i < length lines) (is : line ≡ get_or lines i d) where
  -- one line more doesn't say it
  pub one_more : MendsNowhere mend (take i lines) → mends mend line ≡ false → MendsNowhere mend (take (i + 1) lines)
  one_more none one =
      subst (MendsNowhere mend) (sym (take_more lines i d lt ∙ ap (λ (l : JournalLine). take i lines ++ l ∷ []) (sym is))) (none_more mend (take i lines) line none one)

  -- or it is the first that does
  pub is_next : MendsNowhere mend (take i lines) → mends mend line ≡ true → IsUpToNext mend lines (i + 1)
  is_next none one = record {
    passed = take i lines;
    line = line;
    later = drop (i + 1) lines;
    lines = sym (take-append-drop i lines) ∙ ap (λ (ls : List JournalLine). take i lines ++ ls) (drop_more lines i d lt ∙ ap (λ (l : JournalLine). l ∷ drop (i + 1) lines) (sym is));
    none = none;
    says = one;
    count = let long : length (take i lines) ≡ min i (length lines) = length-take i lines in omega (arith, long, lt);
  }

length_join : (xs ys : List JournalLine) → length (xs ++ ys) ≡ length xs + length ys
length_join [] ys = omega arith
length_join (x ∷ xs) ys = let rest = length_join xs ys in omega (arith, rest)

-- no more lines are passed than there are
pub next_within : (mend : MissingLine) (lines : List JournalLine) (more : ℕ) → IsUpToNext mend lines more → (1 ≤ more) × (more ≤ length lines)
next_within mend lines more next =
    let long : length lines ≡ length next.passed + length (next.line ∷ next.later) = ap length next.lines ∙ length_join next.passed (next.line ∷ next.later) in
    let count = next.count in (omega (arith, count), omega (arith, count, long))

-- so many lines there are up to it
pub up_to_next : (mend : MissingLine) (lines : List JournalLine) (n more : ℕ) → IsUpToNext mend (drop n lines) more → length lines - (length (drop n lines) - more) ≡ n + more
up_to_next mend lines n more next =
    let it = next_within mend (drop n lines) more next in
    let low = it.0 in
    let high = it.1 in
    let long : length (drop n lines) ≡ length lines - n = length-drop n lines in
    omega (arith, low, high, long)

-- what mends at the cut of one node mends, or mends nowhere, behind the cut of the node of its name
pub found_cut : (mend : MissingLine) (name : Text) (counts : List ℕ) (read : List NodeJournal) (place n : ℕ) (lines rest : List JournalLine) (found : Option (ℕ × ℕ)) → place < length counts → rest ≡ drop n lines
    → ((more : ℕ) → set counts place (n + more) ≡ put_on name more counts read)
    → MatchOption found (MendsNowhere mend (drop n lines)) (λ next. (next.0 ≡ place) × ((more : ℕ) × IsUpToNext mend (drop n lines) more × (next.1 ≡ n + more)))
    → MatchOption found (MendsNowhere mend rest) (λ next. (next.0 < length counts) × ((more : ℕ) × IsUpToNext mend rest more × (set counts next.0 next.1 ≡ put_on name more counts read)))
found_cut mend name counts read place n lines rest None few is put h = subst (MendsNowhere mend) (sym is) h
found_cut mend name counts read place n lines rest (Some next) few is put h = (
  subst (λ p. p < length counts) (sym h.0) few,
  (h.1.0, subst (λ (ls : List JournalLine). IsUpToNext mend ls h.1.0) (sym is) h.1.1, (λ i. set counts (h.0 i) (h.1.2 i)) ∙ put h.1.0),
)

-- a cut that is put there
pub put_moves : (mend : MissingLine) (at : Text) (read : List NodeJournal) (old new : List ℕ) (place n : ℕ) → new ≡ set old place n → ((more : ℕ) × IsUpToNext mend (rest_named at old read) more × (set old place n ≡ put_on at more old read)) → Moves mend at read old new true
put_moves mend at read old new place n is h = (h.0, h.1, is ∙ h.2)
