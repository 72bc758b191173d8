-- Where the first lines of a journal stand, as they are noted line by line.
use Rattle.std.proofs.Common.{◌≡◌, ◌∙◌, ◌<◌, ◌≤◌, ◌+◌, ◌-◌, ◌++◌, ◌&&◌, ◌||◌, ℕ, zero, suc, Bool, true, false, cond, Option, None, Some, is_some, MatchOption, Result, Ok, Err, List, [], ◌∷◌, get_or, length, take, refl, sym, ap, subst, arith, true≢false}
use Rattle.std.proofs.lemmas.Cmp.{tied_itself}
use Rattle.std.proofs.lemmas.List.{take_all, take_more}
use Rattle.std.proofs.lemmas.Slice.Eq.{bytes_eq-Decides}
use Rattle.std.specs.declared.cmp.Ordering.{Ordering}
use Rattle.std.specs.declared.cmp.Ordering.TheVariants.{Less, Equal, Greater}
use Rattle.std.specs.Prelude.{IfOk, IsTrue}
use Rattle.std.specs.BTreeMap as tree
use Rattle.std.specs.BTreeMap.{is_at}
use Rattle.std.specs.Ordering.{is_eq}
use Rattle.std.specs.Str.{bytes_eq}
use Rattle.dr_base.specs.Texts.{Text}
use Rattle.dr_ledger.specs.Pairs.{Pair, pair_cmp}
use Rattle.dr_ledger.proofs.Maps.{text_pairs}
use Rattle.dr_ledger_history.specs.declared.line.JournalLine.{JournalLine}
use Rattle.dr_ledger_history.specs.declared.line.JournalLine.TheVariants as told
use Rattle.dr_world_audit.specs.declared.audit.NodeJournal.{NodeJournal}
use Rattle.dr_word_adopt.specs.Names.{is_among}
use Rattle.dr_word_audit_at.specs.declared.cutting.MissingLine.{MissingLine}
use Rattle.dr_word_audit_at.specs.declared.cutting.MissingLine.TheVariants.{CameFrom, GoesOn}
use Rattle.dr_word_audit_at.specs.declared.moving.FirstLines.{FirstLines}
use Rattle.dr_word_audit_at.specs.Cuts.{MendsNowhere, mends}
use Rattle.dr_word_audit_at.specs.Firsts.{AreAllFirst, AreFirst, IsFirst, SaysNowhere, is_goal, or_first, says_came, says_goes}

-- ---- one place

equal : (o : Ordering) → is_eq o ≡ true → o ≡ Equal
equal Less h = absurd (true≢false (sym h))
equal Equal h = refl
equal Greater h = absurd (true≢false (sym h))

-- what stands at a key
at_tied : (m : tree.BTreeMap Pair ℕ) (k q : Pair) → is_at (pair_cmp k) q ≡ true → tree.get pair_cmp m q ≡ tree.get pair_cmp m k
at_tied m k q tied = ap (tree.get pair_cmp m) (sym (text_pairs.exact k q (equal (pair_cmp k q) tied)))

none_there : {X : Type 0} (o : Option X) → is_some o ≡ false → o ≡ None
none_there None h = refl
none_there (Some x) h = absurd (true≢false h)

some_stays : (o : Option ℕ) (b : Bool) (v : ℕ) → is_some o ≡ true → o ≡ or_first o b v
some_stays None b v h = absurd (true≢false (sym h))
some_stays (Some n) b v h = refl

none_stays : (o : Option ℕ) (v : ℕ) → o ≡ or_first o false v
none_stays None v = refl
none_stays (Some n) v = refl

-- it is noted where nothing was
pub placed : (m n : tree.BTreeMap Pair ℕ) (k : Pair) (v : ℕ) → is_some (tree.get pair_cmp m k) ≡ false → ((q : Pair) → tree.get pair_cmp n q ≡ cond (is_at (pair_cmp k) q) (Some v) (tree.get pair_cmp m q))
    → (q : Pair) → tree.get pair_cmp n q ≡ or_first (tree.get pair_cmp m q) (is_at (pair_cmp k) q) v
placed m n k v none put q = put q ∙ go (is_at (pair_cmp k) q) refl
  where
    go : (b : Bool) → is_at (pair_cmp k) q ≡ b → cond b (Some v) (tree.get pair_cmp m q) ≡ or_first (tree.get pair_cmp m q) b v
    go true tied = sym (ap (λ o. or_first o true v) (at_tied m k q tied ∙ none_there (tree.get pair_cmp m k) none))
    go false other = none_stays (tree.get pair_cmp m q) v

-- and nothing is noted where something was
pub kept : (m : tree.BTreeMap Pair ℕ) (k : Pair) (v : ℕ) → is_some (tree.get pair_cmp m k) ≡ true → (q : Pair) → tree.get pair_cmp m q ≡ or_first (tree.get pair_cmp m q) (is_at (pair_cmp k) q) v
kept m k v some q = go (is_at (pair_cmp k) q) refl
  where
    go : (b : Bool) → is_at (pair_cmp k) q ≡ b → tree.get pair_cmp m q ≡ or_first (tree.get pair_cmp m q) b v
    go true tied = some_stays (tree.get pair_cmp m q) true v (ap is_some (at_tied m k q tied) ∙ some)
    go false other = none_stays (tree.get pair_cmp m q) v

-- ---- one place after another

pub first_twice : (o : Option ℕ) (a b : Bool) (v : ℕ) → or_first (or_first o a v) b v ≡ or_first o (a || b) v
first_twice (Some n) a b v = refl
first_twice None true b v = refl
first_twice None false b v = refl

pub nothing_new : (o : Option ℕ) (v : ℕ) → or_first o false v ≡ o
nothing_new o v = sym (none_stays o v)

-- ---- lines

says_more : (says : JournalLine → Bool) (lines : List JournalLine) (line : JournalLine) → SaysNowhere says lines → says line ≡ false → SaysNowhere says (lines ++ line ∷ [])
says_more says [] line none one = (one, tt)
says_more says (l ∷ lines) line none one = (none.0, says_more says lines line none.1 one)

-- one line more is noted
pub noted_more : (says : JournalLine → Bool) (lines : List JournalLine) (i : ℕ) (line : JournalLine) (found after : Option ℕ) → i < length lines → line ≡ get_or lines i line
    → IsFirst says lines i found → after ≡ or_first found (says line) (i + 1) → IsFirst says lines (i + 1) after
noted_more says lines i line (Some n) after lt is first now = subst (IsFirst says lines (i + 1)) (sym now) first
noted_more says lines i line None after lt is none now = subst (IsFirst says lines (i + 1)) (sym now) (go (says line) refl)
  where
    go : (b : Bool) → says line ≡ b → IsFirst says lines (i + 1) (or_first None b (i + 1))
    go true said = let back : i ≡ i + 1 - 1 = omega arith in subst (λ k. SaysNowhere says (take k lines)) back none
    go false not = subst (SaysNowhere says) (sym (take_more lines i line lt ∙ ap (λ (l : JournalLine). take i lines ++ l ∷ []) (sym is))) (says_more says (take i lines) line none not)

-- all lines are noted
pub noted_all : (says : JournalLine → Bool) (lines : List JournalLine) (i : ℕ) (found : Option ℕ) → length lines ≤ i → i ≤ length lines → IsFirst says lines i found → IsFirst says lines (length lines) found
noted_all says lines i found low high first = let same : i ≡ length lines = omega (arith, low, high) in subst (λ k. IsFirst says lines k found) same first

-- nothing is noted of no line
pub noted_none : (says : JournalLine → Bool) (lines : List JournalLine) (found : Option ℕ) → found ≡ None → IsFirst says lines 0 found
noted_none says lines found is = subst (IsFirst says lines 0) (sym is) tt

-- ---- what a line says mends

both : (a b : Bool) → (a && b) ≡ true → (a ≡ true) × (b ≡ true)
both true b h = (refl, h)
both false b h = absurd (true≢false (sym h))

same_pair : (k : Pair) → is_at (pair_cmp k) k ≡ true
same_pair k = ap is_eq (tied_itself text_pairs.total k)

brought : (a b x y : Text) → (bytes_eq a x && bytes_eq b y) ≡ true → is_at (pair_cmp (a, b)) (x, y) ≡ true
brought a b x y h =
    let p = both (bytes_eq a x) (bytes_eq b y) h in
    let one : a ≡ x = (bytes_eq-Decides a x).0 p.0 in
    let two : b ≡ y = (bytes_eq-Decides b y).0 p.1 in
    ap (is_at (pair_cmp (a, b))) (λ i. (sym one i, sym two i)) ∙ same_pair (a, b)

not_true : (a b : Bool) → (a ≡ true → b ≡ true) → b ≡ false → a ≡ false
not_true false b f h = refl
not_true true b f h = absurd (true≢false (sym (f refl) ∙ h))

came_says : (uid from : Text) (line : JournalLine) → mends (CameFrom uid from) line ≡ true → says_came (uid, from) line ≡ true
came_says uid from (told.Arrival caller item to keep) h = brought item.uid caller uid from h
came_says uid from (told.Repeat caller item) h = brought item.uid caller uid from h
came_says uid from (told.Settling one dest outcome now) h = h
came_says uid from (told.Requeuing one dest) h = h
came_says uid from (told.Dropping one dest now) h = h
came_says uid from (told.Forgetting one) h = h
came_says uid from told.Adoption h = h

or_true : (a b : Bool) → b ≡ true → (a || b) ≡ true
or_true true b h = refl
or_true false b h = h

goal_says : (a uid name : Text) (to : List Text) → bytes_eq a uid ≡ true → is_among to name ≡ true → is_goal a to (uid, name) ≡ true
goal_says a uid name [] same h = h
goal_says a uid name (next ∷ to) same h = go (bytes_eq next name) refl h (goal_says a uid name to same)
  where
    go : (b : Bool) → bytes_eq next name ≡ b → (b || is_among to name) ≡ true → (is_among to name ≡ true → is_goal a to (uid, name) ≡ true) → (is_at (pair_cmp (a, next)) (uid, name) || is_goal a to (uid, name)) ≡ true
    go true is h later = ap (λ c. c || is_goal a to (uid, name)) (brought a next uid name ((λ i. same i && is i)))
    go false is h later = or_true (is_at (pair_cmp (a, next)) (uid, name)) (is_goal a to (uid, name)) (later h)

goes_says : (uid name : Text) (line : JournalLine) → mends (GoesOn uid name) line ≡ true → says_goes (uid, name) line ≡ true
goes_says uid name (told.Arrival caller item to keep) h = let p = both (bytes_eq item.uid uid) (is_among to name) h in goal_says item.uid uid name to p.0 p.1
goes_says uid name (told.Repeat caller item) h = h
goes_says uid name (told.Settling one dest outcome now) h = h
goes_says uid name (told.Requeuing one dest) h = h
goes_says uid name (told.Dropping one dest now) h = h
goes_says uid name (told.Forgetting one) h = h
goes_says uid name told.Adoption h = h

came_nowhere : (uid from : Text) (lines : List JournalLine) → SaysNowhere (says_came (uid, from)) lines → MendsNowhere (CameFrom uid from) lines
came_nowhere uid from [] none = tt
came_nowhere uid from (line ∷ lines) none = (not_true _ _ (came_says uid from line) none.0, came_nowhere uid from lines none.1)

goes_nowhere : (uid name : Text) (lines : List JournalLine) → SaysNowhere (says_goes (uid, name)) lines → MendsNowhere (GoesOn uid name) lines
goes_nowhere uid name [] none = tt
goes_nowhere uid name (line ∷ lines) none = (not_true _ _ (goes_says uid name line) none.0, goes_nowhere uid name lines none.1)

-- ---- where the first line stands that says it

of_came : (uid from : Text) (lines : List JournalLine) (found : Option ℕ) → IsFirst (says_came (uid, from)) lines (length lines) found
    → MatchOption found (MendsNowhere (CameFrom uid from) lines) (λ n. MendsNowhere (CameFrom uid from) (take (n - 1) lines))
of_came uid from lines None none = came_nowhere uid from lines (subst (SaysNowhere (says_came (uid, from))) (take_all (length lines) lines (omega arith)) none)
of_came uid from lines (Some n) none = came_nowhere uid from (take (n - 1) lines) none

of_goes : (uid name : Text) (lines : List JournalLine) (found : Option ℕ) → IsFirst (says_goes (uid, name)) lines (length lines) found
    → MatchOption found (MendsNowhere (GoesOn uid name) lines) (λ n. MendsNowhere (GoesOn uid name) (take (n - 1) lines))
of_goes uid name lines None none = goes_nowhere uid name lines (subst (SaysNowhere (says_goes (uid, name))) (take_all (length lines) lines (omega arith)) none)
of_goes uid name lines (Some n) none = goes_nowhere uid name (take (n - 1) lines) none

if_ok : {A E : Type 0} (r : Result A E) (P Q : A → Type 0) → ((x : A) → P x → Q x) → IfOk r P → IfOk r Q
if_ok (Ok x) P Q f h = f x h
if_ok (Err e) P Q f h = tt

abbrev pub Said : MissingLine → List JournalLine → Option ℕ → Type 0
Said mend lines found = MatchOption found (MendsNowhere mend lines) (λ n. MendsNowhere mend (take (n - 1) lines))

pub came_said : {E : Type 0} (mend : MissingLine) (uid from : Text) (lines : List JournalLine) (first : FirstLines) (r : Result (Option ℕ) E) → mend ≡ CameFrom uid from → AreFirst lines (length lines) first
    → IfOk r (λ found. found ≡ tree.get pair_cmp first.came (uid, from)) → IfOk r (Said mend lines)
came_said mend uid from lines first r is are = if_ok r (λ found. found ≡ tree.get pair_cmp first.came (uid, from)) (Said mend lines)
    (λ found same. subst (λ m. Said m lines found) (sym is) (of_came uid from lines found (subst (IsFirst (says_came (uid, from)) lines (length lines)) (sym same) (are.came (uid, from)))))

pub goes_said : {E : Type 0} (mend : MissingLine) (uid name : Text) (lines : List JournalLine) (first : FirstLines) (r : Result (Option ℕ) E) → mend ≡ GoesOn uid name → AreFirst lines (length lines) first
    → IfOk r (λ found. found ≡ tree.get pair_cmp first.goes (uid, name)) → IfOk r (Said mend lines)
goes_said mend uid name lines first r is are = if_ok r (λ found. found ≡ tree.get pair_cmp first.goes (uid, name)) (Said mend lines)
    (λ found same. subst (λ m. Said m lines found) (sym is) (of_goes uid name lines found (subst (IsFirst (says_goes (uid, name)) lines (length lines)) (sym same) (are.goes (uid, name)))))

-- what is said of the lines before a cut is said of these
pub so_of : {E : Type 0} (r : Result Bool E) (mend : MissingLine) (lines rest : List JournalLine) → rest ≡ lines → IfOk r (λ yes. IsTrue yes → MendsNowhere mend lines) → IfOk r (λ yes. IsTrue yes → MendsNowhere mend rest)
so_of r mend lines rest is = if_ok r (λ yes. IsTrue yes → MendsNowhere mend lines) (λ yes. IsTrue yes → MendsNowhere mend rest) (λ yes h t. subst (MendsNowhere mend) (sym is) (h t))

-- ---- all journals

pub one_journal_more : (all : List FirstLines) (nodes : List NodeJournal) (first : FirstLines) (node : NodeJournal) → AreAllFirst all nodes → AreFirst node.lines (length node.lines) first → AreAllFirst (all ++ first ∷ []) (nodes ++ node ∷ [])
one_journal_more [] [] first node all one = (one, tt)
one_journal_more [] (n ∷ nodes) first node all one = absurd all
one_journal_more (f ∷ all) [] first node h one = absurd h
one_journal_more (f ∷ all) (n ∷ nodes) first node h one = (h.0, one_journal_more all nodes first node h.1 one)

pub all_long : (all : List FirstLines) (nodes : List NodeJournal) → AreAllFirst all nodes → length all ≡ length nodes
all_long [] [] h = refl
all_long [] (n ∷ nodes) h = absurd h
all_long (f ∷ all) [] h = absurd h
all_long (f ∷ all) (n ∷ nodes) h = ap suc (all_long all nodes h.1)

pub first_at : (all : List FirstLines) (nodes : List NodeJournal) (i : ℕ) (d first : FirstLines) (e node : NodeJournal) → AreAllFirst all nodes → i < length nodes → first ≡ get_or all i d → node ≡ get_or nodes i e
    → AreFirst node.lines (length node.lines) first
first_at [] [] i d first e node h lt is at = absurd (omega (arith, lt))
first_at [] (n ∷ nodes) i d first e node h lt is at = absurd h
first_at (f ∷ all) [] i d first e node h lt is at = absurd h
first_at (f ∷ all) (n ∷ nodes) zero d first e node h lt is at = let P : NodeJournal → FirstLines → Type 0 = λ x y. AreFirst x.lines (length x.lines) y in subst (λ x. P x first) (sym at) (subst (P n) (sym is) h.0)
first_at (f ∷ all) (n ∷ nodes) (suc i) d first e node h lt is at = first_at all nodes i d first e node h.1 (omega (arith, lt)) is at
