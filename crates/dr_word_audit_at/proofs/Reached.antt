-- Cuts that are moved one after another.
use Rattle.std.proofs.Common.{◌≡◌, ◌∙◌, ◌<◌, ◌≤◌, ◌+◌, ◌++◌, ℕ, zero, suc, true, false, Bool, cond, List, [], ◌∷◌, Contains, drop, get_or, length, take, inl, inr, refl, sym, ap, subst, arith}
use Rattle.std.specs.Str.{bytes_eq}
use Rattle.dr_base.specs.Texts.{Text}
use Rattle.dr_plan_model.specs.Networks.{Network}
use Rattle.dr_plan_model.specs.declared.plan.Format.TheVariants.{One}
use Rattle.dr_ledger_history.specs.declared.line.JournalLine.{JournalLine}
use Rattle.dr_world_audit.specs.Sites.{Audits}
use Rattle.dr_world_audit.specs.declared.audit.AuditVerdict.{AuditVerdict}
use Rattle.dr_world_audit.specs.declared.audit.NodeJournal.{NodeJournal}
use Rattle.dr_word_audit_at.specs.declared.cutting.MissingLine.{MissingLine}
use Rattle.dr_word_audit_at.specs.Cuts.{AreMoves, AreNoEarlier, AreReached, HasLine, IsMove, MendsNowhere, Moves, MovesFor, RestsOn, cut_at, cuts, lines_named, put_on}

-- ---- no cut goes back

pub no_earlier : (ns : List ℕ) → AreNoEarlier ns ns
no_earlier [] = tt
no_earlier (n ∷ ns) = (omega arith, no_earlier ns)

pub and_later : (a b c : List ℕ) → AreNoEarlier a b → AreNoEarlier b c → AreNoEarlier a c
and_later [] [] [] h k = tt
and_later [] [] (z ∷ c) h k = absurd k
and_later [] (y ∷ b) c h k = absurd h
and_later (x ∷ a) [] c h k = absurd h
and_later (x ∷ a) (y ∷ b) [] h k = absurd k
and_later (x ∷ a) (y ∷ b) (z ∷ c) h k =
    let one = h.0 in
    let two = k.0 in (omega (arith, one, two), and_later a b c h.1 k.1)

later_long : (a b : List ℕ) → AreNoEarlier a b → length b ≡ length a
later_long [] [] h = refl
later_long [] (y ∷ b) h = absurd h
later_long (x ∷ a) [] h = absurd h
later_long (x ∷ a) (y ∷ b) h = ap suc (later_long a b h.1)

later_at : (a b : List ℕ) (i : ℕ) → AreNoEarlier a b → get_or a i 0 ≤ get_or b i 0
later_at [] [] i h = omega arith
later_at [] (y ∷ b) i h = absurd h
later_at (x ∷ a) [] i h = absurd h
later_at (x ∷ a) (y ∷ b) zero h = h.0
later_at (x ∷ a) (y ∷ b) (suc i) h = later_at a b i h.1

put_later : (name : Text) (more : ℕ) (ns : List ℕ) (read : List NodeJournal) → AreNoEarlier ns (put_on name more ns read)
put_later name more [] read = tt
put_later name more (n ∷ ns) [] = no_earlier (n ∷ ns)
put_later name more (n ∷ ns) (node ∷ read) = go (bytes_eq node.name name) (put_later name more ns read)
  where
    go : (b : Bool) → AreNoEarlier ns (put_on name more ns read) → AreNoEarlier (n ∷ ns) (cond b ((n + more) ∷ ns) (n ∷ put_on name more ns read))
    go true rest = (omega arith, no_earlier ns)
    go false rest = (omega arith, rest)

-- ---- moves, one after another

module _ (plan : Network) (read : List NodeJournal) where
  move_later : (old new : List ℕ) → IsMove plan read old new → AreNoEarlier old new
  move_later old new move = subst (AreNoEarlier old) (sym move.moves.2) (put_later move.at move.moves.0 old read)

  moves_later : (steps : List (List ℕ)) (first at : List ℕ) → AreMoves plan read first steps at → AreNoEarlier first at
  moves_later [] first at h = subst (AreNoEarlier first) (sym h) (no_earlier first)
  moves_later (next ∷ steps) first at h = and_later first next at (move_later first next h.0) (moves_later steps next at h.1)

  join : (steps more : List (List ℕ)) (first mid at : List ℕ) → AreMoves plan read first steps mid → AreMoves plan read mid more at → AreMoves plan read first (steps ++ more) at
  join [] more first mid at h k = subst (λ (ns : List ℕ). AreMoves plan read ns more at) h k
  join (next ∷ steps) more first mid at h k = (h.0, join steps more next mid at h.1 k)

  pub stays : (at : List ℕ) → AreReached plan read at at
  stays at = ([], refl)

  pub reached_later : (first at : List ℕ) → AreReached plan read first at → AreNoEarlier first at
  reached_later first at h = moves_later h.0 first at h.1

  pub reached_on : (first mid at : List ℕ) → AreReached plan read first mid → AreReached plan read mid at → AreReached plan read first at
  reached_on first mid at h k = (h.0 ++ k.0, join h.0 k.0 first mid at h.1 k.1)

  pub by_move : (old new : List ℕ) → IsMove plan read old new → AreReached plan read old new
  by_move old new move = (new ∷ [], (move, refl))

  -- a cut that is moved for a mismatch
  pub by_verdict : (came : AuditVerdict) (old new : List ℕ) → Audits plan (cuts old read) came → MovesFor read came old new true → IsMove plan read old new
  by_verdict came old new audited m = record {
    mend = m.1;
    at = m.2;
    wanted = inr (record { mismatch = m.0; fails = subst (Audits plan (cuts old read)) m.3 audited; lacks = m.4 });
    moves = m.5;
  }

  -- or for a line
  pub by_line : (old new : List ℕ) (name at : Text) (line : JournalLine) (mend : MissingLine) (b : Bool) → HasLine (cuts old read) name line → RestsOn name line mend at → MendsNowhere mend (lines_named at (cuts old read)) → Moves mend at read old new b → AreReached plan read old new
  by_line old new name at line mend true has rests lacking moves =
      by_move old new (record { mend = mend; at = at; wanted = inl (record { name = name; line = line; has = has; rests = rests; lacking = lacking }); moves = moves })
  by_line old new name at line mend false has rests lacking moves = subst (AreReached plan read old) (sym moves.0) (stays old)

-- cuts that are reached are as many
pub reached_long : (plan : Network) (read : List NodeJournal) (first at : List ℕ) → AreReached plan read first at → length at ≡ length first
reached_long plan read first at h = later_long first at (reached_later plan read first at h)

-- ---- what is before a cut stays before it

taken_more : {X : Type 0} (a b : ℕ) (xs : List X) (x : X) → a ≤ b → Contains (take a xs) x → Contains (take b xs) x
taken_more zero b xs x le (k, low, same) = absurd (omega (arith, low))
taken_more (suc a) zero xs x le there = absurd (omega (arith, le))
taken_more (suc a) (suc b) [] x le (k, low, same) = absurd (omega (arith, low))
taken_more (suc a) (suc b) (y ∷ xs) x le (zero, low, same) = (0, omega arith, same)
taken_more (suc a) (suc b) (y ∷ xs) x le (suc k, low, same) =
    let more = taken_more a b xs x (omega (arith, le)) (k, omega (arith, low), same) in
    let within = more.1 in (suc more.0, omega (arith, within), more.2)

behind_has : {X : Type 0} (n : ℕ) (xs : List X) (x : X) → Contains (drop n xs) x → Contains xs x
behind_has zero xs x there = there
behind_has (suc n) [] x (k, low, same) = absurd (omega (arith, low))
behind_has (suc n) (y ∷ xs) x there =
    let more = behind_has n xs x there in
    let within = more.1 in (suc more.0, omega (arith, within), more.2)

one_later : (node : NodeJournal) (nodes : List NodeJournal) (name : Text) (line : JournalLine) → HasLine nodes name line → HasLine (node ∷ nodes) name line
one_later node nodes name line h =
    let within = h.1.1 in (h.0, (suc h.1.0, omega (arith, within), h.1.2), h.2, h.3)

still_has : (old new : List ℕ) (read : List NodeJournal) (name : Text) (line : JournalLine) → AreNoEarlier old new → HasLine (cuts old read) name line → HasLine (cuts new read) name line
still_has [] new read name line le h = let within = h.1.1 in absurd (omega (arith, within))
still_has (a ∷ old) [] read name line le h = absurd le
still_has (a ∷ old) (b ∷ new) [] name line le h = let within = h.1.1 in absurd (omega (arith, within))
still_has (a ∷ old) (b ∷ new) (x ∷ read) name line le (node, (zero, low, same), has, named) = (
  cut_at b x,
  (0, omega arith, refl),
  taken_more a b x.lines line le.0 (subst (λ (n : NodeJournal). Contains n.lines line) (sym same) has),
  ap (λ (n : NodeJournal). n.name) same ∙ named,
)
still_has (a ∷ old) (b ∷ new) (x ∷ read) name line le (node, (suc k, low, same), has, named) =
    one_later (cut_at b x) (cuts new read) name line (still_has old new read name line le.1 (node, (k, omega (arith, low), same), has, named))

-- the lines before a cut are those of the node
at_cut : (ns : List ℕ) (read : List NodeJournal) (i : ℕ) (d node : NodeJournal) (line : JournalLine) → length ns ≡ length read → i < length read → node ≡ get_or read i d → Contains (take (get_or ns i 0) node.lines) line
    → HasLine (cuts ns read) node.name line
at_cut ns [] i d node line long lt is has = absurd (omega (arith, lt))
at_cut [] (x ∷ read) i d node line long lt is has = absurd (omega (arith, long))
at_cut (n ∷ ns) (x ∷ read) zero d node line long lt is has =
    (cut_at n x, (0, omega arith, refl), subst (λ (y : NodeJournal). Contains (take n y.lines) line) is has, ap (λ (y : NodeJournal). y.name) (sym is))
at_cut (n ∷ ns) (x ∷ read) (suc i) d node line long lt is has = one_later (cut_at n x) (cuts ns read) node.name line (at_cut ns read i d node line (omega (arith, long)) (omega (arith, lt)) is has)

-- and so are those between two earlier cuts
pub between_cuts : (to ns : List ℕ) (read : List NodeJournal) (i from : ℕ) (d node : NodeJournal) (line : JournalLine) → AreNoEarlier to ns → length ns ≡ length read → i < length read → node ≡ get_or read i d
    → Contains (drop from (take (get_or to i 0) node.lines)) line → HasLine (cuts ns read) node.name line
between_cuts to ns read i from d node line le long lt is has =
    at_cut ns read i d node line long lt is (taken_more (get_or to i 0) (get_or ns i 0) node.lines line (later_at to ns i le) (behind_has from (take (get_or to i 0) node.lines) line has))

pub has_still : (plan : Network) (old new : List ℕ) (read : List NodeJournal) (name : Text) (line : JournalLine) → AreReached plan read old new → HasLine (cuts old read) name line → HasLine (cuts new read) name line
has_still plan old new read name line reached = still_has old new read name line (reached_later plan read old new reached)

-- ---- whatever the plan is

some_plan : Network
some_plan = record { format = One; nodes = []; flows = []; digest = [] }

module _ (read : List NodeJournal) (old new : List ℕ) (reached : (plan : Network) → AreReached plan read old new) where
  pub any_later : AreNoEarlier old new
  any_later = reached_later some_plan read old new (reached some_plan)

  pub any_long : length old ≡ length read → length new ≡ length read
  any_long same = reached_long some_plan read old new (reached some_plan) ∙ same

  pub any_has : (name : Text) (line : JournalLine) → HasLine (cuts old read) name line → HasLine (cuts new read) name line
  any_has name line h = has_still some_plan old new read name line (reached some_plan) h
