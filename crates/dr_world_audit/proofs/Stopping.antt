-- Why the reading of journals ends, and how it goes on.
use Rattle.std.specs.Prelude.{Bool, true, false, ◌≡◌, ℕ, ◌<◌, List, [], ◌∷◌, ◌++◌, length, get_or, Contains, None, Err, Result, Ok, MatchResult}
use Rattle.std.specs.Prelude.{map as mapped}
use Rattle.std.proofs.Common.{refl, sym, ap, subst, ◌∙◌}
use Rattle.std.proofs.lemmas.List.{append-nil, append_assoc}
use Rattle.std.proofs.lemmas.List.Elements.{Contains-push_cases}
use mathlib.Core.Logic.{inl, inr}
use Rattle.dr_base.specs.Texts.{Text}
use Rattle.dr_plan_model.specs.Networks.{Network}
use Rattle.dr_plan_model.proofs.Gathered.{nothing_in_nil, Contains-cons_cases, Contains-here, Contains-there}
use Rattle.dr_ledger_history.specs.Lines.{line_of}
use Rattle.dr_ledger.specs.declared.item.Outcome.{Outcome}
use Rattle.dr_ledger.specs.declared.item.Outcome.TheVariants.{Status, Broken, NoContext, Unreadable}
use Rattle.dr_ledger_history.specs.declared.line.JournalLine.{JournalLine}
use Rattle.dr_ledger_history.specs.declared.line.JournalLine.TheVariants as told
use Rattle.dr_world_model.specs.Claims.{IsFairOutcome}
use Rattle.dr_world_audit.specs.declared.audit.AuditFault.{AuditFault}
use Rattle.dr_world_audit.specs.declared.audit.AuditFault.TheVariants as fault
use Rattle.dr_world_audit.specs.declared.audit.Mismatch.{Mismatch}
use Rattle.dr_world_audit.specs.declared.audit.AuditVerdict.{AuditVerdict}
use Rattle.dr_world_audit.specs.declared.audit.AuditVerdict.TheVariants as verdicts
use Rattle.dr_world_audit.specs.declared.audit.NodeJournal.{NodeJournal}
use Rattle.dr_world_audit.specs.declared.audit.AuditStop.{AuditStop}
use Rattle.dr_world_audit.specs.declared.audit.AuditStop.TheVariants as stop
use Rattle.dr_world_audit.specs.declared.trail.Trail.{Trail}
use Rattle.dr_world_audit.specs.Hops.{Notes}
use Rattle.dr_world_audit.specs.Sites.{AreRead, FirstUnfair, IsNotFair, IsUnfair, NotesNode, ShowsNode, all_of, is_fair, lines_at}
use Rattle.dr_world_audit.specs.Stops.{AllFair, IsFaultOf, IsVerdictOf, ReadsAll, ReadsNode, RefusesNode, TestsAnswers}
use Rattle.dr_world_audit.proofs.Lists.{notes_nothing, notes_on}
use Rattle.dr_world_journals.specs.Hops.{Hop, came_to, done_at, sent_from}
use Rattle.dr_ledger.specs.PlanRoutes.{plan_routing}

pub mapped_has : {X Y : Type 0} (f : X → Y) (xs : List X) (x : X) → Contains xs x → Contains (mapped f xs) (f x)
mapped_has f [] x h = absurd (nothing_in_nil x h)
mapped_has f (first ∷ xs) x h = elim (Contains-cons_cases first xs x h) [
  | inl same ↦ (let P : _ → Type 0 = λ y. Contains (f first ∷ mapped f xs) (f y) in subst P same (Contains-here (f first) (mapped f xs)))
  | inr later ↦ Contains-there (f first) (mapped f xs) (f x) (mapped_has f xs x later)
]

pub mapped_from : {X Y : Type 0} (f : X → Y) (xs : List X) (y : Y) → Contains (mapped f xs) y → (x : X) × Contains xs x × (y ≡ f x)
mapped_from f [] y h = absurd (nothing_in_nil y h)
mapped_from f (first ∷ xs) y h = elim (Contains-cons_cases (f first) (mapped f xs) y h) [
  | inl same ↦ (first, Contains-here first xs, sym same)
  | inr later ↦ (let m = mapped_from f xs y later in (m.0, Contains-there first xs m.0 m.1, m.2))
]

pub all_fair : (ours : List Text) (node : NodeJournal) → FirstUnfair ours node.lines None → AllFair ours node
all_fair ours node none line h unfair =
    let m = mapped_from line_of node.lines line h in
    none m.0 m.1 (subst (IsUnfair ours) m.2 unfair)

-- ---- all nodes
pub all_push : (hops : NodeJournal → List Hop) (nodes : List NodeJournal) (one : NodeJournal) → all_of hops (nodes ++ one ∷ []) ≡ all_of hops nodes ++ hops one
all_push hops [] one = append-nil (hops one)
all_push hops (node ∷ nodes) one = ap (λ hs. hops node ++ hs) (all_push hops nodes one) ∙ sym (append_assoc (hops node) (all_of hops nodes) (hops one))

module _ (plan : Network) (ours : List Text) where
  abbrev came_at : NodeJournal → List Hop
  came_at node = came_to node.name (lines_at node)

  abbrev sent_at : NodeJournal → List Hop
  sent_at node = sent_from (plan_routing plan node.name) node.name (lines_at node)

  abbrev answered_at : NodeJournal → List Hop
  answered_at node = done_at node.name (lines_at node)

  pub none_read : (t : Trail) → AreRead plan ours [] t t
  none_read t = record { each = λ node h. absurd (nothing_in_nil node h); notes = notes_nothing t }

  pub read_more : (nodes : List NodeJournal) (one : NodeJournal) (old mid new : Trail) → AreRead plan ours nodes old mid → ShowsNode plan ours one × NotesNode plan one mid new → AreRead plan ours (nodes ++ one ∷ []) old new
  read_more nodes one old mid new so_far now = record {
    each = λ node h. elim (Contains-push_cases nodes one node h) [ inl was ↦ so_far.each node was | inr same ↦ subst (ShowsNode plan ours) same now.0 ];
    notes = (
        let all = notes_on old (all_of came_at nodes) (all_of sent_at nodes) (all_of answered_at nodes) mid (came_at one) (sent_at one) (answered_at one) new so_far.notes now.1 in
        let P : List Hop × List Hop × List Hop → Type 0 = λ p. Notes old p.0 p.1 p.2 new in
        subst P (λ j. (sym (all_push came_at nodes one) j, sym (all_push sent_at nodes one) j, sym (all_push answered_at nodes one) j)) all
        );
  }

  pub all_stop : (nodes : List NodeJournal) (one : NodeJournal) → Contains nodes one → (old mid new : Trail) (s : AuditStop) → ReadsNode plan ours one mid new (Err s) → ReadsAll plan ours nodes old new (Err s)
  all_stop nodes one among old mid new (stop.No mismatch) fails = (one, among, fails)
  all_stop nodes one among old mid new (stop.Fault fault.NoNode) fails = (one, among, fails)
  all_stop nodes one among old mid new (stop.Fault fault.Twice) fails = absurd fails
  all_stop nodes one among old mid new (stop.Fault fault.Memory) fails = tt

pub among_at : (nodes : List NodeJournal) (i : ℕ) (one : NodeJournal) → i < length nodes → one ≡ get_or nodes i one → Contains nodes one
among_at nodes i one lt is = (i, lt, sym is)

-- ---- what is fair
pub is_fair_of : (outcome : Outcome) → IsFairOutcome outcome → is_fair outcome ≡ true
is_fair_of (Status status) (inl z) = (let P : ℕ → Type 0 = λ s. is_fair (Status s) ≡ true in subst P (sym z) refl)
is_fair_of (Status status) (inr (inl a)) = (let P : ℕ → Type 0 = λ s. is_fair (Status s) ≡ true in subst P (sym a) refl)
is_fair_of (Status status) (inr (inr c)) = (let P : ℕ → Type 0 = λ s. is_fair (Status s) ≡ true in subst P (sym c) refl)
is_fair_of Broken h = refl
is_fair_of NoContext h = absurd h
is_fair_of Unreadable h = refl

-- a line that isn't fair
pub settled_unfair : (ours : List Text) (node : NodeJournal) (line : JournalLine) (uid dest : Text) (outcome : Outcome) (now : ℕ) → line ≡ told.Settling uid dest outcome now → (a b n : Text) → a ≡ uid → b ≡ dest → n ≡ node.name →
    Contains node.lines line → IsUnfair ours (line_of line) → (n ≡ node.name) × Contains ours b × IsNotFair node a b
settled_unfair ours node line uid dest outcome now is a b n first second named among unfair =
    let P : JournalLine → Type 0 = λ l. Contains node.lines l × IsUnfair ours (line_of l) in
    let both = subst P is (among, unfair) in
    let Q : Text × Text → Type 0 = λ p. (n ≡ node.name) × Contains ours p.1 × IsNotFair node p.0 p.1 in
    subst Q (λ j. (sym first j, sym second j)) (
      named,
      both.1.1,
      record {
        outcome = outcome;
        now = now;
        line = mapped_has line_of node.lines (told.Settling uid dest outcome now) both.0;
        unfair = λ fair. differ (is_fair_of outcome fair) both.1.0;
      },
    )
  where
    differ : {t : Bool} → t ≡ true → t ≡ false → ⊥
    differ h k = (let e : true ≡ false = sym h ∙ k in cc e)

-- the verdict of a stop
pub stopped : (P : AuditVerdict → Type 0) (s : AuditStop) (v : AuditVerdict) → IsVerdictOf s v → ((told : Mismatch) → s ≡ stop.No told → P (verdicts.No told)) → P v
stopped P (stop.No mismatch) v is each = subst P (sym is) (each mismatch refl)
stopped P (stop.Fault why) v is each = absurd is

-- what holds of each such verdict and fault, holds of what is given
pub if_so : (P Q : AuditVerdict → Type 0) (R S : AuditFault → Type 0) (result : Result AuditVerdict AuditFault) → MatchResult result P R → ((v : AuditVerdict) → P v → Q v) → ((why : AuditFault) → R why → S why) → MatchResult result Q S
if_so P Q R S (Ok v) h each other = each v h
if_so P Q R S (Err why) h each other = other why h

-- the fault of a stop
pub faulted : (P : AuditFault → Type 0) (s : AuditStop) (why : AuditFault) → IsFaultOf s why → ((other : AuditFault) → s ≡ stop.Fault other → P other) → P why
faulted P (stop.No mismatch) why is each = absurd is
faulted P (stop.Fault other) why is each = subst P (sym is) (each other refl)

-- what the answers show, the reading shows
pub tested : (plan : Network) (ours : List Text) (node : NodeJournal) (old new : Trail) (s : AuditStop) → TestsAnswers plan ours node (Err s) → ReadsNode plan ours node old new (Err s)
tested plan ours node old new (stop.No mismatch) t = t
tested plan ours node old new (stop.Fault why) t = subst (RefusesNode plan node) (sym t) tt
