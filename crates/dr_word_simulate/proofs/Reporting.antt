-- What a world has after a run is what its report is of.
use Rattle.std.proofs.Common.{◌≡◌, ◌∙◌, ℕ, ◌+◌, ◌<◌, ◌≤◌, refl, sym, ap, subst, List, [], ◌∷◌, ◌++◌, Option, Some, None, append_assoc, get_or, length, take}
use Rattle.std.proofs.Math.Logic.{∥∥₁_map}
use Rattle.std.proofs.lemmas.List.{append-nil, take_all, take_more}
use Rattle.std.proofs.lemmas.Option.{none-some}
use Rattle.std.specs.Io.KnownBytes.{Appends}
use Rattle.std.specs.Prelude.{unwrap_or}
use Rattle.std.specs.Option.{option_map}
use Rattle.std.specs.BTreeMap as tree
use Rattle.dr_base.specs.Texts.{Text, text_cmp}
use Rattle.dr_ledger.specs.Books.{Book}
use Rattle.dr_ledger.specs.declared.ledger.Ledger.{Ghosts}
use Rattle.dr_plan_model.specs.Networks.{Network}
use Rattle.dr_plan_model.specs.Plans.{IsNode}
use Rattle.dr_node.specs.declared.node.Node.{Node}
use Rattle.dr_plan_sound.specs.declared.certificate.Certificate.{Certificate}
use Rattle.dr_site.specs.Parts.{IsPartOf}
use Rattle.dr_world.specs.declared.changing.Change.{Change}
use Rattle.dr_world.specs.declared.world.World.{World}
use Rattle.dr_world.specs.Nodes.{seat_of}
use Rattle.dr_world.specs.Reports.{IsReported, books_of}
use Rattle.dr_world.specs.Orders.{IsOrderedRun}
use Rattle.dr_world.specs.declared.order.WorldOrder.{WorldOrder}
use Rattle.dr_world.specs.declared.order.RefusedForeign.{RefusedForeign}
use Rattle.dr_world.proofs.Among.{last_in_force}
use Rattle.dr_world.proofs.Orders.{run_meant}
use Rattle.dr_world.specs.Shows.{Seat, desk_at}
use Rattle.dr_world.specs.Whole.{AllStand}
use Rattle.dr_world_tie.specs.ByteWorlds.{beginning}
use Rattle.dr_word_simulate.specs.Reported.{IsReportAfter, note_of, notes_of, refusal_of, refusals_of}

-- a node that has a book is there
seated_book : {L : Type 0} {l : Ghosts L} (o : Option (Node L l)) (book : Book) → option_map (λ (n : Node L l). l.book n.desk.ledger) o ≡ Some book → (n : Node L l) × (o ≡ Some n) × (l.book n.desk.ledger ≡ book)
seated_book None book of = absurd (none-some book of)
seated_book {L} {l} (Some n) book of = (n, refl, ap (λ x. unwrap_or x book) of)

-- and one that is there has a book
booked : {L : Type 0} {l : Ghosts L} (o : Option (Node L l)) (seat : Seat) → option_map seat_of o ≡ Some seat → (book : Book) × (option_map (λ (n : Node L l). l.book n.desk.ledger) o ≡ Some book)
booked None seat of = absurd (none-some seat of)
booked {L} {l} (Some n) seat of = (l.book n.desk.ledger, refl)

pub reported_after : {L : Type 0} {l : Ghosts L} (stands : (v : World L l) → AllStand v) (plan : Network) (certificate : Certificate) (orders : List WorldOrder) (changes : List Change) (refusals : List RefusedForeign) (others : List Text) (w : World L l) (text : Text) →
    IsOrderedRun plan certificate orders changes refusals others w → IsReported others (books_of w.nodes) (notes_of changes ++ refusals_of refusals) text → IsReportAfter plan certificate orders text
reported_after {L} {l} stands plan certificate orders changes refusals others w text (certified, (first, deeds, reached, ordered, run)) reported =
    let find : (name : Text) (book : Book) → books_of w.nodes name ≡ Some book → (n : Node L l) × (tree.get text_cmp w.nodes name ≡ Some n) × (l.book n.desk.ledger ≡ book) =
    λ name book of. seated_book (tree.get text_cmp w.nodes name) book of in
    record {
      deeds = deeds;
      changes = changes;
      refusals = refusals;
      others = others;
      ordered = run_meant stands plan certificate certified orders deeds changes refusals others first w reached ordered;
      books = books_of w.nodes;
      lines = reported.0;
      told = reported.1 ∙ append_assoc (notes_of changes) (refusals_of refusals) reported.0;
      reported = reported.2;
      after = ∥∥₁_map run.0 (λ r. record {
        last = r.0;
        own = r.1;
        is_in_force = last_in_force deeds changes plan r.0 certificate r.1 beginning r.3.0 r.3.1;
        nodes = λ name has. booked (tree.get text_cmp w.nodes name) (r.2.all name has).0 (r.2.all name has).1;
        only = λ name book of.
            let h : (n : Node L l) × (tree.get text_cmp w.nodes name ≡ Some n) × (l.book n.desk.ledger ≡ book) = find name book of in
            let seated : ((seat_of h.0).site.name ≡ name) × IsPartOf r.0 r.1 (seat_of h.0).site = r.2.each name (seat_of h.0) (ap (option_map seat_of) h.1) in
            (seated.1.node.0, subst (λ of. IsNode r.0 of seated.1.node.0) seated.0 seated.1.node.1.0);
        world = r.3.0;
        leads = r.3.1;
        shown = λ name book of.
            let h : (n : Node L l) × (tree.get text_cmp w.nodes name ≡ Some n) × (l.book n.desk.ledger ≡ book) = find name book of in
            ap (λ d. d.book) (r.3.2.desks name ∙ ap (λ o. desk_at (option_map seat_of o)) h.1) ∙ h.2;
      });
      holds = λ none. ∥∥₁_map (run.1 none) (λ v. (v.0, (λ name book of. v.2 name (find name book of).0 (find name book of).1 ∙ (find name book of).2), v.3, v.4));
      among = λ ours fits. ∥∥₁_map (run.2 ours fits) (λ v. (v.0, (λ name book of mine. v.1 name (find name book of).0 (find name book of).1 mine ∙ (find name book of).2), v.2, v.3));
    }

-- one more change is told
pub notes_behind : (changes : List Change) (change : Change) → notes_of (changes ++ change ∷ []) ≡ notes_of changes ++ note_of change
notes_behind [] change = append-nil (note_of change)
notes_behind (other ∷ changes) change = ap (λ (text : Text). note_of other ++ text) (notes_behind changes change) ∙ sym (append_assoc (note_of other) (notes_of changes) (note_of change))

pub note_more : (changes : List Change) (i : ℕ) (change : Change) (out now new : Text) → i < length changes → change ≡ get_or changes i change
    → now ≡ out ++ notes_of (take i changes) → new ≡ now ++ note_of change → new ≡ out ++ notes_of (take (i + 1) changes)
note_more changes i change out now new less is so_far told =
    let further : take (i + 1) changes ≡ take i changes ++ change ∷ [] = take_more changes i change less ∙ ap (λ (x : Change). take i changes ++ x ∷ []) (sym is) in
    told ∙ ap (λ (text : Text). text ++ note_of change) so_far ∙ append_assoc out (notes_of (take i changes)) (note_of change)
    ∙ ap (λ (text : Text). out ++ text) (sym (notes_behind (take i changes) change) ∙ ap notes_of (sym further))

pub notes_all : (changes : List Change) (i : ℕ) (out new : Text) → length changes ≤ i → new ≡ out ++ notes_of (take i changes) → new ≡ out ++ notes_of changes
notes_all changes i out new all so_far = so_far ∙ ap (λ (cs : List Change). out ++ notes_of cs) (take_all i changes all)

-- the same of what is refused
refusals_behind : (refusals : List RefusedForeign) (one : RefusedForeign) → refusals_of (refusals ++ one ∷ []) ≡ refusals_of refusals ++ refusal_of one
refusals_behind [] one = append-nil (refusal_of one)
refusals_behind (other ∷ refusals) one = ap (λ (text : Text). refusal_of other ++ text) (refusals_behind refusals one) ∙ sym (append_assoc (refusal_of other) (refusals_of refusals) (refusal_of one))

pub refusal_more : (refusals : List RefusedForeign) (i : ℕ) (one : RefusedForeign) (out now new : Text) → i < length refusals → one ≡ get_or refusals i one
    → now ≡ out ++ refusals_of (take i refusals) → new ≡ now ++ refusal_of one → new ≡ out ++ refusals_of (take (i + 1) refusals)
refusal_more refusals i one out now new less is so_far told =
    let further : take (i + 1) refusals ≡ take i refusals ++ one ∷ [] = take_more refusals i one less ∙ ap (λ (x : RefusedForeign). take i refusals ++ x ∷ []) (sym is) in
    told ∙ ap (λ (text : Text). text ++ refusal_of one) so_far ∙ append_assoc out (refusals_of (take i refusals)) (refusal_of one)
    ∙ ap (λ (text : Text). out ++ text) (sym (refusals_behind (take i refusals) one) ∙ ap refusals_of (sym further))

pub refusals_all : (refusals : List RefusedForeign) (i : ℕ) (out new : Text) → length refusals ≤ i → new ≡ out ++ refusals_of (take i refusals) → new ≡ out ++ refusals_of refusals
refusals_all refusals i out new all so_far = so_far ∙ ap (λ (rs : List RefusedForeign). out ++ refusals_of rs) (take_all i refusals all)

-- a piece, and what was added behind it
pub chained : (old first behind mid new : List ℕ) → mid ≡ old ++ first → new ≡ mid ++ behind → new ≡ old ++ (first ++ behind)
chained old first behind mid new before later = later ∙ (ap (λ (text : List ℕ). text ++ behind) before ∙ append_assoc old first behind)

-- an output to which nothing is written has what it had
pub nothing_added : (o : Option (List ℕ)) → Appends o o []
nothing_added None = tt
nothing_added (Some held) = sym (append-nil held)
