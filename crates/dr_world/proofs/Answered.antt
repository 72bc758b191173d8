-- What ledgers answer to steps, and what that leaves of a book.
use Rattle.std.proofs.Common.{◌≡◌, ◌⊎◌, List, [], ◌∷◌, Option, None, Some, Result, Ok, Err, inl, inr, refl, sym, ap, subst, ◌∙◌}
use Rattle.std.specs.Prelude.{Bool, true, false, if◌then◌else◌, IfErr, IfOk, MatchResult}
use Rattle.std.proofs.lemmas.Bool.{false≢true}
use Rattle.std.specs.BTreeMap as tree
use Rattle.std.specs.Option.{option_map}
use Rattle.dr_base.specs.Texts.{Text, text_cmp}
use Rattle.dr_route.specs.Routes.{local}
use Rattle.dr_plan_model.specs.Networks.{Network}
use Rattle.dr_plan_sound.specs.declared.certificate.Certificate.{Certificate}
use Rattle.dr_ledger.specs.declared.content.Job.{Job}
use Rattle.dr_ledger.specs.declared.item.Arrived.TheVariants.{New, Again}
use Rattle.dr_ledger.specs.declared.item.Instance.{Instance}
use Rattle.dr_ledger.specs.declared.fault.LedgerFault.TheVariants as ledger
use Rattle.dr_ledger.specs.declared.ledger.Ledger.{Ghosts}
use Rattle.dr_ledger.specs.Books.{Book, after, empty_book}
use Rattle.dr_ledger.specs.Items.{instance_of}
use Rattle.dr_ledger.specs.Laws.{Follows}
use Rattle.dr_ledger.specs.Pairs.{pair_cmp}
use Rattle.dr_ledger.specs.PlanRoutes.{plan_routing}
use Rattle.dr_ledger.specs.Replies.{Arrives, HasConflict, Reply, arrival_line}
use Rattle.dr_ledger.specs.Routings.{Routing}
use Rattle.dr_ledger.proofs.Maps.{texts, ties_itself}
use Rattle.dr_ledger.proofs.Wholes.{no_entry, no_member}
use Rattle.dr_session.specs.Ledgers.{Desk}
use Rattle.dr_node.specs.declared.node.Node.{Node}
use Rattle.dr_world_model.specs.Events.{HasNode}
use Rattle.dr_world_model.specs.Worlds.{same_text}
use Rattle.dr_world_tie.specs.ByteWorlds.{ByteWorld, StepNote, WorldStep, Submit, Away, Requeue, Drop, Forget, Refused, beginning, note_of, with_call}
use Rattle.dr_world.specs.declared.fault.WorldFault.{WorldFault}
use Rattle.dr_world.specs.declared.fault.WorldFault.TheVariants as fault
use Rattle.dr_world.specs.declared.steps.StepNote.{StepNote as Note}
use Rattle.dr_world.specs.declared.world.World.{World}
use Rattle.dr_world.specs.Answered.{EnteringIsAnswered, IsAnswered, IsAnsweredIf, IsUnansweredBy, armed_at, armed_for, armed_in, armed_of}
use Rattle.dr_world.specs.Nodes.{seat_of}
use Rattle.dr_world.specs.Played.{WhatEntersIsThere}
use Rattle.dr_world.specs.Shows.{ShowsBytes, desk_at}
use Rattle.dr_world.specs.Whole.{contents, noted}

-- ---- beside the bytes

same_for : (f g : Text → Bool) → ((name : Text) → f name ≡ g name) → (step : WorldStep) → armed_for f step ≡ armed_for g step
same_for f g same (Submit node item) = same node
same_for f g same (Away from to) = same from
same_for f g same (Requeue node uid dest) = same node
same_for f g same (Drop node uid dest) = same node
same_for f g same (Forget node uid) = same node
same_for f g same step = refl

module _ {L : Type 0} {l : Ghosts L} where
  shown_armed : (o : Option (Node L l)) → armed_of o ≡ (desk_at (option_map seat_of o)).armed
  shown_armed None = refl
  shown_armed (Some n) = refl

  -- what is answered in a world is answered in the world of bytes beside it
  pub answered_there : (w : World L l) (b : ByteWorld) → ShowsBytes (contents w) b → (step : WorldStep) (note : StepNote) → IsAnswered (armed_in w.nodes) step note → IsAnswered (armed_at b) step note
  answered_there w b s step note h =
      let same : (name : Text) → armed_in w.nodes name ≡ armed_at b name = λ name. shown_armed (tree.get text_cmp w.nodes name) ∙ sym (ap (λ (d : Desk). d.armed) (s.desks name)) in
      subst (λ (x : Bool). IsAnsweredIf (x ≡ true) note) (same_for (armed_in w.nodes) (armed_at b) same step) h

-- ---- what is made of an answer

-- a world goes on with just this note
abbrev GoesOnWith : Bool → Note → Result Note WorldFault → Type 0
GoesOnWith armed note r = MatchResult r (λ same. (same ≡ note) × IsAnsweredIf (armed ≡ true) (noted note)) (IsUnansweredBy armed (noted note))

pub went_on : (P : Note → Type 0) (armed : Bool) (note : Note) (r : Result Note WorldFault) → GoesOnWith armed note r → P note → IfOk r P
went_on P armed note (Ok same) h p = subst P (sym h.0) p
went_on P armed note (Err why) h p = tt

pub went_on_answered : (f : Text → Bool) (step : WorldStep) (armed : Bool) (note : Note) (r : Result Note WorldFault) → armed ≡ armed_for f step → GoesOnWith armed note r → IfOk r (λ n. IsAnswered f step (noted n))
went_on_answered f step armed note (Ok same) is h =
    let P : Bool × Note → Type 0 = λ p. IsAnsweredIf (p.0 ≡ true) (noted p.1) in
    subst P (λ j. (is j, sym h.0 j)) h.1
went_on_answered f step armed note (Err why) is h = tt

pub went_no_further : (P : Note → Type 0) (f : Text → Bool) (step : WorldStep) (armed : Bool) (note : Note) (r : Result Note WorldFault) → armed ≡ armed_for f step → GoesOnWith armed note r → P note
    → IfErr r (λ why. (why ≡ fault.Memory) ⊎ ((why ≡ fault.Store) × ((came : Note) × P came × (noted came ≡ Refused ledger.Store) × (armed_for f step ≡ false))))
went_no_further P f step armed note (Ok same) is h p = tt
went_no_further P f step armed note (Err why) is h p = elim h [
  | inl memory ↦ inl memory.0
  | inr store ↦ inr (store.0, (note, p, store.1, sym is ∙ store.2))
]

-- ---- an instance that enters

-- its answer follows from the book
follows : (armed : Bool) → armed ≡ false → (reply : Reply) → IsAnsweredIf (armed ≡ true) (note_of reply) → Follows reply
follows armed unarmed (Ok value) h = tt
follows armed unarmed (Err ledger.Store) h = false≢true (sym unarmed ∙ h)
follows armed unarmed (Err ledger.Memory) h = h
follows armed unarmed (Err ledger.NoLine) h = tt
follows armed unarmed (Err ledger.Conflict) h = tt
follows armed unarmed (Err ledger.NotWaiting) h = tt
follows armed unarmed (Err ledger.NotHeld) h = tt
follows armed unarmed (Err ledger.NotOver) h = tt

called_there : (b : ByteWorld) (node : Text) (t : Desk) → (with_call b node t).desks node ≡ t
called_there b node t = ap (λ (c : Bool). if c then t else b.desks node) (ties_itself texts node)

pub entering_is_answered : EnteringIsAnswered
entering_is_answered plan certificate b new node item note has unarmed (inl (its, (reply, t, h, is, made)), answer) =
    let answered : IsAnsweredIf (armed_at b node ≡ true) (note_of reply) = subst (λ (n : StepNote). IsAnsweredIf (armed_at b node ≡ true) n) is answer in
    let there : new.desks node ≡ t = ap (λ (z : ByteWorld). z.desks node) made ∙ called_there b node t in
    let P : Desk → Type 0 = λ d. Arrives (plan_routing plan node) local (instance_of item) (b.desks node).book reply d.book in
    (reply, follows (armed_at b node) unarmed reply answered, subst P (sym there) h.0)
entering_is_answered plan certificate b new node item note has unarmed (inr (none, skips), answer) = absurd (none has)

-- to an empty book it comes anew
comes_anew : (routing : Routing) (item : Instance) → routing.HasLine local item.key → (reply : Reply) (new : Book) → Follows reply → Arrives routing local item empty_book reply new
    → new ≡ after (arrival_line routing local item) empty_book
comes_anew routing item line (Ok New) new f h = h.2
comes_anew routing item line (Ok Again) new f h = absurd (no_member pair_cmp (local, item.uid) h.1)
comes_anew routing item line (Err ledger.NoLine) new f h = absurd (h.0 line)
comes_anew routing item line (Err ledger.Conflict) new f h = absurd (no_entry text_cmp item.uid h.1.0 h.1.1)
comes_anew routing item line (Err ledger.Store) new f h = absurd f
comes_anew routing item line (Err ledger.Memory) new f h = absurd f
comes_anew routing item line (Err ledger.NotWaiting) new f h = absurd h
comes_anew routing item line (Err ledger.NotHeld) new f h = absurd h
comes_anew routing item line (Err ledger.NotOver) new f h = absurd h

pub what_enters_is_there : WhatEntersIsThere
what_enters_is_there plan last certificate its node item changes new has line (note, mid, h, rest) =
    let e = entering_is_answered plan certificate beginning mid node item note has refl h in
    ap (λ (z : ByteWorld). (z.desks node).book) rest.3 ∙ comes_anew (plan_routing plan node) (instance_of item) line e.0 (mid.desks node).book e.1 e.2
