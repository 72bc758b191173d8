-- A call on the ledger of one node of a world.
use Rattle.std.proofs.Common.{◌≡◌, Bool, true, false, cond, Option, None, Some, IsSome, refl, sym, ap, subst, ◌∙◌, inl, inr}
use Rattle.std.specs.Option.{option_map}
use Rattle.std.specs.Cmp.{eq_by_cmp_equiv}
use Rattle.std.specs.BTreeMap as tree
use Rattle.std.specs.BTreeMap.{BTreeMap, is_at}
use Rattle.dr_base.specs.Texts.{Text, text_cmp}
use Rattle.dr_ledger.specs.declared.ledger.Ledger.{Ghosts}
use Rattle.dr_ledger.proofs.Maps.{texts, same_or_not, ties_itself}
use Rattle.dr_session.specs.Ledgers.{Desk, desk}
use Rattle.dr_node.specs.declared.node.Node.{Node}
use Rattle.dr_world_model.specs.Worlds.{same_text}
use Rattle.dr_world.specs.declared.steps.StepNote.{StepNote}
use Rattle.dr_world.specs.declared.steps.StepNote.TheVariants.{Skipped}
use Rattle.dr_world.specs.declared.world.World.{World}
use Rattle.dr_world.specs.Shows.{Seat, with_desk_of}
use Rattle.dr_world.specs.Laws.{with_seats}
use Rattle.dr_world.specs.Nodes.{seat_of}
use Rattle.dr_world.specs.Whole.{AllStand, Calls, CallsIn, contents}

module _ {L : Type 0} {l : Ghosts L} (does : Seat → StepNote → Desk → Type 0) (w : World L l) (nodes : BTreeMap Text (Node L l)) (name : Text) where
  -- the world with these nodes
  abbrev pub with_nodes : World L l
  with_nodes = record { alloc = w.alloc; time = w.time; opened = w.opened; nodes = nodes; wires = w.wires; lost = w.lost }

  pub uncalled : None ≡ tree.get text_cmp w.nodes name → nodes ≡ w.nodes → Calls does name w Skipped with_nodes
  uncalled none same =
      let P : Option (Node L l) → Type 0 = λ o. CallsIn does o name w Skipped with_nodes in
      subst P none (refl, ap (λ (m : BTreeMap Text (Node L l)). contents (let v : World L l = record { alloc = w.alloc; time = w.time; opened = w.opened; nodes = m; wires = w.wires; lost = w.lost } in v)) same, same)

  module _ (n after : Node L l) (note : StepNote) (has : Some n ≡ tree.get text_cmp w.nodes name)
      (updates : (q : Text) → tree.get text_cmp nodes q ≡ cond (is_at (text_cmp name) q) (Some after) (tree.get text_cmp w.nodes q))
      (links : after.links ≡ n.links) (site : l.site after.desk.ledger ≡ l.site n.desk.ledger) (stood : l.stands after.desk.ledger → l.stands n.desk.ledger) where
    now_at : (q : Text) → tree.get text_cmp nodes q ≡ cond (same_text q name) (Some after) (tree.get text_cmp w.nodes q)
    now_at q = updates q ∙ ap (λ (b : Bool). cond b (Some after) (tree.get text_cmp w.nodes q)) ((eq_by_cmp_equiv texts.total).symm name q)

    now_here : tree.get text_cmp nodes name ≡ Some after
    now_here = now_at name ∙ ap (λ (b : Bool). cond b (Some after) (tree.get text_cmp w.nodes name)) (ties_itself texts name)

    now_there : (q : Text) → same_text q name ≡ false → tree.get text_cmp nodes q ≡ tree.get text_cmp w.nodes q
    now_there q apart = now_at q ∙ ap (λ (b : Bool). cond b (Some after) (tree.get text_cmp w.nodes q)) apart

    one_node : (q : Text) (m : Node L l) → q ≡ name → tree.get text_cmp w.nodes q ≡ Some m → n ≡ m
    one_node q m same is = let e : Some n ≡ Some m = has ∙ (ap (tree.get text_cmp w.nodes) (sym same) ∙ is) in cc

    all_stood : AllStand with_nodes → AllStand w
    all_stood all q m is = elim (same_or_not texts q name) [
      | inl same ↦ subst (λ (x : Node L l). l.stands x.desk.ledger) (one_node q m same is) (stood (all name after now_here))
      | inr apart ↦ all q m (now_there q apart ∙ is)
    ]

    abbrev t : Desk
    t = desk (l.book after.desk.ledger) (l.armed after.desk.ledger)

    seat_is : seat_of after ≡ with_desk_of (seat_of n) (desk (l.book after.desk.ledger) (l.armed after.desk.ledger))
    seat_is = λ i. record { site = site i; sides = links i; desk = desk (l.book after.desk.ledger) (l.armed after.desk.ledger) }

    by_name : (q : Text) (b : Bool) → option_map seat_of (cond b (Some after) (tree.get text_cmp w.nodes q))
        ≡ cond b (Some (with_desk_of (seat_of n) (desk (l.book after.desk.ledger) (l.armed after.desk.ledger)))) (option_map seat_of (tree.get text_cmp w.nodes q))
    by_name q true = ap Some seat_is
    by_name q false = refl

    seats_are : (q : Text) → option_map seat_of (tree.get text_cmp nodes q)
        ≡ cond (same_text q name) (Some (with_desk_of (seat_of n) (desk (l.book after.desk.ledger) (l.armed after.desk.ledger)))) (option_map seat_of (tree.get text_cmp w.nodes q))
    seats_are q = ap (option_map seat_of) (now_at q) ∙ by_name q (same_text q name)

    contents_are : contents with_nodes ≡ with_seats (contents w) name (with_desk_of (seat_of n) (desk (l.book after.desk.ledger) (l.armed after.desk.ledger)))
    contents_are = λ i. record { now = w.time.passed; opened = w.opened; seats = λ q. seats_are q i; wires = (contents w).wires }

    pub called : (l.stands after.desk.ledger → does (seat_of n) note (desk (l.book after.desk.ledger) (l.armed after.desk.ledger))) → Calls does name w note with_nodes
    called done =
        let P : Option (Node L l) → Type 0 = λ o. CallsIn does o name w note with_nodes in
        subst P has (all_stood, λ all. (desk (l.book after.desk.ledger) (l.armed after.desk.ledger), done (all name after now_here), contents_are))

pub there : {A : Type 0} (o : Option A) (x : A) → Some x ≡ o → IsSome o
there o x is = subst IsSome is refl
