-- A world in which nothing was done yet.
use Rattle.std.proofs.Common.{◌≡◌, ℕ, false, Option, None, Some, refl, sym, ap, subst, ◌∙◌}
use Rattle.std.specs.Ordering.{nat_cmp}
use Rattle.std.specs.FinMap as map
use Rattle.dr_base.specs.Texts.{Text}
use Rattle.dr_ledger.specs.Books.{empty_book}
use Rattle.dr_session.specs.Ledgers.{desk}
use Rattle.dr_node.specs.declared.links.LinkSide.{LinkSide}
use Rattle.dr_node.specs.Sides.{Sides}
use Rattle.dr_world_tie.specs.Channels.{Channel}
use Rattle.dr_world_tie.specs.ByteWorlds.{beginning}
use Rattle.dr_world.specs.declared.wires.Wires.{Wires}
use Rattle.dr_world.specs.Shows.{Contents, Seat, HasSide, LinkedAt, desk_at}
use Rattle.dr_world.specs.Laws.{IsNewWorld, NewIsBeginning}

module _ (c : Contents) (n : IsNewWorld c) where
  no_side : (name : Text) (number : ℕ) (side : LinkSide) → HasSide c.seats name number side → ⊥
  no_side name number side h =
      let none : map.get h.0.sides number ≡ None = ap (λ (s : Sides). map.get s number) ((n.seats name h.0 h.1).1) ∙ map.get-empty nat_cmp number in
      let both : None ≡ Some side = sym none ∙ h.2 in
      let x : ⊥ = cc in
      x

  empty_desk : (name : Text) (o : Option Seat) → c.seats name ≡ o → desk empty_book false ≡ desk_at o
  empty_desk name None e = refl
  empty_desk name (Some seat) e = sym (n.seats name seat e).0

pub begins : NewIsBeginning
begins c n = record {
  time = sym n.now;
  opened = sym n.opened;
  desks = λ name. empty_desk c n name (c.seats name) refl;
  links = λ number. (let P : Option Wires → Option Channel → Type 0 = λ o k. LinkedAt c.seats number o k in
      subst (λ (o : Option Wires). LinkedAt c.seats number o (map.get beginning.links number)) (sym (n.wires number))
      (subst (λ (k : Option Channel). LinkedAt c.seats number None k) (sym (map.get-empty nat_cmp number)) tt));
  sides = λ name number side h. absurd (no_side c n name number side h);
  fresh = λ name number side h less. no_side c n name number side h;
}
