-- How a link is opened.
use Rattle.std.proofs.Common.{◌≡◌, ℕ, true, false, List, Option, None, Some, is_some, Result, Ok, Err, refl, sym, ap, subst}
use Rattle.std.specs.Result.{IsErr, IsErrAnd}
use Rattle.std.specs.FinMap as map
use Rattle.dr_base.specs.Texts.{Text}
use Rattle.dr_plan_sound.specs.declared.certificate.Hop.{Hop}
use Rattle.dr_site.specs.Parts.{Part}
use Rattle.dr_nego.specs.Proposing.{IsHopTo}
use Rattle.dr_session.specs.declared.ends.LinkAction.{LinkAction}
use Rattle.dr_session.specs.Ends.{Terminal, OpensTo}
use Rattle.dr_node.specs.declared.fault.NodeFault.{NodeFault}
use Rattle.dr_node.specs.declared.fault.NodeFault.TheVariants.{LinkKnown, LinkUnknown, NoHop, Memory}
use Rattle.dr_node.specs.declared.links.LinkSide.{LinkSide}
use Rattle.dr_node.specs.Sides.{Sides, OpensIn}

abbrev pub Answer : Type 0
Answer = Result (List LinkAction) NodeFault

is_memory : (r : Answer) (E : NodeFault → Type 0) → ((e : NodeFault) → E e → e ≡ Memory) → IsErr r → IsErrAnd r E → r ≡ Err Memory
is_memory (Ok x) E f i h = absurd h
is_memory (Err e) E f i h = ap Err (f e h)

no_side : (o : Option LinkSide) → false ≡ is_some o → o ≡ None
no_side None h = refl
no_side (Some x) h = absurd (let e : ⊥ = cc in e)

module _ (site : Part) (dest : Text) (link now : ℕ) (old : Sides) (fresh : false ≡ is_some (map.get old link)) where
  at_none : (result : Answer) (new : Sides) → OpensIn None site dest link now old result new → OpensIn (map.get old link) site dest link now old result new
  at_none result new h = let P : Option LinkSide → Type 0 = λ o. OpensIn o site dest link now old result new in subst P (sym (no_side (map.get old link) fresh)) h

  pub without_hop : ((hop : Hop) → IsHopTo site dest hop → ⊥) → OpensIn (map.get old link) site dest link now old (Err NoHop) old
  without_hop none = at_none (Err NoHop) old (none, refl)

  pub out_of_memory : (result : Answer) (new : Sides) (E : NodeFault → Type 0) → ((hop : Hop) × IsHopTo site dest hop) → ((e : NodeFault) → E e → e ≡ Memory) → IsErr result → IsErrAnd result E → new ≡ old →
      OpensIn (map.get old link) site dest link now old result new
  out_of_memory result new E hop f i h same =
      let P : Answer → Type 0 = λ r. OpensIn (map.get old link) site dest link now old r new in
      subst P (sym (is_memory result E f i h)) (at_none (Err Memory) new (hop, same))

  pub opened : (own : Part) (end : Terminal) (acts : List LinkAction) (new : Sides) → own ≡ site → OpensTo own dest now (Ok (end, acts)) →
      new ≡ map.insert old link (record { end = end; accepted = false }) → OpensIn (map.get old link) site dest link now old (Ok acts) new
  opened own end acts new same opens put =
      let P : Part → Type 0 = λ s. OpensTo s dest now (Ok (end, acts)) in
      at_none (Ok acts) new (end, subst P same opens, put)
