-- A proposal is made of the hops to its destination.
use Rattle.std.proofs.Common.{◌≡◌, ℕ, ◌<◌, List, map, Result, Ok, Err, Contains, refl, sym, ap, subst, ◌∙◌}
use Rattle.std.specs.Prelude.{AllPairs, replicate}
use Rattle.std.specs.Result.{IsErr, IsErrAnd}
use Rattle.std.proofs.lemmas.Bool.{false≢true, lt-ltb}
use Rattle.dr_base.specs.Texts.{Text}
use Rattle.dr_plan_sound.specs.declared.certificate.Hop.{Hop}
use Rattle.std.specs.declared.cmp.Ordering.{Ordering}
use Rattle.std.specs.declared.cmp.Ordering.TheVariants.{Less}
use Rattle.std.specs.Ordering.{nat_cmp}
use Rattle.std.specs.Cmp.{IsTotalOrder}
use Rattle.std.proofs.lemmas.Cmp.{on_total, nat_cmp_total}
use Rattle.dr_cert_hops.proofs.Rows.{map_has, map_of, map_pairs, same_sorted}
use Rattle.dr_site.specs.Parts.{Part, hops_to}
use Rattle.dr_site.specs.Sites.{IsSite}
use Rattle.dr_site.proofs.ContextsAsPlanned.{hop_to}
use Rattle.dr_site.proofs.FormedSites.{sites_are_formed}
use Rattle.dr_pdu.specs.declared.pdu.ContextProposal.{ContextProposal}
use Rattle.dr_pdu.specs.declared.pdu.Front.{Front}
use Rattle.dr_base.specs.Standard.{application_context}
use Rattle.dr_nego.specs.declared.fault.NegoFault.{NegoFault}
use Rattle.dr_nego.specs.declared.fault.NegoFault.TheVariants.{Memory}
use Rattle.dr_nego.specs.Agreeing.{AssociateRq}
use Rattle.dr_nego.specs.Laws.{OneProposal}
use Rattle.dr_nego.specs.Proposing.{context_of, IsHopTo, IsProposal, Proposes}

pub proposed : (site : Part) (dest : Text) → IsSite site → ((hop : Hop) × IsHopTo site dest hop) → (hops : List Hop) → hops ≡ hops_to site dest →
    (front : Front) (application : Text) (contexts : List ContextProposal) (max_pdu : ℕ) →
    front ≡ record { version = 1; called = dest; calling = site.name; reserved = replicate 32 0 } → application ≡ application_context → contexts ≡ map context_of hops → max_pdu ≡ site.max_pdu →
    Proposes site dest (Ok (record { front = front; application = application; contexts = contexts; max_pdu = max_pdu }))
proposed site dest is some hops same front application contexts max_pdu front_is application_is contexts_are max_is =
    let made : contexts ≡ map context_of (hops_to site dest) = contexts_are ∙ ap (λ (l : List Hop). map context_of l) same in
    let P : List ContextProposal → Type 0 = λ cs. AllPairs (λ (a b : ContextProposal). a.id < b.id) cs in (
      some,
      record {
        front = front_is;
        application = application_is;
        rising = subst P (sym made) (map_pairs context_of (λ (a b : Hop). a.id < b.id) (λ (a b : ContextProposal). a.id < b.id) (hops_to site dest) (λ a b _ _ less. less) ((sites_are_formed site is).rising dest));
        each = λ c.
            let Q : List ContextProposal → Type 0 = λ cs. Contains cs c in (
              λ h. (let r = map_has context_of (hops_to site dest) c (subst Q made h) in (r.0, (hop_to site dest r.0).0 r.1, sym r.2)),
              λ h.
                  let R : ContextProposal → Type 0 = λ x. Contains (map context_of (hops_to site dest)) x in
                  subst Q (sym made) (subst R (sym h.2) (map_of context_of (hops_to site dest) h.0 ((hop_to site dest h.0).1 h.1))),
            );
        max_pdu = max_is;
      },
    )

-- want of memory is told of a site that has a hop
pub proposed_not : (site : Part) (dest : Text) (r : Result AssociateRq NegoFault) → IsErr r → IsErrAnd r (λ (e : NegoFault). e ≡ Memory) → ((hop : Hop) × IsHopTo site dest hop) → Proposes site dest r
proposed_not site dest (Ok rq) is_err gives hop = absurd (false≢true is_err)
proposed_not site dest (Err e) is_err gives hop = subst (λ (w : NegoFault). Proposes site dest (Err w)) (sym gives) hop

-- ---- one proposal

by_id : ContextProposal → ContextProposal → Ordering
by_id a b = nat_cmp a.id b.id

by_id_total : IsTotalOrder by_id
unfolding by_id
by_id_total = on_total (λ (c : ContextProposal). c.id) nat_cmp_total

less_is : (a b : ℕ) → a < b → nat_cmp a b ≡ Less
less_is a b less = (let l = lt-ltb a b less in rw l refl)

-- the contexts of a proposal are those of the hops to its destination, in their order
pub proposal_contexts : (site : Part) (dest : Text) (rq : AssociateRq) → IsSite site → IsProposal site dest rq → rq.contexts ≡ map context_of (hops_to site dest)
unfolding by_id
proposal_contexts site dest rq is p =
    let rises = map_pairs context_of (λ (a b : Hop). a.id < b.id) (λ (a b : ContextProposal). nat_cmp a.id b.id ≡ Less) (hops_to site dest) (λ a b _ _ less. less_is a.id b.id less) ((sites_are_formed site is).rising dest) in
    same_sorted by_id by_id_total rq.contexts (map context_of (hops_to site dest)) (λ i j d lt h. less_is _ _ (p.rising i j d lt h)) rises (λ c. (
      λ h.
          let r = (p.each c).0 h in
          let R : ContextProposal → Type 0 = λ x. Contains (map context_of (hops_to site dest)) x in
          subst R (sym r.2) (map_of context_of (hops_to site dest) r.0 ((hop_to site dest r.0).1 r.1)),
      λ h. (let r = map_has context_of (hops_to site dest) c h in (p.each c).1 (r.0, (hop_to site dest r.0).0 r.1, sym r.2)),
    ))

-- a site proposes one thing to a node
pub one_proposal : OneProposal
one_proposal site dest rq other is p q =
    let made : Front → Text → List ContextProposal → ℕ → AssociateRq = λ f a cs n. record { front = f; application = a; contexts = cs; max_pdu = n } in
    ap (λ (f : Front). made f rq.application rq.contexts rq.max_pdu) (p.front ∙ sym q.front)
    ∙ (ap (λ (a : Text). made other.front a rq.contexts rq.max_pdu) (p.application ∙ sym q.application)
    ∙ (ap (λ (cs : List ContextProposal). made other.front other.application cs rq.max_pdu) (proposal_contexts site dest rq is p ∙ sym (proposal_contexts site dest other is q))
    ∙ ap (λ (n : ℕ). made other.front other.application other.contexts n) (p.max_pdu ∙ sym q.max_pdu)))
