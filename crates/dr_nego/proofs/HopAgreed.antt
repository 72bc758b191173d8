-- Over a hop of a sound plan all that is proposed is accepted.
use Rattle.std.proofs.Common.{◌≡◌, ◌≢◌, ℕ, ◌<◌, ◌≤◌, Bool, true, false, List, [], ◌∷◌, ◌++◌, Option, Some, None, Contains, refl, sym, ap, subst, ◌∙◌, inl, inr, arith, ◌⊎◌}
use Rattle.std.specs.Prelude.{◌||◌, ◌&&◌, ◌==◌, if◌then◌else◌, nat_le, ◌%◌}
use Rattle.std.specs.Str.{bytes_eq}
use Rattle.std.specs.List.{list_any}
use Rattle.std.proofs.lemmas.Bool.{cases_Bool, leb-true, leb-false}
use Rattle.std.proofs.lemmas.List.Elements.{All-contains}
use Rattle.std.proofs.lemmas.Slice.Eq.{bytes_eq-Decides}
use Rattle.dr_base.specs.Texts.{Text}
use Rattle.dr_base.specs.Syntaxes.{syntax_uid}
use Rattle.dr_base.specs.declared.syntax.Syntax.{Syntax}
use Rattle.dr_route.specs.Routes.{local, AcceptsBy}
use Rattle.dr_route.specs.declared.accept.AcceptRow.{AcceptRow}
use Rattle.dr_plan_model.specs.Formed.{IsName, IsMaxPdu, IsWellFormedNode}
use Rattle.dr_plan_model.specs.Networks.{Network}
use Rattle.dr_plan_model.specs.Walks.{Accepts, GoesOver}
use Rattle.dr_plan_model.proofs.Gathered.{nothing_in_nil, Contains-cons_cases, Contains-there, Contains-here}
use Rattle.dr_plan_sound.specs.declared.certificate.Hop.{Hop}
use Rattle.dr_plan_sound.specs.declared.certificate.Certificate.{Certificate}
use Rattle.dr_site.specs.Parts.{Part, IsPartOf}
use Rattle.dr_site.specs.Sites.{IsCertified}
use Rattle.dr_site.proofs.ContextsAsPlanned.{hop_to, pairs_as_planned, accepts_as_planned}
use Rattle.dr_pdu.specs.declared.pdu.ContextProposal.{ContextProposal}
use Rattle.dr_pdu.specs.declared.pdu.ContextAnswer.{ContextAnswer}
use Rattle.dr_pdu.specs.declared.pdu.Front.{Front}
use Rattle.dr_nego.specs.declared.agreed.Pair.{Pair}
use Rattle.dr_nego.specs.declared.answering.Answer.{Answer}
use Rattle.dr_nego.specs.declared.answering.Answer.TheVariants.{Accept, Reject}
use Rattle.dr_nego.specs.Agreeing.{AssociateRq, pair_of}
use Rattle.dr_nego.specs.Answering.{answer_of, answer_by, answer, refusal, acceptance_of, is_caller, pairs_of, agreed_by}
use Rattle.dr_base.specs.Standard.{application_context}
use Rattle.dr_nego.specs.Proposing.{context_of, IsHopTo, IsProposal}
use Rattle.dr_nego.specs.Laws.{AgreesOnHop, HopsAreAgreed}
use Rattle.dr_nego.proofs.OneContext.{accepted_with, same_texts, is_the_caller, only_syntax, or_second}

-- ---- the accepted pairs of contexts that are all accepted

abbrev IsGood : List AcceptRow → Text → ContextProposal → Type 0
IsGood rows caller c = (s : Syntax) × (c.syntaxes ≡ syntax_uid s ∷ []) × AcceptsBy rows caller c.class s

abbrev good_pair : ContextProposal → Syntax → Pair
good_pair c s = record { id = c.id; class = c.class; syntax = syntax_uid s }

one_pair : (rows : List AcceptRow) (caller : Text) (c : ContextProposal) (g : IsGood rows caller c) → pair_of c (answer_of rows caller c) ≡ good_pair c g.0 ∷ []
one_pair rows caller c g = ap (λ (a : ContextAnswer). pair_of c a) (accepted_with rows caller c g.0 g.1 g.2)

pairs_cons : (rows : List AcceptRow) (caller : Text) (c : ContextProposal) (cs : List ContextProposal) (g : IsGood rows caller c) → pairs_of rows caller (c ∷ cs) ≡ good_pair c g.0 ∷ pairs_of rows caller cs
pairs_cons rows caller c cs g = ap (λ (l : List Pair). l ++ pairs_of rows caller cs) (one_pair rows caller c g)

paired_from : (rows : List AcceptRow) (caller : Text) (cs : List ContextProposal) → ((c : ContextProposal) → Contains cs c → IsGood rows caller c) → (x : Pair) → Contains (pairs_of rows caller cs) x →
    (c : ContextProposal) × Contains cs c × (g : IsGood rows caller c) × (x ≡ good_pair c g.0)
paired_from rows caller [] good x h = absurd (nothing_in_nil x h)
paired_from rows caller (c ∷ cs) good x h =
    let g = good c (Contains-here c cs) in
    let P : List Pair → Type 0 = λ l. Contains l x in
    elim (Contains-cons_cases (good_pair c g.0) (pairs_of rows caller cs) x (subst P (pairs_cons rows caller c cs g) h)) [
      | inl same ↦ (c, Contains-here c cs, g, sym same)
      | inr later ↦
          let r = paired_from rows caller cs (λ d m. good d (Contains-there c cs d m)) x later in
          (r.0, Contains-there c cs r.0 r.1, r.2, r.3)
    ]

paired : (rows : List AcceptRow) (caller : Text) (cs : List ContextProposal) → ((c : ContextProposal) → Contains cs c → IsGood rows caller c) → (c : ContextProposal) → Contains cs c →
    (g : IsGood rows caller c) × Contains (pairs_of rows caller cs) (good_pair c g.0)
paired rows caller [] good c h = absurd (nothing_in_nil c h)
paired rows caller (d ∷ ds) good c h =
    let g = good d (Contains-here d ds) in
    let P : ContextProposal → Type 0 = λ e. (k : IsGood rows caller e) × Contains (pairs_of rows caller (d ∷ ds)) (good_pair e k.0) in
    elim (Contains-cons_cases d ds c h) [
      | inl same ↦ subst P same (g, subst (λ (l : List Pair). Contains l (good_pair d g.0)) (sym (pairs_cons rows caller d ds g)) (Contains-here (good_pair d g.0) (pairs_of rows caller ds)))
      | inr later ↦
          let r = paired rows caller ds (λ e m. good e (Contains-there d ds e m)) c later in
          (r.0, subst (λ (l : List Pair). Contains l (good_pair c r.0.0)) (sym (pairs_cons rows caller d ds g)) (Contains-there (good_pair d g.0) (pairs_of rows caller ds) (good_pair c r.0.0) r.1))
    ]

pub not_small : (n : ℕ) → IsMaxPdu n → (nat_le 1 n && nat_le n 7) ≡ false
not_small n (inl none) = rw none refl
not_small n (inr (big, h)) = elim (cases_Bool (nat_le n 7)) [
  | inl small ↦ absurd (let e : n ≤ 7 = leb-true n 7 small in omega arith)
  | inr large ↦ rw large (and_false (nat_le 1 n))
]
  where
    and_false : (b : Bool) → (b && false) ≡ false
    and_false true = refl
    and_false false = refl

not_apart : (a b : Text) → a ≢ b → bytes_eq a b ≡ false
not_apart a b other = elim (cases_Bool (bytes_eq a b)) [
  | inl same ↦ absurd (other ((bytes_eq-Decides a b).0 same))
  | inr apart ↦ apart
]

any_caller : (rows : List AcceptRow) (caller class : Text) (s : Syntax) → AcceptsBy rows caller class s → list_any (λ (r : AcceptRow). is_caller r.from caller) rows ≡ true
any_caller [] caller class s h = absurd h
any_caller (row ∷ rows) caller class s (inl takes) = ap (λ (b : Bool). b || list_any (λ (r : AcceptRow). is_caller r.from caller) rows) (is_the_caller row.from caller takes.0)
any_caller (row ∷ rows) caller class s (inr more) = or_second (is_caller row.from caller) (list_any (λ (r : AcceptRow). is_caller r.from caller) rows) (any_caller rows caller class s more)

module _ (plan : Network) (certificate : Certificate) (c : IsCertified plan certificate) (from to : Part) (is_from : IsPartOf plan certificate from) (is_to : IsPartOf plan certificate to) (rq : AssociateRq) (proposal : IsProposal from to.name rq) where
  -- what is proposed goes over the hop, and what goes over it is accepted
  proposed_goes : (hop : Hop) → IsHopTo from to.name hop → GoesOver plan from.name to.name (hop.class, hop.syntax)
  proposed_goes hop is = (pairs_as_planned plan certificate from c is_from to.name hop.class hop.syntax).0 (hop, (hop_to from to.name hop).1 is, refl, refl)

  accepts_here : (class : Text) (s : Syntax) → GoesOver plan from.name to.name (class, s) → AcceptsBy to.accepts from.name class s
  accepts_here class s goes =
      let key = goes.0 in
      let a : Accepts plan to.name from.name key.class key.syntax = c.sound.accepted key from.name to.name goes.2 in
      let at_part : AcceptsBy to.accepts from.name key.class key.syntax = (accepts_as_planned plan certificate to is_to from.name key.class key.syntax).1 a in
      let classes : class ≡ key.class = ap (λ (p : Text × Syntax). p.0) goes.1 in
      let syntaxes : s ≡ key.syntax = ap (λ (p : Text × Syntax). p.1) goes.1 in
      subst (λ (x : Text). AcceptsBy to.accepts from.name x s) (sym classes) (subst (λ (x : Syntax). AcceptsBy to.accepts from.name key.class x) (sym syntaxes) at_part)

  calling_is : rq.front.calling ≡ from.name
  calling_is = ap (λ (f : Front). f.calling) proposal.front

  good : (x : ContextProposal) → Contains rq.contexts x → IsGood to.accepts rq.front.calling x
  good x has =
      let h = (proposal.each x).0 has in
      let P : ContextProposal → Type 0 = λ y. IsGood to.accepts rq.front.calling y in
      subst P (sym h.2) (h.0.syntax, refl, subst (λ (t : Text). AcceptsBy to.accepts t h.0.class h.0.syntax) (sym calling_is) (accepts_here h.0.class h.0.syntax (proposed_goes h.0 h.1)))

  agrees_on_hop : AgreesOnHop plan from.name to.name (agreed_by rq to)
  agrees_on_hop class s = (
    λ (x, has, class_is, syntax_is).
        let p = paired_from to.accepts rq.front.calling rq.contexts good x has in
        let h = (proposal.each p.0).0 p.1 in
        let classes : h.0.class ≡ class = ap (λ (y : ContextProposal). y.class) (sym h.2) ∙ (ap (λ (y : Pair). y.class) (sym p.3) ∙ class_is) in
        let uids : syntax_uid h.0.syntax ∷ [] ≡ syntax_uid s ∷ [] = ap (λ (y : ContextProposal). y.syntaxes) (sym h.2) ∙ (p.2.1 ∙ ap (λ (u : Text). u ∷ []) (ap (λ (y : Pair). y.syntax) (sym p.3) ∙ syntax_is)) in
        let syntaxes : h.0.syntax ≡ s = only_syntax h.0.syntax s uids in
        subst (λ (t : Text). GoesOver plan from.name to.name (t, s)) classes (subst (λ (t : Syntax). GoesOver plan from.name to.name (h.0.class, t)) syntaxes (proposed_goes h.0 h.1)),
    λ goes.
        let g = (pairs_as_planned plan certificate from c is_from to.name class s).1 goes in
        let is : IsHopTo from to.name g.0 = (hop_to from to.name g.0).0 g.1 in
        let among : Contains rq.contexts (context_of g.0) = (proposal.each (context_of g.0)).1 (g.0, is, refl) in
        let p = paired to.accepts rq.front.calling rq.contexts good (context_of g.0) among in
        let uids : syntax_uid g.0.syntax ∷ [] ≡ syntax_uid p.0.0 ∷ [] = p.0.1 in
        (good_pair (context_of g.0) p.0.0, p.1, g.2, ap syntax_uid (sym (only_syntax g.0.syntax p.0.0 uids) ∙ g.3)),
  )

  -- ---- the request is not refused

  is_name : IsName from.name
  is_name = subst (λ (t : Text). IsName t) is_from.node.1.0.1 (All-contains (IsWellFormedNode plan.nodes) plan.nodes is_from.node.0 c.formed.each_node is_from.node.1.0.0).name

  max_is : IsMaxPdu rq.max_pdu
  max_is = subst (λ (n : ℕ). IsMaxPdu n) (sym (proposal.max_pdu ∙ is_from.node.2)) (All-contains (IsWellFormedNode plan.nodes) plan.nodes is_from.node.0 c.formed.each_node is_from.node.1.0.0).max_pdu

  refusal_is : (class : Text) (s : Syntax) → GoesOver plan from.name to.name (class, s) → (others : ℕ) → refusal rq to others ≡ (if nat_le 256 others then Some (Reject 2 3 2) else None)
  refusal_is class s goes others =
      let app : bytes_eq rq.application application_context ≡ true = same_texts rq.application application_context proposal.application in
      let version : (rq.front.version % 2 == 0) ≡ false = ap (λ (f : Front). f.version % 2 == 0) proposal.front in
      let called : bytes_eq rq.front.called to.name ≡ true = same_texts rq.front.called to.name (ap (λ (f : Front). f.called) proposal.front) in
      let calling : bytes_eq rq.front.calling local ≡ false = not_apart rq.front.calling local (λ e. is_name.not_local (sym calling_is ∙ e)) in
      let some : list_any (λ (r : AcceptRow). is_caller r.from rq.front.calling) to.accepts ≡ true =
      subst (λ (t : Text). list_any (λ (r : AcceptRow). is_caller r.from t) to.accepts ≡ true) (sym calling_is) (any_caller to.accepts from.name class s (accepts_here class s goes)) in
      let small : (nat_le 1 rq.max_pdu && nat_le rq.max_pdu 7) ≡ false = not_small rq.max_pdu max_is in
      rw (app, version, called, calling, some, small) refl

  pub answered : (class : Text) (s : Syntax) → GoesOver plan from.name to.name (class, s) → (others : ℕ) →
      ((others < 256) × (answer rq to others ≡ Accept (acceptance_of rq to) (agreed_by rq to)) × AgreesOnHop plan from.name to.name (agreed_by rq to))
      ⊎ ((256 ≤ others) × (answer rq to others ≡ Reject 2 3 2))
  answered class s goes others = elim (cases_Bool (nat_le 256 others)) [
    | inl many ↦ (
        let e : refusal rq to others ≡ Some (Reject 2 3 2) = subst (λ (b : Bool). refusal rq to others ≡ (if b then Some (Reject 2 3 2) else None)) many (refusal_is class s goes others) in
        inr (leb-true 256 others many, ap (λ (o : Option Answer). answer_by o rq to) e))
    | inr few ↦ (
        let e : refusal rq to others ≡ None = subst (λ (b : Bool). refusal rq to others ≡ (if b then Some (Reject 2 3 2) else None)) few (refusal_is class s goes others) in
        inl (leb-false 256 others few, ap (λ (o : Option Answer). answer_by o rq to) e, agrees_on_hop))
  ]

pub hops_are_agreed : HopsAreAgreed
hops_are_agreed plan certificate from to c is_from is_to rq pair goes proposal others = answered plan certificate c from to is_from is_to rq proposal pair.0 pair.1 goes others
