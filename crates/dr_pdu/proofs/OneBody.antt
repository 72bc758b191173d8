-- A body is one PDU at most.
use Rattle.std.proofs.Common.{◌≡◌, ℕ, ◌-◌, ◌^◌, ◌<◌, List, [], ◌∷◌, length, get_or, take, drop, Option, Some, None, cond, eqb, refl, sym, ap, subst, ◌∙◌, arith}
use Rattle.std.specs.Option.{option_map, MatchOption}
use Rattle.std.specs.Int.{w32, to_be_bytes, from_be_bytes}
use Rattle.std.proofs.lemmas.Nat.{from_be_bytes-to_be_bytes_4}
use Rattle.dr_base.proofs.RunLemmas.{run_same}
use Rattle.dr_pdu.specs.declared.pdu.Pdu.{Pdu}
use Rattle.dr_pdu.specs.declared.pdu.Pdu.TheVariants.{AssociateRq, AssociateAc, AssociateRj, Transfer, ReleaseRq, ReleaseRp, Abort}
use Rattle.dr_pdu.specs.declared.pdu.Association.{Association}
use Rattle.dr_pdu.specs.declared.pdu.Front.{Front}
use Rattle.dr_pdu.specs.declared.pdu.ContextProposal.{ContextProposal}
use Rattle.dr_pdu.specs.declared.pdu.ContextAnswer.{ContextAnswer}
use Rattle.dr_base.specs.Padding.{unpadded}
use Rattle.dr_pdu.specs.Items.{Item, AreItems, StartsPdv, bodies, first_body}
use Rattle.dr_pdu.specs.Grammar.{IsProposal, IsAnswer, IsGreatestLength, IsAssociation, IsBody}
use Rattle.dr_base.specs.Lists.{Each}
use Rattle.dr_pdu.proofs.ContextLemmas.{same_items, proposal_says, answer_says, behind4}
use Rattle.dr_pdu.proofs.FrontTexts.{same_front_part}
use Rattle.dr_pdu.proofs.PdvLemmas.{pdv_parts}

pub each_same : {A B : Type 0} (R : A → B → Type 0) → ((a : A) (b c : B) → R a b → R a c → b ≡ c) → (as' : List A) (bs cs : List B) → Each R as' bs → Each R as' cs → bs ≡ cs
each_same R one [] [] [] p q = refl
each_same R one [] [] (c ∷ cs) p q = absurd q
each_same R one [] (b ∷ bs) cs p q = absurd p
each_same R one (a ∷ as') [] cs p q = absurd p
each_same R one (a ∷ as') (b ∷ bs) [] p q = absurd q
each_same R one (a ∷ as') (b ∷ bs) (c ∷ cs) p q =
    let head = one a b c p.0 q.0 in
    let tail = each_same R one as' bs cs p.1 q.1 in
    cc

abbrev a_proposal : ℕ → List ℕ → List (List ℕ) → ContextProposal
a_proposal id class syntaxes = record { id = id; class = class; syntaxes = syntaxes }

same_proposal : (c d : ContextProposal) → c.id ≡ d.id → c.class ≡ d.class → c.syntaxes ≡ d.syntaxes → c ≡ d
same_proposal c d p q r = ap (λ (i : ℕ). a_proposal i c.class c.syntaxes) p ∙ ap (λ (k : List ℕ). a_proposal d.id k c.syntaxes) q ∙ ap (λ (k : List (List ℕ)). a_proposal d.id d.class k) r

pub one_proposal : (body : List ℕ) (c d : ContextProposal) → IsProposal body c → IsProposal body d → c ≡ d
one_proposal body c d (r, s, t, items, rest, e, are, class', syntaxes', some') h =
    let found : AreItems items (take (length body - 4) (drop 4 body)) = subst (λ (x : List ℕ). AreItems items x) (behind4 body rest c.id r s t e) are in
    let says = proposal_says body items c found (r, s, t, items, rest, e, are, class', syntaxes', some') in
    let says' = proposal_says body items d found h in
    let id : c.id ≡ d.id = ap (λ (x : List ℕ). get_or x 0 0) (sym e ∙ h.5) in
    let class : Some c.class ≡ Some d.class = sym says.class ∙ says'.class in
    same_proposal c d id (cc) (sym says.syntaxes ∙ says'.syntaxes)

abbrev an_answer : ℕ → ℕ → List ℕ → ContextAnswer
an_answer id number syntax = record { id = id; result = number; syntax = syntax }

same_answer : (c d : ContextAnswer) → c.id ≡ d.id → c.result ≡ d.result → c.syntax ≡ d.syntax → c ≡ d
same_answer c d p q r = ap (λ (i : ℕ). an_answer i c.result c.syntax) p ∙ ap (λ (n : ℕ). an_answer d.id n c.syntax) q ∙ ap (λ (k : List ℕ). an_answer d.id d.result k) r

pub one_answer : (body : List ℕ) (c d : ContextAnswer) → IsAnswer body c → IsAnswer body d → c ≡ d
one_answer body c d (r, s, items, rest, e, are, more) h =
    let found : AreItems items (take (length body - 4) (drop 4 body)) = subst (λ (x : List ℕ). AreItems items x) (behind4 body rest c.id r c.result s e) are in
    let says = answer_says body items c found (r, s, items, rest, e, are, more) in
    let says' = answer_says body items d found h in
    let id : c.id ≡ d.id = ap (λ (x : List ℕ). get_or x 0 0) (sym e ∙ h.4) in
    let number : c.result ≡ d.result = ap (λ (x : List ℕ). get_or x 2 0) (sym e ∙ h.4) in
    let syntax : Some c.syntax ≡ Some d.syntax =
    sym says.syntax ∙ ap (λ (n : ℕ). cond (eqb n 0) (option_map unpadded (first_body 0x40 items)) (Some [])) number ∙ says'.syntax in
    same_answer c d id number (cc)

pub one_length : (o : Option (List ℕ)) (n m : ℕ) → IsGreatestLength o n → IsGreatestLength o m → n ≡ m
one_length None n m p q = p ∙ sym q
one_length (Some body) n m p q =
    let same = same_items p.0 q.0 body p.1 q.1 in
    inner (first_body 0x51 p.0) p.2 (subst (λ (is : List Item). MatchOption (first_body 0x51 is) (m ≡ 0) (λ b. (m < 2 ^ 32) × (b ≡ to_be_bytes w32 m))) same q.2)
  where
    inner : (o : Option (List ℕ)) → MatchOption o (n ≡ 0) (λ b. (n < 2 ^ 32) × (b ≡ to_be_bytes w32 n)) → MatchOption o (m ≡ 0) (λ b. (m < 2 ^ 32) × (b ≡ to_be_bytes w32 m)) → n ≡ m
    inner None p q = p ∙ sym q
    inner (Some b) p q = sym (from_be_bytes-to_be_bytes_4 n p.0) ∙ ap (from_be_bytes w32) (sym p.1 ∙ q.1) ∙ from_be_bytes-to_be_bytes_4 m q.0

abbrev an_association : {C : Type 0} → Front → List ℕ → List C → ℕ → Association C
an_association front application contexts max_pdu = record { front = front; application = application; contexts = contexts; max_pdu = max_pdu }

same_association : {C : Type 0} (a b : Association C) → a.front ≡ b.front → a.application ≡ b.application → a.contexts ≡ b.contexts → a.max_pdu ≡ b.max_pdu → a ≡ b
same_association {C} a b p q r s =
    ap (λ (f : Front). an_association f a.application a.contexts a.max_pdu) p ∙ ap (λ (n : List ℕ). an_association b.front n a.contexts a.max_pdu) q
    ∙ ap (λ (cs : List C). an_association b.front b.application cs a.max_pdu) r ∙ ap (λ (n : ℕ). an_association b.front b.application b.contexts n) s

pub one_association : {C : Type 0} (kind : ℕ) (IsContext : List ℕ → C → Type 0) → ((body : List ℕ) (c d : C) → IsContext body c → IsContext body d → c ≡ d)
    → (body : List ℕ) (a b : Association C) → IsAssociation kind IsContext body a → IsAssociation kind IsContext body b → a ≡ b
one_association {C} kind IsContext one body a b (items, rest, front, are, application, contexts, greatest) h =
    let fronts = same_front_part body a.front b.front rest h.1 front h.2 in
    let same : h.0 ≡ items = same_items items h.0 rest are (subst (λ (x : List ℕ). AreItems h.0 x) (sym (ap (λ (x : Front × List ℕ). x.1) fronts)) h.3) in
    let app : Some a.application ≡ Some b.application = sym application ∙ subst (λ (is : List Item). option_map unpadded (first_body 0x10 is) ≡ Some b.application) same h.4 in
    same_association a b (ap (λ (x : Front × List ℕ). x.0) fronts) (cc)
    (each_same IsContext one (bodies kind items) a.contexts b.contexts contexts (subst (λ (is : List Item). Each IsContext (bodies kind is) b.contexts) same h.5))
    (one_length (first_body 0x50 items) a.max_pdu b.max_pdu greatest (subst (λ (is : List Item). IsGreatestLength (first_body 0x50 is) b.max_pdu) same h.6))

pub one_body : (kind : ℕ) (body : List ℕ) (p q : Pdu) → IsBody kind body p → IsBody kind body q → p ≡ q
one_body kind body (AssociateRq a) (AssociateRq b) h k = ap AssociateRq (one_association 0x20 IsProposal one_proposal body a b h.1 k.1)
one_body kind body (AssociateAc a) (AssociateAc b) h k = ap AssociateAc (one_association 0x21 IsAnswer one_answer body a b h.1 k.1)
one_body kind body (AssociateRj a) (AssociateRj b) h k =
    ap (λ (t : List ℕ). AssociateRj (record { result = get_or t 1 0; source = get_or t 2 0; reason = get_or t 3 0 })) (sym h.2 ∙ k.2)
one_body kind body (Transfer a) (Transfer b) h k = ap Transfer (sym (run_same StartsPdv pdv_parts a b body h.1 k.1))
one_body kind body ReleaseRq ReleaseRq h k = refl
one_body kind body ReleaseRp ReleaseRp h k = refl
one_body kind body (Abort a) (Abort b) h k =
    ap (λ (t : List ℕ). Abort (record { source = get_or t 2 0; reason = get_or t 3 0 })) (sym h.3 ∙ k.3)
one_body kind body p q h k = absurd (omega (arith, h.0, k.0))
