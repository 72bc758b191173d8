-- What the items of a context, of the user information and of an association say.
use Rattle.std.proofs.Common.{◌≡◌, ◌≢◌, ℕ, ◌-◌, ◌^◌, ◌<◌, ◌≤◌, List, [], ◌∷◌, length, get_or, take, drop, map, Option, Some, cond, eqb, sym, ap, subst, ◌∙◌}
use Rattle.std.specs.Option.{option_map, MatchOption}
use Rattle.std.specs.Int.{w32, to_be_bytes}
use Rattle.std.proofs.lemmas.List.{take_rest}
use Rattle.dr_pdu.specs.declared.pdu.ContextProposal.{ContextProposal}
use Rattle.dr_pdu.specs.declared.pdu.ContextAnswer.{ContextAnswer}
use Rattle.dr_base.specs.Padding.{unpadded}
use Rattle.dr_pdu.specs.Items.{Item, StartsPduItem, AreItems, bodies, first_body}
use Rattle.dr_pdu.specs.declared.pdu.Association.{Association}
use Rattle.dr_pdu.specs.declared.pdu.Front.{Front}
use Rattle.dr_pdu.specs.Grammar.{IsProposal, IsAnswer, IsGreatestLength, IsFront, IsAssociation}
use Rattle.dr_base.specs.Lists.{Each}
use Rattle.dr_pdu.proofs.FrontTexts.{same_front_part}
use Rattle.dr_pdu.proofs.Bytes.{front4}
use Rattle.dr_base.proofs.RunLemmas.{run_same}
use Rattle.dr_pdu.proofs.ItemLemmas.{item_parts}

-- a text of items is those of no other list
pub same_items : (is js : List Item) (text : List ℕ) → AreItems is text → AreItems js text → js ≡ is
same_items is js text p q = run_same StartsPduItem item_parts is js text p q

-- what stands behind four bytes, as the code has it
pub behind4 : (body rest : List ℕ) (a b c d : ℕ) → body ≡ a ∷ b ∷ c ∷ d ∷ rest → rest ≡ take (length body - 4) (drop 4 body)
behind4 body rest a b c d e = sym (ap (drop 4) e) ∙ sym (take_rest body 4)

pub record ProposalSays (is : List Item) (c : ContextProposal) : Type 0 where
  pub class : option_map unpadded (first_body 0x30 is) ≡ Some c.class
  pub syntaxes : map unpadded (bodies 0x40 is) ≡ c.syntaxes
  pub some : c.syntaxes ≢ []

pub proposal_says : (body : List ℕ) (is : List Item) (c : ContextProposal) → AreItems is (take (length body - 4) (drop 4 body)) → IsProposal body c → ProposalSays is c
proposal_says body is c found (r, s, t, js, rest, e, items, class, syntaxes, some) =
    let same : js ≡ is = same_items is js _ found (subst (λ (x : List ℕ). AreItems js x) (behind4 body rest c.id r s t e) items) in
    subst (λ (ks : List Item). ProposalSays ks c) same (record { class = class; syntaxes = syntaxes; some = some })

pub is_proposal : (body : List ℕ) (is : List Item) (c : ContextProposal) → 4 ≤ length body → c.id ≡ get_or body 0 0 → AreItems is (take (length body - 4) (drop 4 body)) → ProposalSays is c → IsProposal body c
is_proposal body is c long id found says =
    let whole : body ≡ c.id ∷ get_or body 1 0 ∷ get_or body 2 0 ∷ get_or body 3 0 ∷ take (length body - 4) (drop 4 body) = rw (id, take_rest body 4) (front4 body long) in
    (get_or body 1 0, get_or body 2 0, get_or body 3 0, is, take (length body - 4) (drop 4 body), whole, found, says.class, says.syntaxes, says.some)

pub record AnswerSays (is : List Item) (c : ContextAnswer) : Type 0 where
  pub syntax : cond (eqb c.result 0) (option_map unpadded (first_body 0x40 is)) (Some []) ≡ Some c.syntax

pub answer_says : (body : List ℕ) (is : List Item) (c : ContextAnswer) → AreItems is (take (length body - 4) (drop 4 body)) → IsAnswer body c → AnswerSays is c
answer_says body is c found (r, s, js, rest, e, items, syntax) =
    let same : js ≡ is = same_items is js _ found (subst (λ (x : List ℕ). AreItems js x) (behind4 body rest c.id r c.result s e) items) in
    subst (λ (ks : List Item). AnswerSays ks c) same (record { syntax = syntax })

pub is_answer : (body : List ℕ) (is : List Item) (c : ContextAnswer) → 4 ≤ length body → c.id ≡ get_or body 0 0 → c.result ≡ get_or body 2 0 → AreItems is (take (length body - 4) (drop 4 body)) → AnswerSays is c → IsAnswer body c
is_answer body is c long id number found says =
    let whole : body ≡ c.id ∷ get_or body 1 0 ∷ c.result ∷ get_or body 3 0 ∷ take (length body - 4) (drop 4 body) = rw (id, number, take_rest body 4) (front4 body long) in
    (get_or body 1 0, get_or body 3 0, is, take (length body - 4) (drop 4 body), whole, found, says.syntax)

-- ---- the user information

abbrev LengthSays : ℕ → Option (List ℕ) → Type 0
LengthSays n o = MatchOption o (n ≡ 0) (λ b. (n < 2 ^ 32) × (b ≡ to_be_bytes w32 n))

pub length_says : (o : Option (List ℕ)) (body : List ℕ) (is : List Item) (n : ℕ) → Some body ≡ o → AreItems is body → IsGreatestLength o n → MatchOption (first_body 0x51 is) (n ≡ 0) (λ b. (n < 2 ^ 32) × (b ≡ to_be_bytes w32 n))
length_says o body is n e are h =
    let here : IsGreatestLength (Some body) n = subst (λ (x : Option (List ℕ)). IsGreatestLength x n) (sym e) h in
    subst (λ (js : List Item). LengthSays n (first_body 0x51 js)) (same_items is here.0 body are here.1) here.2

-- ---- associations

pub record AssociationSays {C : Type 0} (kind : ℕ) (IsContext : List ℕ → C → Type 0) (is : List Item) (front : Front) (a : Association C) : Type 0 where
  pub first : a.front ≡ front
  pub application : option_map unpadded (first_body 0x10 is) ≡ Some a.application
  pub contexts : Each IsContext (bodies kind is) a.contexts
  pub greatest : IsGreatestLength (first_body 0x50 is) a.max_pdu

-- the items of an association stand behind its front
pub items_behind : {C : Type 0} (kind : ℕ) (IsContext : List ℕ → C → Type 0) (body text : List ℕ) (front : Front) (a : Association C) → IsFront body front text → (h : IsAssociation kind IsContext body a) → AreItems h.0 text
items_behind kind IsContext body text front a f h =
    subst (λ (x : List ℕ). AreItems h.0 x) (ap (λ (x : Front × List ℕ). x.1) (same_front_part body a.front front h.1 text h.2 f)) h.3

pub association_says : {C : Type 0} (kind : ℕ) (IsContext : List ℕ → C → Type 0) (body text : List ℕ) (front : Front) (is : List Item) (a : Association C) → IsFront body front text → AreItems is text → IsAssociation kind IsContext body a → AssociationSays kind IsContext is front a
association_says kind IsContext body text front is a f are h =
    let same : h.0 ≡ is = same_items is h.0 text are (items_behind kind IsContext body text front a f h) in
    subst (λ (js : List Item). AssociationSays kind IsContext js front a) same (record {
      first = ap (λ (x : Front × List ℕ). x.0) (same_front_part body a.front front h.1 text h.2 f);
      application = h.4;
      contexts = h.5;
      greatest = h.6;
    })
