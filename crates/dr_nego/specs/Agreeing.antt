-- What an acceptance agrees on (PS3.8 section 7.1.1.14).
use Rattle.std.specs.Prelude.{◌≡◌, ℕ, ◌<◌, ◌≤◌, Bool, List, [], ◌∷◌, find, ◌==◌, ◌&&◌}
use Rattle.std.specs.Prelude.{if◌then◌else◌, Option, Some, None, option_map, Contains, All}
use Rattle.std.specs.Prelude.{AllPairs, Result, Ok, Err}
use Rattle.std.specs.List.{flat_map}
use Rattle.std.specs.Str.{bytes_eq}
use Rattle.dr_base.specs.Texts.{Text}
use Rattle.dr_pdu.specs.declared.pdu.Association.{Association}
use Rattle.dr_pdu.specs.declared.pdu.ContextProposal.{ContextProposal}
use Rattle.dr_pdu.specs.declared.pdu.ContextAnswer.{ContextAnswer}
use Rattle.dr_nego.specs.declared.agreed.Pair.{Pair}
use Rattle.dr_nego.specs.declared.agreed.Agreed.{Agreed}
use Rattle.dr_nego.specs.declared.fault.NegoFault.{NegoFault}
use Rattle.dr_nego.specs.declared.fault.NegoFault.TheVariants.{StrangeId, StrangeSyntax}
use Rattle.dr_nego.specs.declared.fault.NegoFault.TheVariants.{LimitTooSmall, NoHop, Memory}

-- an A-ASSOCIATE-RQ: titles, proposed contexts and a greatest length (PS3.8 9.3.2)
abbrev pub AssociateRq : Type 0
AssociateRq = Association ContextProposal

-- an A-ASSOCIATE-AC: titles, an answer to each context and a greatest length (PS3.8 9.3.3)
abbrev pub AssociateAc : Type 0
AssociateAc = Association ContextAnswer

-- ---- faults, each over the whole acceptance before the next

-- a context is answered that wasn't proposed
abbrev pub HasStrangeId : AssociateRq → AssociateAc → Type 0
HasStrangeId rq ac =
    (a : ContextAnswer) × Contains ac.contexts a
    × ((c : ContextProposal) → Contains rq.contexts c → c.id ≡ a.id → ⊥)

-- a context is accepted with a transfer syntax that wasn't proposed in it
abbrev pub HasStrangeSyntax : AssociateRq → AssociateAc → Type 0
HasStrangeSyntax rq ac =
    (a : ContextAnswer) × Contains ac.contexts a × (a.result ≡ 0)
    × ((c : ContextProposal) → Contains rq.contexts c → c.id ≡ a.id
    → Contains c.syntaxes a.syntax
    → ⊥)

-- a greatest length that not even a fragment of two bytes fits
abbrev pub IsTooSmall : ℕ → Type 0
IsTooSmall limit = (1 ≤ limit) × (limit ≤ 7)

-- ---- what is agreed on

-- the pair of a context that is accepted; a refused one has none
abbrev pub pair_of : ContextProposal → ContextAnswer → List Pair
pair_of c a =
    if a.result == 0 then record { id = c.id; class = c.class; syntax = a.syntax } ∷ [] else []

-- the answer to a proposed context: the first with its id
abbrev pub answer_to : List ContextAnswer → ContextProposal → Option ContextAnswer
answer_to answers c = find (λ (a : ContextAnswer). a.id == c.id) answers

-- the pair of a proposed context by its answer; none where there is no answer
abbrev pub pair_if : ContextProposal → Option ContextAnswer → List Pair
pair_if c None = []
pair_if c (Some a) = pair_of c a

-- the pairs of the accepted contexts, in the order of the request, and the limit of the side that
-- answered
abbrev pub agreed_on : AssociateRq → AssociateAc → Agreed
agreed_on rq ac = record {
  pairs = flat_map (λ (c : ContextProposal). pair_if c (answer_to ac.contexts c)) rq.contexts;
  limit = ac.max_pdu;
}

-- what the caller concludes from an acceptance: what is agreed on, or the first of the faults
abbrev pub Concludes : AssociateRq → AssociateAc → Result Agreed NegoFault → Type 0
Concludes rq ac (Ok agreed) =
    (HasStrangeId rq ac → ⊥)
    × (HasStrangeSyntax rq ac → ⊥)
    × (IsTooSmall ac.max_pdu → ⊥)
    × (agreed ≡ agreed_on rq ac)
Concludes rq ac (Err StrangeId) = HasStrangeId rq ac
Concludes rq ac (Err StrangeSyntax) = (HasStrangeId rq ac → ⊥) × HasStrangeSyntax rq ac
Concludes rq ac (Err LimitTooSmall) =
    (HasStrangeId rq ac → ⊥) × (HasStrangeSyntax rq ac → ⊥) × IsTooSmall ac.max_pdu
Concludes rq ac (Err NoHop) = ⊥
Concludes rq ac (Err Memory) = Unit {0}

-- ---- the same in other words, which laws tie to them

-- the context was proposed, and accepted with that syntax
abbrev pub IsAgreed : AssociateRq → AssociateAc → Pair → Type 0
IsAgreed rq ac x =
    (c : ContextProposal) × (a : ContextAnswer) × Contains rq.contexts c × Contains ac.contexts a
    × (c.id ≡ x.id) × (a.id ≡ x.id) × (a.result ≡ 0) × (c.class ≡ x.class) × (a.syntax ≡ x.syntax)

-- just the pairs that are agreed on, by rising ids, and the limit of the side that answered
pub record AreAgreed (rq : AssociateRq) (ac : AssociateAc) (agreed : Agreed) : Type 0 where
  pub rising : AllPairs (λ x y. x.id < y.id) agreed.pairs
  pub each : (x : Pair) → IsAgreed rq ac x → Contains agreed.pairs x
  pub only : All (IsAgreed rq ac) agreed.pairs
  pub limit : agreed.limit ≡ ac.max_pdu

-- ---- the context of a class and a transfer syntax

-- the pair is of this class and transfer syntax
abbrev pub is_for : Text → Text → Pair → Bool
is_for class syntax x = bytes_eq x.class class && bytes_eq x.syntax syntax

-- the id of the first agreed pair of a class and a transfer syntax: the context to send an instance
-- in
abbrev pub context_for : Agreed → Text → Text → Option ℕ
context_for agreed class syntax =
    option_map (λ (x : Pair). x.id) (find (is_for class syntax) agreed.pairs)

-- the pair has this context id
abbrev pub is_id : ℕ → Pair → Bool
is_id id x = x.id == id

-- the agreed pair with this context id
abbrev pub pair_at : Agreed → ℕ → Option Pair
pair_at agreed id = find (is_id id) agreed.pairs
