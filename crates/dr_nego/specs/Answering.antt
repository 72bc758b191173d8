-- What an acceptor answers to a request (PS3.8 sections 7.1.1 and 9.3.4), by its node's part of the
-- plan.
use Rattle.std.specs.Prelude.{ℕ, ◌%◌, Bool, true, List, [], ◌∷◌, map, filter, find, not}
use Rattle.std.specs.Prelude.{◌==◌, ◌&&◌, ◌||◌, nat_le, if◌then◌else◌, Option, Some, None}
use Rattle.std.specs.List.{flat_map, list_any}
use Rattle.std.specs.Str.{bytes_eq}
use Rattle.dr_base.specs.Texts.{Text}
use Rattle.dr_base.specs.Syntaxes.{syntax_uid}
use Rattle.dr_base.specs.declared.syntax.Syntax.{Syntax}
use Rattle.dr_base.specs.declared.syntax.Syntax.TheVariants.{Implicit, Explicit}
use Rattle.dr_route.specs.Routes.{local}
use Rattle.dr_route.specs.declared.accept.Callers.{Callers}
use Rattle.dr_route.specs.declared.accept.Callers.TheVariants as callers
use Rattle.dr_route.specs.declared.accept.AcceptRow.{AcceptRow}
use Rattle.dr_site.specs.Parts.{Part}
use Rattle.dr_pdu.specs.declared.pdu.ContextProposal.{ContextProposal}
use Rattle.dr_pdu.specs.declared.pdu.ContextAnswer.{ContextAnswer}
use Rattle.dr_nego.specs.declared.agreed.Pair.{Pair}
use Rattle.dr_nego.specs.declared.agreed.Agreed.{Agreed}
use Rattle.dr_nego.specs.declared.answering.Answer.{Answer}
use Rattle.dr_nego.specs.declared.answering.Answer.TheVariants.{Accept, Reject, TooSmall}
use Rattle.dr_nego.specs.Agreeing.{AssociateRq, AssociateAc, pair_of}
use Rattle.dr_base.specs.Standard.{application_context, verification}

-- ---- one context

-- the text is one of the list
abbrev pub member : Text → List Text → Bool
member x xs = list_any (bytes_eq x) xs

-- the callers of an accept row are all, or this one is among them
abbrev pub is_caller : Callers → Text → Bool
is_caller callers.Any caller = true
is_caller (callers.Listed names) caller = member caller names

-- the accept row is for the caller and the class
abbrev pub is_row_for : Text → Text → AcceptRow → Bool
is_row_for caller class row = is_caller row.from caller && bytes_eq row.class class

-- the syntaxes that the rows for a caller and a class have, in the order of the rows and of their
-- lists
abbrev pub syntaxes_for : List AcceptRow → Text → Text → List Syntax
syntaxes_for rows caller class =
    flat_map (λ (r : AcceptRow). r.syntaxes) (filter (is_row_for caller class) rows)

-- the transfer syntax was proposed in the context
abbrev pub is_proposed : ContextProposal → Syntax → Bool
is_proposed c s = member (syntax_uid s) c.syntaxes

-- of the transfer syntaxes that are offered, the first that was proposed in the context
abbrev pub first_proposed : ContextProposal → List Syntax → Option Syntax
first_proposed c offered = find (is_proposed c) offered

-- the answer to a context whose class is taken: result 0 and the syntax, or 4, none in common
-- (PS3.8 9.3.3.2)
abbrev pub answer_with : ContextProposal → Option Syntax → ContextAnswer
answer_with c None = record { id = c.id; result = 4; syntax = [] }
answer_with c (Some s) = record { id = c.id; result = 0; syntax = syntax_uid s }

-- Verification is offered to everybody, in the implicit syntax first. A class that no row has is
-- refused (3), and so is one none of whose syntaxes was proposed (4).
abbrev pub answer_of : List AcceptRow → Text → ContextProposal → ContextAnswer
answer_of rows caller c =
    if bytes_eq c.class verification
    then answer_with c (first_proposed c (Implicit ∷ Explicit ∷ []))
    else if list_any (is_row_for caller c.class) rows
    then answer_with c (first_proposed c (syntaxes_for rows caller c.class))
    else record { id = c.id; result = 3; syntax = [] }

-- ---- the request

-- the caller names itself `-`, or no accept row of the node is for it
abbrev pub is_stranger : List AcceptRow → Text → Bool
is_stranger rows caller =
    bytes_eq caller local || not (list_any (λ (r : AcceptRow). is_caller r.from caller) rows)

-- why a request isn't accepted, by the first test that fails: application context, version, called
-- title, calling title, 256 others, greatest length (PS3.8 9.3.4)
abbrev pub refusal : AssociateRq → Part → ℕ → Option Answer
refusal rq site others =
    if not (bytes_eq rq.application application_context) then Some (Reject 1 1 2)
    else if rq.front.version % 2 == 0 then Some (Reject 1 2 2)
    else if not (bytes_eq rq.front.called site.name) then Some (Reject 1 1 7)
    else if is_stranger site.accepts rq.front.calling then Some (Reject 1 1 3)
    else if nat_le 256 others then Some (Reject 2 3 2)
    else if nat_le 1 rq.max_pdu && nat_le rq.max_pdu 7 then Some TooSmall
    else None

-- the pairs of the contexts that a node accepts, in the order of the request
abbrev pub pairs_of : List AcceptRow → Text → List ContextProposal → List Pair
pairs_of rows caller cs = flat_map (λ (c : ContextProposal). pair_of c (answer_of rows caller c)) cs

-- the A-ASSOCIATE-AC that a node answers: the titles as they came, and each context answered in the
-- request's order
abbrev pub acceptance_of : AssociateRq → Part → AssociateAc
acceptance_of rq site = record {
  front = record {
    version = 1;
    called = rq.front.called;
    calling = rq.front.calling;
    reserved = rq.front.reserved;
  };
  application = application_context;
  contexts = map (answer_of site.accepts rq.front.calling) rq.contexts;
  max_pdu = site.max_pdu;
}

-- what the acceptor agrees on: the pairs of the contexts that it accepts, and the caller's greatest
-- length
abbrev pub agreed_by : AssociateRq → Part → Agreed
agreed_by rq site =
    record { pairs = pairs_of site.accepts rq.front.calling rq.contexts; limit = rq.max_pdu }

-- the refusal where there is one, else the acceptance with what is agreed on
abbrev pub answer_by : Option Answer → AssociateRq → Part → Answer
answer_by None rq site = Accept (acceptance_of rq site) (agreed_by rq site)
answer_by (Some refused) rq site = refused

-- what a node answers to a request while it has so many other associations
abbrev pub answer : AssociateRq → Part → ℕ → Answer
answer rq site others = answer_by (refusal rq site others) rq site
