-- What a row offers, and the faults of an acceptance, as tests.
use Rattle.std.specs.Prelude.{ℕ, Bool, List, not, ◌==◌, ◌&&◌, Option, None, if◌then◌else◌}
use Rattle.std.specs.List.{list_any}
use Rattle.dr_pdu.specs.declared.pdu.ContextProposal.{ContextProposal}
use Rattle.dr_pdu.specs.declared.pdu.ContextAnswer.{ContextAnswer}
use Rattle.dr_base.specs.Texts.{Text}
use Rattle.dr_base.specs.declared.syntax.Syntax.{Syntax}
use Rattle.dr_route.specs.declared.accept.AcceptRow.{AcceptRow}
use Rattle.dr_nego.specs.Answering.{member, is_row_for, first_proposed}

-- a context with this id was proposed
abbrev pub is_proposed_id : List ContextProposal → ℕ → Bool
is_proposed_id contexts id = list_any (λ (c : ContextProposal). c.id == id) contexts

-- some context was answered that wasn't proposed
abbrev pub has_strange_id : List ContextProposal → List ContextAnswer → Bool
has_strange_id contexts answers =
    list_any (λ (a : ContextAnswer). not (is_proposed_id contexts a.id)) answers

-- some context of that id was proposed with that syntax
abbrev pub is_proposed_with : List ContextProposal → ContextAnswer → Bool
is_proposed_with contexts a =
    list_any (λ (c : ContextProposal). (c.id == a.id) && member a.syntax c.syntaxes) contexts

-- the context is accepted with a transfer syntax that wasn't proposed in it
abbrev pub is_strange_syntax : List ContextProposal → ContextAnswer → Bool
is_strange_syntax contexts a = (a.result == 0) && not (is_proposed_with contexts a)

-- some context is accepted with a transfer syntax that wasn't proposed in it
abbrev pub has_strange_syntax : List ContextProposal → List ContextAnswer → Bool
has_strange_syntax contexts answers = list_any (is_strange_syntax contexts) answers

-- the first syntax of the row that was proposed, where the row is for the caller and the context's
-- class
abbrev pub offered_by : AcceptRow → Text → ContextProposal → Option Syntax
offered_by row caller c =
    if is_row_for caller c.class row then first_proposed c row.syntaxes else None
