-- What is told of a route.
use Rattle.std.proofs.Common.{ℕ, List, [], sym, subst, Option, Some, None, Result, Ok, Err}
use Rattle.std.proofs.lemmas.List.{append-nil}
use Rattle.std.specs.Io.KnownBytes.{Appends}
use Rattle.dr_base.specs.Texts.{Text}
use Rattle.dr_base.specs.declared.syntax.Syntax.{Syntax}
use Rattle.dr_plan_model.specs.Networks.{Network}
use Rattle.dr_plan_model.specs.Walks.{IsEntry}
use Rattle.dr_route.specs.declared.key.Key.{Key}
use Rattle.dr_cert_trace.specs.Routes.{IsJourneyText}
use Rattle.dr_plan_expect.specs.Reading.{WritesExpectations}
use Rattle.dr_plan_expect.specs.declared.words.Expectation.{Expectation}
use Rattle.dr_plan_expect.specs.declared.fault.ExpectFault.TheVariants.{Expect, Memory as NoMemory}
use Rattle.dr_word_route.specs.Expecting.{IsVerdict, IsVerdictOn}
use Rattle.dr_word_route.specs.declared.expecting.ExpectVerdict.{ExpectVerdict}
use Rattle.dr_word_route.specs.declared.expecting.ExpectVerdict.TheVariants.{Yes, Missed, Faulty}
use Rattle.dr_word_route.specs.Keys.{ReadsDataSet, ReadsFileKey, ReadsItemKey, ReadsSite}
use Rattle.dr_word_route.specs.Replies.{IsRouted, IsRoutedFor, IsRefusalAt, IsRouteReply, IsSiteReply}
use Rattle.dr_word_route.specs.declared.reply.Unanswered.{Unanswered}
use Rattle.dr_word_route.specs.declared.reply.Unanswered.TheVariants.{NoNode, File, Item, Memory}
use Rattle.dr_word_route.specs.declared.reply.Response.{Response}
use Rattle.dr_word_route.specs.declared.reply.Response.TheVariants.{Printed, NoLine, Refused}

-- a verdict on the rows that a text writes is one on the text
pub verdict_told : (plan : Network) (text : Text) (rows : List Expectation) → WritesExpectations text rows → (verdict : ExpectVerdict) → IsVerdictOn plan rows verdict → IsVerdict plan text verdict
verdict_told plan text rows writes Yes on = (rows, writes, on)
verdict_told plan text rows writes (Missed line) on = (rows, writes, on)
verdict_told plan text rows writes (Faulty (Expect number)) on = absurd on
verdict_told plan text rows writes (Faulty NoMemory) on = tt

module _ (plan : Network) (at : Text) (Reads : Result Key Unanswered → Type 0) (knows : Reads (Err NoNode) → ⊥) where
  refused : (refusal : Unanswered) → Reads (Err refusal) → IsRefusalAt plan at Reads refusal
  refused NoNode reads = absurd (knows reads)
  refused (File fault) reads = reads
  refused (Item fault) reads = reads
  refused Memory reads = tt

  module _ (site : Text) (found : ReadsSite plan at (Ok site)) where
    for_key : (key : Key) → Reads (Ok key) → (reply : Response) → IsRouted plan site key reply → IsRouteReply plan at Reads reply
    for_key key reads (Printed text) routed = (key, reads, subst (λ (name : Text). IsJourneyText plan name key text) found.0 routed)
    for_key key reads NoLine routed = (found.1, found.2, key, reads, subst (λ (name : Text). IsEntry plan name key → ⊥) found.0 routed)
    for_key key reads (Refused Memory) routed = tt
    for_key key reads (Refused NoNode) routed = absurd routed
    for_key key reads (Refused (File fault)) routed = absurd routed
    for_key key reads (Refused (Item fault)) routed = absurd routed

    -- what is told of what was read
    pub route_reply : (key : Result Key Unanswered) → Reads key → (reply : Response) → IsRoutedFor plan site key reply → IsRouteReply plan at Reads reply
    route_reply (Ok key) reads reply routed = for_key key reads reply routed
    route_reply (Err refusal) reads reply routed = subst (λ (r : Response). IsRouteReply plan at Reads r) (sym routed) (refused refusal reads)

-- where there is no such node, that is told, whatever enters
pub site_reply : (plan : Network) (at : Text) (refusal : Unanswered) → ReadsSite plan at (Err refusal) → IsSiteReply plan at (Refused refusal)
site_reply plan at NoNode reads = reads
site_reply plan at (File fault) reads = reads
site_reply plan at (Item fault) reads = reads
site_reply plan at Memory reads = tt

pub stranger_reply : (plan : Network) (at : Text) (Reads : Result Key Unanswered → Type 0) (refusal : Unanswered) → ReadsSite plan at (Err refusal) → IsRouteReply plan at Reads (Refused refusal)
stranger_reply plan at Reads NoNode reads = reads
stranger_reply plan at Reads (File fault) reads = absurd reads
stranger_reply plan at Reads (Item fault) reads = absurd reads
stranger_reply plan at Reads Memory reads = tt

-- an output to which nothing is written has what it had
pub nothing_added : (o : Option (List ℕ)) → Appends o o []
nothing_added None = tt
nothing_added (Some held) = sym (append-nil held)

-- what is read of a file's data set is read of the file
pub file_key : (bytes : List ℕ) (syntax : Syntax) (body : Text) → ReadsDataSet bytes (Ok (syntax, body)) → (key : Result Key Unanswered) → ReadsItemKey syntax body key → ReadsFileKey bytes key
file_key bytes syntax body set (Ok key) reads = (syntax, body, set, reads)
file_key bytes syntax body set (Err (Item fault)) reads = (syntax, body, set, reads)
file_key bytes syntax body set (Err (File fault)) reads = absurd reads
file_key bytes syntax body set (Err Memory) reads = tt
file_key bytes syntax body set (Err NoNode) reads = absurd reads
