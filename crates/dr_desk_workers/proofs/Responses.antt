-- What is written as a response is read as it.
use Rattle.std.proofs.Common.{◌≡◌, ◌∙◌, ◌<◌, ◌+◌, ℕ, List, [], ◌∷◌, ◌++◌, Option, Some, None, Ok, Err, refl, sym, ap, subst, append_assoc, append-nil, arith, flat_map, get_or, inl, length, take, true}
use Rattle.std.specs.List.{AllByRecursion}
use Rattle.std.proofs.lemmas.Grind.{flat_map-append}
use Rattle.std.proofs.lemmas.List.{take_more}
use Rattle.std.proofs.lemmas.List.Elements.{recursion_from_All}
use Rattle.dr_base.specs.Runs.{Run}
use Rattle.dr_pdu.specs.declared.fault.PduFault.TheVariants.{More}
use Rattle.dr_pdu.specs.declared.pdu.Pdu.{Pdu}
use Rattle.dr_pdu.specs.declared.pdu.Pdu.TheVariants as pdu
use Rattle.dr_pdu.specs.Grammar.{Shows}
use Rattle.dr_pdu.specs.Feeding.{StartsPdu, fresh, given_by}
use Rattle.dr_pdu.specs.Written.{MeetsLimit, written}
use Rattle.dr_pdu.specs.Written.{Fits as FitsPdu}
use Rattle.dr_pdu.proofs.CutLemmas.{starts_nothing}
use Rattle.dr_pdu.proofs.OneFeed.{one_feed}
use Rattle.dr_pdu.proofs.WrittenLemmas.{written_spells}
use Rattle.dr_dimse.specs.Commands.{IsCommand, ReadsCommand, status_of}
use Rattle.dr_dimse.specs.declared.fault.DimseFault.{DimseFault}
use Rattle.dr_dimse.specs.declared.fault.DimseFault.TheVariants.{BadCommand}
use Rattle.dr_dimse.specs.Written.{CommandFits}
use Rattle.dr_dimse.specs.Written as command
use Rattle.dr_dimse.specs.declared.command.Command.{Command}
use Rattle.dr_dimse.proofs.OneCommand.{one_command}
use Rattle.dr_dimse.proofs.WrittenLemmas.{written_reads}
use Rattle.dr_nego.specs.Fragments.{piece_size, pieces, spellings, value_pdus}
use Rattle.dr_nego.specs.declared.fragment.FragmentKind.TheVariants as kind
use Rattle.dr_nego.proofs.Cutting.{fragments_fit, pieces_are_whole}
use Rattle.dr_session.specs.Messages.{command_pdus}
use Rattle.dr_desk_workers.specs.Said.{ComesOut, OneStatus, ResponsesSayTheirStatus, TellsStatus, command_text}

-- the pieces of the first elements of a list, and that of the next one
pub one_more : {X : Type 0} (f : X → List ℕ) (xs : List X) (i : ℕ) (d x : X) (o p q : List ℕ) → i < length xs → x ≡ get_or xs i d → p ≡ o ++ flat_map f (take i xs) → q ≡ p ++ f x → q ≡ o ++ flat_map f (take (i + 1) xs)
one_more {X} f xs i d x o p q within is first later =
    let so_far = flat_map f (take i xs) in
    later ∙ (ap (λ (t : List ℕ). t ++ f x) first ∙ (append_assoc o so_far (f x)
    ∙ ap (λ (t : List ℕ). o ++ t)
    (sym (ap (flat_map f) (take_more xs i d within)
    ∙ (flat_map-append f (take i xs) (get_or xs i d ∷ [])
    ∙ (ap (λ (t : List ℕ). so_far ++ t) (append-nil (f (get_or xs i d)))
    ∙ ap (λ (y : X). so_far ++ f y) (sym is)))))))

-- ---- one status

told_one : (text : List ℕ) (one other : Option ℕ) → TellsStatus text one → TellsStatus text other → one ≡ other
told_one text None None a b = refl
told_one text None (Some t) a b = sym (a b.0 b.1) ∙ b.2
told_one text (Some s) None a b = sym a.2 ∙ b a.0 a.1
told_one text (Some s) (Some t) a b = sym a.2 ∙ (ap status_of (one_command text a.0 b.0 a.1 b.1) ∙ b.2)

-- the status of the command that a text spells
pub told_by : (text : List ℕ) (c : Command) (said : Option ℕ) → IsCommand text c → said ≡ status_of c → TellsStatus text said
told_by text c None is e = λ d reads. ap status_of (one_command text d c reads is) ∙ sym e
told_by text c (Some status) is e = (c, is, sym e)

-- or it spells none
pub told_none : (text : List ℕ) (fault : DimseFault) → ReadsCommand text (Err fault) → fault ≡ BadCommand → TellsStatus text None
told_none text fault reads is =
    let P : DimseFault → Type 0 = λ f. ReadsCommand text (Err f) in
    λ c spells. absurd (subst P is reads c spells)

came_one : (bytes : List ℕ) (ps qs : List Pdu) → ComesOut bytes ps → ComesOut bytes qs → ps ≡ qs
came_one bytes ps qs (r, new, a, feeds, is) (s, new', b, feeds', is') =
    is ∙ (ap given_by (one_feed (fresh 0) bytes r s new new' a b feeds feeds').0 ∙ sym is')

pub one_status : OneStatus
one_status bytes one other (ps, comes, tells) (qs, comes', tells') =
    let P : List Pdu → Type 0 = λ pdus. TellsStatus (command_text pdus) other in
    told_one (command_text ps) one other tells (subst P (sym (came_one bytes ps qs comes comes')) tells')

-- ---- what comes out of what is written

abbrev Free : Pdu → Type 0
Free p = FitsPdu p × MeetsLimit 0 p

free : (p : Pdu) → MeetsLimit 0 p
free (pdu.AssociateRq rq) = tt
free (pdu.AssociateAc ac) = tt
free (pdu.AssociateRj rj) = tt
free (pdu.Transfer values) = inl refl
free pdu.ReleaseRq = tt
free pdu.ReleaseRp = tt
free (pdu.Abort a) = tt

runs : (ps : List Pdu) → AllByRecursion Free ps → Run (StartsPdu 0) ps (spellings ps) []
runs [] all = refl
runs (p ∷ ps) all = (spellings ps, (written p, refl, written_spells 0 p all.0.0 all.0.1), runs ps all.1)

comes_out : (ps : List Pdu) → AllByRecursion Free ps → ComesOut (spellings ps) ps
comes_out ps all =
    let nothing : ps ≡ [] → Shows 0 [] More = λ none. inl (omega arith) in
    (Ok ps, fresh 0, (λ e. cc), (refl, (runs ps all, starts_nothing 0), nothing, refl, refl), refl)

-- ---- the fragments of a command are its text

whole : (context : ℕ) (parts : List (List ℕ)) → command_text (value_pdus context true parts) ≡ flat_map (λ (x : List ℕ). x) parts
whole context [] = refl
whole context (piece ∷ []) = ap (λ (t : List ℕ). t ++ []) (append-nil piece)
whole context (piece ∷ next ∷ more) =
    ap (λ (t : List ℕ). t ++ command_text (value_pdus context true (next ∷ more))) (append-nil piece)
    ∙ ap (λ (t : List ℕ). piece ++ t) (whole context (next ∷ more))

pub responses_say_their_status : ResponsesSayTheirStatus
responses_say_their_status limit context c said large fits says =
    let text = command.written c in
    let ps = command_pdus limit context c in
    let fit = fragments_fit limit context kind.Command text large in
    let all = recursion_from_All Free ps (λ k d within. ((fit k d within).0, free (get_or ps k d))) in
    let joined : command_text ps ≡ text = whole context (pieces (piece_size limit) text) ∙ sym (pieces_are_whole limit large text).joined in
    let P : List ℕ → Type 0 = λ t. TellsStatus t (status_of c) in
    let own : TellsStatus text (status_of c) = told_by text c (status_of c) (written_reads c fits) refl in
    one_status (spellings ps) said (status_of c) says (ps, comes_out ps all, subst P (sym joined) own)
