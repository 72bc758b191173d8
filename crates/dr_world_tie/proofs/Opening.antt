-- A link that was opened.
use Rattle.std.proofs.Common.{◌≡◌, ℕ, ◌+◌, List, [], ◌∷◌, ◌++◌, Some, None, refl, sym, ap, subst, ◌∙◌}
use Rattle.dr_pdu.specs.declared.pdu.Pdu.TheVariants as pdu
use Rattle.dr_pdu.specs.declared.fault.PduFault.TheVariants.{More}
use Rattle.dr_pdu.specs.Grammar.{Shows}
use Rattle.dr_pdu.specs.Feeding.{Feeding, fresh}
use Rattle.dr_ledger.proofs.Maps.{get_new}
use Rattle.dr_world_model.proofs.Lookups.{numbers}
use Rattle.dr_world_model.specs.Steps.{new_link, asked}
use Rattle.dr_nego.specs.Agreeing.{AssociateRq}
use Rattle.dr_nego.specs.Proposing.{IsProposal}
use Rattle.dr_world_tie.specs.Ties.{OpensAreAsks}
use Rattle.dr_world_tie.specs.Channels.{LiveTerminal, site_of}
use Rattle.dr_world_tie.proofs.Fronts.{nothing_yet}

kept_none : (t : LiveTerminal) (wire : List ℕ) → t.ear ≡ fresh t.ear.limit → t.ear.kept ++ wire ≡ wire
kept_none t wire e = ap (λ (f : Feeding). f.kept ++ wire) e

waits_yet : (t : LiveTerminal) → t.ear ≡ fresh t.ear.limit → Shows t.ear.limit t.ear.kept More
waits_yet t e = subst (λ (f : Feeding). Shows t.ear.limit f.kept More) (sym e) (nothing_yet t.ear.limit)

some_same : (a b : AssociateRq) → Some a ≡ Some b → a ≡ b
some_same a b e = cc

pub opens_are_asks : OpensAreAsks
opens_are_asks plan certificate w caller receiver k hop opened = (
  asked w caller receiver,
  (hop, refl),
  get_new numbers w.links (w.opened + 1) (new_link caller receiver),
  record {
    hop = hop;
    from = opened.from;
    to = opened.to;
    peer = opened.peer;
    caller_agrees = λ o. ((λ a e. (let f : None ≡ Some a = sym opened.asking.2 ∙ e in absurd (cc f))), opened.last);
    receiver_agrees = λ o a e. (let f : None ≡ Some a = sym opened.listening.2 ∙ e in absurd (cc f));
    caller = opened.asking;
    receiver = opened.listening;
    to_receiver = λ o. record {
      coming = pdu.AssociateRq opened.rq ∷ [];
      is = (
        opened.rq,
        opened.proposed,
        subst (λ (r : AssociateRq). IsProposal (site_of k.caller.core) receiver r)
            (some_same opened.asking.5.0 opened.rq (sym opened.asking.5.1 ∙ opened.proposed)) opened.asking.5.2,
        refl,
      );
      controls = [];
      joined = kept_none k.receiver k.to_receiver opened.ears.1 ∙ opened.wires.1;
      works = ap (λ (f : Feeding). f.failed) opened.ears.1;
      waits = waits_yet k.receiver opened.ears.1;
      fits = ((opened.fits, tt), tt);
      control = tt;
      none = λ e. refl;
    };
    to_caller = λ o. record {
      coming = [];
      is = refl;
      controls = [];
      joined = kept_none k.caller k.to_caller opened.ears.0 ∙ opened.wires.0;
      works = ap (λ (f : Feeding). f.failed) opened.ears.0;
      waits = waits_yet k.caller opened.ears.0;
      fits = tt;
      control = tt;
      none = λ e. refl;
    };
  },
)
