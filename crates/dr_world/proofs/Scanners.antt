-- A script in which another product sends what it wants fits nodes of ours.
use Rattle.std.proofs.Common.{◌≡◌, ◌≢◌, ◌⊎◌, ℕ, ◌≤◌, Bool, true, false, List, [], ◌∷◌, ◌++◌, Option, None, Some, drop, length, take, inl, inr, refl, sym, ap, subst, ◌∙◌, arith}
use Rattle.std.specs.Prelude.{◌&&◌, nat_le}
use Rattle.std.specs.FinMap as map
use Rattle.std.specs.Ordering.{nat_cmp}
use Rattle.std.specs.List.{AllByRecursion}
use Rattle.std.proofs.lemmas.Bool.{false≢true}
use Rattle.std.proofs.lemmas.List.{append-nil, take_all}
use Rattle.std.proofs.lemmas.Option.{same_Some}
use Rattle.dr_base.specs.Texts.{Text}
use Rattle.dr_plan_model.specs.Networks.{Network}
use Rattle.dr_plan_sound.specs.declared.certificate.Certificate.{Certificate}
use Rattle.dr_site.specs.Parts.{Part, IsPartOf}
use Rattle.dr_pdu.specs.declared.pdu.Pdu.{Pdu}
use Rattle.dr_pdu.specs.Feeding.{Feeding, fresh}
use Rattle.dr_pdu.specs.Written.{Fits, MeetsLimit, written}
use Rattle.dr_nego.specs.Fragments.{spellings}
use Rattle.dr_ledger.proofs.Maps.{get_new}
use Rattle.dr_session.specs.declared.ends.Input.TheVariants as input
use Rattle.dr_session.specs.Plays.{inputs_of}
use Rattle.dr_world_model.specs.Among.{Ours}
use Rattle.dr_world_model.proofs.Lookups.{numbers}
use Rattle.dr_world_tie.specs.Channels.{Channel}
use Rattle.dr_world_tie.specs.Desks.{Desk}
use Rattle.dr_world_tie.specs.Foreign.{CallsAsNoneOfOurs}
use Rattle.dr_world_tie.specs.Moves.{IsLeft}
use Rattle.dr_world_tie.specs.Ties.{receiver_as}
use Rattle.dr_world_tie.specs.ByteWorlds as bytes
use Rattle.dr_world_tie.specs.ByteWorlds.{Acceptor, ByteWorld, Requestor, StepNote, Steps, WorldStep, caller_of, is_over, opened_between, receiver_of, with_done}
use Rattle.dr_world_tie.proofs.Fronts.{hears_one}
use Rattle.dr_world.specs.declared.deed.Deed.{Deed}
use Rattle.dr_world.specs.declared.deed.Deed.TheVariants as deed
use Rattle.dr_world.specs.Adopted.{certificate_after, plan_after}
use Rattle.dr_world.specs.Among.{FitsFrom, IsComing, IsOfAnother, NoneNamesOurs, ScriptsFit, StepFits, WritesFit, sendings}
use Rattle.dr_world.specs.Others.{NoneWrites, Writes, WritesIn, with_written}
use Rattle.dr_world.specs.Runs.{step_of}
use Rattle.dr_world.proofs.Among.{names_are_looked_at}

module _ (ours : Ours) (plan : Network) (certificate : Certificate) where
  -- between two PDUs the acceptor keeps nothing
  abbrev EarReady : Feeding → List Pdu → Type 0
  EarReady ear pdus = (ear.failed ≡ false) × (ear.kept ≡ []) × AllByRecursion (IsOfAnother ours ear.limit) pdus

  -- and another product called
  abbrev LinkReady : List Pdu → Channel → Type 0
  LinkReady pdus k = EarReady k.receiver.ear pdus × (ours (bytes.caller_of k) ≡ false)

  abbrev IsReady : ByteWorld → List Pdu → Type 0
  IsReady b pdus = (k : Channel) → map.get b.links 1 ≡ Some k → LinkReady pdus k

  no_link : (b : ByteWorld) (k : Channel) → map.get b.links 1 ≡ None → map.get b.links 1 ≡ Some k → ⊥
  no_link b k none at = (let f : None ≡ Some k = sym none ∙ at in cc f)

  -- the link as it was done
  done_ready : (b : ByteWorld) (node : Text) (t : Desk) (l : Channel) (new : ByteWorld) (pdus : List Pdu) → new ≡ with_done b node t 1 l → LinkReady pdus l → IsReady new pdus
  done_ready b node t l new pdus is ready k at =
      let here : map.get new.links 1 ≡ Some l = ap (λ (z : ByteWorld). map.get z.links 1) is ∙ get_new numbers b.links 1 l in
      subst (LinkReady pdus) (same_Some l k (sym here ∙ at)) ready

  module _ (p : Pdu) (ps : List Pdu) where
    -- the PDU stands on the wire, and nothing of it came
    abbrev IsWritten : Channel → Type 0
    IsWritten k = EarReady k.receiver.ear (p ∷ ps) × (k.to_receiver ≡ written p) × (ours (bytes.caller_of k) ≡ false)

    written_at : (b mid : ByteWorld) → IsReady b (p ∷ ps) → (q : Option Channel) → map.get b.links 1 ≡ q → WritesIn q b 1 Requestor (written p) mid → (k : Channel) → map.get mid.links 1 ≡ Some k → IsWritten k
    written_at b mid ready None none is k at = absurd (no_link b k none (sym (ap (λ (z : ByteWorld). map.get z.links 1) is) ∙ at))
    written_at b mid ready (Some old) was is k at =
        let l : Channel = with_written Requestor (written p) old in
        let here : map.get mid.links 1 ≡ Some l = ap (λ (z : ByteWorld). map.get z.links 1) is ∙ get_new numbers b.links 1 l in
        subst IsWritten (same_Some l k (sym here ∙ at)) ((ready old was).0, refl, (ready old was).1)

    coming : (k : Channel) → IsWritten k → IsComing k p
    coming k w = record {
      works = w.0.0;
      is = ap (λ (kept : List ℕ). kept ++ k.to_receiver) w.0.1 ∙ w.1;
      fits = w.0.2.0.0;
      meets = w.0.2.0.1;
    }

    fits_move : (k : Channel) → IsWritten k → NoneNamesOurs ours k
    fits_move k w = names_are_looked_at.others ours k p (coming k w) w.0.2.0.2

    still_ready : (b new : ByteWorld) (k : Channel) → map.get b.links 1 ≡ Some k → IsWritten k → new ≡ b → IsReady new ps
    still_ready b new k at w is other there =
        let same : k ≡ other = same_Some k other (sym at ∙ (sym (ap (λ (z : ByteWorld). map.get z.links 1) is) ∙ there)) in
        subst (LinkReady ps) same ((w.0.0, w.0.1, w.0.2.1), w.2)

    module _ (b new : ByteWorld) (note : StepNote) (k : Channel) (at : map.get b.links 1 ≡ Some k) (w : IsWritten k) where
      -- all of it comes, since a Move ends no sooner
      hears : (y : ℕ) (ys : List ℕ) → k.to_receiver ≡ y ∷ ys → bytes.ReceiverHears plan b 1 k (length (written p)) new → IsReady new ps
      hears y ys some (m, moment, ear, x, t, moved, is_moment, plays, is) =
          let c : IsComing k p = coming k w in
          let left : IsLeft k.receiver k.to_receiver p (written p) = record {
            first = ([], c.is ∙ sym (append-nil (written p)), c.fits, c.meets);
            joined = ap (λ (kept : List ℕ). kept ++ written p) w.0.1;
            some = λ e. (let f : [] ≡ y ∷ ys = sym e ∙ (sym w.1 ∙ some) in cc f);
            rest = [];
            wire_is = w.1 ∙ sym (append-nil (written p));
          } in
          let all : take m k.to_receiver ≡ k.to_receiver = elim (moved.1 p (written p) left).1 [
            | inl whole ↦ all_taken m whole
            | inr whole ↦ all_taken m whole
          ] in
          let heard = hears_one k.receiver.ear ear (take m k.to_receiver) plays.0 p c.works c.fits c.meets (ap (λ (wire : List ℕ). k.receiver.ear.kept ++ wire) all ∙ c.is) plays.1 in
          done_ready b (bytes.receiver_of k) t (receiver_as k (drop m k.to_receiver) ear x) new ps is
          (subst (λ (f : Feeding). EarReady f ps) (sym heard.1) (refl, refl, w.0.2.1), w.2)
        where
          all_taken : (m : ℕ) → m ≡ length (written p) → take m k.to_receiver ≡ k.to_receiver
          all_taken m whole = take_all m k.to_receiver (
              let e : m ≡ length (written p) = whole in
              let f : length k.to_receiver ≡ length (written p) = ap length w.1 in
              omega (arith, e, f))

      meets : bytes.ReceiverMeets plan b 1 k input.Ended new → IsReady new ps
      meets (moment, x, t, is_moment, reacts, is) = done_ready b (bytes.receiver_of k) t (receiver_as k k.to_receiver k.receiver.ear x) new ps is ((w.0.0, w.0.1, w.0.2.1), w.2)

      does : (go : Bool) (What : Type 0) → (What → IsReady new ps) → bytes.DoesIf go b note new What → IsReady new ps
      does true What f h = f h.1
      does false What f h = still_ready b new k at w h.1

      reads : (wire : List ℕ) → k.to_receiver ≡ wire → bytes.ReceiverReads wire plan b 1 k (length (written p)) note new → IsReady new ps
      reads [] e h = does (nat_le 1 (length (written p)) && is_over k.caller.core) (bytes.ReceiverMeets plan b 1 k input.Ended new) meets h
      reads (y ∷ ys) e h = does (nat_le 1 (length (written p))) (bytes.ReceiverHears plan b 1 k (length (written p)) new) (hears y ys e) h

      reads_if : (over : Bool) → bytes.ReadsIf over b note new (bytes.ReceiverReads k.to_receiver plan b 1 k (length (written p)) note new) → IsReady new ps
      reads_if true h = still_ready b new k at w h.1
      reads_if false h = reads k.to_receiver refl h

    moved_ready : (b new : ByteWorld) (note : StepNote) → ((k : Channel) → map.get b.links 1 ≡ Some k → IsWritten k) → (q : Option Channel) → map.get b.links 1 ≡ q
        → bytes.LinkStep q b note new (λ k. bytes.Moves plan b 1 k Acceptor (length (written p)) note new) → IsReady new ps
    moved_ready b new note all None none h = λ k at. absurd (no_link b k none (sym (ap (λ (z : ByteWorld). map.get z.links 1) h.1) ∙ at))
    moved_ready b new note all (Some k) at h = reads_if b new note k at (all k at) (is_over k.receiver.core) h

  sends : (pdus : List Pdu) (b : ByteWorld) → IsReady b pdus → FitsFrom ours plan certificate b (sendings pdus)
  sends [] b ready = tt
  sends (p ∷ ps) b ready = (
    (λ k at mine. absurd (false≢true (sym (ready k at).1 ∙ mine))),
    (λ mid wrote.
        let all : (k : Channel) → map.get mid.links 1 ≡ Some k → IsWritten p ps k = written_at p ps b mid ready (map.get b.links 1) refl wrote in (
          (λ k at mine away. fits_move p ps k (all k at)),
          (λ note new h. sends ps new (moved_ready p ps mid new note all (map.get mid.links 1) refl h)),
        )),
  )

  -- the link that was opened just now
  opened_ready : (from to : Text) (pdus : List Pdu) → ours from ≡ false → ((site : Part) → IsPartOf plan certificate site → site.name ≡ to → AllByRecursion (IsOfAnother ours site.max_pdu) pdus)
      → (new : ByteWorld) → bytes.Opens plan certificate bytes.beginning from to new → IsReady new pdus
  opened_ready from to pdus away each new (caller, receiver, rq, hop, is_from, named_from, is_to, named_to, hop_is, proposal, is) k at =
      let l : Channel = opened_between caller receiver rq 0 in
      let here : map.get new.links 1 ≡ Some l = ap (λ (z : ByteWorld). map.get z.links 1) is ∙ get_new numbers bytes.beginning.links 1 l in
      subst (LinkReady pdus) (same_Some l k (sym here ∙ at)) ((refl, refl, each receiver is_to named_to), ap ours named_from ∙ away)

-- ---- scripts of ours

step_of_ours : (ours : Ours) (b : ByteWorld) (step : WorldStep) → ((name : Text) → ours name ≡ true) → StepFits ours b step
step_of_ours ours b (bytes.Move number Acceptor n) all = λ k at mine away. absurd (false≢true (sym away ∙ all (caller_of k)))
step_of_ours ours b step all = tt

deeds_of_ours : (ours : Ours) (deeds : List Deed) (plan : Network) (certificate : Certificate) (b : ByteWorld) → ((name : Text) → ours name ≡ true) → NoneWrites deeds → FitsFrom ours plan certificate b deeds
deeds_of_ours ours [] plan certificate b all none = tt
deeds_of_ours ours (deed.Step step ∷ deeds) plan certificate b all none =
    (step_of_ours ours b (step_of step) all, λ note mid h. deeds_of_ours ours deeds plan certificate mid all none)
deeds_of_ours ours (deed.Adopt next ∷ deeds) plan certificate b all none =
    λ change mid h. deeds_of_ours ours deeds (plan_after next.plan change plan) (certificate_after next.certificate change certificate) mid all none
deeds_of_ours ours (deed.Bytes link side piece ∷ deeds) plan certificate b all none = absurd none

-- ---- single deeds, beside others

other_steps : (ours : Ours) (b : ByteWorld) (step : WorldStep) → ((number n : ℕ) → step ≡ bytes.Move number Acceptor n → ⊥) → StepFits ours b step
other_steps ours b (bytes.Move number Acceptor n) apart = absurd (apart number n refl)
other_steps ours b step apart = tt

called_by_ours : (ours : Ours) (b : ByteWorld) (number n : ℕ) (k : Channel) → map.get b.links number ≡ Some k → ours (caller_of k) ≡ true → StepFits ours b (bytes.Move number Acceptor n)
called_by_ours ours b number n k at its = λ other there mine away.
    absurd (false≢true (sym away ∙ (ap (λ (z : Channel). ours (caller_of z)) (same_Some other k (sym there ∙ at)) ∙ its)))

others_write : (ours : Ours) (b : ByteWorld) (number : ℕ) (k : Channel) → map.get b.links number ≡ Some k → (ours (caller_of k) ≡ false) ⊎ (ours (receiver_of k) ≡ false) → WritesFit ours b number
others_write ours b number k at theirs other there its =
    let same : k ≡ other = same_Some k other (sym at ∙ there) in
    elim theirs [
      | inl calls ↦ absurd (false≢true (sym calls ∙ (ap (λ (z : Channel). ours (caller_of z)) same ∙ its)))
      | inr called ↦ sym (ap (λ (z : Channel). ours (receiver_of z)) same) ∙ called
    ]

pub scripts_fit : ScriptsFit
scripts_fit = record {
  scanner = λ ours plan certificate from to pdus away each. (
    tt,
    (λ note mid h. sends ours plan certificate pdus mid (by ours plan certificate from to pdus away each note mid h)),
  );
  between = λ ours plan certificate from to. (tt, (λ note mid h. tt));
  own = λ ours plan certificate b deeds all none. deeds_of_ours ours deeds plan certificate b all none;
  steps = other_steps;
  called = called_by_ours;
  others = others_write;
  overwritten = λ ours plan certificate from to side piece deeds opened mine also opens fits.
      let l : Channel = opened_between opens.0 opens.1 opens.2 0 in
      let here : map.get opened.links 1 ≡ Some l = ap (λ (z : ByteWorld). map.get z.links 1) opens.10 ∙ get_new numbers bytes.beginning.links 1 l in
      let away : ours (bytes.receiver_of l) ≡ false = (fits.1 bytes.Done opened (inl (refl, opens))).0 l here (ap ours opens.5 ∙ mine) in
      false≢true (sym away ∙ (ap ours opens.7 ∙ also));
}
  where
    by : (ours : Ours) (plan : Network) (certificate : Certificate) (from to : Text) (pdus : List Pdu) → ours from ≡ false → ((site : Part) → IsPartOf plan certificate site → site.name ≡ to → AllByRecursion (IsOfAnother ours site.max_pdu) pdus)
        → (note : StepNote) (mid : ByteWorld) → Steps plan certificate bytes.beginning (bytes.Open from to) note mid → IsReady ours plan certificate mid pdus
    by ours plan certificate from to pdus away each note mid (inl h) = opened_ready ours plan certificate from to pdus away each mid h.1
    by ours plan certificate from to pdus away each note mid (inr h) = λ k at.
        let none : map.get bytes.beginning.links 1 ≡ None = map.get-empty nat_cmp 1 in
        absurd (no_link ours plan certificate bytes.beginning k none (sym (ap (λ (z : ByteWorld). map.get z.links 1) h.1.1) ∙ at))
