-- PDUs in front of a text, one after the other.
use Rattle.std.proofs.Common.{◌≡◌, ◌≢◌, ℕ, ◌+◌, ◌-◌, ◌<◌, ◌≤◌, List, [], ◌++◌, length, take, drop, Some, None, refl, sym, ap, subst, ◌∙◌, arith, inl, inr, Ok, Err, true, false}
use Rattle.std.proofs.lemmas.List.{take_rest, drop_at, drop-drop, length-drop, length-append}
use Rattle.dr_pdu.specs.declared.pdu.Pdu.{Pdu}
use Rattle.dr_pdu.specs.declared.fault.PduFault.{PduFault}
use Rattle.dr_pdu.specs.declared.fault.PduFault.TheVariants.{More, UnknownType, TooLong, BadItem, BadContextId, Memory, Failed}
use Rattle.dr_pdu.specs.Grammar.{StartsFrame, header_fault, IsBody, HasContextIds, Shows, Decodes}
use Rattle.dr_pdu.specs.Feeding.{StartsPdu, Units, Feeding, Gathers, Feeds}
use Rattle.dr_pdu.proofs.FrontLemmas.{same_front, same_whole, goes_on, length_of}
use Rattle.dr_pdu.proofs.OneBody.{one_body}

-- a header has one fault at most
pub clash : (limit kind len kind' len' : ℕ) (f : PduFault) → header_fault limit kind len ≡ Some f → kind ≡ kind' → len ≡ len' → header_fault limit kind' len' ≡ None → ⊥
clash limit kind len kind' len' f h p q n =
    let e : Some f ≡ None = sym h ∙ ap (λ (k : ℕ). header_fault limit k len) p ∙ ap (λ (l : ℕ). header_fault limit kind' l) q ∙ n in cc

-- the header of a PDU that starts a text
pub header_of : (limit : ℕ) (text : List ℕ) (p : Pdu) (after : List ℕ) (s : StartsPdu limit text p after) → StartsFrame text s.2.0 (length s.2.1) (s.2.1 ++ after)
header_of limit text p after s = subst (λ (w : List ℕ). StartsFrame w s.2.0 (length s.2.1) (s.2.1 ++ after)) (sym s.1) (goes_on limit s.0 after p s.2)

pub header_excludes : (limit : ℕ) (text : List ℕ) (f : PduFault) (kind len : ℕ) (rest : List ℕ) → StartsFrame text kind len rest → header_fault limit kind len ≡ Some f → (p : Pdu) (after : List ℕ) → StartsPdu limit text p after → ⊥
header_excludes limit text f kind len rest b h p after s =
    let same = same_front text kind len rest s.2.0 (length s.2.1) (s.2.1 ++ after) b (header_of limit text p after s) in
    clash limit kind len s.2.0 (length s.2.1) f h same.same_kind same.same_len s.2.2.1

-- where a text shows a fault no PDU starts
pub excludes : (limit : ℕ) (text : List ℕ) (fault : PduFault) → Shows limit text fault → fault ≢ Memory → (p : Pdu) (after : List ℕ) → StartsPdu limit text p after → ⊥
excludes limit text More (inl short) other p after s =
    let whole = ap (λ (t : List ℕ). length t) s.1 in
    omega (arith, whole, length-append s.0 after, length_of limit s.0 p s.2)
excludes limit text More (inr (kind, len, rest, b, none, short)) other p after s =
    let same = same_front text kind len rest s.2.0 (length s.2.1) (s.2.1 ++ after) b (header_of limit text p after s) in
    let longer = ap (λ (t : List ℕ). length t) same.same_rest in
    omega (arith, longer, length-append s.2.1 after, same.same_len, short)
excludes limit text UnknownType (kind, len, rest, b, h) other p after s = header_excludes limit text UnknownType kind len rest b h p after s
excludes limit text TooLong (kind, len, rest, b, h) other p after s = header_excludes limit text TooLong kind len rest b h p after s
excludes limit text BadItem (inl (kind, len, rest, b, h)) other p after s = header_excludes limit text BadItem kind len rest b h p after s
excludes limit text BadItem (inr (kind, body, rest, w, none)) other p after s =
    let same = same_whole text kind body rest s.2.0 s.2.1 after w.0 (header_of limit text p after s) in
    none p (subst (λ (k : ℕ). IsBody k body p) (sym same.kinds) (subst (λ (t : List ℕ). IsBody s.2.0 t p) (sym same.whole_bodies) s.2.3))
excludes limit text BadContextId (kind, body, rest, q, w, is, none) other p after s =
    let same = same_whole text kind body rest s.2.0 s.2.1 after w.0 (header_of limit text p after s) in
    let here = subst (λ (k : ℕ). IsBody k body p) (sym same.kinds) (subst (λ (t : List ℕ). IsBody s.2.0 t p) (sym same.whole_bodies) s.2.3) in
    none (subst HasContextIds (one_body kind body p q here is) s.2.4)
excludes limit text Memory shows other p after s = other refl
excludes limit text Failed shows other p after s = shows

pub record Next (limit : ℕ) (text : List ℕ) (used : ℕ) (p : Pdu) (len : ℕ) : Type 0 where
  pub within : used + len ≤ length text
  pub some : 0 < len
  pub starts : StartsPdu limit (drop used text) p (drop (used + len) text)

-- one PDU more
pub next : (limit : ℕ) (text : List ℕ) (used : ℕ) (p : Pdu) (len : ℕ) → used ≤ length text → Decodes limit (take (length text - used) (drop used text)) (Ok (p, len)) → Next limit text used p len
next limit text used p len h d =
    let e : drop used text ≡ d.0 ++ d.1 = sym (take_rest text used) ∙ d.2 in
    let lengths = ap (λ (t : List ℕ). length t) e in
    let onward : d.1 ≡ drop (used + len) text = sym (drop_at d.0 d.1 len d.3) ∙ ap (λ (t : List ℕ). drop len t) (sym e) ∙ drop-drop len used text in
    record {
      within = omega (arith, h, lengths, length-drop used text, length-append d.0 d.1, d.3);
      some = omega (arith, length_of limit d.0 p d.4, d.3);
      starts = (d.0, e ∙ ap (λ (t : List ℕ). d.0 ++ t) onward, d.4);
    }

-- a fault in front fails the feeder
pub refused_feed : (old : Feeding) (piece : List ℕ) (fault : PduFault) (new : Feeding) → old.failed ≡ false → fault ≢ Memory → Gathers old.limit (old.kept ++ piece) (Err fault) → new ≡ record { limit = old.limit; failed = true; kept = [] } → Feeds old piece (Err fault) new
refused_feed old piece More new ok other g e = g
refused_feed old piece UnknownType new ok other g e = (ok, g, e)
refused_feed old piece TooLong new ok other g e = (ok, g, e)
refused_feed old piece BadItem new ok other g e = (ok, g, e)
refused_feed old piece BadContextId new ok other g e = (ok, g, e)
refused_feed old piece Memory new ok other g e = absurd (other refl)
refused_feed old piece Failed new ok other g e = absurd g

-- all whole PDUs come out
pub units_feed : (old : Feeding) (piece text : List ℕ) (pdus : List Pdu) (used : ℕ) (new : Feeding) → old.failed ≡ false → text ≡ old.kept ++ piece → Gathers old.limit text (Ok (pdus, used))
    → new.limit ≡ old.limit → new.failed ≡ false → new.kept ≡ drop used text → Feeds old piece (Ok pdus) new
units_feed old piece text pdus used new ok whole g limit failed kept = (
  ok,
  subst (λ (k : List ℕ). Units old.limit (old.kept ++ piece) pdus k) (sym kept) (subst (λ (t : List ℕ). Units old.limit t pdus (drop used text)) whole g.1),
  λ e. subst (λ (k : List ℕ). Shows old.limit k More) (sym kept) (g.2 e),
  failed,
  limit,
)
