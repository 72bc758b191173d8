-- A file more, and a page more.
use Rattle.std.proofs.Common.{◌≡◌, ◌+◌, ◌<◌, ◌≤◌, ℕ, List, [], ◌++◌, length, take, drop, All}
use Rattle.std.proofs.Common.{refl, sym, ◌∙◌, ap, subst, take-append-drop}
use Rattle.std.proofs.lemmas.List.{append-nil, take_all}
use Rattle.std.proofs.lemmas.List.Elements.{All-append}
use Rattle.sqlite_disk.specs.declared.Disk.{Ghosts}
use Rattle.dr_store_sealed.specs.declared.fault.SealFault.{SealFault}
use Rattle.dr_store_sealed.specs.declared.seal.Seal.{Seal}
use Rattle.dr_store_line_files.specs.Filed.{place_behind}
use Rattle.dr_store_line_files.specs.Several.{KeepsFiles}
use Rattle.dr_store_past.specs.declared.fault.PastFault.{PastFault}
use Rattle.dr_store_past.specs.declared.fault.PastFault.TheVariants as reason
use Rattle.dr_store_past.specs.declared.lines.PastLine.{PastLine}
use Rattle.dr_store_past.specs.Counted.{texts_size}
use Rattle.dr_store_past.specs.Lines.{FitsPast, texts_behind}
use Rattle.dr_store_past.specs.Refusals.{IsWhyNoTexts, IsWhyNotPut}
use Rattle.dr_store_past.specs.Shown.{ArePut}
use Rattle.dr_store_past.proofs.Pages.{both_taken}
use Rattle.dr_store_past.proofs.Putting.{keeps_through, puts_on, refused_on, untold}
use Rattle.dr_store_past.proofs.Told.{texts_drop, texts_take}

module _ {D : Type 0} (g : Ghosts D) (first mid new : List D) (from at : Seal) (there : from.number < length first)
    (keeps : KeepsFiles g (place_behind from) first mid) (later : KeepsFiles g (place_behind at) mid new) where
  -- ---- texts, file by file

  module _ (texts : List (List ℕ)) (done : ℕ) (was : ArePut g first mid from (take done texts) at) where
    pub texts_on : (last : Seal) (count next : ℕ) → next ≡ done + count → ArePut g mid new at (take count (drop done texts)) last → ArePut g first new from (take next texts) last
    texts_on last count next is put =
        subst (λ ls. ArePut g first new from ls last) (both_taken done count texts ∙ ap (λ n. take n texts) (sym is))
        (puts_on g first mid new from at (take done texts) was last (take count (drop done texts)) later put)

    pub keeps_texts : KeepsFiles g (place_behind from) first new
    keeps_texts = keeps_through g first mid new from at (take done texts) was keeps later

    pub texts_stop : (why : PastFault) → IsWhyNotPut g mid new at (drop done texts) why → IsWhyNotPut g first new from texts why
    texts_stop why told =
        refused_on g first mid new from at (take done texts) was (drop done texts) [] texts
        (sym (take-append-drop done texts) ∙ ap (λ ls. take done texts ++ ls) (sym (append-nil (drop done texts))))
        there keeps later why told

  -- ---- lines, page by page

  module _ (lines : List PastLine) (done : ℕ) (was : ArePut g first mid from (texts_behind from.count (take done lines)) at)
      (number : at.count ≡ from.count + done) (more : ℕ) (page : List PastLine) (is : page ≡ take more (drop done lines)) where
    abbrev whole : List (List ℕ)
    whole = texts_behind from.count lines

    page_texts : texts_behind at.count page ≡ take more (drop done whole)
    page_texts =
        ap (λ k. texts_behind k page) number ∙ ap (texts_behind (from.count + done)) is
        ∙ sym (texts_take (from.count + done) more (drop done lines))
        ∙ ap (take more) (sym (texts_drop from.count done lines))

    first_texts : texts_behind from.count (take done lines) ≡ take done whole
    first_texts = sym (texts_take from.count done lines)

    joined : texts_behind from.count (take done lines) ++ texts_behind at.count page ≡ texts_behind from.count (take (done + more) lines)
    joined =
        ap (λ ls. ls ++ texts_behind at.count page) first_texts
        ∙ ap (λ ls. take done whole ++ ls) page_texts
        ∙ both_taken done more whole ∙ texts_take from.count (done + more) lines

    parts : whole ≡ texts_behind from.count (take done lines) ++ (texts_behind at.count page ++ drop more (drop done whole))
    parts =
        sym (take-append-drop done whole)
        ∙ ap (λ ls. take done whole ++ ls) (sym (take-append-drop more (drop done whole)))
        ∙ ap (λ ls. take done whole ++ (ls ++ drop more (drop done whole))) (sym page_texts)
        ∙ ap (λ ls. ls ++ (texts_behind at.count page ++ drop more (drop done whole))) (sym first_texts)

    pub page_on : (last : Seal) → ArePut g mid new at (texts_behind at.count page) last → ArePut g first new from (texts_behind from.count (take (done + more) lines)) last
    page_on last put =
        subst (λ ls. ArePut g first new from ls last) joined
        (puts_on g first mid new from at (texts_behind from.count (take done lines)) was last (texts_behind at.count page) later put)

    pub keeps_page : KeepsFiles g (place_behind from) first new
    keeps_page = keeps_through g first mid new from at (texts_behind from.count (take done lines)) was keeps later

    pub fit_on : All FitsPast (take done lines) → All FitsPast page → All FitsPast (take (done + more) lines)
    fit_on fit fits =
        subst (All FitsPast) (ap (λ ls. take done lines ++ ls) is ∙ both_taken done more lines) (All-append FitsPast (take done lines) page fit fits)

    pub page_stop : (why : PastFault) → IsWhyNotPut g mid new at (texts_behind at.count page) why → IsWhyNotPut g first new from whole why
    page_stop why told =
        refused_on g first mid new from at (texts_behind from.count (take done lines)) was (texts_behind at.count page) (drop more (drop done whole)) whole
        parts there keeps later why told

    pub texts_not_made : (why : SealFault) → IsWhyNoTexts at.count page why → IsWhyNotPut g first new from whole (reason.Sealed why)
    texts_not_made why told =
        page_stop (reason.Sealed why)
        (untold g mid new at (texts_behind at.count page) at.count page refl (sym (texts_size at.count page)) why told)

pub all_put : {D : Type 0} (g : Ghosts D) (first new : List D) (from last : Seal) (texts : List (List ℕ)) (done : ℕ) → length texts ≤ done
    → ArePut g first new from (take done texts) last → ArePut g first new from texts last
all_put g first new from last texts done over put = subst (λ ls. ArePut g first new from ls last) (take_all done texts over) put

pub all_pages : {D : Type 0} (g : Ghosts D) (first new : List D) (from last : Seal) (lines : List PastLine) (done : ℕ) → length lines ≤ done
    → ArePut g first new from (texts_behind from.count (take done lines)) last → ArePut g first new from (texts_behind from.count lines) last
all_pages g first new from last lines done over put =
    subst (λ ls. ArePut g first new from (texts_behind from.count ls) last) (take_all done lines over) put
