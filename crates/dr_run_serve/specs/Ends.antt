-- How a visit ended, in a word, and how it is counted.
use Rattle.std.specs.Prelude.{◌≡◌, ◌+◌, ◌-◌, ◌^◌, ℕ, Option, None, Some, codes, false, min}
use Rattle.dr_base.specs.Texts.{Text}
use Rattle.dr_run_answer.specs.declared.json.Visited.{Visited}
use Rattle.dr_run_answer.specs.declared.json.Visits.{Visits}
use Rattle.dr_session.specs.declared.ends.Ended.{Ended as End}
use Rattle.dr_session.specs.declared.ends.Ended.TheVariants as end
use Rattle.dr_run_serve.specs.declared.ends.VisitEnd.{VisitEnd}
use Rattle.dr_run_serve.specs.declared.ends.VisitEnd.TheVariants.{Released, Rejected, Aborted}
use Rattle.dr_run_serve.specs.declared.ends.VisitEnd.TheVariants.{Closed, Unreached, Failed, Ledger}
use Rattle.dr_run_serve.specs.declared.signal.KnownVisits.{KnownVisits}
use Rattle.dr_run_serve.specs.declared.visit.Visit.{Visit}
use Rattle.dr_run_serve.specs.declared.visit.Visit.TheVariants as visit

-- how a visit ended at which an association ended so
abbrev pub end_as : End → VisitEnd
end_as end.Released = Released
end_as (end.Rejected why) = Rejected
end_as end.Aborted = Aborted
end_as end.Closed = Closed

-- how a visit ended; nothing where no row was due
abbrev pub end_of : Visit → Option VisitEnd
end_of visit.Idle = None
end_of (visit.Unreached error) = Some Unreached
end_of (visit.Ended ended) = Some (end_as ended)
end_of (visit.Failed why) = Some Failed

-- the same, in a word
abbrev pub word_of : VisitEnd → Text
word_of Released = codes "released"
word_of Rejected = codes "rejected"
word_of Aborted = codes "aborted"
word_of Closed = codes "closed"
word_of Unreached = codes "unreached"
word_of Failed = codes "failed"
word_of Ledger = codes "ledger"

-- one more; the count stays at its greatest value
abbrev pub one_more : ℕ → ℕ
one_more count = min (count + 1) (2 ^ 64 - 1)

-- how visits ended, with one more that ended so
abbrev pub with_one : Visits → VisitEnd → Visits
with_one visits Released = record visits { released = one_more visits.released }
with_one visits Rejected = record visits { rejected = one_more visits.rejected }
with_one visits Aborted = record visits { aborted = one_more visits.aborted }
with_one visits Closed = record visits { closed = one_more visits.closed }
with_one visits Unreached = record visits { unreached = one_more visits.unreached }
with_one visits Failed = record visits { failed = one_more visits.failed }
with_one visits Ledger = record visits { failed = one_more visits.failed }

-- the last visit is one that ended so at that moment
abbrev pub IsLast : VisitEnd → ℕ → Option Visited → Type 0
IsLast ended at None = ⊥
IsLast ended at (Some last) = (last.at ≡ at) × (last.came.now ≡ word_of ended)

-- What is known of the visits to a hop behind one that came to that, at that moment. One at which
-- nothing was due counts for none.
abbrev pub IsKnownAfter : KnownVisits → Option VisitEnd → ℕ → KnownVisits → Type 0
IsKnownAfter old None at new = new ≡ record old { is_under_way = false }
IsKnownAfter old (Some ended) at new =
    (new.looked ≡ old.looked)
    × (new.is_under_way ≡ false)
    × IsLast ended at new.last
    × (new.visits ≡ with_one old.visits ended)
