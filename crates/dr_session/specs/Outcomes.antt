-- Worked figures: how an association ended of which several things are marked, and what a delivery
-- wants at its last rows, and an echo.
use Rattle.std.specs.Prelude.{◌≡◌, Bool, true, false, Option, Some, None, Result, Ok, Err}
use Rattle.dr_ulstate.specs.declared.table.State.TheVariants.{Sta1, Sta6, Sta7}
use Rattle.dr_pdu.specs.declared.pdu.AssociateRj.{AssociateRj}
use Rattle.dr_session.specs.declared.ends.Core.{Core}
use Rattle.dr_session.specs.declared.ends.Ended.{Ended as EndedSo}
use Rattle.dr_session.specs.declared.ends.Ended.TheVariants.{Rejected, Aborted, Released, Closed}
use Rattle.dr_session.specs.declared.ends.Over.{Over}
use Rattle.dr_session.specs.declared.ends.Over.TheVariants as over
use Rattle.dr_session.specs.declared.ends.Pending.{Pending}
use Rattle.dr_session.specs.declared.sessions.SessionFault.{SessionFault}
use Rattle.dr_session.specs.declared.sessions.SessionFault.TheVariants as fault
use Rattle.dr_session.specs.declared.wishes.Kind.TheVariants.{Deliver, EchoOnce, Receive}
use Rattle.dr_session.specs.declared.wishes.Wish.TheVariants.{Listen, Push, Release, Echo}
use Rattle.dr_session.specs.Ends.{Terminal, begins, over_of}
use Rattle.dr_session.specs.Figures.{acceptor, requestor, pended, placed}
use Rattle.dr_session.specs.Links.{Finishes, wants}

-- ---- how it ended

-- an end that is gone, of which a rejection, an abort and the answer to a release are marked or not
abbrev pub gone : Core → Option AssociateRj → Bool → Bool → Bool → Option Over
gone c rejection aborted released failed = over_of (Some (record (placed (acceptor Sta1) c) {
  marks = record {
    rejection = rejection;
    aborted = aborted;
    released = released;
    desk_failed = failed;
  };
}))

-- a store that failed counts first, then a rejection, an abort, and the answer to a release
pub record EndsInOrder (c : Core) (rj : AssociateRj) : Type 0 where
  pub failed : gone c (Some rj) true true true ≡ Some over.Desk
  pub failed_alone : gone c None false false true ≡ Some over.Desk
  pub rejected : gone c (Some rj) true true false ≡ Some (over.Ended (Rejected rj))
  pub rejected_alone : gone c (Some rj) false false false ≡ Some (over.Ended (Rejected rj))
  pub aborted : gone c None true true false ≡ Some (over.Ended Aborted)
  pub aborted_alone : gone c None true false false ≡ Some (over.Ended Aborted)
  pub released : gone c None false true false ≡ Some (over.Ended Released)
  pub closed : gone c None false false false ≡ Some (over.Ended Closed)
  -- one that isn't gone is not over, whatever is marked
  pub open_yet : over_of (Some (placed (requestor Sta7) c)) ≡ None

-- One without its core wanted memory. A session answers how its end is over.
pub record Finishings (ended : EndedSo) (result : Result EndedSo SessionFault) : Type 0 where
  pub gone : over_of None ≡ Some over.Memory
  pub well : Finishes (over.Ended ended) result → result ≡ Ok ended
  pub of_a_desk : Finishes over.Desk result → result ≡ Err fault.Desk
  pub for_memory : Finishes over.Memory result → result ≡ Err fault.Memory

-- ---- what a delivery wants

-- a requestor's end that may send, and whose last push found a row or none
abbrev pub may_push : Bool → Core → Terminal
may_push dry c = begins 16384 (record (placed (requestor Sta6) c) { dry = dry })

-- The 65,535th row, which is message 65,535, is the last one, and then the release is asked for.
pub record Deliveries (c : Core) (p : Pending) : Type 0 where
  pub first : wants Deliver 0 (may_push false c) ≡ Push
  pub last : wants Deliver 65534 (may_push false c) ≡ Push
  pub enough : wants Deliver 65535 (may_push false c) ≡ Release
  pub asked : wants Deliver 65536 (may_push false c) ≡ Listen
  -- no row was due
  pub dry : wants Deliver 1 (may_push true c) ≡ Release
  pub dry_at_last : wants Deliver 65534 (may_push true c) ≡ Release
  -- a response is awaited, or the answer to the release
  pub awaiting : wants Deliver 1 (begins 16384 (pended p (requestor Sta6) c)) ≡ Listen
  pub leaving : wants Deliver 1 (begins 16384 (placed (requestor Sta7) c)) ≡ Listen

-- ---- what an echo and an acceptor want

-- An echo is asked for once, and then the release, as soon as its response came. An acceptor asks
-- for nothing.
pub record Askings (c : Core) (p : Pending) : Type 0 where
  pub first : wants EchoOnce 0 (may_push false c) ≡ Echo
  pub release : wants EchoOnce 1 (may_push false c) ≡ Release
  pub asked : wants EchoOnce 2 (may_push false c) ≡ Listen
  pub awaiting : wants EchoOnce 1 (begins 16384 (pended p (requestor Sta6) c)) ≡ Listen
  pub leaving : wants EchoOnce 0 (begins 16384 (placed (requestor Sta7) c)) ≡ Listen
  pub serving : wants Receive 0 (may_push false c) ≡ Listen
