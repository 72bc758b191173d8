-- A ledger's shelf in the system's files may go to another thread. The kit derives that of a type
-- over the shelf with any file, and not of one that names its file.
use denote.Param.Send.{IsSend, sendable, recorded_send, struct_send}
use denote.Struct.Declared as declared
use Rattle.sqlite_std_file.specs.contracts.host.Host.{the_row as host}
use Rattle.sqlite_std_file.specs.contracts.host.HostCalls.TheImpl.{ghosts as calls}
use Rattle.sqlite_disk.specs.contracts.start.Unknown.{the_row as unknown}
use Rattle.sqlite_disk.specs.contracts.start.UnknownStart.TheImpl.{ghosts as start}
use Rattle.sqlite_disk.specs.contracts.modelled.ModelledDisk.TheImpl.{ghosts as disk, no_dict}
use Rattle.sqlite_disk.proofs.modelled.Modelled.TheSendSync.{the_send as file_sends}
use Rattle.dr_store_shelf.proofs.either.LedgerShelf.TheSendSync.{the_field_send as either_sends}
use Rattle.dr_router.specs.contracts.shelf.FileShelf.{the_row, the_type}

host_sends : IsSend host
host_sends = search sendable depth 20

pub shelf_sends : IsSend the_row
shelf_sends = recorded_send _ _ _ the_type.to_one
    (struct_send (declared.shape the_type) (
      either_sends _ (disk host unknown calls no_dict start no_dict no_dict)
          (file_sends host unknown calls start host_sends),
      tt,
    ))
