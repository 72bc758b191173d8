use Rattle.std.proofs.Common.{rules, ◌≡◌, ◌-◌, ◌<◌, min, length, sym, ◌∙◌, subst, arith}
use Rattle.sqlite_disk.specs.Disk.{Holds}
use Rattle.dr_store_sealed.specs.Lines.{bytes_of}
use Rattle.dr_store_sealed.proofs.FileLemmas.{holds_start}
use Rattle.dr_store_sealed.specs.Refusals.{IsWhyNoLines}
use Rattle.dr_store_sealed.proofs.Onward.{read_refused}
use Rattle.dr_store_sealed.proofs.SealLemmas.{grows, reaches}
use Rattle.dr_store_sealed.proofs.scanning.read_lines.Goals as goal

pub returns-clause-reads : goal.returns-clause-reads
returns-clause-reads g c clean =
    let from = c.args.from.now in
    let piece = c.in_ok-piece.piece.items in
    let bytes = bytes_of from.chain c.in-Ok.lines.items in
    let size : c.min-size.result ≡ min 262144 (c.args.end - from.offset) = search rules in
    let some : 0 < c.min-size.result = omega (arith, size, c.requires) in
    let inner : Holds piece 0 bytes = subst (λ t. Holds t 0 bytes) c.deref.ensures.value c.in-Ok.ensures.bytes in
    let there = holds_start _ from.offset piece bytes (c.in_ok-piece.ensures.read clean some) inner in
    record {
      spans = c.in-Ok.ensures.spans;
      bytes = subst (λ file. Holds file from.offset bytes) (sym c.read_piece.ensures.shows) there;
    }

pub returns-clause-onward : goal.returns-clause-onward
returns-clause-onward g c =
    grows c.args.from.now c.in-Ok.last c.in-Ok.lines.items c.in-Ok.ensures.spans c.in-Ok.ensures.some

pub returns-clause-within : goal.returns-clause-within
returns-clause-within g c =
    let from = c.args.from.now in
    let piece = c.in_ok-piece.piece.items in
    let bytes = bytes_of from.chain c.in-Ok.lines.items in
    let size : c.min-size.result ≡ min 262144 (c.args.end - from.offset) = search rules in
    let inner : Holds piece 0 bytes = subst (λ t. Holds t 0 bytes) c.deref.ensures.value c.in-Ok.ensures.bytes in
    let place = reaches from c.in-Ok.last c.in-Ok.lines.items c.in-Ok.ensures.spans in
    let len : length piece ≡ c.min-size.result = c.in_ok-piece.ensures.size in
    omega (arith, place, inner.within, len, size, c.requires)

pub returns-in-Err-clause-why : goal.returns-in-Err-clause-why
returns-in-Err-clause-why g c =
    let from = c.args.from.now in
    let piece = c.in_ok-piece.piece.items in
    let size : c.min-size.result ≡ min 262144 (c.args.end - from.offset) = search rules in
    let len : length piece ≡ min 262144 (c.args.end - from.offset) = c.in_ok-piece.ensures.size ∙ size in
    let some : 0 < c.min-size.result = omega (arith, size, c.requires) in
    read_refused g.D.Disk from c.args.end c.args.file.now c.read_piece.new.file piece c.in-Err.fault c.requires len
    (λ clean. c.in_ok-piece.ensures.read clean some)
    (subst (λ t. IsWhyNoLines from t c.in-Err.fault) c.deref.ensures.value c.in-Err.ensures.why)
