use Rattle.dr_world.proofs.Listed.{listed, same_node, same_then}
use Rattle.dr_world.proofs.listing.list.Goals as goal

pub returns-in_err-arrivals-clause-same : goal.returns-in_err-arrivals-clause-same
returns-in_err-arrivals-clause-same g c =
    same_node c.args.node.now c.arrivals.new.self c.arrivals.ensures.reads c.arrivals.ensures.rest

pub returns-in_err-kept-clause-same : goal.returns-in_err-kept-clause-same
returns-in_err-kept-clause-same g c =
    let n = c.args.node.now in
    let a = same_node n c.arrivals.new.self c.in_ok-arrivals.ensures.reads c.in_ok-arrivals.ensures.rest in
    let k = same_node c.arrivals.new.self c.kept.new.self c.kept.ensures.reads c.kept.ensures.rest in
    same_then n c.arrivals.new.self c.kept.new.self a k

pub returns-in_err-rows-clause-same : goal.returns-in_err-rows-clause-same
returns-in_err-rows-clause-same g c =
    let n = c.args.node.now in
    let a = same_node n c.arrivals.new.self c.in_ok-arrivals.ensures.reads c.in_ok-arrivals.ensures.rest in
    let k = same_node c.arrivals.new.self c.kept.new.self c.in_ok-kept.ensures.reads c.in_ok-kept.ensures.rest in
    let r = same_node c.kept.new.self c.rows.new.self c.rows.ensures.reads c.rows.ensures.rest in
    same_then n c.kept.new.self c.rows.new.self (same_then n c.arrivals.new.self c.kept.new.self a k) r

pub returns-in_err-lines-clause-same : goal.returns-in_err-lines-clause-same
returns-in_err-lines-clause-same g c =
    let n = c.args.node.now in
    let a = same_node n c.arrivals.new.self c.in_ok-arrivals.ensures.reads c.in_ok-arrivals.ensures.rest in
    let k = same_node c.arrivals.new.self c.kept.new.self c.in_ok-kept.ensures.reads c.in_ok-kept.ensures.rest in
    let r = same_node c.kept.new.self c.rows.new.self c.in_ok-rows.ensures.reads c.in_ok-rows.ensures.rest in
    let x = same_node c.rows.new.self c.lines.new.self c.lines.ensures.reads c.lines.ensures.rest in
    same_then n c.rows.new.self c.lines.new.self (same_then n c.kept.new.self c.rows.new.self (same_then n c.arrivals.new.self c.kept.new.self a k) r) x

pub returns-clause-same : goal.returns-clause-same
returns-clause-same g c =
    let n = c.args.node.now in
    let a = same_node n c.arrivals.new.self c.in_ok-arrivals.ensures.reads c.in_ok-arrivals.ensures.rest in
    let k = same_node c.arrivals.new.self c.kept.new.self c.in_ok-kept.ensures.reads c.in_ok-kept.ensures.rest in
    let r = same_node c.kept.new.self c.rows.new.self c.in_ok-rows.ensures.reads c.in_ok-rows.ensures.rest in
    let x = same_node c.rows.new.self c.lines.new.self c.in_ok-lines.ensures.reads c.in_ok-lines.ensures.rest in
    same_then n c.rows.new.self c.lines.new.self (same_then n c.kept.new.self c.rows.new.self (same_then n c.arrivals.new.self c.kept.new.self a k) r) x

pub returns-clause-lists : goal.returns-clause-lists
returns-clause-lists g c =
    let n = c.args.node.now in
    let a = same_node n c.arrivals.new.self c.in_ok-arrivals.ensures.reads c.in_ok-arrivals.ensures.rest in
    let k = same_node c.arrivals.new.self c.kept.new.self c.in_ok-kept.ensures.reads c.in_ok-kept.ensures.rest in
    let r = same_node c.kept.new.self c.rows.new.self c.in_ok-rows.ensures.reads c.in_ok-rows.ensures.rest in
    let x = same_node c.rows.new.self c.lines.new.self c.in_ok-lines.ensures.reads c.in_ok-lines.ensures.rest in
    listed (record { arrivals = c.in_ok-arrivals.arrivals; kept = c.in_ok-kept.kept; rows = c.in_ok-rows.rows; lines = c.in_ok-lines.lines }) n c.arrivals.new.self c.kept.new.self c.rows.new.self c.lines.new.self a k r x
    c.in_ok-arrivals.ensures.reply c.in_ok-kept.ensures.reply c.in_ok-rows.ensures.reply c.in_ok-lines.ensures.reply
