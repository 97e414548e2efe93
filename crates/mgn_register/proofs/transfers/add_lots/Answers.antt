use Rattle.mgn_register.proofs.Moving.{on_ok-both, giver-in-front, taker-in-front}
use Rattle.mgn_register.proofs.transfers.add_lots.Goals as goal

pub returns-then-giver-taker-clause-added : goal.returns-then-giver-taker-clause-added
returns-then-giver-taker-clause-added c =
    let split = c.split_at_mut-front in
    on_ok-both c.add_both.result
    (giver-in-front c.args.accounts.now c.args.giver.now c.args.taker.now c.index-front-giver.result c.index-back-0.result c.add_both.new.giver c.add_both.new.taker split.result.0.now split.result.1.now
    c.requires.given c.requires.taken c.requires.apart c.if-giver-taker.true split.ensures.front split.ensures.back)
    c.add_both.ensures.given c.add_both.ensures.taken

pub returns-else-giver-taker-clause-added : goal.returns-else-giver-taker-clause-added
returns-else-giver-taker-clause-added c =
    let split = c.split_at_mut-front-else-giver-taker in
    let added = c.add_both-else-giver-taker in
    on_ok-both added.result
    (taker-in-front c.args.accounts.now c.args.giver.now c.args.taker.now c.index-back-0-else-giver-taker.result c.index-front-taker.result added.new.giver added.new.taker split.result.0.now split.result.1.now
    c.requires.given c.requires.taken c.requires.apart c.if-giver-taker.false split.ensures.front split.ensures.back)
    added.ensures.given added.ensures.taken
