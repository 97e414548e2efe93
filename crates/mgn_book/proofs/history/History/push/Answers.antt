use Rattle.std.proofs.Common.{ℕ, ◌≡◌, List, [], ◌∷◌, ◌++◌, ap, ◌∙◌, map, sym, subst, arith, length}
use Rattle.std.proofs.lemmas.List.{append-nil}
use Rattle.mgn_params.specs.Tables.{Tables}
use Rattle.mgn_machine.specs.declared.entry.Entry.{Entry}
use Rattle.mgn_machine.specs.declared.reply.Reply.{Reply}
use Rattle.mgn_machine.specs.declared.request.Recorded.TheVariants.{Asked}
use Rattle.mgn_machine.specs.History.{entry}
use Rattle.mgn_book.specs.declared.stored.StoredEntry.{StoredEntry}
use Rattle.mgn_book.specs.History.{AreShown, NameLists, entry_of, recorded_of}
use Rattle.mgn_book.specs.Replies.{ReplyLists}
use Rattle.mgn_book.proofs.StoredEntries.{entries-pushed, shown-more}
use Rattle.mgn_book.proofs.history.History.push.Goals as goal

pub invariant_of-self-2 : goal.invariant_of-self-2
invariant_of-self-2 c =
    let stored : List StoredEntry = c.self.inside.entries.items in
    let next : StoredEntry = record { session = c.args.session; number = c.new.result; request = c.store_command-request.result; reply = c.in_ok-reply.reply } in
    let replies = c.store.new.self in
    let names = c.store_command-request.new.names in
    subst (λ (es : List StoredEntry). AreShown replies names (length c.self.inside.refused.items) es) (sym c.push_reserved.ensures.items)
    (
    shown-more c.self.inside.replies replies c.self.inside.names names (length c.self.inside.refused.items) (length c.self.inside.refused.items) stored next c.self.invariant c.store.ensures.kept c.store_command-request.ensures.kept
    (omega arith)
    record { reply = c.in_ok-reply.ensures.stored; names = c.store_command-request.ensures.named; request = omega (arith, c.store_command-request.ensures.no_set) }
    (omega (arith, c.self.invariant.replies_few.0, c.store.ensures.few.0), omega (arith, c.self.invariant.replies_few.1, c.store.ensures.few.1))
    (omega (arith, c.store_command-request.ensures.few.0, c.self.invariant.names.0), (omega (arith, c.store_command-request.ensures.few.1.0, c.self.invariant.names.1.0), omega (arith, c.store_command-request.ensures.few.1.1, c.self.invariant.names.1.1)))
    )

pub returns-clause-ok : goal.returns-clause-ok
returns-clause-ok c =
    let before : ReplyLists = c.self.inside.replies in
    let after : ReplyLists = c.store.new.self in
    let sets : List Tables = c.self.inside.refused.items in
    let stored : List StoredEntry = c.self.inside.entries.items in
    let names : NameLists = c.store_command-request.new.names in
    let told : Reply = c.args.reply.now in
    let next : StoredEntry = record { session = c.args.session; number = c.new.result; request = c.store_command-request.result; reply = c.in_ok-reply.reply } in
    let asked : recorded_of names (sets ++ []) next.request ≡ Asked c.args.command.now = c.store_command-request.ensures.request (sets ++ []) in
    ap (λ (xs : List StoredEntry). map (entry_of after names sets) xs) c.push_reserved.ensures.items
    ∙ ap (λ (ts : List Tables). map (entry_of after names ts) (stored ++ next ∷ [])) (sym (append-nil sets))
    ∙ entries-pushed before after c.self.inside.names names sets [] stored next (Asked c.args.command.now) told c.store.ensures.kept c.store_command-request.ensures.kept c.self.invariant.each asked c.in_ok-reply.ensures.reply
    ∙ ap (λ (es : List Entry). es ++ entry c.args.session c.new.result (Asked c.args.command.now) told ∷ []) (ap (λ v. v.entries) c.self.view_is)
    ∙ ap (λ (n : ℕ). c.args.self.now.entries ++ entry c.args.session n (Asked c.args.command.now) told ∷ []) c.new.ensures
