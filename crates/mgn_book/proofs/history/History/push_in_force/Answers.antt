use Rattle.std.proofs.Common.{ℕ, List, [], ◌∷◌, ◌++◌, ap, ◌∙◌, map, sym, refl}
use Rattle.std.proofs.lemmas.List.{append-nil}
use Rattle.mgn_params.specs.Tables.{Tables}
use Rattle.mgn_machine.specs.declared.entry.Entry.{Entry}
use Rattle.mgn_machine.specs.declared.reply.Reply.{Reply}
use Rattle.mgn_machine.specs.declared.reply.Reply.TheVariants.{NewSet}
use Rattle.mgn_machine.specs.declared.request.Recorded.TheVariants.{InForce}
use Rattle.mgn_machine.specs.History.{entry}
use Rattle.mgn_book.specs.declared.stored.StoredEntry.{StoredEntry}
use Rattle.mgn_book.specs.declared.stored.StoredRequest.TheVariants as stored
use Rattle.mgn_book.specs.History.{NameLists, entry_of}
use Rattle.mgn_book.specs.Replies.{ReplyLists}
use Rattle.mgn_book.proofs.StoredEntries.{entries-pushed, kept-names}
use Rattle.mgn_book.proofs.history.History.push_in_force.Goals as goal

pub returns : goal.returns
returns c =
    let before : ReplyLists = c.self.inside.replies in
    let after : ReplyLists = c.store_whole-reply.new.self in
    let told : Reply = NewSet c.args.told in
    let sets : List Tables = c.self.inside.refused.items in
    let before_it : List StoredEntry = c.self.inside.entries.items in
    let names : NameLists = c.self.inside.names in
    let next : StoredEntry = record { session = c.args.session; number = c.new.result; request = stored.InForce c.args.version; reply = c.store_whole-reply.result } in
    ap (λ (xs : List StoredEntry). map (entry_of after names sets) xs) c.push_reserved.ensures.items
    ∙ ap (λ (ts : List Tables). map (entry_of after names ts) (before_it ++ next ∷ [])) (sym (append-nil sets))
    ∙ entries-pushed before after names names sets [] before_it next (InForce c.args.version) told c.store_whole-reply.ensures.kept (kept-names names) c.self.invariant.each refl c.store_whole-reply.ensures.reply
    ∙ ap (λ (es : List Entry). es ++ entry c.args.session c.new.result (InForce c.args.version) told ∷ []) (ap (λ v. v.entries) c.self.view_is)
    ∙ ap (λ (n : ℕ). c.args.self.now.entries ++ entry c.args.session n (InForce c.args.version) told ∷ []) c.new.ensures
