use Rattle.std.proofs.Common.{ℕ, ◌≡◌, List, [], ◌∷◌, ◌++◌, ap, ◌∙◌, map, sym, refl, subst, arith, length, length-append}
use Rattle.mgn_params.specs.Tables.{Tables}
use Rattle.mgn_machine.specs.declared.entry.Entry.{Entry}
use Rattle.mgn_machine.specs.declared.reply.Reply.TheVariants.{Refused}
use Rattle.mgn_machine.specs.declared.request.Recorded.TheVariants.{SetRefused}
use Rattle.mgn_machine.specs.History.{entry}
use Rattle.mgn_book.specs.declared.stored.StoredEntry.{StoredEntry}
use Rattle.mgn_book.specs.declared.replies.StoredReply.TheVariants as short
use Rattle.mgn_book.specs.declared.stored.StoredRequest.TheVariants as stored
use Rattle.mgn_book.specs.History.{AreShown, NameLists, entry_of, recorded_of}
use Rattle.mgn_book.specs.Replies.{ReplyLists}
use Rattle.mgn_book.proofs.StoredEntries.{entries-pushed, kept-names, kept-replies, shown-more}
use Rattle.mgn_book.proofs.history.History.push_refused.Goals as goal

pub invariant_of-self-2 : goal.invariant_of-self-2
invariant_of-self-2 c =
    let sets : List Tables = c.self.inside.refused.items in
    let refused : List Tables = c.store_set.new.refused.items in
    let replies : ReplyLists = c.self.inside.replies in
    let before_it : List StoredEntry = c.self.inside.entries.items in
    let names : NameLists = c.self.inside.names in
    let next : StoredEntry = record { session = c.args.session; number = c.new.result; request = stored.SetRefused c.in_ok-place.place; reply = short.Refused c.args.why } in
    subst (λ (es : List StoredEntry). AreShown replies names (length refused) es) (sym c.push_reserved.ensures.items)
    (
    shown-more replies replies names names (length sets) (length refused) before_it next c.self.invariant (kept-replies replies) (kept-names names)
    (omega (arith, ap length c.in_ok-place.ensures.grown.1, length-append sets c.in_ok-place.ensures.grown.0))
    record { reply = tt; names = tt; request = omega (arith, c.in_ok-place.ensures.within) }
    (omega (arith, c.self.invariant.replies_few.0), omega (arith, c.self.invariant.replies_few.1))
    (omega (arith, c.self.invariant.names.0), (omega (arith, c.self.invariant.names.1.0), omega (arith, c.self.invariant.names.1.1)))
    )

pub returns-clause-ok : goal.returns-clause-ok
returns-clause-ok c =
    let sets : List Tables = c.self.inside.refused.items in
    let others : List Tables = c.in_ok-place.ensures.grown.0 in
    let replies : ReplyLists = c.self.inside.replies in
    let before_it : List StoredEntry = c.self.inside.entries.items in
    let names : NameLists = c.self.inside.names in
    let next : StoredEntry = record { session = c.args.session; number = c.new.result; request = stored.SetRefused c.in_ok-place.place; reply = short.Refused c.args.why } in
    let asked : recorded_of names (sets ++ others) next.request ≡ SetRefused c.args.set = ap (λ (ts : List Tables). recorded_of names ts next.request) (sym c.in_ok-place.ensures.grown.1) ∙ ap SetRefused c.in_ok-place.ensures.set in
    ap (λ (xs : List StoredEntry). map (entry_of replies names c.store_set.new.refused.items) xs) c.push_reserved.ensures.items
    ∙ ap (λ (ts : List Tables). map (entry_of replies names ts) (before_it ++ next ∷ [])) c.in_ok-place.ensures.grown.1
    ∙ entries-pushed replies replies names names sets others before_it next (SetRefused c.args.set) (Refused c.args.why) (kept-replies replies) (kept-names names) c.self.invariant.each asked refl
    ∙ ap (λ (es : List Entry). es ++ entry c.args.session c.new.result (SetRefused c.args.set) (Refused c.args.why) ∷ []) (ap (λ v. v.entries) c.self.view_is)
    ∙ ap (λ (n : ℕ). c.args.self.now.entries ++ entry c.args.session n (SetRefused c.args.set) (Refused c.args.why) ∷ []) c.new.ensures
