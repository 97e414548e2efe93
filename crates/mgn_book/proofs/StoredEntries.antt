-- What is stored stays the same while the lists that it names grow: for the pushes of the history.
use Rattle.std.proofs.Common.{All, get_or, ◌≡◌, ℕ, zero, suc, ◌+◌, ◌≤◌, ◌<◌, List, [], ◌∷◌, ◌++◌, ◌∙◌, length, length-append, map, refl, ap, sym, arith}
use Rattle.std.proofs.lemmas.List.{append-nil, get_or_append_left, map-append}
use Rattle.std.proofs.lemmas.List.Elements.{All-push}
use Rattle.mgn_params.specs.Tables.{Tables, no_tables}
use Rattle.mgn_machine.specs.declared.entry.Entry.{Entry}
use Rattle.mgn_machine.specs.declared.reply.Reply.{Reply}
use Rattle.mgn_machine.specs.declared.reply.UnitFigures.{UnitFigures}
use Rattle.mgn_machine.specs.declared.reply.Reply.TheVariants as Answer
use Rattle.mgn_machine.specs.declared.request.Recorded.{Recorded}
use Rattle.mgn_machine.specs.declared.command.Command.TheVariants as command
use Rattle.mgn_machine.specs.declared.request.Recorded.TheVariants.{Asked, SetRefused as RefusedSet}
use Rattle.mgn_machine.specs.History.{entry}
use Rattle.mgn_book.specs.declared.stored.StoredEntry.{StoredEntry}
use Rattle.mgn_book.specs.declared.replies.StoredReply.{StoredReply}
use Rattle.mgn_book.specs.declared.replies.StoredReply.TheVariants as reply
use Rattle.mgn_book.specs.declared.stored.StoredRequest.{StoredRequest}
use Rattle.mgn_book.specs.declared.stored.StoredRequest.TheVariants as stored
use Rattle.mgn_book.specs.History.{AreFew, AreShown, IsNamed, IsShown, KeepsNames, NameLists, entry_of, name_at, sets_needed, recorded_of}
use Rattle.mgn_book.specs.Replies.{AreFewReplies, Grows, IsKept, KeepsReplies, ReplyLists, no_figures, reply_of}

-- a reply stays what it was
reply_of-grown : (old new : ReplyLists) (reply : StoredReply) → KeepsReplies old new → IsKept old reply → reply_of new reply ≡ reply_of old reply
reply_of-grown old new reply.Done grown h = refl
reply_of-grown old new (reply.Figures place) grown h =
    ap (λ (fs : List UnitFigures). Answer.Figures (get_or fs place no_figures)) grown.0.1
    ∙ ap Answer.Figures (get_or_append_left old.figures grown.0.0 no_figures place h)
reply_of-grown old new (reply.At place) grown h =
    ap (λ (rs : List Reply). get_or rs place Answer.Done) grown.1.1
    ∙ get_or_append_left old.others grown.1.0 Answer.Done place h
reply_of-grown old new (reply.Refused why) grown h = refl

-- a name stays at its place
pub name_at-grown : (old new : List (List ℕ)) (place : ℕ) → Grows old new → place < length old → name_at new place ≡ name_at old place
name_at-grown old new place grown within = ap (λ (names : List (List ℕ)). name_at names place) grown.1 ∙ get_or_append_left old grown.0 [] place within

pub longer : {X : Type 0} (old new : List X) → Grows old new → length old ≤ length new
longer old new grown = omega (arith, ap length grown.1, length-append old grown.0)

-- names to which nothing is added
pub kept-names : (names : NameLists) → KeepsNames names names
kept-names names = (([], sym (append-nil names.accounts)), (([], sym (append-nil names.contracts)), ([], sym (append-nil names.classes))))

-- what is kept stays so
kept-grown : (old new : ReplyLists) (reply : StoredReply) → KeepsReplies old new → IsKept old reply → IsKept new reply
kept-grown old new reply.Done grown h = h
kept-grown old new (reply.Figures place) grown h = omega (arith, h, longer old.figures new.figures grown.0)
kept-grown old new (reply.At place) grown h = omega (arith, h, longer old.others new.others grown.1)
kept-grown old new (reply.Refused why) grown h = h

-- replies to which nothing is added
pub kept-replies : (replies : ReplyLists) → KeepsReplies replies replies
kept-replies replies = (([], sym (append-nil replies.figures)), ([], sym (append-nil replies.others)))

-- what is named stays so
pub named-grown : (old new : NameLists) (request : StoredRequest) → KeepsNames old new → IsNamed old request → IsNamed new request
named-grown old new (stored.NewOrigin origin mode) grown h = h
named-grown old new (stored.NewAccount origin account) grown h = omega (arith, h, longer old.accounts new.accounts grown.0)
named-grown old new (stored.Trade lot account contract quantity premium) grown h = (omega (arith, h.0, longer old.accounts new.accounts grown.0), omega (arith, h.1, longer old.contracts new.contracts grown.1.0))
named-grown old new (stored.Bust account lot) grown h = omega (arith, h, longer old.accounts new.accounts grown.0)
named-grown old new (stored.Hold order account contract quantity limit) grown h = (omega (arith, h.0, longer old.accounts new.accounts grown.0), omega (arith, h.1, longer old.contracts new.contracts grown.1.0))
named-grown old new (stored.Fill order lot account quantity premium) grown h = omega (arith, h, longer old.accounts new.accounts grown.0)
named-grown old new (stored.Release account order) grown h = omega (arith, h, longer old.accounts new.accounts grown.0)
named-grown old new (stored.Transfer lot from to contract quantity) grown h = (omega (arith, h.0, longer old.accounts new.accounts grown.0), omega (arith, h.1, longer old.accounts new.accounts grown.0), omega (arith, h.2, longer old.contracts new.contracts grown.1.0))
named-grown old new (stored.Post class account units) grown h = (omega (arith, h.0, longer old.accounts new.accounts grown.0), omega (arith, h.1, longer old.classes new.classes grown.1.1))
named-grown old new (stored.Draw class account units) grown h = (omega (arith, h.0, longer old.accounts new.accounts grown.0), omega (arith, h.1, longer old.classes new.classes grown.1.1))
named-grown old new (stored.Ask account) grown h = omega (arith, h, longer old.accounts new.accounts grown.0)
named-grown old new (stored.Total origin) grown h = h
named-grown old new (stored.Statement account) grown h = omega (arith, h, longer old.accounts new.accounts grown.0)
named-grown old new stored.EndDay grown h = h
named-grown old new (stored.InForce version) grown h = h
named-grown old new (stored.SetRefused place) grown h = h

recorded_of-grown : (old new : NameLists) (sets more : List Tables) (request : StoredRequest) → KeepsNames old new → IsNamed old request → sets_needed request ≤ length sets → recorded_of new (sets ++ more) request ≡ recorded_of old sets request
recorded_of-grown old new sets more (stored.NewOrigin origin mode) grown h s = refl
recorded_of-grown old new sets more (stored.NewAccount origin account) grown h s = ap (λ (a : List ℕ). Asked (command.NewAccount a origin)) (name_at-grown old.accounts new.accounts account grown.0 h)
recorded_of-grown old new sets more (stored.Trade lot account contract quantity premium) grown h s =
    ap (λ (a : List ℕ). Asked (command.Trade record { account = a; lot = lot; contract = name_at new.contracts contract; quantity = quantity; premium = premium })) (name_at-grown old.accounts new.accounts account grown.0 h.0)
    ∙ ap (λ (c : List ℕ). Asked (command.Trade record { account = name_at old.accounts account; lot = lot; contract = c; quantity = quantity; premium = premium })) (name_at-grown old.contracts new.contracts contract grown.1.0 h.1)
recorded_of-grown old new sets more (stored.Bust account lot) grown h s = ap (λ (a : List ℕ). Asked (command.Bust a lot)) (name_at-grown old.accounts new.accounts account grown.0 h)
recorded_of-grown old new sets more (stored.Hold order account contract quantity limit) grown h s =
    ap (λ (a : List ℕ). Asked (command.Hold record { account = a; order = order; contract = name_at new.contracts contract; quantity = quantity; limit = limit })) (name_at-grown old.accounts new.accounts account grown.0 h.0)
    ∙ ap (λ (c : List ℕ). Asked (command.Hold record { account = name_at old.accounts account; order = order; contract = c; quantity = quantity; limit = limit })) (name_at-grown old.contracts new.contracts contract grown.1.0 h.1)
recorded_of-grown old new sets more (stored.Fill order lot account quantity premium) grown h s =
    ap (λ (a : List ℕ). Asked (command.Fill record { account = a; order = order; lot = lot; quantity = quantity; premium = premium })) (name_at-grown old.accounts new.accounts account grown.0 h)
recorded_of-grown old new sets more (stored.Release account order) grown h s = ap (λ (a : List ℕ). Asked (command.Release a order)) (name_at-grown old.accounts new.accounts account grown.0 h)
recorded_of-grown old new sets more (stored.Transfer lot from to contract quantity) grown h s =
    ap (λ (a : List ℕ). Asked (command.Transfer record { lot = lot; from = a; to = name_at new.accounts to; contract = name_at new.contracts contract; quantity = quantity })) (name_at-grown old.accounts new.accounts from grown.0 h.0)
    ∙ ap (λ (a : List ℕ). Asked (command.Transfer record { lot = lot; from = name_at old.accounts from; to = a; contract = name_at new.contracts contract; quantity = quantity })) (name_at-grown old.accounts new.accounts to grown.0 h.1)
    ∙ ap (λ (c : List ℕ). Asked (command.Transfer record { lot = lot; from = name_at old.accounts from; to = name_at old.accounts to; contract = c; quantity = quantity })) (name_at-grown old.contracts new.contracts contract grown.1.0 h.2)
recorded_of-grown old new sets more (stored.Post class account units) grown h s =
    ap (λ (a : List ℕ). Asked (command.Post a (name_at new.classes class) units)) (name_at-grown old.accounts new.accounts account grown.0 h.0)
    ∙ ap (λ (c : List ℕ). Asked (command.Post (name_at old.accounts account) c units)) (name_at-grown old.classes new.classes class grown.1.1 h.1)
recorded_of-grown old new sets more (stored.Draw class account units) grown h s =
    ap (λ (a : List ℕ). Asked (command.Draw a (name_at new.classes class) units)) (name_at-grown old.accounts new.accounts account grown.0 h.0)
    ∙ ap (λ (c : List ℕ). Asked (command.Draw (name_at old.accounts account) c units)) (name_at-grown old.classes new.classes class grown.1.1 h.1)
recorded_of-grown old new sets more (stored.Ask account) grown h s = ap (λ (a : List ℕ). Asked (command.Ask a)) (name_at-grown old.accounts new.accounts account grown.0 h)
recorded_of-grown old new sets more (stored.Total origin) grown h s = refl
recorded_of-grown old new sets more (stored.Statement account) grown h s = ap (λ (a : List ℕ). Asked (command.Statement a)) (name_at-grown old.accounts new.accounts account grown.0 h)
recorded_of-grown old new sets more stored.EndDay grown h s = refl
recorded_of-grown old new sets more (stored.InForce version) grown h s = refl
recorded_of-grown old new sets more (stored.SetRefused place) grown h s = ap RefusedSet (get_or_append_left sets more (no_tables []) place (omega arith))

-- the entries that the lists are long enough for
pub entries-grown : (before after : ReplyLists) (old new : NameLists) (refused others : List Tables) (entries : List StoredEntry) → KeepsReplies before after → KeepsNames old new → All (IsShown before old (length refused)) entries
    → map (entry_of after new (refused ++ others)) entries ≡ map (entry_of before old refused) entries
entries-grown before after old new refused others [] kept grown shown = refl
entries-grown before after old new refused others (first ∷ rest) kept grown shown =
    let first_shown = shown zero first (omega arith) in
    let request = ap (λ (r : Recorded). entry first.session first.number r (reply_of after first.reply)) (recorded_of-grown old new refused others first.request grown first_shown.names first_shown.request) in
    let replied = ap (λ (r : Reply). entry first.session first.number (recorded_of old refused first.request) r) (reply_of-grown before after first.reply kept first_shown.reply) in
    let own = request ∙ replied in
    let later = entries-grown before after old new refused others rest kept grown (λ k d inside. shown (suc k) d (omega arith)) in
    λ i. own i ∷ later i

-- and with one entry more
pub entries-pushed : (before after : ReplyLists) (old new : NameLists) (refused others : List Tables) (entries : List StoredEntry) (e : StoredEntry) (request : Recorded) (answer : Reply) → KeepsReplies before after → KeepsNames old new → All (IsShown before old (length refused)) entries
    → recorded_of new (refused ++ others) e.request ≡ request → reply_of after e.reply ≡ answer
    → map (entry_of after new (refused ++ others)) (entries ++ e ∷ []) ≡ map (entry_of before old refused) entries ++ entry e.session e.number request answer ∷ []
entries-pushed before after old new refused others entries e request answer kept grown shown asked replied =
    map-append (entry_of after new (refused ++ others)) entries (e ∷ [])
    ∙ ap (λ (es : List Entry). es ++ entry_of after new (refused ++ others) e ∷ []) (entries-grown before after old new refused others entries kept grown shown)
    ∙ ap (λ (r : Recorded). map (entry_of before old refused) entries ++ entry e.session e.number r (reply_of after e.reply) ∷ []) asked
    ∙ ap (λ (r : Reply). map (entry_of before old refused) entries ++ entry e.session e.number request r ∷ []) replied

-- longer lists are long enough too
shown-longer : (before after : ReplyLists) (old new : NameLists) (refused others : ℕ) (e : StoredEntry) → KeepsReplies before after → KeepsNames old new → refused ≤ others → IsShown before old refused e → IsShown after new others e
shown-longer before after old new refused others e kept grown longer_sets shown = record {
  reply = kept-grown before after e.reply kept shown.reply;
  names = named-grown old new e.request grown shown.names;
  request = omega (arith, shown.request, longer_sets);
}

pub shown-more : (before after : ReplyLists) (old new : NameLists) (refused others : ℕ) (entries : List StoredEntry) (e : StoredEntry) → AreShown before old refused entries → KeepsReplies before after → KeepsNames old new → refused ≤ others → IsShown after new others e → AreFewReplies (length entries + 1) after → AreFew (length entries + 1) new → AreShown after new others (entries ++ e ∷ [])
shown-more before after old new refused others entries e shown kept grown longer_sets own few few_names = record {
  each = All-push (IsShown after new others) entries e (λ i d inside. shown-longer before after old new refused others (get_or entries i d) kept grown longer_sets (shown.each i d inside)) own;
  replies_few = (omega (arith, few.0, length-append entries (e ∷ [])), omega (arith, few.1, length-append entries (e ∷ [])));
  names = (omega (arith, few_names.0, length-append entries (e ∷ [])), (omega (arith, few_names.1.0, length-append entries (e ∷ [])), omega (arith, few_names.1.1, length-append entries (e ∷ []))));
}
