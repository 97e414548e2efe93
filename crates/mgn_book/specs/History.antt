-- How a book keeps its history: an entry has the places of its names in lists that have each name once. Replies other than a
-- refusal and a plain `OK`, and the sets that were refused, stand in lists of their own too.
use Rattle.std.specs.Prelude.{ℕ, ◌+◌, ◌*◌, ◌<◌, ◌≤◌, All, Bool, true, false, List, [], length, slice_index_or}
use Rattle.mgn_params.specs.Tables.{Tables, no_tables}
use Rattle.mgn_machine.specs.declared.command.Command.TheVariants as command
use Rattle.mgn_machine.specs.declared.entry.Entry.{Entry}
use Rattle.mgn_machine.specs.declared.request.Recorded.{Recorded}
use Rattle.mgn_machine.specs.declared.request.Recorded.TheVariants.{Asked, InForce, SetRefused}
use Rattle.mgn_machine.specs.History.{entry}
use Rattle.mgn_book.specs.Replies.{AreFewReplies, Grows, IsKept, ReplyLists, reply_of}
use Rattle.mgn_book.specs.declared.stored.StoredEntry.{StoredEntry}
use Rattle.mgn_book.specs.declared.stored.StoredRequest.{StoredRequest}
use Rattle.mgn_book.specs.declared.stored.StoredRequest.TheVariants as stored

-- what contracts see of a history: its entries, and whether the next one needs no memory but for a refused set
pub record EntryList : Type 0 where
  pub entries : List Entry
  pub reserved : Bool

-- what they see of the names that entries have: for how many more there is room, too
pub record NameLists : Type 0 where
  pub accounts : List (List ℕ)
  pub account_room : ℕ
  pub contracts : List (List ℕ)
  pub contract_room : ℕ
  pub classes : List (List ℕ)
  pub class_room : ℕ

-- the names stay where they are
abbrev pub KeepsNames : NameLists → NameLists → Type 0
KeepsNames old new =
    Grows old.accounts new.accounts × (Grows old.contracts new.contracts × Grows old.classes new.classes)

-- there is room for the names of one command
abbrev pub HasRoom : NameLists → Type 0
HasRoom n = (2 ≤ n.account_room) × ((1 ≤ n.contract_room) × (1 ≤ n.class_room))

-- there are no more names than so many commands have
abbrev pub AreFew : ℕ → NameLists → Type 0
AreFew commands n =
    (length n.accounts ≤ 2 * commands) × ((length n.contracts ≤ commands) × (length n.classes ≤ commands))

-- at most those of one command were added
abbrev pub AddsFew : NameLists → NameLists → Type 0
AddsFew old new =
    (length new.accounts ≤ length old.accounts + 2)
    × ((length new.contracts ≤ length old.contracts + 1) × (length new.classes ≤ length old.classes + 1))

abbrev pub name_at : List (List ℕ) → ℕ → List ℕ
name_at names place = slice_index_or names place []

-- the request that is stored
abbrev pub recorded_of : NameLists → List Tables → StoredRequest → Recorded
recorded_of n sets (stored.NewOrigin origin mode) = Asked (command.NewOrigin origin mode)
recorded_of n sets (stored.NewAccount origin account) = Asked (command.NewAccount (name_at n.accounts account) origin)
recorded_of n sets (stored.Trade lot account contract quantity premium) = Asked (command.Trade record {
  account = name_at n.accounts account;
  lot = lot;
  contract = name_at n.contracts contract;
  quantity = quantity;
  premium = premium;
})
recorded_of n sets (stored.Bust account lot) = Asked (command.Bust (name_at n.accounts account) lot)
recorded_of n sets (stored.Hold order account contract quantity limit) = Asked (command.Hold record {
  account = name_at n.accounts account;
  order = order;
  contract = name_at n.contracts contract;
  quantity = quantity;
  limit = limit;
})
recorded_of n sets (stored.Fill order lot account quantity premium) = Asked (command.Fill record {
  account = name_at n.accounts account;
  order = order;
  lot = lot;
  quantity = quantity;
  premium = premium;
})
recorded_of n sets (stored.Release account order) = Asked (command.Release (name_at n.accounts account) order)
recorded_of n sets (stored.Transfer lot from to contract quantity) = Asked (command.Transfer record {
  lot = lot;
  from = name_at n.accounts from;
  to = name_at n.accounts to;
  contract = name_at n.contracts contract;
  quantity = quantity;
})
recorded_of n sets (stored.Post class account units) = Asked (command.Post (name_at n.accounts account) (name_at n.classes class) units)
recorded_of n sets (stored.Draw class account units) = Asked (command.Draw (name_at n.accounts account) (name_at n.classes class) units)
recorded_of n sets (stored.Ask account) = Asked (command.Ask (name_at n.accounts account))
recorded_of n sets (stored.Total origin) = Asked (command.Total origin)
recorded_of n sets (stored.Statement account) = Asked (command.Statement (name_at n.accounts account))
recorded_of n sets stored.EndDay = Asked command.EndDay
recorded_of n sets (stored.InForce version) = InForce version
recorded_of n sets (stored.SetRefused place) = SetRefused (slice_index_or sets place (no_tables []))

-- the names of a stored request are there
abbrev pub IsNamed : NameLists → StoredRequest → Type 0
IsNamed n (stored.NewOrigin origin mode) = Unit {0}
IsNamed n (stored.NewAccount origin account) = account < length n.accounts
IsNamed n (stored.Trade lot account contract quantity premium) = (account < length n.accounts) × (contract < length n.contracts)
IsNamed n (stored.Bust account lot) = account < length n.accounts
IsNamed n (stored.Hold order account contract quantity limit) = (account < length n.accounts) × (contract < length n.contracts)
IsNamed n (stored.Fill order lot account quantity premium) = account < length n.accounts
IsNamed n (stored.Release account order) = account < length n.accounts
IsNamed n (stored.Transfer lot from to contract quantity) =
    (from < length n.accounts) × (to < length n.accounts) × (contract < length n.contracts)
IsNamed n (stored.Post class account units) = (account < length n.accounts) × (class < length n.classes)
IsNamed n (stored.Draw class account units) = (account < length n.accounts) × (class < length n.classes)
IsNamed n (stored.Ask account) = account < length n.accounts
IsNamed n (stored.Total origin) = Unit {0}
IsNamed n (stored.Statement account) = account < length n.accounts
IsNamed n stored.EndDay = Unit {0}
IsNamed n (stored.InForce version) = Unit {0}
IsNamed n (stored.SetRefused place) = Unit {0}

-- of a trade or a held order
abbrev pub is_order : StoredRequest → Bool
is_order (stored.Trade lot account contract quantity premium) = true
is_order (stored.Hold order account contract quantity limit) = true
is_order _ = false

-- of a fill or a transfer
abbrev pub is_fill_or_transfer : StoredRequest → Bool
is_fill_or_transfer (stored.Fill order lot account quantity premium) = true
is_fill_or_transfer (stored.Transfer lot from to contract quantity) = true
is_fill_or_transfer _ = false

-- how long the list of refused sets must be for a request
abbrev pub sets_needed : StoredRequest → ℕ
sets_needed (stored.SetRefused place) = place + 1
sets_needed _ = 0

-- the entry of what is stored
abbrev pub entry_of : ReplyLists → NameLists → List Tables → StoredEntry → Entry
entry_of replies n sets stored =
    entry stored.session stored.number (recorded_of n sets stored.request) (reply_of replies stored.reply)

-- the lists are long enough for what is stored
pub record IsShown (replies : ReplyLists) (n : NameLists) (sets : ℕ) (stored : StoredEntry) : Type 0 where
  pub reply : IsKept replies stored.reply
  pub names : IsNamed n stored.request
  pub request : sets_needed stored.request ≤ sets

-- that holds of each entry, and each list has no more than the entries need
pub record AreShown (replies : ReplyLists) (n : NameLists) (sets : ℕ) (entries : List StoredEntry) : Type 0 where
  pub each : All (IsShown replies n sets) entries
  pub replies_few : AreFewReplies (length entries) replies
  pub names : AreFew (length entries) n
