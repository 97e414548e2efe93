-- A command leaves the set in force: for commits, whose desks stay marked under it.
use Rattle.std.proofs.Common.{◌≡◌, ℕ, Bool, true, false, refl, Result, Ok, Err, Option, None, Some, List, cond}
use Rattle.std.specs.Prelude.{pos, int_lt}
use Rattle.mgn_params.specs.Tables.{Tables}
use Rattle.mgn_machine.specs.declared.command.Command.{Command}
use Rattle.mgn_machine.specs.declared.command.Command.TheVariants.{NewOrigin, NewAccount, Trade, Bust, Post, Draw, Ask, Total, EndDay, Hold, Fill, Release, Transfer as Move, Statement}
use Rattle.mgn_machine.specs.declared.command.Transfer.{Transfer}
use Rattle.mgn_machine.specs.declared.command.Mode.{Mode}
use Rattle.mgn_machine.specs.declared.command.Mode.TheVariants.{Gross, Net}
use Rattle.mgn_machine.specs.declared.reply.Refusal.{Refusal}
use Rattle.mgn_machine.specs.declared.reply.Refusal.TheVariants.{NoRoom}
use Rattle.mgn_machine.specs.State.{State, account_at}
use Rattle.mgn_machine.specs.Refusals.{◌>>=◌, if_room}
use Rattle.mgn_machine.specs.Room.{unit_room}
use Rattle.mgn_machine.specs.Holding.{entered, filled, released}
use Rattle.mgn_machine.specs.Transfers.{moved, move_places, with_move}
use Rattle.mgn_machine.specs.Step.{answered, step_under, with_origin, with_account, originated, opened, traded, undone, posted, drawn, ended}

-- what a change leads to, if it is done, is of the version
abbrev Leads : ℕ → Result State Refusal → Type 0
Leads version (Ok now) = now.version ≡ version
Leads version (Err why) = Unit {0}

record IsOf (version : ℕ) (r : Result State Refusal) : Type 0 where
  leads : Leads version r

of_answer : (s : State) (r : Result State Refusal) → IsOf s.version r → (answered s r).0.version ≡ s.version
of_answer s (Ok now) same = same.leads
of_answer s (Err why) none = refl

of_done : (version : ℕ) (now : State) → now.version ≡ version → IsOf version (Ok now)
of_done version now same = record { leads = same }

of_chain : {X : Type 0} (version : ℕ) (r : Result X Refusal) (f : X → Result State Refusal) → ((x : X) → IsOf version (f x)) → IsOf version (r >>= f)
of_chain version (Ok x) f each = each x
of_chain version (Err why) f each = record { leads = tt }

of_origin : (s : State) (name : List ℕ) (mode : Mode) → IsOf s.version (Ok (with_origin s name mode))
of_origin s name Gross = of_done s.version _ refl
of_origin s name Net = of_done s.version _ refl

of_account : (s : State) (name : List ℕ) (home : ℕ × Option ℕ) → IsOf s.version (Ok (with_account s name home))
of_account s name (origin, None) = of_done s.version _ refl
of_account s name (origin, Some u) = of_done s.version _ refl

of_test : (b : Bool) (version : ℕ) (now : State) → now.version ≡ version → IsOf version (cond b (Err NoRoom) (Ok now))
of_test true version now same = record { leads = tt }
of_test false version now same = of_done version now same

of_room : (set' : Tables) (u version : ℕ) (now : State) → now.version ≡ version → IsOf version (if_room set' u now)
of_room set' u version now same = of_test (int_lt (unit_room set' now.accounts u) (pos 0)) version now same

-- both lots of a transfer, where both units have room with them
abbrev if_rooms : Tables → State → Transfer → ℕ × ℕ × ℕ → Result State Refusal
if_rooms set' s m at =
    if_room set' (account_at s.accounts at.0).unit (with_move s at.0 at.1 m)
    >>= (λ (now : State). if_room set' (account_at s.accounts at.1).unit (with_move s at.0 at.1 m))

of_rooms : (set' : Tables) (s : State) (m : Transfer) (at : ℕ × ℕ × ℕ) → IsOf s.version (if_rooms set' s m at)
of_rooms set' s m at =
    of_chain s.version (if_room set' (account_at s.accounts at.0).unit (with_move s at.0 at.1 m)) (λ (now : State). if_room set' (account_at s.accounts at.1).unit (with_move s at.0 at.1 m))
    (λ now. of_room set' (account_at s.accounts at.1).unit s.version (with_move s at.0 at.1 m) refl)

pub keeps_version : (set' : Tables) (s : State) (command : Command) → (step_under set' s command).0.version ≡ s.version
keeps_version set' s (NewOrigin name mode) = of_answer s (originated s name mode) (of_chain s.version _ _ (λ _. of_origin s name mode))
keeps_version set' s (NewAccount account origin) = of_answer s (opened s account origin) (of_chain s.version _ _ (λ home. of_account s account home))
keeps_version set' s (Trade t) = of_answer s (traded set' s t) (of_chain s.version _ _ (λ _. of_done s.version _ refl))
keeps_version set' s (Bust account lot) = of_answer s (undone s account lot) (of_chain s.version _ _ (λ _. of_done s.version _ refl))
keeps_version set' s (Hold h) = of_answer s (entered set' s h) (of_chain s.version _ _ (λ at. of_room set' _ s.version _ refl))
keeps_version set' s (Fill f) = of_answer s (filled set' s f) (of_chain s.version _ _ (λ _. of_done s.version _ refl))
keeps_version set' s (Release account order) = of_answer s (released s account order) (of_chain s.version _ _ (λ _. of_done s.version _ refl))
keeps_version set' s (Move m) = of_answer s (moved set' s m) (of_chain s.version (move_places set' s m) (λ at. if_rooms set' s m at) (λ at. of_rooms set' s m at))
keeps_version set' s (Post account class units) = of_answer s (posted set' s account class units) (of_chain s.version _ _ (λ _. of_done s.version _ refl))
keeps_version set' s (Draw account class units) = of_answer s (drawn set' s account class units) (of_chain s.version _ _ (λ at. of_room set' _ s.version _ refl))
keeps_version set' s (Ask account) = refl
keeps_version set' s (Total origin) = refl
keeps_version set' s (Statement account) = refl
keeps_version set' s EndDay = of_answer s (ended s) (of_chain s.version _ _ (λ _. of_done s.version _ refl))
