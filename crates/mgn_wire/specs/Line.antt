-- What a line asks for, or the first fault that applies (own format).
use Rattle.std.specs.Prelude.{ℕ, ℤ, Bool, nat_lt, if◌then◌else◌, List, [], ◌∷◌, length, Result, Ok, Err, codes}
use Rattle.std.specs.List.{list_all}
use Rattle.std.specs.Str.{bytes_eq}
use Rattle.mgn_ids.specs.Amounts.{premium_in, quantity_in, units_in}
use Rattle.mgn_ids.specs.Name.{name_in}
use Rattle.mgn_ids.specs.Number.{number_in}
use Rattle.mgn_ids.specs.declared.fault.IdFault.{IdFault}
use Rattle.mgn_ids.specs.declared.fault.IdFault.TheVariants.{Syntax, Range}
use Rattle.mgn_machine.specs.declared.command.Command.{Command}
use Rattle.mgn_machine.specs.declared.command.Command.TheVariants.{NewOrigin, NewAccount, Trade, Bust, Post, Draw, Ask, Total, Statement, EndDay, Hold, Fill, Release, Transfer}
use Rattle.mgn_wire.specs.Word.{words_of, mode_in}
use Rattle.mgn_wire.specs.declared.fault.LineFault.{LineFault}
use Rattle.mgn_wire.specs.declared.fault.LineFault.TheVariants as line
use Rattle.mgn_wire.specs.declared.line.Line.{Line}
use Rattle.mgn_wire.specs.declared.line.Line.TheVariants.{Do, Switch}

-- one word more of a command: from left to right, so the leftmost that is wrong decides
infixl 10 ◌<*>◌
abbrev pub ◌<*>◌ : {A B : Type 0} → Result (A → B) IdFault → Result A IdFault → Result B IdFault
(Ok f) <*> (Ok x) = Ok (f x)
(Ok f) <*> (Err fault) = Err fault
(Err fault) <*> x = Err fault

-- a command of two, three and five words after the first
abbrev pub reads2 : {A B C : Type 0} → (A → B → C) → Result A IdFault → Result B IdFault → Result C IdFault
reads2 f a b = Ok f <*> a <*> b

abbrev pub reads3 : {A B C D : Type 0} → (A → B → C → D) → Result A IdFault → Result B IdFault → Result C IdFault → Result D IdFault
reads3 f a b c = Ok f <*> a <*> b <*> c

abbrev pub reads5 : {A B C D E F : Type 0} → (A → B → C → D → E → F)
    → Result A IdFault → Result B IdFault → Result C IdFault → Result D IdFault → Result E IdFault → Result F IdFault
reads5 f a b c d e = Ok f <*> a <*> b <*> c <*> d <*> e

abbrev pub trade_of : List ℕ → ℕ → List ℕ → ℤ → ℕ → Command
trade_of account lot contract quantity premium =
    Trade record { account = account; lot = lot; contract = contract; quantity = quantity; premium = premium }

abbrev pub hold_of : List ℕ → ℕ → List ℕ → ℤ → ℕ → Command
hold_of account order contract quantity limit =
    Hold record { account = account; order = order; contract = contract; quantity = quantity; limit = limit }

abbrev pub fill_of : List ℕ → ℕ → ℕ → ℤ → ℕ → Command
fill_of account order lot quantity premium =
    Fill record { account = account; order = order; lot = lot; quantity = quantity; premium = premium }

abbrev pub transfer_of : ℕ → List ℕ → List ℕ → List ℕ → ℤ → Command
transfer_of lot from to contract quantity =
    Transfer record { lot = lot; from = from; to = to; contract = contract; quantity = quantity }

-- The first word names the command, which has as many words after it.

unfoldable pub with_none : List ℕ → Result Command IdFault
with_none verb = if bytes_eq verb (codes "END") then Ok EndDay else Err Syntax

unfoldable pub with_one : List ℕ → List ℕ → Result Line IdFault
with_one verb a =
    if bytes_eq verb (codes "ASK") then Ok (λ name. Do (Ask name)) <*> name_in a
    else if bytes_eq verb (codes "TOTAL") then Ok (λ name. Do (Total name)) <*> name_in a
    else if bytes_eq verb (codes "STMT") then Ok (λ name. Do (Statement name)) <*> name_in a
    else if bytes_eq verb (codes "SWITCH") then Ok Switch <*> name_in a
    else Err Syntax

unfoldable pub with_two : List ℕ → List ℕ → List ℕ → Result Command IdFault
with_two verb a b =
    if bytes_eq verb (codes "BUST") then reads2 Bust (name_in a) (number_in b)
    else if bytes_eq verb (codes "OPEN") then reads2 NewAccount (name_in a) (name_in b)
    else if bytes_eq verb (codes "ORIGIN") then reads2 NewOrigin (name_in a) (mode_in b)
    else if bytes_eq verb (codes "RELEASE") then reads2 Release (name_in a) (number_in b)
    else Err Syntax

unfoldable pub with_three : List ℕ → List ℕ → List ℕ → List ℕ → Result Command IdFault
with_three verb a b c =
    if bytes_eq verb (codes "POST") then reads3 Post (name_in a) (name_in b) (units_in c)
    else if bytes_eq verb (codes "DRAW") then reads3 Draw (name_in a) (name_in b) (units_in c)
    else Err Syntax

unfoldable pub with_five : List ℕ → List ℕ → List ℕ → List ℕ → List ℕ → List ℕ → Result Command IdFault
with_five verb a b c d e =
    if bytes_eq verb (codes "TRADE") then reads5 trade_of (name_in a) (number_in b) (name_in c) (quantity_in d) (premium_in e)
    else if bytes_eq verb (codes "HOLD") then reads5 hold_of (name_in a) (number_in b) (name_in c) (quantity_in d) (premium_in e)
    else if bytes_eq verb (codes "FILL") then reads5 fill_of (name_in a) (number_in b) (number_in c) (quantity_in d) (premium_in e)
    else if bytes_eq verb (codes "MOVE") then reads5 transfer_of (number_in a) (name_in b) (name_in c) (name_in d) (quantity_in e)
    else Err Syntax

unfoldable pub line_in : List (List ℕ) → Result Line IdFault
line_in (verb ∷ []) = Ok Do <*> with_none verb
line_in (verb ∷ a ∷ []) = with_one verb a
line_in (verb ∷ a ∷ b ∷ []) = Ok Do <*> with_two verb a b
line_in (verb ∷ a ∷ b ∷ c ∷ []) = Ok Do <*> with_three verb a b c
line_in (verb ∷ a ∷ b ∷ c ∷ d ∷ e ∷ []) = Ok Do <*> with_five verb a b c d e
line_in _ = Err Syntax

-- no word is empty
abbrev pub all_filled : List (List ℕ) → Bool
all_filled words = list_all (λ word. nat_lt 0 (length word)) words

-- what is wrong with a word is wrong with its line
abbrev pub of_words : {A : Type 0} → Result A IdFault → Result A LineFault
of_words (Ok x) = Ok x
of_words (Err Syntax) = Err line.Syntax
of_words (Err Range) = Err line.Range

-- what a line asks for, or the first fault that applies
abbrev pub line_of : List ℕ → Result Line LineFault
line_of bytes =
    if nat_lt 256 (length bytes) then Err line.Long
    else if all_filled (words_of bytes) then of_words (line_in (words_of bytes))
    else Err line.Syntax
