-- What a pass is answered, as what `exec` and `switch` of a seat add to their list.
use Rattle.std.proofs.Common.{ℕ, ap, Option, Some, None, inl, inr, ⊎_elim}
use Rattle.mgn_machine.specs.declared.reply.Reply.{Reply}
use Rattle.mgn_machine.specs.declared.request.Request.{Request}
use Rattle.mgn_ledger.specs.Ledgers.{PassAnswersAt, HasNoPlace}
use Rattle.mgn_ledger.specs.Passes.{PassView, transcript}
use Rattle.mgn_session.specs.Session.{AddsAt, IsUnplaced as IsWithoutPlace}

unplaced : (reply : Reply) → HasNoPlace reply → IsWithoutPlace (Unit {0}) (Unit {0}) reply
unplaced reply is = ⊎_elim (λ memory. inl memory) (λ rest. ⊎_elim (λ full. inr (inl (full, tt))) (λ broken. inr (inr (broken, tt))) rest) is

pub adds : (old : PassView) (request : Request) (place : Option ℕ) (reply : Reply) (new : PassView) → PassAnswersAt old request place reply new
    → AddsAt (Unit {0}) (Unit {0}) place request reply (transcript old) (transcript new)
adds old request (Some place) reply new is = is.calls
adds old request None reply new is = (ap transcript is.0, unplaced reply is.1)
