-- Each desk keeps the number of its unit where `grow` adds one.
use Rattle.std.proofs.Common.{◌≡◌, ◌∙◌, ◌++◌, ◌∷◌, [], ℕ, zero, suc, List, length, get_or, ap, refl}
use Rattle.mgn_desk.specs.Desks.{DeskRows}
use Rattle.mgn_pricing.specs.Desks.{AreNumbered}

unit_pushed : (desks : List DeskRows) (x d : DeskRows) (k n : ℕ) → (length desks ≡ k → x.unit ≡ n) → d.unit ≡ n → (get_or desks k d).unit ≡ n → (get_or (desks ++ x ∷ []) k d).unit ≡ n
unit_pushed [] x d zero n new none old = new refl
unit_pushed [] x d (suc k) n new none old = none
unit_pushed (y ∷ ys) x d zero n new none old = old
unit_pushed (y ∷ ys) x d (suc k) n new none old = unit_pushed ys x d k n (λ e. new (ap suc e)) none old

-- the next unit's desk is added
pub pushed_numbered : (desks : List DeskRows) (x : DeskRows) → AreNumbered desks → x.unit ≡ length desks → AreNumbered (desks ++ x ∷ [])
pushed_numbered desks x are is k = unit_pushed desks x _ k k (λ e. is ∙ e) refl (are k)
