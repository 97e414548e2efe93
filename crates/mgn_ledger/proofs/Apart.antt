-- That no two passes of an audit are of one session, as `are_all` finds.
use Rattle.std.proofs.Common.{◌≡◌, ℕ, ◌+◌, ◌<◌, ◌∙◌, ◌++◌, ◌∷◌, [], List, length, take, false, get_or, suc, sym, ap, subst, arith, add-one}
use Rattle.std.specs.Prelude.{◌==◌}
use Rattle.std.specs.Cmp.{IsEquivalence}
use Rattle.std.specs.List.{list_any}
use Rattle.std.proofs.Math.Seq.{take-suc}
use Rattle.std.proofs.lemmas.Cmp.{nat_eq_equiv}
use Rattle.std.proofs.lemmas.Map.Keys.{IsDistinct-from_apart, IsDistinct-push}
use Rattle.mgn_ledger.specs.Passes.{AreApart, PassView, same_session}

same_session_equiv : IsEquivalence same_session
same_session_equiv = record {
  refl = λ p. nat_eq_equiv.refl p.session;
  symm = λ p q. nat_eq_equiv.symm p.session q.session;
  congr = λ p q r. nat_eq_equiv.congr p.session q.session r.session;
}

-- one pass more, of a session that none before is of
pub apart-more : (passes : List PassView) (i : ℕ) (p : PassView) → i < length passes → get_or passes i p ≡ p → AreApart (take i passes)
    → list_any (λ (q : PassView). p.session == q.session) (take i passes) ≡ false → AreApart (take (i + 1) passes)
apart-more passes i p inside is apart none =
    let more : take (suc i) passes ≡ take i passes ++ p ∷ [] = take-suc passes i p inside ∙ ap (λ (q : PassView). take i passes ++ q ∷ []) is in
    rw add-one (subst AreApart (sym more) (IsDistinct-push same_session_equiv (take i passes) p apart none))

pub apart-none : AreApart []
apart-none = IsDistinct-from_apart same_session [] (λ i j d before inside. absurd (omega arith))
