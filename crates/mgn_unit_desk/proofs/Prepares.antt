-- What was prepared of units is for the nets that their stamps show: for the three ways to prepare.
use Rattle.std.proofs.Common.{◌≡◌, ◌<◌, ◌≤◌, ◌∙◌, ℕ, Bool, List, [], true, false, ap, get_or, length, map, refl, subst, sym, ⊎_elim}
use Rattle.std.specs.Prelude.{None, Option, Some, if◌then◌else◌}
use Rattle.std.proofs.lemmas.Bool.{cases_lt}
use Rattle.std.proofs.lemmas.List.{get_or-map, get_or_past, length-map}
use Rattle.std.proofs.lemmas.Option.{none-some}
use Rattle.mgn_params.specs.Tables.{Tables}
use Rattle.mgn_nets.specs.Portfolios.{UnitNets}
use Rattle.mgn_unit.specs.Prepared.{AreCarried}
use Rattle.mgn_unit.specs.NewSets.{PreparedUnit, is_unit_covered}
use Rattle.mgn_prepare.specs.Marks.{mark_of, unit_of}
use Rattle.mgn_day.specs.Days.{Day, nets_of, set_of}
use Rattle.mgn_day.specs.Gathering.{AreReady, AreSeen, IsSeen}

abbrev there : PreparedUnit → Option PreparedUnit → PreparedUnit
there d None = d
there d (Some one) = one

-- what a unit is marked with is for its nets
marked-carried : (old new : Tables) (nets : UnitNets) (one : PreparedUnit) (b : Bool) → (if b then Some (unit_of old new nets) else None) ≡ Some one → AreCarried old new nets one
marked-carried old new nets one true is =
    subst (AreCarried old new nets) (ap (there one) is) record { lots = refl; buys = refl; sales = refl; all = refl }
marked-carried old new nets one false is = absurd (none-some one is)

no_nets : UnitNets
no_nets = record { lots = []; buys = []; sales = []; all = [] }

-- and so it is for those that the unit's stamp shows
pub ready-marked : {T : Type 0} (shown : T → Day) (old new : Tables) (nets : List UnitNets) (since : List (ℕ × T)) (units : List (Option PreparedUnit)) → AreSeen shown old nets since → units ≡ map (mark_of old new) nets → AreReady shown new units since
ready-marked {T} shown old new nets since units seen marks u one s inside found = ⊎_elim here past (cases_lt u (length nets))
  where
    marked : get_or (map (mark_of old new) nets) u None ≡ Some one
    marked = subst (λ (l : List (Option PreparedUnit)). get_or l u None ≡ Some one) marks found

    day : Day
    day = shown (get_or since u s).1

    here : u < length nets → AreCarried (set_of day) new (nets_of day u) one
    here less =
        let n : UnitNets = get_or nets u no_nets in
        let is : IsSeen day old u n = seen u no_nets s inside in
        subst (λ (t : Tables). AreCarried t new (nets_of day u) one) is.set_is
        (subst (λ (m : UnitNets). AreCarried old new m one) is.nets_are
        (marked-carried old new n one (is_unit_covered old new n) (sym (get_or-map (mark_of old new) nets u no_nets None less) ∙ marked)))

    past : length nets ≤ u → AreCarried (set_of day) new (nets_of day u) one
    past more =
        absurd (none-some one (sym (get_or_past (map (mark_of old new) nets) u None (subst (λ (k : ℕ). k ≤ u) (sym (length-map nets (mark_of old new))) more)) ∙ marked))
