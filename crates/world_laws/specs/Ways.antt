-- Steps that bring a session to its end.
use Rattle.std.specs.Prelude.{ℕ, ◌≡◌, List, [], ◌∷◌, map}
use Rattle.mgn_world.specs.declared.phases.Deed.TheVariants.{Look, Mark, Apply, Commit, Back, End}
use Rattle.mgn_world.specs.declared.phases.Step.{Step}
use Rattle.world_laws.specs.Moves.{step_of}

-- twelve steps of the session at a place; those that are not its next one do nothing
abbrev pub way_out : ℕ → List Step
way_out p = map (step_of p)
    (Mark ∷ Mark ∷ Apply ∷ Commit ∷ Back ∷ Look ∷ Mark ∷ Mark ∷ Apply ∷ Commit ∷ Back ∷ End ∷ [])

-- all these steps are of one session
abbrev pub AreOf : ℕ → List Step → Type 0
AreOf session [] = Unit {0}
AreOf session (e ∷ es) = (e.session ≡ session) × AreOf session es
