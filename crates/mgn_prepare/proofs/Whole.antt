-- The marks of all units, by those of each: for `mark_all` and `mark_alone`.
use Rattle.std.proofs.Common.{◌≡◌, ◌<◌, ◌+◌, ◌∙◌, ℕ, zero, suc, All, List, [], ◌∷◌, ◌++◌, length, map, take, get_or, Option, Some, None, Result, Ok, Err, IfOk, IfSome, sym, ap, subst, arith, refl}
use Rattle.std.specs.Prelude.{slice_index_or}
use Rattle.std.proofs.lemmas.List.{get_or-map, length-map, map-append, take_more}
use Rattle.mgn_params.specs.Tables.{Tables}
use Rattle.mgn_nets.specs.Portfolios.{AreUnitNets, UnitNets}
use Rattle.mgn_unit.specs.NewSets.{ArePrepared, IsPrepared, PreparedUnit}
use Rattle.mgn_prepare.specs.declared.marks.Job.{Job}
use Rattle.mgn_prepare.specs.Jobs.{IsDone}
use Rattle.mgn_prepare.specs.Marks.{mark_of}

-- what holds of the nets of each job holds of all nets
pub jobs-copied : (old : Tables) (nets : List UnitNets) (jobs : List Job) → map (λ (job : Job). job.nets) jobs ≡ nets → All (AreUnitNets old) nets → All (λ (job : Job). AreUnitNets old job.nets) jobs
jobs-copied old nets jobs same all = λ k d small.
    subst (AreUnitNets old) (ap (λ (l : List UnitNets). get_or l k d.nets) (sym same) ∙ get_or-map (λ (job : Job). job.nets) jobs k d d.nets small)
    (all k d.nets (omega (arith, small, ap length same, length-map jobs (λ (job : Job). job.nets))))

-- all jobs are done, one by one
abbrev pub AreDone : Tables → Tables → List Job → List Job → Type 0
AreDone old new before after = (u : ℕ) (d : Job) → u < length before → IsDone old new (slice_index_or before u d) (slice_index_or after u d)

-- the mark of a job that is done, where it is known
done-mark : (old new : Tables) (before after : Job) (m : Option PreparedUnit) → IsDone old new before after → Ok m ≡ after.mark → m ≡ mark_of old new before.nets
done-mark old new before after m done same = subst (λ r. IfOk r (λ (w : Option PreparedUnit). w ≡ mark_of old new before.nets)) (sym same) done.mark

-- jobs that are done have the marks of their nets, in order
pub marks-done : (old new : Tables) (before after : List Job) (marks : List (Option PreparedUnit)) → length after ≡ length before → AreDone old new before after → map Ok marks ≡ map (λ (job : Job). job.mark) after
    → marks ≡ map (mark_of old new) (map (λ (job : Job). job.nets) before)
marks-done old new [] [] [] long done same = refl
marks-done old new [] (a ∷ rest) marks long done same = absurd (omega (arith, long))
marks-done old new (b ∷ bs) [] marks long done same = absurd (omega (arith, long))
marks-done old new [] [] (m ∷ ms) long done same = absurd (cc)
marks-done old new (b ∷ bs) (a ∷ rest) [] long done same = absurd (cc)
marks-done old new (b ∷ bs) (a ∷ rest) (m ∷ ms) long done same =
    let head : m ≡ mark_of old new b.nets = done-mark old new b a m (done 0 b (omega arith)) (cc) in
    let tail : ms ≡ map (mark_of old new) (map (λ (job : Job). job.nets) bs) =
    marks-done old new bs rest ms (omega (arith, long)) (λ u d small. done (suc u) d (omega (arith, small))) (cc) in
    cc

-- what a job that is done was prepared with, by its number
pub prepared-done : (old new : Tables) (before after : List Job) (marks : List (Option PreparedUnit)) → length after ≡ length before → AreDone old new before after → map Ok marks ≡ map (λ (job : Job). job.mark) after
    → (u : ℕ) (one : PreparedUnit) → slice_index_or marks u None ≡ Some one → IsPrepared new one
prepared-done old new before after [] long done same u one is = absurd (cc)
prepared-done old new before [] (m ∷ ms) long done same u one is = absurd (cc)
prepared-done old new [] (a ∷ rest) (m ∷ ms) long done same u one is = absurd (omega (arith, long))
prepared-done old new (b ∷ bs) (a ∷ rest) (m ∷ ms) long done same zero one is =
    let known : Ok m ≡ a.mark = cc in
    let some : IfSome m (IsPrepared new) = subst (λ r. IfOk r (λ (w : Option PreparedUnit). IfSome w (IsPrepared new))) (sym known) (done 0 b (omega arith)).prepared in
    subst (λ w. IfSome w (IsPrepared new)) is some
prepared-done old new (b ∷ bs) (a ∷ rest) (m ∷ ms) long done same (suc u) one is =
    prepared-done old new bs rest ms (omega (arith, long)) (λ k d small. done (suc k) d (omega (arith, small))) (cc) u one is

-- all marks that come of jobs which were done for these nets
pub whole : {V E : Type 0} (items : V → List (Option PreparedUnit)) (r : Result V E) (old new from to : Tables) (nets : List UnitNets) (before after : List Job) → from ≡ old → to ≡ new
    → map (λ (job : Job). job.nets) before ≡ nets → length after ≡ length before → AreDone from to before after → IfOk r (λ v. map Ok (items v) ≡ map (λ (job : Job). job.mark) after)
    → IfOk r (λ v. items v ≡ map (mark_of old new) nets)
whole items (Err e) old new from to nets before after is_old is_new same long done are = tt
whole items (Ok v) old new from to nets before after is_old is_new same long done are =
    let marks : items v ≡ map (mark_of from to) (map (λ (job : Job). job.nets) before) = marks-done from to before after (items v) long done are in
    cc

pub whole-prepared : {V E : Type 0} (items : V → List (Option PreparedUnit)) (r : Result V E) (new from to : Tables) (before after : List Job) → to ≡ new
    → length after ≡ length before → AreDone from to before after → IfOk r (λ v. map Ok (items v) ≡ map (λ (job : Job). job.mark) after) → IfOk r (λ v. ArePrepared new (items v))
whole-prepared items (Err e) new from to before after is_new long done are = tt
whole-prepared items (Ok v) new from to before after is_new long done are =
    subst (λ (t : Tables). ArePrepared t (items v)) is_new (prepared-done from to before after (items v) long done are)

-- one unit more
pub more-prepared : (new : Tables) (marks : List (Option PreparedUnit)) (m : Option PreparedUnit) → ArePrepared new marks → IfSome m (IsPrepared new) → ArePrepared new (marks ++ m ∷ [])
more-prepared new [] m are some zero one is = subst (λ w. IfSome w (IsPrepared new)) is some
more-prepared new [] m are some (suc u) one is = absurd (cc)
more-prepared new (x ∷ xs) m are some zero one is = are 0 one is
more-prepared new (x ∷ xs) m are some (suc u) one is = more-prepared new xs m (λ k o e. are (suc k) o e) some u one is

pub more-marks : (old new : Tables) (nets : List UnitNets) (u : ℕ) (n : UnitNets) (marks : List (Option PreparedUnit)) (m : Option PreparedUnit) → u < length nets → n ≡ get_or nets u n → marks ≡ map (mark_of old new) (take u nets) → m ≡ mark_of old new n
    → marks ++ m ∷ [] ≡ map (mark_of old new) (take (u + 1) nets)
more-marks old new nets u n marks m inside same are mark =
    ap (λ (xs : List (Option PreparedUnit)). xs ++ m ∷ []) are
    ∙ ap (λ (x : Option PreparedUnit). map (mark_of old new) (take u nets) ++ x ∷ []) (mark ∙ ap (mark_of old new) same)
    ∙ sym (map-append (mark_of old new) (take u nets) (get_or nets u n ∷ []))
    ∙ ap (map (mark_of old new)) (sym (take_more nets u n inside))
