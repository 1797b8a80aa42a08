-- Runs that may change several inputs at once (document 02, ticket 6), over what reading, the run to a couple, the plan and the list leave.
-- Assumes nothing: these are definitions.
use Rattle.std.specs.Prelude.{◌≡◌, ◌↔◌, true, List, [], ◌∷◌, ◌++◌, map, ℕ, ◌*◌, ◌^◌, ◌<◌}
use Rattle.machine.specs.Lists.{In}
use Rattle.machine.specs.Runs.{usable, startable, machine_by, machine_of, couples, Marked}
use Rattle.machine.specs.Shortest.{RunTo}
use Rattle.machine.specs.Plans.{VisitedBy, runs_in}
use Rattle.machine.specs.declared.Frame.{Frame}
use Rattle.several.specs.Several.{multiples, MultiRunTo}
use Rattle.several.specs.Lists.{MultiList, stored_list, list_in, counted}

-- every couple has a run that may change several inputs at once
abbrev pub EveryCouple : Frame → List ℕ → Type 0
EveryCouple f table = (c : ℕ) → c < f.states * 2 ^ f.inputs → (vs : List ℕ) × MultiRunTo (machine_by true f table) c vs

-- settings obey a frame: the first is an allowed start, and none is ruled out
abbrev pub Obeys : Frame → List ℕ → Type 0
Obeys f [] = ⊥
Obeys f (v ∷ vs) = (startable f v ≡ true) × ((w : ℕ) → In w (v ∷ vs) → usable f w ≡ true)

-- the settings are the run to couple c; it has no multiple change exactly if single changes mark c, and then it is document 01's run
pub record RightRun (f : Frame) (table : List ℕ) (c : ℕ) (run : List ℕ) : Type 0 where
  pub run_to : MultiRunTo (machine_by true f table) c run
  pub no_multiple : (multiples (machine_by true f table) run ≡ 0) ↔ Marked (machine_of f table) c
  pub single : Marked (machine_of f table) c → RunTo (machine_of f table) c run
  pub obeys : Obeys f run

-- the runs that the bytes of a list hold, without their counts
abbrev pub runs_apart : List ℕ → List (List ℕ)
runs_apart bytes = map (λ x. x.1) (list_in bytes)

-- the bytes of a list beside those of a plan: the list's runs are those apart from the plan's, each with a multiple change, and plan and
-- list together visit every couple that some run visits and no other; each stands behind its count, and the bytes are these and no others
pub record RightList (f : Frame) (table plan list : List ℕ) : Type 0 where
  pub listed : MultiList (machine_by true f table) (runs_in plan) (couples (machine_by true f table)) (runs_apart list)
  pub multiple : (vs : List ℕ) → In vs (runs_apart list) → 0 < multiples (machine_by true f table) vs
  pub obey : (vs : List ℕ) → In vs (runs_apart list) → Obeys f vs
  pub visits : (c : ℕ) → VisitedBy (machine_by true f table) c (runs_in plan ++ runs_apart list) ↔ Marked (machine_by true f table) c
  pub counts : list_in list ≡ counted (machine_by true f table) (runs_apart list)
  pub splits : stored_list (machine_by true f table) (runs_apart list) ≡ list
