-- What a frame's sets hold beyond the settings means nothing: each start and each change asks of one setting below 2^n, so that machines
-- whose rules agree below it have the same runs, by induction on the run, and so the same marks, ranks, runs to a couple, plan and
-- faults. The way back is the same law with the two rules exchanged.
use mathlib.Core.Path.{◌≡◌, refl, sym, ap, ap₂, subst, ◌∙◌}
use mathlib.Core.Logic.{⊎_elim, inl, inr}
use mathlib.Core.List.{List, [], ◌∷◌}
use mathlib.Core.Bool.{Bool, not, ◌&&◌}
use Prim.Native.Nat.{ℕ, ◌^◌, ◌<◌}
use lib.ListN.{get_or}
use lib.Dec.{eqb}
use Rattle.sets.specs.Sets.{member}
use Rattle.machine.specs.Lists.{In, AtMost}
use Rattle.machine.specs.Couples.{differing}
use Rattle.machine.specs.Runs.{Machine, machine_of, size, couple, move, Starts, Changes, Goes, Run, Fault, visits_from, visits, Visitor, Marked, Rank, RankOrUnmarked, RanksOf}
use Rattle.machine.specs.Shortest.{rests_from, rests, RunTo}
use Rattle.machine.specs.Plans.{VisitedBy, Plan, SameRuns}
use Rattle.machine.specs.declared.Frame.{Frame}

-- at which settings a run may start, and from which setting it may change to which
pub record Rules : Type 0 where
  pub may_start : ℕ → Bool
  pub may_change : ℕ → ℕ → Bool

-- a machine with other rules
abbrev pub under : Machine → Rules → Machine
under m r = record { inputs = m.inputs; states = m.states; initial = m.initial; table = m.table; may_start = r.may_start; may_change = r.may_change }

-- two rules say the same of starts and changes to settings below a number
pub record Agree (settings : ℕ) (r q : Rules) : Type 0 where
  pub starts : (v : ℕ) → v < settings → r.may_start v ≡ q.may_start v
  pub changes : (v w : ℕ) → w < settings → r.may_change v w ≡ q.may_change v w

pub agree_back : {settings : ℕ} {r q : Rules} → Agree settings r q → Agree settings q r
agree_back h = record { starts = λ v l. sym (h.starts v l); changes = λ v w l. sym (h.changes v w l) }

module _ (m : Machine) {r q : Rules} (h : Agree (size m) r q) where
  pub starts_same : (v : ℕ) → Starts (under m r) v → Starts (under m q) v
  starts_same v x = record { below = x.below; rests = x.rests; allowed = sym (h.starts v x.below) ∙ x.allowed }

  changes_same : (v w : ℕ) → Changes (under m r) v w → Changes (under m q) v w
  changes_same v w x = record { below = x.below; allowed = sym (h.changes v w x.below) ∙ x.allowed }

  goes_same : (v : ℕ) (ws : List ℕ) → Goes (under m r) v ws → Goes (under m q) v ws
  goes_same v [] x = tt
  goes_same v (w ∷ ws) (c, x) = (changes_same v w c, goes_same w ws x)

  pub run_same : (vs : List ℕ) → Run (under m r) vs → Run (under m q) vs
  run_same [] x = x
  run_same (v ∷ vs) (s, x) = (starts_same v s, goes_same v vs x)

  -- what a run visits, and where it rests, asks nothing of the rules
  from_same : (s : ℕ) (vs : List ℕ) → visits_from (under m r) s vs ≡ visits_from (under m q) s vs
  from_same s [] = refl
  from_same s (w ∷ ws) = ap (λ (cs : List ℕ). couple m s w ∷ couple m (move m s w) w ∷ cs) (from_same (move m s w) ws)

  visits_same : (vs : List ℕ) → visits (under m r) vs ≡ visits (under m q) vs
  visits_same [] = refl
  visits_same (v ∷ vs) = ap (λ (cs : List ℕ). couple m m.initial v ∷ cs) (from_same m.initial vs)

  rest_same : (cs : List ℕ) (s v : ℕ) (ws : List ℕ) → rests_from (under m r) cs s v ws ≡ rests_from (under m q) cs s v ws
  rest_same cs s v [] = refl
  rest_same cs s v (w ∷ ws) = rest_same (couple m s v ∷ cs) (move m s w) w ws

  rests_same : (vs : List ℕ) → rests (under m r) vs ≡ rests (under m q) vs
  rests_same [] = refl
  rests_same (v ∷ vs) = rest_same [] m.initial v vs

  pub sees_same : (c : ℕ) (vs : List ℕ) → In c (visits (under m r) vs) → In c (visits (under m q) vs)
  sees_same c vs i = subst (λ (cs : List ℕ). In c cs) (visits_same vs) i

  visitor_same : (c : ℕ) (vs : List ℕ) → Visitor (under m r) c vs → Visitor (under m q) c vs
  visitor_same c vs x = record { run = run_same vs x.run; sees = sees_same c vs x.sees }

  pub marked_same : (c : ℕ) → Marked (under m r) c → Marked (under m q) c
  marked_same c (vs, x) = (vs, visitor_same c vs x)

  pub visited_same : (c : ℕ) (plan : List (List ℕ)) → VisitedBy (under m r) c plan → VisitedBy (under m q) c plan
  visited_same c plan (vs, i, j) = (vs, i, sees_same c vs j)

-- what asks it of every run, by the law above both ways
module _ (m : Machine) {r q : Rules} (h : Agree (size m) r q) where
  pub rank_same : (c x : ℕ) → Rank (under m r) c x → Rank (under m q) c x
  rank_same c x k = record {
    some = k.some;
    visitor = visitor_same m h c k.some k.visitor;
    changes = k.changes;
    fewest = λ vs y. k.fewest vs (visitor_same m (agree_back h) c vs y);
  }

  pub cell_same : (c x : ℕ) → RankOrUnmarked (under m r) c x → RankOrUnmarked (under m q) c x
  cell_same c x k = ⊎_elim (λ y. inl (y.0, rank_same c x y.1)) (λ y. inr (y.0, λ z. y.1 (marked_same m (agree_back h) c z))) k

  pub run_to_same : (c : ℕ) (vs : List ℕ) → RunTo (under m r) c vs → RunTo (under m q) c vs
  run_to_same c vs x = record {
    visitor = visitor_same m h c vs x.visitor;
    fewest = λ ws y. x.fewest ws (visitor_same m (agree_back h) c ws y);
    least = λ ws y e. subst (λ (cs : List ℕ). AtMost cs (rests (under m q) ws)) (rests_same m h vs)
        (subst (λ (cs : List ℕ). AtMost (rests (under m r) vs) cs) (rests_same m h ws) (x.least ws (visitor_same m (agree_back h) c ws y) e));
  }

  pub plan_same : {t : ℕ} {plan : List (List ℕ)} → Plan (under m r) t plan → Plan (under m q) t plan
  plan_same Plan.empty = Plan.empty
  plan_same (Plan.pass {c} {plan} p f) = Plan.pass (plan_same p) (λ x. visited_same m h c plan (f (marked_same m (agree_back h) c x)))
  plan_same (Plan.add {c} {plan} {vs} p n x) = Plan.add (plan_same p) (λ y. n (visited_same m (agree_back h) c plan y)) (run_to_same c vs x)

  pub fault_same : {vs : List ℕ} (i : ℕ) → Fault (under m r) vs i → Fault (under m q) vs i
  fault_same i (Fault.empty e) = Fault.empty e
  fault_same i (Fault.no_start l n) = Fault.no_start l (λ x. n (starts_same m (agree_back h) _ x))
  fault_same i (Fault.no_change l n) = Fault.no_change l (λ x. n (changes_same m (agree_back h) _ _ x))

  ranks_same : (rs : List ℕ) → RanksOf (under m r) rs → RanksOf (under m q) rs
  ranks_same rs x = record { whole = x.whole; each = λ c h. cell_same c (get_or rs c 0) (x.each c h) }

pub same_runs : (m : Machine) {r q : Rules} → Agree (size m) r q → SameRuns (under m r) (under m q)
same_runs m h = record {
  runs = λ vs. (run_same m h vs, run_same m (agree_back h) vs);
  faults = λ vs i. (fault_same m h i, fault_same m (agree_back h) i);
  ranks = λ rs. (ranks_same m h rs, ranks_same m (agree_back h) rs);
  runs_to = λ c vs. (run_to_same m h c vs, run_to_same m (agree_back h) c vs);
  plans = λ t plan. (plan_same m h, plan_same m (agree_back h));
}

-- the rules of a frame
abbrev pub rules_of : Frame → Rules
rules_of f = record { may_start = (machine_of f []).may_start; may_change = (machine_of f []).may_change }

-- a frame with other sets
abbrev pub with_sets : Frame → List ℕ → List ℕ → Frame
with_sets f never starts = record { inputs = f.inputs; states = f.states; initial = f.initial; never = never; starts = starts }

-- two sets have the same members below 2^n
abbrev pub SameBelow : ℕ → List ℕ → List ℕ → Type 0
SameBelow n a b = (v : ℕ) → v < 2 ^ n → member a v ≡ member b v

-- frames whose sets have the same members below 2^n have rules that agree below it
pub frames_agree : (f : Frame) (never starts : List ℕ) → SameBelow f.inputs f.never never → SameBelow f.inputs f.starts starts → Agree (2 ^ f.inputs) (rules_of f) (rules_of (with_sets f never starts))
frames_agree f never starts same allowed = record {
  starts = λ v l. ap₂ (λ (a b : Bool). a && not b) (allowed v l) (same v l);
  changes = λ v w l. ap (λ (b : Bool). not b && eqb (differing f.inputs v w) 1) (same w l);
}
