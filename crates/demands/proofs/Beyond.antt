-- What a frame's sets hold beyond the settings means nothing to a table job: with other sets that agree below 2^n each promise is met by
-- the same answer and the same buffers, row by row of its checks, by the laws of such machines; `mark-only`, `run-to-only`, `plan-only`,
-- `shorten-only` and `only` say that no other answer meets it. The way back is the same law with the sets exchanged.
use mathlib.Core.Path.{◌≡◌}
use mathlib.Core.List.{List, [], ◌++◌}
use Prim.Native.Nat.{ℕ, ◌^◌}
use lib.ListN.{length}
use Rattle.verdict.specs.Checks.{Check, Judged}
use Rattle.verdict.specs.declared.Answer.{Answer}
use Rattle.verdict.proofs.Order.{judged_row, judged_same, unless}
use Rattle.verdict.proofs.Fills.{left_map, written_map}
use Rattle.machine.specs.Runs.{Machine, machine_of, size, Starts}
use Rattle.machine.specs.declared.Frame.{Frame}
use Rattle.machine.proofs.Beyond.{Rules, Agree, under, agree_back, rules_of, with_sets, SameBelow, frames_agree, starts_same, marked_same, rank_same, cell_same, run_to_same, plan_same, fault_same, sees_same, visited_same}
use Rattle.marking.specs.Marking.{mark_checks, MarkedAs}
use Rattle.marking.proofs.Once.{mark_only}
use Rattle.plan.specs.Planning.{ShortRun, RunDone, RunAs, PlanBytes, ShortOf, WholeDone, PlannedAs}
use Rattle.plan.proofs.Once.{run_to_only, plan_only}
use Rattle.runs.specs.Stored.{Broken}
use Rattle.shorten.specs.Shortening.{Superfluous, Shortens, Shortened, ShortenDone, ShortenedAs}
use Rattle.shorten.proofs.Once.{shorten_only}
use Rattle.readings.specs.Expected.{SizedRun, ExpectedAs}
use Rattle.readings.proofs.Once.{only}

module _ (m : Machine) {r q : Rules} (h : Agree (size m) r q) where
  some_start : (v : ℕ) × Starts (under m r) v → (v : ℕ) × Starts (under m q) v
  some_start (v, x) = (v, starts_same m h v x)

  short_run : (c room p : ℕ) → ShortRun (under m r) c room p → ShortRun (under m q) c room p
  short_run c room p (k, x, s) = (k, rank_same m h c k x, s)

  plan_bytes : (w : List ℕ) → PlanBytes (under m r) w → PlanBytes (under m q) w
  plan_bytes w (plan, x, e) = (plan, plan_same m h x, e)

  short_plan : (room p : ℕ) → ShortOf (PlanBytes (under m r)) room p → ShortOf (PlanBytes (under m q)) room p
  short_plan room p (w, x, s) = (w, plan_bytes w x, s)

  sized_run : (run : List ℕ) → SizedRun (under m r) run → SizedRun (under m q) run
  sized_run run x = record { sizes = x.sizes; few_settings = x.few_settings }

  superfluous_same : {vs : List ℕ} (others : List (List ℕ)) → Superfluous (under m r) vs others → Superfluous (under m q) vs others
  superfluous_same {vs} others s = record { elsewhere = λ c i. visited_same m h c others (s.elsewhere c (sees_same m (agree_back h) c vs i)) }

-- what asks it of every run, by the law above both ways
module _ (m : Machine) {r q : Rules} (h : Agree (size m) r q) where
  shortens_same : {kept runs left : List (List ℕ)} → Shortens (under m r) kept runs left → Shortens (under m q) kept runs left
  shortens_same Shortens.ends = Shortens.ends
  shortens_same (Shortens.out {kept} {later} s x) = Shortens.out (superfluous_same m h (kept ++ later) s) (shortens_same x)
  shortens_same (Shortens.stays {kept} {later} n x) = Shortens.stays (λ s. n (superfluous_same m (agree_back h) (kept ++ later) s)) (shortens_same x)

  shortened_same : {bytes : List ℕ} (w : List ℕ) → Shortened (under m r) bytes w → Shortened (under m q) bytes w
  shortened_same w s = record { runs = s.runs; left = s.left; splits = s.splits; shortens = shortens_same s.shortens; stores = s.stores }

  broken_same : {bytes : List ℕ} (p : ℕ) → Broken (under m r) bytes p → Broken (under m q) bytes p
  broken_same p b = record { inside = b.inside; before = b.before; splits = b.splits; refused = λ vs after e. let (i, f) = b.refused vs after e in (i, fault_same m h i f) }

module _ (f : Frame) (never starts T : List ℕ) (same : SameBelow f.inputs f.never never) (allowed : SameBelow f.inputs f.starts starts) where
  abbrev g : Frame
  g = with_sets f never starts

  to : Agree (2 ^ f.inputs) (rules_of f) (rules_of g)
  to = frames_agree f never starts same allowed

  from : Agree (2 ^ f.inputs) (rules_of g) (rules_of f)
  from = agree_back to

  abbrev m : Machine
  m = machine_of f T

  -- the checks of marking in front of others
  mark_rows : {cs ds : List Check} {done end : Answer → Type 0} {a : Answer} (ranks : ℕ) → (Judged cs done a → Judged ds end a)
      → Judged (mark_checks (machine_of f T) ranks ++ cs) done a → Judged (mark_checks (machine_of g T) ranks ++ ds) end a
  mark_rows ranks then = judged_same (judged_same (judged_same (judged_same (judged_same (judged_row (unless (some_start m from)) (unless (some_start m to)) (λ _. then))))))

  mark_carries : {ranks₀ ranks₁ : List ℕ} {a : Answer} → MarkedAs (machine_of f T) ranks₀ a ranks₁ → MarkedAs (machine_of g T) ranks₀ a ranks₁
  mark_carries {ranks₀} x = record {
    verdict = mark_rows {cs = []} {ds = []} (length ranks₀) (λ v. v) x.verdict;
    ranks = left_map (cell_same m to) x.ranks;
  }

  run_done_lem : {c : ℕ} {a : Answer} → Judged [] (RunDone (machine_of f T) c) a → Judged [] (RunDone (machine_of g T) c) a
  run_done_lem {c} v = let d = v.verdict in record { verdict = record { number = d.number; rank = d.rank; ranked = rank_same m to c d.rank d.ranked; place = d.place } }

  run_carries : {c : ℕ} {ranks₀ run₀ ranks₁ run₁ : List ℕ} {a : Answer} → RunAs (machine_of f T) c ranks₀ run₀ a ranks₁ run₁ → RunAs (machine_of g T) c ranks₀ run₀ a ranks₁ run₁
  run_carries {c} {ranks₀} {run₀} x = record {
    verdict = mark_rows (length ranks₀) (judged_same (judged_row (unless (marked_same m from c)) (unless (marked_same m to c))
        (λ _. judged_row (short_run m to c (length run₀)) (short_run m from c (length run₀)) (λ _. run_done_lem)))) x.verdict;
    ranks = left_map (cell_same m to) x.ranks;
    run = written_map (run_to_same m to c) x.run;
  }

  plan_done : {a : Answer} → Judged [] (WholeDone (PlanBytes (machine_of f T))) a → Judged [] (WholeDone (PlanBytes (machine_of g T))) a
  plan_done v = let d = v.verdict in record { verdict = record { number = d.number; bytes = d.bytes; is = plan_bytes m to d.bytes d.is; place = d.place } }

  plan_carries : {ranks₀ plan₀ ranks₁ plan₁ : List ℕ} {a : Answer} → PlannedAs (machine_of f T) ranks₀ plan₀ a ranks₁ plan₁ → PlannedAs (machine_of g T) ranks₀ plan₀ a ranks₁ plan₁
  plan_carries {ranks₀} {plan₀} x = record {
    verdict = mark_rows (length ranks₀) (judged_row (short_plan m to (length plan₀)) (short_plan m from (length plan₀)) (λ _. plan_done)) x.verdict;
    ranks = left_map (cell_same m to) x.ranks;
    plan = written_map (plan_bytes m to) x.plan;
  }

  expected_carries : {words run readings₀ readings₁ : List ℕ} {a : Answer} → ExpectedAs (machine_of f T) words run readings₀ a readings₁ → ExpectedAs (machine_of g T) words run readings₀ a readings₁
  expected_carries {run = run} x = record {
    verdict = judged_row (unless (sized_run m from run)) (unless (sized_run m to run)) (λ _. judged_same (judged_same (judged_same (judged_same (judged_same
        (judged_row (fault_same m to) (fault_same m from) (λ _ v. v))))))) x.verdict;
    readings = x.readings;
  }

  shorten_done : {plan : List ℕ} {a : Answer} → Judged [] (ShortenDone (machine_of f T) plan) a → Judged [] (ShortenDone (machine_of g T) plan) a
  shorten_done v = let d = v.verdict in record { verdict = record { number = d.number; kept = d.kept; shortened = shortened_same m to d.kept d.shortened; place = d.place } }

  shorten_carries : {plan₀ plan₁ : List ℕ} {a : Answer} → ShortenedAs (machine_of f T) plan₀ a plan₁ → ShortenedAs (machine_of g T) plan₀ a plan₁
  shorten_carries x = record {
    verdict = judged_same (judged_same (judged_same (judged_same (judged_row (broken_same m to) (broken_same m from) (λ _. shorten_done))))) x.verdict;
    plan = written_map (shortened_same m to) x.plan;
  }

  -- two outcomes of a job, one with each frame, are one
  pub mark_beyond : {R R₁ R₂ : List ℕ} {a b : Answer} → MarkedAs (machine_of f T) R a R₁ → MarkedAs (machine_of g T) R b R₂ → (a ≡ b) × (R₁ ≡ R₂)
  mark_beyond x y = mark_only (mark_carries x) y

  pub run_to_beyond : {c : ℕ} {ranks run ranks₁ ranks₂ run₁ run₂ : List ℕ} {a b : Answer} → RunAs (machine_of f T) c ranks run a ranks₁ run₁ → RunAs (machine_of g T) c ranks run b ranks₂ run₂
      → (a ≡ b) × (ranks₁ ≡ ranks₂) × (run₁ ≡ run₂)
  run_to_beyond x y = run_to_only (run_carries x) y

  pub plan_beyond : {ranks plan ranks₁ ranks₂ plan₁ plan₂ : List ℕ} {a b : Answer} → PlannedAs (machine_of f T) ranks plan a ranks₁ plan₁ → PlannedAs (machine_of g T) ranks plan b ranks₂ plan₂
      → (a ≡ b) × (ranks₁ ≡ ranks₂) × (plan₁ ≡ plan₂)
  plan_beyond x y = plan_only (plan_carries x) y

  pub shorten_beyond : {plan x y : List ℕ} {a b : Answer} → ShortenedAs (machine_of f T) plan a x → ShortenedAs (machine_of g T) plan b y → (a ≡ b) × (x ≡ y)
  shorten_beyond u v = shorten_only (shorten_carries u) v

  pub expected_beyond : {words run readings₀ x y : List ℕ} {a b : Answer} → ExpectedAs (machine_of f T) words run readings₀ a x → ExpectedAs (machine_of g T) words run readings₀ b y → (a ≡ b) × (x ≡ y)
  expected_beyond u v = only (expected_carries u) v
