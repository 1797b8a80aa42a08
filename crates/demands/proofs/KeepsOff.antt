-- What marking and the plan leave keeps off the settings that are ruled out: a couple of one has no rank, so that its element is 65,535,
-- and the runs of the plan visit marked couples alone. Each is a run, so it starts at an allowed start.
use mathlib.Core.Path.{◌≡◌}
use mathlib.Core.Logic.{⊎_elim, inl}
use mathlib.Core.List.{List, ◌∷◌}
use Prim.Native.Nat.{ℕ}
use lib.ListN.{take}
use Rattle.verdict.specs.Buffers.{Left}
use Rattle.verdict.specs.declared.Answer.{Answer}
use Rattle.machine.specs.Limits.{unmarked}
use Rattle.machine.specs.Runs.{machine_of, couples, RankOrUnmarked}
use Rattle.machine.specs.declared.Frame.{Frame}
use Rattle.machine.proofs.Ruled.{ruled_unmarked, ruled_unranked}
use Rattle.marking.specs.Marking.{MarkedAs}
use Rattle.plan.specs.Planning.{PlannedAs}
use Rattle.demands.specs.KeepsOff.{RanksKeepOff, KeepsOff}
use Rattle.demands.proofs.Demand3.{plan_right}

module _ (f : Frame) (T : List ℕ) {ranks₀ ranks₁ : List ℕ} where
  ranks_off : {number : ℕ} → Left number (couples (machine_of f T)) unmarked (RankOrUnmarked (machine_of f T)) ranks₀ ranks₁ → number ≡ 0 → RanksKeepOff f T ranks₁
  ranks_off left e c h out = ⊎_elim (λ r. absurd (ruled_unranked f T c out _ r.1)) (λ r. r.0) ((left.filled (inl e)).needed c h)

  pub marks_keep_off : {a : Answer} → MarkedAs (machine_of f T) ranks₀ a ranks₁ → a.number ≡ 0 → RanksKeepOff f T ranks₁
  marks_keep_off p e = ranks_off p.ranks e

  pub plan_keeps_off : {plan₀ plan₁ : List ℕ} {a : Answer} → PlannedAs (machine_of f T) ranks₀ plan₀ a ranks₁ plan₁ → a.number ≡ 0 → KeepsOff f T ranks₁ (take a.place plan₁)
  plan_keeps_off p e = record {
    unranked = ranks_off p.ranks e;
    unvisited = λ vs i c out j. ruled_unmarked f T c out (((plan_right p e).visits c).0 (vs, i, j));
    allowed = λ v vs i. ((plan_right p e).runs (v ∷ vs) i).0.allowed;
  }
