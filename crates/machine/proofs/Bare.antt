-- Where nothing is ruled out, the machine of a frame is that of its sizes and its table, with the frame's starts. Where every setting is
-- an allowed start, its runs are those that may start at any setting that is not ruled out, since a start is asked below 2^n alone.
use mathlib.Core.Path.{◌≡◌, refl, ap, ap₂, fun_ext, ◌∙◌}
use mathlib.Core.List.{List}
use mathlib.Core.Bool.{Bool, true, ◌&&◌, and-true}
use Prim.Native.Nat.{ℕ, ◌-◌, ◌/◌, ◌%◌, ◌^◌, ◌≤◌, ◌<◌}
use native.Mathlib.Omega.{arith}
use lib.ListN.{replicate, get_or-replicate}
use lib.Pow.{pow_mono}
use lib.Dec.{eqb}
use Rattle.verdict.proofs.Tests.{decides_true}
use Rattle.sets.specs.Sets.{words, member}
use Rattle.sets.proofs.Members.{member_none}
use Rattle.machine.specs.Limits.{most_inputs}
use Rattle.machine.specs.Couples.{differing}
use Rattle.machine.specs.Runs.{usable, machine_of, bare_machine, starting_at}
use Rattle.machine.specs.Plans.{SameRuns}
use Rattle.machine.specs.declared.Frame.{Frame}
use Rattle.verdict.specs.Below.{every}
use Rattle.verdict.proofs.Below.{decides_every}
use Rattle.machine.proofs.Beyond.{same_runs}

module _ (f : Frame) where
  -- a set without members rules nothing out
  pub none_ruled : f.never ≡ replicate words 0 → (v : ℕ) → usable f v ≡ true
  none_ruled e v = rw (e, member_none words v) refl

  pub machine_bare : (T : List ℕ) → ((v : ℕ) → usable f v ≡ true) → machine_of f T ≡ starting_at (member f.starts) (bare_machine f.inputs f.states f.initial T)
  machine_bare T all =
      ap₂ (λ (start : ℕ → Bool) (change : ℕ → ℕ → Bool). record { inputs = f.inputs; states = f.states; initial = f.initial; table = T; may_start = start; may_change = change })
      (fun_ext (λ v. ap (λ (b : Bool). member f.starts v && b) (all v) ∙ and-true (member f.starts v)))
      (fun_ext (λ v. fun_ext (λ w. ap (λ (b : Bool). b && eqb (differing f.inputs v w) 1) (all w))))

  -- the set of all bits has every setting
  pub all_allowed : f.starts ≡ replicate words (2 ^ 64 - 1) → f.inputs ≤ most_inputs → (v : ℕ) → v < 2 ^ f.inputs → member f.starts v ≡ true
  unfolding every
  all_allowed e h v l =
      let b = (decides_every 64 (λ j. eqb ((2 ^ 64 - 1) / 2 ^ j % 2) 1) (λ j. eqb ((2 ^ 64 - 1) / 2 ^ j % 2) 1 ≡ true) (λ j. decides_true _)).holds refl (v % 64) (omega arith) in
      let g = get_or-replicate words (v / 64) (2 ^ 64 - 1) 0 (omega (arith, pow_mono {i = f.inputs} {j = most_inputs} h)) in
      rw (e, g) b

  -- with every setting an allowed start a run may start at any that is not ruled out
  pub starts_anywhere : (T : List ℕ) → ((v : ℕ) → v < 2 ^ f.inputs → member f.starts v ≡ true) → SameRuns (machine_of f T) (starting_at (usable f) (machine_of f T))
  starts_anywhere T all = same_runs (machine_of f T) (record { starts = λ v l. ap (λ (b : Bool). b && usable f v) (all v l); changes = λ v w l. refl })
