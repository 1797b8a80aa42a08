-- The first pass over the bytes: marking the runs ahead ends as marking all of them does, and then the marks tell.
use mathlib.Core.Path.{◌≡◌, refl, sym, ap, subst, ◌∙◌}
use mathlib.Core.List.{List, []}
use Prim.Native.Nat.{ℕ, ◌≤◌}
use native.Mathlib.Omega.{arith}
use lib.ListN.{length, drop}
use lib.Seq.{drop-length}
use Rattle.machine.specs.Runs.{visits_from, visits}
use Rattle.machine.specs.Plans.{runs_in}
use Rattle.tables.specs.Tables.{machine_in}
use Rattle.tables.specs.declared.jobs.SoundJob.{SoundJob}
use Rattle.runs.specs.Stored.{StoredRuns}
use Rattle.runs.proofs.Front.{First}
use Rattle.shorten.specs.inner.Passing.{noted, Few, Fresh, Tells}
use Rattle.shorten.specs.inner.Marked.{marked}
use Rattle.shorten.specs.declared.Passes.{Passes}
use Rattle.shorten.proofs.Marks.{few_noted, noted_all, all_tells}
use Rattle.shorten.proofs.Walking.{noted_run_lem}

-- before byte p, in a plan of stored runs
pub record MarkingAll (plan : List ℕ) (k₀ k : Passes) (p : ℕ) : Type 0 where
  pub sound : k.sound ≡ k₀.sound
  pub within : p ≤ length plan
  pub ahead : StoredRuns (machine_in k.sound.job) (drop p plan)
  pub few : Few (length plan) k.marks.now
  pub same : noted_all (machine_in k.sound.job) p (runs_in (drop p plan)) k.marks.now ≡ noted_all (machine_in k.sound.job) 0 (runs_in plan) k₀.marks.now

pub all_start : {plan : List ℕ} {k : Passes} → StoredRuns (machine_in k.sound.job) plan → Fresh (machine_in k.sound.job) k.marks.now → MarkingAll plan k k 0
all_start s fresh = record { sound = refl; within = omega arith; ahead = s; few = record { each = λ c. omega (arith, fresh.none c) }; same = refl }

module _ {plan : List ℕ} {k₀ k : Passes} {p : ℕ} (t : MarkingAll plan k₀ k p) where
  pub all_more : {vs : List ℕ} {e : ℕ} {k' : Passes} → First (machine_in k.sound.job) plan p vs e
      → k' ≡ marked (visits_from (machine_in k.sound.job) k.sound.job.frame.initial vs) p k → MarkingAll plan k₀ k' e
  all_more {vs} {e} {k'} f h =
      let m = machine_in k.sound.job in
      let g : k' ≡ marked (visits m vs) p k = h ∙ ap (λ (l : List ℕ). record k { marks = record k.marks { now = l } }) (noted_run_lem m vs p k.marks.now f.run) in
      subst (λ j. MarkingAll plan k₀ j e) (sym g) (record {
        sound = t.sound;
        within = f.at.within;
        ahead = f.behind;
        few = few_noted (visits m vs) t.few t.within;
        same =
            let turn : noted_all m p (runs_in (drop p plan)) k.marks.now ≡ noted_all m e (runs_in (drop e plan)) (noted (visits m vs) p k.marks.now) =
            ap (λ (runs : List (List ℕ)). noted_all m p runs k.marks.now) f.first ∙ ap (λ (q : ℕ). noted_all m q (runs_in (drop e plan)) (noted (visits m vs) p k.marks.now)) (sym f.at.ends) in
            sym turn ∙ t.same;
      })

  -- all bytes are gone through
  pub all_end : length plan ≤ p → Fresh (machine_in k₀.sound.job) k₀.marks.now → Tells (machine_in k₀.sound.job) 0 [] (runs_in plan) k.marks.now
  all_end l fresh =
      let m = machine_in k.sound.job in
      let e : p ≡ length plan = omega (arith, t.within) in
      subst (λ (j : SoundJob). Fresh (machine_in j.job) k₀.marks.now → Tells (machine_in j.job) 0 [] (runs_in plan) k.marks.now) t.sound
      (λ f. subst (Tells m 0 [] (runs_in plan)) (sym (rw (e, drop-length) at t.same)) (all_tells m (runs_in plan) k₀.marks.now f)) fresh
