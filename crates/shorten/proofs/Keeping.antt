-- The second pass over the bytes: the runs that stay stand at the front, what is ahead is as it was lent, the marks tell of what is
-- ahead, and the pass over the runs ahead goes on as the whole pass does.
use mathlib.Core.Path.{◌≡◌, refl, sym, ap, ap₂, subst, ◌∙◌}
use mathlib.Core.Bool.{Bool, true, false}
use mathlib.Core.List.{List, [], ◌∷◌, ◌++◌, append_assoc, append-nil}
use Prim.Native.Nat.{ℕ, ◌+◌, ◌-◌, ◌≤◌}
use native.Mathlib.Nat.{add-zero, le_refl}
use native.Mathlib.Omega.{arith}
use lib.ListN.{length, take, drop, length-append, length-drop, drop_of_length-le}
use lib.Seq.{take_at, drop_at, drop-drop, paste}
use Rattle.verdict.proofs.Tests.{true≢false}
use Rattle.machine.specs.Runs.{Machine, visits}
use Rattle.machine.specs.Plans.{stored_run, stored, runs_in}
use Rattle.machine.proofs.Stored.{stored_more}
use Rattle.tables.specs.Tables.{machine_in}
use Rattle.tables.specs.declared.jobs.SoundJob.{SoundJob}
use Rattle.runs.specs.Stored.{StoredRuns}
use Rattle.runs.proofs.Front.{First}
use Rattle.shorten.specs.Shortening.{Shortens}
use Rattle.shorten.specs.Shortening.Shortens.{ends, out as goes-out, stays as goes_on}
use Rattle.shorten.specs.inner.Passing.{noted, Reach, Few, Tells, Kept}
use Rattle.shorten.specs.inner.Marked.{Stay, Turn}
use Rattle.shorten.specs.inner.Marked.Stay.{goes}
use Rattle.shorten.specs.inner.Marked.Turn.{out, stays}
use Rattle.shorten.specs.declared.Passes.{Passes}
use Rattle.shorten.proofs.Marks.{few_noted, tells_out, tells_stays, first_told}

-- a turn, by what is said of whether the run stays
pub turn_by : {m : Machine} {vs : List ℕ} {p e q : ℕ} {plan : List ℕ} {k k' : Passes} {b : Bool} → Stay m vs e (length plan) k b k'
    → (b ≡ false → Turn m vs p e q plan k 0 plan k') × (b ≡ true → Turn m vs p e q plan k (e - p) (paste plan q (drop p plan) (e - p)) k')
turn_by (goes a) = (λ _. out a, λ f. absurd (true≢false (sym f)))
turn_by (Stay.stays n) = (λ f. absurd (true≢false f), λ _. stays n)

-- before byte p, the runs kept ending at byte q
pub record Keeping (k₀ : Passes) (plan₀ : List ℕ) (k : Passes) (plan : List ℕ) (p q : ℕ) : Type 0 where
  pub sound : k.sound ≡ k₀.sound
  pub kept : List (List ℕ)
  pub within : p ≤ length plan₀
  pub low : q ≤ p
  pub count : q ≡ length (stored kept)
  pub is : plan ≡ stored kept ++ drop q plan₀
  pub few : Few (length plan₀) k.marks.now
  pub ahead : StoredRuns (machine_in k.sound.job) (drop p plan₀)
  pub tells : Tells (machine_in k.sound.job) p kept (runs_in (drop p plan₀)) k.marks.now
  pub goes : (left : List (List ℕ)) → Shortens (machine_in k.sound.job) kept (runs_in (drop p plan₀)) left → Shortens (machine_in k.sound.job) [] (runs_in plan₀) (kept ++ left)

pub keeping_start : {k : Passes} {plan : List ℕ} → StoredRuns (machine_in k.sound.job) plan
    → Tells (machine_in k.sound.job) 0 [] (runs_in plan) k.marks.now → Few (length plan) k.marks.now → Keeping k plan k plan 0 0
keeping_start s t few = record { sound = refl; kept = []; within = omega arith; low = le_refl 0; count = refl; is = refl; few = few; ahead = s; tells = t; goes = λ left x. x }

module _ {k₀ : Passes} {plan₀ : List ℕ} {at : Passes} {plan : List ℕ} {p q : ℕ} (k : Keeping k₀ plan₀ at plan p q) where
  abbrev m : Machine
  m = machine_in at.sound.job

  abbrev marks : List ℕ
  marks = at.marks.now

  pub same_length : length plan ≡ length plan₀
  same_length = omega (arith, ap length k.is ∙ length-append (stored k.kept) (drop q plan₀), length-drop q plan₀, k.count, k.low, k.within)

  -- the bytes from byte q on are still those lent
  behind : (j : ℕ) → q ≤ j → drop j plan ≡ drop j plan₀
  behind j h =
      let e : q + (j - q) ≡ j = omega arith in
      let b : drop q plan ≡ drop q plan₀ = ap (drop q) k.is ∙ drop_at (stored k.kept) (drop q plan₀) q (sym k.count) in
      ap (λ (i : ℕ). drop i plan) (sym e) ∙ sym (drop-drop (j - q) q plan) ∙ ap (drop (j - q)) b ∙ drop-drop (j - q) q plan₀ ∙ ap (λ (i : ℕ). drop i plan₀) e

  front : take q plan ≡ stored k.kept
  front = ap (take q) k.is ∙ take_at (stored k.kept) (drop q plan₀) q (sym k.count)

  pub keeping_ahead : StoredRuns m (drop p plan)
  keeping_ahead = subst (StoredRuns m) (sym (behind p k.low)) k.ahead

  module _ {vs : List ℕ} {e : ℕ} (f : First m plan p vs e) where
    -- the first run ahead is that of the plan lent
    lent : First m plan₀ p vs e
    lent =
        let here = behind p k.low in
        let there = behind e (omega (arith, k.low, f.at.ends)) in
        record {
          run = f.run;
          at = record { is = sym here ∙ f.at.is ∙ ap (λ (l : List ℕ). stored_run vs ++ l) there; ends = f.at.ends; within = omega (arith, f.at.within, same_length) };
          first = ap runs_in (sym here) ∙ f.first ∙ ap (λ (l : List ℕ). vs ∷ runs_in l) there;
          behind = subst (StoredRuns m) there f.behind;
        }

    told : Tells m p k.kept (vs ∷ runs_in (drop e plan₀)) marks
    told = subst (λ runs. Tells m p k.kept runs marks) lent.first k.tells

    goes_with : {left : List (List ℕ)} → Shortens m k.kept (vs ∷ runs_in (drop e plan₀)) left → Shortens m [] (runs_in plan₀) (k.kept ++ left)
    goes_with {left} x = k.goes left (subst (λ runs. Shortens m k.kept runs left) (sym lent.first) x)

    bytes : take (e - p) (drop p plan) ≡ stored_run vs
    bytes = ap (take (e - p)) f.at.is ∙ take_at (stored_run vs) (drop e plan) (e - p) (omega (arith, f.at.ends))

    -- its turn: it goes out, or stays
    pub keeping_turn : {r : ℕ} {plan' : List ℕ} {next : Passes} → Turn m vs p e q plan at r plan' next → Keeping k₀ plan₀ next plan' e (q + r)
    keeping_turn (out a) = record {
      sound = k.sound;
      kept = k.kept;
      within = lent.at.within;
      low = omega (arith, k.low, f.at.ends);
      count = omega (arith, k.count);
      is = k.is ∙ ap (λ (j : ℕ). stored k.kept ++ drop j plan₀) (sym (add-zero q));
      few = k.few;
      ahead = lent.behind;
      tells = subst (λ j. Tells m j k.kept (runs_in (drop e plan₀)) marks) (sym f.at.ends) (tells_out m vs told);
      goes = λ left x. goes_with (goes-out ((first_told m vs told at.sound.checked.sound f.run).0 (subst (λ j. Reach (visits m vs) j marks) f.at.ends a)) x);
    }
    keeping_turn (stays more) = record {
      sound = k.sound;
      kept = k.kept ++ (vs ∷ []);
      within = lent.at.within;
      low = omega (arith, k.low, f.at.ends);
      count = omega (arith, k.count, f.at.ends, ap length (stored_more k.kept vs) ∙ length-append (stored k.kept) (stored_run vs));
      is = ap₂ (λ (x y : List ℕ). x ++ y) (ap₂ (λ (x y : List ℕ). x ++ y) front bytes ∙ sym (stored_more k.kept vs)) (behind (q + (e - p)) (omega arith));
      few = few_noted (visits m vs) k.few (omega (arith, same_length));
      ahead = lent.behind;
      tells = subst (λ j. Tells m j (k.kept ++ (vs ∷ [])) (runs_in (drop e plan₀)) (noted (visits m vs) (length plan) marks)) (sym f.at.ends) (tells_stays m vs told (length plan) fits);
      goes = λ left x. subst (Shortens m [] (runs_in plan₀)) (sym (append_assoc k.kept (vs ∷ []) left))
          (goes_with (goes_on (λ s. more (subst (λ j. Reach (visits m vs) j marks) (sym f.at.ends) ((first_told m vs told at.sound.checked.sound f.run).1 s))) x));
    }
      where
        fits : p + length (stored (vs ∷ runs_in (drop e plan₀))) ≤ length plan
        fits = omega (arith, length-append (stored_run vs) (stored (runs_in (drop e plan₀))), ap length lent.behind.splits, length-drop e plan₀, f.at.ends, f.at.within, same_length)

  -- all bytes are gone through
  pub keeping_end : length plan ≤ p → StoredRuns (machine_in k₀.sound.job) plan₀ → Kept (machine_in k₀.sound.job) plan₀ q plan
  keeping_end l s = subst (λ (j : SoundJob). Kept (machine_in j.job) plan₀ q plan) k.sound (record {
    bytes = stored k.kept;
    shortened = record {
      runs = runs_in plan₀;
      left = k.kept;
      splits = sym s.splits;
      shortens = subst (Shortens m [] (runs_in plan₀)) (append-nil k.kept) (k.goes [] (subst (λ bytes. Shortens m k.kept (runs_in bytes) []) (sym none) ends));
      stores = refl;
    };
    count = k.count;
    front = record { is = k.is ∙ ap (λ (j : ℕ). stored k.kept ++ drop j plan₀) k.count };
  })
    where
      none : drop p plan₀ ≡ []
      none = drop_of_length-le plan₀ {i = p} (omega (arith, same_length))
