-- The first pass makes the plan or list: after the first c couples its flags decide which couples the runs chosen so far visit, so that
-- each next couple is passed over or chosen as in the computed plan.
use mathlib.Core.Path.{◌≡◌, refl, sym, ap, subst, ◌∙◌}
use mathlib.Core.Logic.{◌⊎◌, ⊎_elim, inl, inr}
use mathlib.Core.List.{List, [], ◌∷◌, ◌++◌, append-nil}
use mathlib.Core.Bool.{Bool, true, false}
use Prim.Native.Nat.{ℕ, zero, suc, ◌+◌, ◌/◌, ◌%◌, ◌≤◌, ◌<◌}
use native.Mathlib.Decide.{ℕ_discrete}
use native.Mathlib.Nat.{le_refl}
use native.Mathlib.Numerals.{add-one}
use native.Mathlib.Omega.{arith}
use lib.ListN.{length, get_or, set, replicate, length-set, length-replicate, get_or-replicate}
use lib.Seq.{get_or-set_same, get_or-set_other}
use Rattle.verdict.specs.Checks.{Decides}
use Rattle.verdict.proofs.Tests.{it_holds, it_fails, decides_map, decides_unique}
use Rattle.machine.specs.Lists.{In}
use Rattle.machine.specs.Runs.{Machine, size, couples, couple, move, visits}
use Rattle.machine.specs.Plans.{VisitedBy, stored_run, stored}
use Rattle.machine.specs.inner.Model.{visited, planned}
use Rattle.machine.proofs.Members.{in_front, in_back, in_either}
use Rattle.machine.proofs.Plans.{visited_or}
use Rattle.machine.proofs.Stored.{stored_more}
use Rattle.several.specs.Several.{multiples, MultiRunTo}
use Rattle.several.specs.Lists.{stored_list}
use Rattle.several.specs.Weights.{extra, unweighed}
use Rattle.several.proofs.Listed.{Away, listed_run, listed_multiples, listed_away}
use Rattle.several.proofs.Lists.{stored_list_more}
use Rattle.plan.specs.inner.Writing.{settings, stored_by}
use Rattle.plan.specs.inner.Choosing.{noted_change, noted_run, looks_at, wanted, noted_at, noted, plan}
use Rattle.plan.proofs.Turns.{looks_weighed, wanted_not, wanted_visited, wanted_here}
use Rattle.plan.proofs.Visits.{Told, chain_back, visits_first, visits_last}

-- runs in their stored form, of the list or of the plan
abbrev pub stored_as : Bool → Machine → List (List ℕ) → List ℕ
stored_as true m = stored_list m
stored_as false m = stored

-- a flag put up at a: couple d is a, or what its flag said before
module _ {Q : Type 0} (F : List Bool) (a d : ℕ) (h : d < length F) (q : Decides Q (get_or F d false)) where
  set_decides : Decides ((d ≡ a) ⊎ Q) (get_or (set F a true) d false)
  set_decides = go (ℕ_discrete d a)
    where
      go : Dec (d ≡ a) → Decides ((d ≡ a) ⊎ Q) (get_or (set F a true) d false)
      go (yes e) = rw (ap (λ (k : ℕ). get_or (set F a true) k false) e ∙ get_or-set_same F a true false (rw (← e) h)) (it_holds (inl e))
      go (no f) = rw (get_or-set_other F a d true false f) (decides_map inr (⊎_elim (λ e. absurd (f e)) (λ x. x)) q)

length_noted_run : (T P : List ℕ) (z r c : ℕ) (F : List Bool) → length (noted_run T P z c r F) ≡ length F
unfolding noted_run noted_change
length_noted_run T P z zero c F = length-set F c true
length_noted_run T P z (suc r) c F = length_noted_run T P z r (get_or P c 0) _ ∙ simp length-set

module _ {m : Machine} {W P : List ℕ} (x : Told m W P) where
  abbrev chain : ℕ → ℕ → List ℕ
  chain c n = settings P (size m) c n

  -- the flags of the couples that the run to c visits are put up
  noted_run_lem : (r c : ℕ) → Away m c r → (F : List Bool) (d : ℕ) → d < length F → {Q : Type 0} → Decides Q (get_or F d false)
      → Decides (In d (visits m (chain c (suc r))) ⊎ Q) (get_or (noted_run m.table P (size m) c r F) d false)
  unfolding noted_run noted_change
  noted_run_lem zero c y F d h {Q} q = rw (visits_first x c y) (decides_map to of (set_decides F c d h q))
    where
      to : (d ≡ c) ⊎ Q → In d (c ∷ []) ⊎ Q
      to i = ⊎_elim (λ e. inl (inl e)) inr i

      of : In d (c ∷ []) ⊎ Q → (d ≡ c) ⊎ Q
      of i = ⊎_elim (λ j. ⊎_elim inl absurd j) inr i
  noted_run_lem (suc r) c y F d h {Q} q =
      rw (visits_last x r c y) (decides_map to of (noted_run_lem r p (chain_back x c r y).1 (set (set F a true) b true) d (simp length-set h) (set_decides (set F a true) b d (simp length-set h) (set_decides F a d h q))))
    where
      p : ℕ
      p = get_or P c 0

      a : ℕ
      a = couple m (p / size m) (c % size m)

      b : ℕ
      b = couple m (move m (p / size m) (c % size m)) (c % size m)

      vs : List ℕ
      vs = visits m (chain p (suc r))

      to : In d vs ⊎ ((d ≡ b) ⊎ ((d ≡ a) ⊎ Q)) → In d (vs ++ (a ∷ b ∷ [])) ⊎ Q
      to i = ⊎_elim
          (λ j. inl (in_front d vs (a ∷ b ∷ []) j))
          (⊎_elim (λ e. inl (in_back d vs (a ∷ b ∷ []) (inr (inl e)))) (⊎_elim (λ e. inl (in_back d vs (a ∷ b ∷ []) (inl e))) inr))
          i

      of : In d (vs ++ (a ∷ b ∷ [])) ⊎ Q → In d vs ⊎ ((d ≡ b) ⊎ ((d ≡ a) ⊎ Q))
      of i = ⊎_elim
          (λ j. ⊎_elim inl (⊎_elim (λ e. inr (inr (inl e))) (⊎_elim (λ e. inr (inl e)) absurd)) (in_either d vs (a ∷ b ∷ []) j))
          (λ k. inr (inr (inr k)))
          i

  -- one run more visits what it visits, and what the others visit
  one_more : (d : ℕ) (runs : List (List ℕ)) (vs : List ℕ) {b : Bool} → Decides (In d (visits m vs) ⊎ VisitedBy m d runs) b → Decides (VisitedBy m d (runs ++ (vs ∷ []))) b
  one_more d runs vs q = decides_map to of q
    where
      to : In d (visits m vs) ⊎ VisitedBy m d runs → VisitedBy m d (runs ++ (vs ∷ []))
      to (inl i) = (vs, in_back vs runs (vs ∷ []) (inl refl), i)
      to (inr (ws, i, j)) = (ws, in_front ws runs (vs ∷ []) i, j)

      of : VisitedBy m d (runs ++ (vs ∷ [])) → In d (visits m vs) ⊎ VisitedBy m d runs
      of (ws, i, j) = ⊎_elim
          (λ k. inr (ws, k, j))
          (⊎_elim (λ e. inl (subst (λ us. In d (visits m us)) e j)) absurd)
          (in_either ws runs (vs ∷ []) i)

  -- the run to a couple, by its chain
  abbrev pub run_of : ℕ → List ℕ
  run_of c = chain c (get_or W c 0 % extra + 1)

  module _ (c : ℕ) (h : c < couples m) (n : get_or W c 0 ≡ unweighed → ⊥) where
    pub run_of_lem : MultiRunTo m c (run_of c)
    unfolding settings
    run_of_lem = rw (add-one (get_or W c 0 % extra)) (listed_run x.sound x.few W P x.weight x.parent c h n)

    multiples_of : multiples m (run_of c) ≡ get_or W c 0 / extra
    unfolding settings
    multiples_of = rw (add-one (get_or W c 0 % extra)) (listed_multiples x.sound x.few W P x.weight x.parent c h n)

    away_of : Away m c (get_or W c 0 % extra)
    away_of = listed_away x.sound x.few W P x.weight x.parent c h n

    -- one stored run more
    stored_next : (several : Bool) (runs : List (List ℕ))
        → stored_as several m (runs ++ (run_of c ∷ [])) ≡ stored_as several m runs ++ stored_by several P (size m) c (get_or W c 0)
    unfolding stored_by
    stored_next false runs = stored_more runs (run_of c)
    stored_next true runs =
        stored_list_more m runs (run_of c) ∙ ap (λ (k : ℕ). stored_list m runs ++ (k % 256 ∷ k / 256 ∷ stored_run (run_of c))) multiples_of

  module _ (several : Bool) (n : ℕ) (room : couples m ≤ n) where
    abbrev flagged : ℕ → List Bool
    flagged c = noted several m.table P W (size m) c (replicate n false)

    abbrev looked : ℕ → Bool
    looked c = looks_at several (get_or W c 0)

    abbrev runs : ℕ → List (List ℕ)
    runs c = planned m looked run_of c

    -- after the first c couples
    record Made (c : ℕ) : Type 0 where
      bytes : plan several m.table P W (size m) c (replicate n false) ≡ stored_as several m (runs c)
      long : length (flagged c) ≡ n
      visited_are : (d : ℕ) → d < couples m → Decides (VisitedBy m d (runs c)) (get_or (flagged c) d false)

    none_made : Made 0
    unfolding noted plan planned
    none_made = record {
      bytes = nothing several;
      long = length-replicate n false;
      visited_are = λ d h. rw (get_or-replicate n d false false (omega arith)) (it_fails (λ v. v.1));
    }
      where
        nothing : (b : Bool) → [] ≡ stored_as b m []
        nothing true = refl
        nothing false = refl

    -- couple c is passed over
    passed : (c : ℕ) (made : Made c) → wanted several W (flagged c) c ≡ false → runs (suc c) ≡ runs c → Made (suc c)
    unfolding noted noted_at plan
    passed c made w e = record {
      bytes = rw (w, e) (append-nil _ ∙ made.bytes);
      long = rw w made.long;
      visited_are = rw (w, e) made.visited_are;
    }

    -- couple c is chosen
    taken : (c : ℕ) → c < couples m → (get_or W c 0 ≡ unweighed → ⊥) → (made : Made c) → wanted several W (flagged c) c ≡ true → runs (suc c) ≡ runs c ++ (run_of c ∷ []) → Made (suc c)
    unfolding noted noted_at plan
    taken c h u made w e = record {
      bytes = rw (w, e) (ap (λ (l : List ℕ). l ++ stored_by several P (size m) c (get_or W c 0)) made.bytes ∙ sym (stored_next c h u several (runs c)));
      long = rw w (length_noted_run m.table P (size m) (get_or W c 0 % extra) c (flagged c) ∙ made.long);
      visited_are = λ d l. rw (w, e) (one_more d (runs c) (run_of c) (rw (add-one (get_or W c 0 % extra)) (noted_run_lem (get_or W c 0 % extra) c (away_of c h u) (flagged c) d (rw made.long (omega arith)) (made.visited_are d l))));
    }

    turn : (c : ℕ) → c < couples m → Made c → Made (suc c)
    unfolding planned
    turn c h made = looking (looked c) refl
      where
        same : visited m c (runs c) ≡ get_or (flagged c) c false
        same = decides_unique _ _ _ (visited_or m c (runs c)) (made.visited_are c h)

        weighed : looked c ≡ true → (b : Bool) → get_or (flagged c) c false ≡ b → Made (suc c)
        weighed l true e = passed c made (wanted_visited several W (flagged c) c e) (rw (l, same ∙ e) refl)
        weighed l false e = taken c h (looks_weighed several (get_or W c 0) l) made (wanted_here several W (flagged c) c l e) (rw (l, same ∙ e) refl)

        looking : (b : Bool) → looked c ≡ b → Made (suc c)
        looking true l = weighed l (get_or (flagged c) c false) refl
        looking false l = passed c made (wanted_not several W (flagged c) c l) (rw l refl)

    made : (c : ℕ) → c ≤ couples m → Made c
    made zero h = none_made
    made (suc c) h = turn c h (made c (omega arith))

    -- the stored runs of the chosen couples are those of the computed plan or list
    pub plan_stored : plan several m.table P W (size m) (couples m) (replicate n false) ≡ stored_as several m (planned m looked run_of (couples m))
    plan_stored = (made (couples m) (le_refl _)).bytes
