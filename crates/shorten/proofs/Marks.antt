-- Marks tell which couples other runs visit: the first pass leaves for each couple the last run that visits it; then by each turn of the
-- second pass, whose run is superfluous exactly if all its couples have marks that reach its end.
use mathlib.Core.Path.{◌≡◌, refl, sym, ap, subst, ◌∙◌}
use mathlib.Core.Logic.{◌⊎◌, ◌↔◌, ⊎_elim, inl, inr}
use mathlib.Core.List.{List, [], ◌∷◌, ◌++◌}
use Prim.Native.Nat.{ℕ, ◌+◌, ◌≤◌, ◌<◌}
use native.Mathlib.Omega.{arith}
use lib.ListN.{length, get_or, set, length-set, length-append}
use lib.Seq.{get_or-set_same, get_or-set_other, set_out, lt-length-set}
use Rattle.machine.specs.Lists.{In}
use Rattle.machine.specs.Runs.{Machine, couples, Sound, Run, visits}
use Rattle.machine.specs.Plans.{VisitedBy, stored_run, stored}
use Rattle.machine.proofs.Order.{below_or, equal_or}
use Rattle.machine.proofs.Members.{in_front, in_back, in_either}
use Rattle.machine.proofs.Exists.{marked_below}
use Rattle.machine.proofs.Stored.{stored_append}
use Rattle.shorten.specs.Shortening.{Superfluous}
use Rattle.shorten.specs.inner.Passing.{noted, Reach, Few, Fresh, Tells}

-- what marking couples leaves at one of them
abbrev NotedAt : List ℕ → ℕ → ℕ → ℕ → ℕ → Type 0
NotedAt cs x c before after = (In c cs × (after ≡ x)) ⊎ ((In c cs → ⊥) × (after ≡ before))

noted_at_lem : (cs : List ℕ) (x : ℕ) (marks : List ℕ) (c : ℕ) → c < length marks → NotedAt cs x c (get_or marks c 0) (get_or (noted cs x marks) c 0)
noted_at_lem [] x marks c h = inr (λ i. i, refl)
noted_at_lem (d ∷ cs) x marks c h = by (noted_at_lem cs x (set marks d x) c (lt-length-set marks d x h)) (equal_or c d)
  where
    by : NotedAt cs x c (get_or (set marks d x) c 0) (get_or (noted cs x (set marks d x)) c 0) → (c ≡ d) ⊎ (c ≡ d → ⊥) → NotedAt (d ∷ cs) x c (get_or marks c 0) (get_or (noted cs x (set marks d x)) c 0)
    by (inl (i, e)) f = inl (inr i, e)
    by (inr (n, e)) (inl f) = inl (inl f, e ∙ ap (λ (k : ℕ). get_or (set marks k x) c 0) (sym f) ∙ get_or-set_same marks c x 0 h)
    by (inr (n, e)) (inr f) = inr (⊎_elim f n, e ∙ get_or-set_other marks d c x 0 f)

pub length_noted : (cs : List ℕ) (x : ℕ) (marks : List ℕ) → length (noted cs x marks) ≡ length marks
length_noted [] x marks = refl
length_noted (c ∷ cs) x marks = length_noted cs x (set marks c x) ∙ length-set marks c x

few_set : {x y : ℕ} {marks : List ℕ} (c : ℕ) → Few x marks → y ≤ x → Few x (set marks c y)
few_set {x} {y} {marks} c f h = record {
  each = λ d. ⊎_elim
      (λ e. rw e (⊎_elim (λ (l : c < length marks). rw (get_or-set_same marks c y 0 l) h) (λ l. rw (set_out marks c y l) (f.each c)) (below_or c (length marks))))
      (λ n. rw (get_or-set_other marks c d y 0 n) (f.each d))
      (equal_or d c);
}

-- marks stay few
pub few_noted : {x y : ℕ} {marks : List ℕ} (cs : List ℕ) → Few x marks → y ≤ x → Few x (noted cs y marks)
few_noted [] f h = f
few_noted (c ∷ cs) f h = few_noted cs (few_set c f h) h

module _ (m : Machine) where
  -- the first pass: each run from byte p on marks its couples with the byte at which it starts
  abbrev pub noted_all : ℕ → List (List ℕ) → List ℕ → List ℕ
  noted_all p [] marks = marks
  noted_all p (vs ∷ runs) marks = noted_all (p + length (stored_run vs)) runs (noted (visits m vs) p marks)

  length_all : (runs : List (List ℕ)) (p : ℕ) (marks : List ℕ) → length (noted_all p runs marks) ≡ length marks
  length_all [] p marks = refl
  length_all (vs ∷ runs) p marks = length_all runs (p + length (stored_run vs)) (noted (visits m vs) p marks) ∙ length_noted (visits m vs) p marks

  first_or : (c : ℕ) (vs : List ℕ) (runs : List (List ℕ)) → VisitedBy m c (vs ∷ runs) → In c (visits m vs) ⊎ VisitedBy m c runs
  first_or c vs runs (ws, i, j) = ⊎_elim (λ e. inl (subst (λ us. In c (visits m us)) e j)) (λ k. inr (ws, k, j)) i

  -- a couple's mark is then at least p if one of the runs visits it, and as before if none does
  all_at : (runs : List (List ℕ)) (p : ℕ) (marks : List ℕ) (c : ℕ) → c < length marks
      → (VisitedBy m c runs × (p ≤ get_or (noted_all p runs marks) c 0)) ⊎ ((VisitedBy m c runs → ⊥) × (get_or (noted_all p runs marks) c 0 ≡ get_or marks c 0))
  all_at [] p marks c h = inr (λ v. v.1, refl)
  all_at (vs ∷ runs) p marks c h = by (noted_at_lem (visits m vs) p marks c h) (all_at runs (p + length (stored_run vs)) marks' c (subst (λ k. c < k) (sym (length_noted (visits m vs) p marks)) h))
    where
      marks' : List ℕ
      marks' = noted (visits m vs) p marks

      x : ℕ
      x = get_or (noted_all (p + length (stored_run vs)) runs marks') c 0

      by : NotedAt (visits m vs) p c (get_or marks c 0) (get_or marks' c 0)
          → (VisitedBy m c runs × (p + length (stored_run vs) ≤ x)) ⊎ ((VisitedBy m c runs → ⊥) × (x ≡ get_or marks' c 0))
          → (VisitedBy m c (vs ∷ runs) × (p ≤ x)) ⊎ ((VisitedBy m c (vs ∷ runs) → ⊥) × (x ≡ get_or marks c 0))
      by f (inl ((ws, i, j), l)) = inl ((ws, inr i, j), omega arith)
      by (inl (i, e)) (inr (n, f)) = inl ((vs, inl refl, i), omega arith)
      by (inr (k, e)) (inr (n, f)) = inr (λ v. ⊎_elim k n (first_or c vs runs v), f ∙ e)

  -- so it reaches the end of the runs `done` exactly if a later one visits the couple
  all_tell : (done later : List (List ℕ)) (p : ℕ) (marks : List ℕ) (c : ℕ) → c < length marks → get_or marks c 0 < p + length (stored done)
      → (p + length (stored done) ≤ get_or (noted_all p (done ++ later) marks) c 0) ↔ VisitedBy m c later
  all_tell [] later p marks c h low = ⊎_elim
      (λ x. let l = x.1 in (λ _. x.0, λ _. omega arith))
      (λ x. let e = x.1 in (λ l. absurd (omega arith), λ v. absurd (x.0 v)))
      (all_at later p marks c h)
  all_tell (ws ∷ done) later p marks c h low =
      let n = length-append (stored_run ws) (stored done) in
      let (to, from) = all_tell done later (p + length (stored_run ws)) (noted (visits m ws) p marks) c (subst (λ k. c < k) (sym (length_noted (visits m ws) p marks)) h)
      (⊎_elim (λ x. let e = x.1 in omega arith) (λ x. let e = x.1 in omega arith) (noted_at_lem (visits m ws) p marks c h)) in
      (λ l. to (omega arith), λ v. let l = from v in omega arith)

  -- one run more among others
  with_one : (c : ℕ) (kept : List (List ℕ)) (vs : List ℕ) (after : List (List ℕ)) → VisitedBy m c (kept ++ after) → VisitedBy m c ((kept ++ (vs ∷ [])) ++ after)
  with_one c kept vs after (ws, i, j) =
      (ws, ⊎_elim (λ k. in_front ws (kept ++ (vs ∷ [])) after (in_front ws kept (vs ∷ []) k)) (in_back ws (kept ++ (vs ∷ [])) after) (in_either ws kept after i), j)

  -- which does not visit the couple
  without_one : (c : ℕ) (kept : List (List ℕ)) (vs : List ℕ) (after : List (List ℕ)) → (In c (visits m vs) → ⊥) → VisitedBy m c ((kept ++ (vs ∷ [])) ++ after) → VisitedBy m c (kept ++ after)
  without_one c kept vs after n (ws, i, j) = (
    ws,
    ⊎_elim (λ k. ⊎_elim (in_front ws kept after) (⊎_elim (λ e. absurd (n (subst (λ us. In c (visits m us)) e j))) absurd) (in_either ws kept (vs ∷ []) k))
        (in_back ws kept after) (in_either ws (kept ++ (vs ∷ [])) after i),
    j,
  )

  stored_some : (runs : List (List ℕ)) → 0 < length runs → 0 < length (stored runs)
  stored_some [] h = absurd (omega arith)
  stored_some (vs ∷ runs) h = omega arith

  -- the first pass makes fresh marks tell
  pub all_tells : (runs : List (List ℕ)) (marks : List ℕ) → Fresh m marks → Tells m 0 [] runs (noted_all 0 runs marks)
  all_tells runs marks fresh = record {
    room = omega (arith, fresh.room, length_all runs 0 marks);
    told = λ done later c e some h. subst (λ l. (0 + length (stored done) ≤ get_or (noted_all 0 l marks) c 0) ↔ VisitedBy m c later) (sym e)
        (all_tell done later 0 marks c (omega (arith, fresh.room)) (omega (arith, fresh.none c, stored_some done some)));
  }

  module _ {p : ℕ} {kept later : List (List ℕ)} {marks : List ℕ} (vs : List ℕ) (t : Tells m p kept (vs ∷ later) marks) where
    -- with the first run taken out they go on telling
    pub tells_out : Tells m (p + length (stored_run vs)) kept later marks
    tells_out = record {
      room = t.room;
      told = λ done after c e some h.
          let (to, from) = t.told (vs ∷ done) after c (ap (λ (l : List (List ℕ)). vs ∷ l) e) (omega arith) h in
          let n = length-append (stored_run vs) (stored done) in
          (λ l. to (omega arith), λ v. let l = from v in omega arith);
    }

    -- and so they do where it stays, its couples marked with as much as all the bytes
    pub tells_stays : (total : ℕ) → p + length (stored (vs ∷ later)) ≤ total
        → Tells m (p + length (stored_run vs)) (kept ++ (vs ∷ [])) later (noted (visits m vs) total marks)
    tells_stays total fits = record {
      room = omega (arith, t.room, length_noted (visits m vs) total marks);
      told = λ done after c e some h. by done after c e some h (noted_at_lem (visits m vs) total marks c (omega (arith, t.room)));
    }
      where
        by : (done after : List (List ℕ)) (c : ℕ) → later ≡ done ++ after → 0 < length done → c < couples m
            → NotedAt (visits m vs) total c (get_or marks c 0) (get_or (noted (visits m vs) total marks) c 0)
            → (p + length (stored_run vs) + length (stored done) ≤ get_or (noted (visits m vs) total marks) c 0) ↔ VisitedBy m c ((kept ++ (vs ∷ [])) ++ after)
        by done after c e some h (inl (i, f)) =
            let k : length (stored later) ≡ length (stored done) + length (stored after) =
            ap (λ (l : List (List ℕ)). length (stored l)) e ∙ ap length (stored_append done after) ∙ length-append (stored done) (stored after) in
            (λ _. (vs, in_front vs (kept ++ (vs ∷ [])) after (in_back vs kept (vs ∷ []) (inl refl)), i), λ _. omega (arith, fits, k, length-append (stored_run vs) (stored later)))
        by done after c e some h (inr (n, f)) =
            let (to, from) = tells_out.told done after c e some h in
            (λ l. with_one c kept vs after (to (omega arith)), λ v. let l = from (without_one c kept vs after n v) in omega arith)

    -- the first run is superfluous exactly if all its couples have marks that reach its end
    pub first_told : Sound m → Run m vs → Reach (visits m vs) (p + length (stored_run vs)) marks ↔ Superfluous m vs (kept ++ later)
    first_told ok r = (λ a. record { elsewhere = λ c i. (at c i).0 (a.each c i) }, λ s. record { each = λ c i. (at c i).1 (s.elsewhere c i) })
      where
        at : (c : ℕ) → In c (visits m vs) → (p + length (stored_run vs) ≤ get_or marks c 0) ↔ VisitedBy m c (kept ++ later)
        at c i =
            let (to, from) = t.told (vs ∷ []) later c refl (omega arith) (marked_below ok (vs, record { run = r; sees = i })) in
            let n = length-append (stored_run vs) [] in
            (λ l. to (omega arith), λ v. let l = from v in omega arith)
