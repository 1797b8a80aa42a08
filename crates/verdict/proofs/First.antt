-- A job refuses exactly when a check of its list fails, and by the first that does, at its least place: by induction on the list, since
-- a verdict goes through the checks in their order.
use mathlib.Core.Path.{◌≡◌, sym, ◌∙◌}
use mathlib.Core.List.{List, [], ◌∷◌}
use mathlib.Core.Logic.{inl, inr}
use Prim.Native.Nat.{ℕ}
use Rattle.verdict.specs.Checks.{Check, refused, next, Verdict, Passed, Judged, Fails, FirstFails}
use Rattle.verdict.specs.declared.Answer.{Answer}
use Rattle.verdict.proofs.Order.{Numbered, Passes, same_answer, judged_passes}
use Rattle.verdict.proofs.Tests.{least_unique}

first_of : (cs : List Check) (a : Answer) → Verdict cs Passed a → (a.number ≡ 0 → ⊥) → FirstFails cs a
first_of [] a v n = n v.number
first_of (c ∷ cs) a (refused l e) n = inl (sym e, l)
first_of (c ∷ cs) a (next m v) n = inr (m, first_of cs a v n)

of_first : (cs : List Check) (a b : Answer) → Verdict cs Passed a → FirstFails cs b → a ≡ b
of_first (c ∷ cs) a b (refused l e) (inl (n, m)) = same_answer a b (e ∙ n) (least_unique l m)
of_first (c ∷ cs) a b (refused l e) (inr (n, f)) = absurd (n.nowhere _ l.here)
of_first (c ∷ cs) a b (next m v) (inl (n, l)) = absurd (m.nowhere _ l.here)
of_first (c ∷ cs) a b (next m v) (inr (n, f)) = of_first cs a b v f
of_first [] a b _ x3 = elim x3 [ ]

some_fails : (cs : List Check) (a : Answer) → FirstFails cs a → Fails cs
some_fails (c ∷ cs) a (inl (n, l)) = inl (a.place, l.here)
some_fails (c ∷ cs) a (inr (n, f)) = inr (some_fails cs a f)
some_fails [] a x' = elim x' [ ]

none_fails : (cs : List Check) → Passes cs → Fails cs → ⊥
none_fails (c ∷ cs) p (inl (k, f)) = p.0.nowhere k f
none_fails (c ∷ cs) p (inr f) = none_fails cs p.1 f
none_fails [] p x'' = elim x'' [ ]

module _ {cs : List Check} {a : Answer} (v : Judged cs Passed a) where
  -- refused: the answer is the first check that fails, so one does
  pub judged_first : (a.number ≡ 0 → ⊥) → FirstFails cs a
  judged_first n = first_of cs a v.verdict n

  pub judged_fails : (a.number ≡ 0 → ⊥) → Fails cs
  judged_fails n = some_fails cs a (judged_first n)

  -- a check fails: refused, and the first that fails is the answer
  pub fails_judged : (high : ℕ) → Numbered 1 high cs → Fails cs → a.number ≡ 0 → ⊥
  fails_judged high num f e = none_fails cs (judged_passes high v num e) f

  pub first_judged : (b : Answer) → FirstFails cs b → a ≡ b
  first_judged b f = of_first cs a b v.verdict f
