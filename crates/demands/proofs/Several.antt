-- In a file that is read, without kind 5, every couple has a run that may change several inputs at once: the table's moves are the file's,
-- so that by check 12 each state is reached, by check 13 there is a start, and any two settings may follow one another.
use mathlib.Core.Path.{◌≡◌, refl, sym, subst, ◌∙◌}
use mathlib.Core.Logic.{inl}
use mathlib.Core.Bool.{true, false}
use mathlib.Core.List.{List, [], ◌∷◌, ◌++◌}
use Prim.Native.Nat.{ℕ, ◌*◌, ◌^◌, ◌<◌}
use native.Mathlib.Omega.{arith}
use lib.Dec.{eqb}
use lib.ListN.{length, take}
use borrow.Author.Tests.{eqb-false}
use Rattle.verdict.specs.Checks.{check, Unless, Then, refused, next, Verdict}
use Rattle.verdict.specs.declared.Answer.{Answer}
use Rattle.verdict.proofs.Order.{judged_passes}
use Rattle.machine.specs.Runs.{Machine, machine_by, machine_of, couples, Sound, Marked}
use Rattle.machine.specs.Plans.{VisitedBy, runs_in}
use Rattle.machine.specs.declared.Frame.{Frame}
use Rattle.machine.proofs.Bare.{none_ruled}
use Rattle.machine.proofs.Same.{unreached_into}
use Rattle.several.specs.Several.{MultiRunTo}
use Rattle.several.proofs.Total.{AllReached, all_run, several_free}
use Rattle.plan.specs.Planning.{ShortOf, WholeDone, PlannedAs}
use Rattle.plan.specs.Multi.{MultiAs, ListedAs}
use Rattle.specification.specs.File.{never_kind, Has}
use Rattle.specification.specs.Records.{sizes_of}
use Rattle.specification.specs.Reading.{ReadHere}
use Rattle.specification.specs.declared.Contents.{Contents}
use Rattle.specification.proofs.Framing.{framed_is}
use Rattle.specification.proofs.Settling.{leads_below, Ruled, into_table}
use Rattle.specification.proofs.Once.{no_two_rules}
use Rattle.specification.proofs.Meanings.{never_none}
use Rattle.specification.proofs.Accepted.{sized, table_accepted}
use Rattle.demands.specs.Several.{EveryCouple, runs_apart}
use Rattle.demands.proofs.Apart.{list_right}

-- a check with another number than the answer's did not refuse
other : {fails : ℕ → Type 0} {k n : ℕ} {rest : Type 0} {a : Answer} → a.number ≡ n → eqb k n ≡ false → Then fails k rest a → rest
other e f (refused l g) = absurd (eqb-false _ _ f (sym g ∙ e))
other e f (next _ v) = v

-- a couple that some run visits is not refused by 20, and one beyond the couples is refused by 14
not_20 : {m : Machine} {c : ℕ} {ranks₀ run₀ ranks₁ run₁ : List ℕ} {a : Answer} → (c < couples m → Marked m c) → MultiAs m c ranks₀ run₀ a ranks₁ run₁ → a.number ≡ 20 → ⊥
not_20 {m} {c} {run₀ = run₀} {a = a} visited x e = late (other e refl (other e refl (other e refl (other e refl (other e refl (other e refl x.verdict.verdict))))))
  where
    late : Verdict (check 14 (Unless (c < couples m)) ∷ check 20 (Unless (Marked m c)) ∷ check 16 (ShortOf (MultiRunTo m c) (length run₀)) ∷ []) (WholeDone (MultiRunTo m c)) a → ⊥
    late (refused l f) = omega arith
    late (next below (refused l f)) = below.nowhere 0 (refl, λ h. l.here.1 (visited h))
    late (next below (next n v)) = omega (arith, (other e refl v).number)

module _ {file table words : List ℕ} {room : ℕ} {r : Contents} {t w : List ℕ} (u : ReadHere file table words room r t w) (e : r.answer.number ≡ 0) where
  -- the table's moves are the file's
  ruled : Ruled file (sizes_of file) t
  ruled = record { leads = leads_below file (sizes_of file) (judged_passes 13 u.verdict refl e).1.1.1.1.1.0; single = no_two_rules u e; moves = (u.table.filled (inl e)).needed }

  -- so each state is reached, and the machine is sound
  reached : AllReached (machine_by true r.frame t)
  reached = subst (λ (f : Frame). AllReached (machine_by true f t)) (sym (framed_is (u.done e).frame)) (record {
    nowhere = λ s x. (judged_passes 13 u.verdict refl e).1.1.1.1.1.1.1.1.1.1.1.1.1.0.nowhere s (unreached_into (into_table ruled) (sized u.verdict e).begins s x);
  })

  sound : Sound (machine_by true r.frame t)
  sound = let ok = (table_accepted u e).0.sound in record { closed = ok.closed; calm = ok.calm; begins = ok.begins }

  -- the theorem of ticket 6, there without kinds 5 and 6: by check 13 there is a start whatever kind 6 says, so it may be there
  pub every_couple : (Has file never_kind → ⊥) → EveryCouple r.frame t
  every_couple n = all_run sound (several_free r.frame t (λ v h. none_ruled r.frame (never_none u e n) v)) reached (table_accepted u e).1.0

  -- so the run to a couple never answers 20
  pub never_20 : (Has file never_kind → ⊥) → {c : ℕ} {ranks₀ run₀ ranks₁ run₁ : List ℕ} {a : Answer} → MultiAs (machine_by true r.frame t) c ranks₀ run₀ a ranks₁ run₁ → a.number ≡ 20 → ⊥
  never_20 n {c} = not_20 (λ h. let (vs, x) = every_couple n c h in (vs, x.visitor))

  -- and plan and list together visit every couple
  pub all_visited : (Has file never_kind → ⊥) → {ranks₀ plan₀ ranks₁ plan₁ ranks₂ list₀ ranks₃ list₁ : List ℕ} {a b : Answer} → PlannedAs (machine_of r.frame t) ranks₀ plan₀ a ranks₁ plan₁ → a.number ≡ 0
      → ListedAs (machine_by true r.frame t) ranks₂ list₀ b ranks₃ list₁ → b.number ≡ 0
      → (c : ℕ) → c < r.frame.states * 2 ^ r.frame.inputs → VisitedBy (machine_by true r.frame t) c (runs_in (take a.place plan₁) ++ runs_apart (take b.place list₁))
  all_visited n p d q f c h = let (vs, x) = every_couple n c h in ((list_right r.frame t q f p d).visits c).1 (vs, x.visitor)
