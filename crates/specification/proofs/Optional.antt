-- The bodies beyond kind 4: each is the part of the file from its offset on, and a kind has one entry, so that the set of the settings
-- at which the body of a kind holds is that of its condition. So the sets of a frame are those of kinds 5 and 6, or where there is none
-- the empty set and that of setting 0 alone.
use mathlib.Core.Path.{◌≡◌, sym, ap₂, subst, ◌∙◌}
use mathlib.Core.List.{List}
use Prim.Native.Nat.{ℕ, ◌+◌, ◌-◌, ◌≤◌, ◌<◌}
use native.Mathlib.Omega.{arith}
use lib.ListN.{length, take, drop, replicate}
use Rattle.sets.specs.Sets.{words, SetOf}
use Rattle.sets.proofs.Arrays.{set_none, set_same}
use Rattle.condition.specs.Condition.{Holds}
use Rattle.condition.proofs.Examples.{one_holds}
use Rattle.specification.specs.File.{count_of, offset_of, length_of, body_of, never_kind, starts_kind, EntryOf, Has, Entries}
use Rattle.specification.specs.Records.{settings}
use Rattle.specification.specs.Rules.{HoldsIn, Never, Allowed, said, power_up}
use Rattle.specification.specs.Before.{AnyStart}
use Rattle.specification.specs.inner.Private.{SetIn, there, without}
use Rattle.specification.specs.declared.records.Sizes.{Sizes}
use Rattle.specification.proofs.Entries.{one_entry, body_within}

-- a body by the offset and the length that its entry has
module _ {file : List ℕ} (x : Entries file) {k at long : ℕ} (h : k < count_of file) (a : at ≡ offset_of file k) (n : long ≡ length_of file k) where
  pub offset_within : at + long ≤ length file
  offset_within = omega (arith, body_within x k h, x.offset k h)

  pub body_at : take (at + long - at) (drop at file) ≡ body_of file k
  body_at = let m : at + long - at ≡ length_of file k = omega arith in ap₂ (λ (n at : ℕ). take n (drop at file)) m (a ∙ x.offset k h)

-- the condition of the one body of a kind
module _ {file : List ℕ} (x : Entries file) {z : Sizes} {kind k : ℕ} (o : EntryOf file kind k) where
  pub kind_set : {text set : List ℕ} → text ≡ body_of file k → SetOf words (settings z) (λ v. Holds z.inputs v text) set → SetOf words (settings z) (HoldsIn file z kind) set
  kind_set e = set_same
      (λ v h. record { entry = k; of = o; holds = subst (Holds z.inputs v) e h })
      (λ v y. subst (Holds z.inputs v) (sym e) (subst (λ (j : ℕ). Holds z.inputs v (body_of file j)) (one_entry x y.of o) y.holds))

-- the sets of a frame
module _ {file : List ℕ} {z : Sizes} where
  pub none_never : {v : ℕ} → (Has file never_kind → ⊥) → Never file z v → ⊥
  none_never n x = n (x.entry, x.of)

  pub never_set : {set : List ℕ} → SetIn file z never_kind (replicate words 0) set → SetOf words (settings z) (Never file z) set
  never_set (there _ s) = s
  never_set (without n e) = subst (SetOf words (settings z) (Never file z)) (sym e) (set_none words (settings z) (λ v _ x. none_never n x))

  -- without kind 6 setting 0 alone, with it where it holds, and with the text `1` any setting
  pub zero_allowed : {v : ℕ} → (Has file starts_kind → ⊥) → Allowed file z v → v ≡ 0
  zero_allowed n (said x) = absurd (n (x.entry, x.of))
  zero_allowed n (power_up _ e) = e

  says_allowed : {v : ℕ} → Has file starts_kind → Allowed file z v → HoldsIn file z starts_kind v
  says_allowed h (said x) = x
  says_allowed h (power_up n _) = absurd (n h)

  pub any_allowed : {v : ℕ} → AnyStart file → Allowed file z v
  any_allowed {v} a = said (record { entry = a.entry; of = a.of; holds = subst (Holds z.inputs v) (sym a.text) (one_holds z.inputs v) })

  pub starts_set : {first set : List ℕ} → SetOf words (settings z) (λ v. v ≡ 0) first → SetIn file z starts_kind first set → SetOf words (settings z) (Allowed file z) set
  starts_set f (there h s) = set_same (λ v x. said x) (λ v. says_allowed h) s
  starts_set f (without n e) = subst (SetOf words (settings z) (Allowed file z)) (sym e) (set_same (λ v q. power_up n q) (λ v. zero_allowed n) f)
