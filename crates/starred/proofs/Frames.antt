-- The frame of a file by computation: where no setting is ruled out and a test tells the allowed starts, a word is their set if each of
-- its bits is what the test tells of a setting, and 0 beyond the settings.
use mathlib.Core.Path.{◌≡◌, refl, sym, subst, ◌∙◌}
use mathlib.Core.Logic.{⊎_elim}
use mathlib.Core.List.{List, ◌∷◌}
use mathlib.Core.Bool.{Bool, true, ◌&&◌}
use Prim.Native.Nat.{ℕ, zero, suc, ◌-◌, ◌^◌, ◌≤◌, ◌<◌}
use native.Mathlib.Omega.{arith}
use lib.ListN.{get_or, replicate}
use lib.Dec.{ltb, lit<}
use lib.Pow.{pow_mono}
use borrow.Author.Tests.{lt-ltb, le-ltb}
use Rattle.verdict.specs.Checks.{Decides}
use Rattle.sets.specs.Sets.{words, most_members, member}
use Rattle.sets.proofs.Members.{zeros, member_beyond}
use Rattle.sets.proofs.Arrays.{set_none}
use Rattle.machine.specs.Limits.{most_inputs}
use Rattle.machine.proofs.Order.{below_or}
use Rattle.verdict.specs.Below.{every}
use Rattle.verdict.proofs.Below.{decides_every}
use Rattle.specification.specs.File.{never_kind, Has}
use Rattle.specification.specs.Records.{sizes_of, settings}
use Rattle.specification.specs.Rules.{Allowed, FrameOf}
use Rattle.specification.proofs.Optional.{none_never}
use Rattle.starred.specs.Rows.{free}
use Rattle.starred.proofs.Rules.{same, decides_same}

module _ (file : List ℕ) (few : (sizes_of file).inputs ≤ most_inputs) (none : Has file never_kind → ⊥) (starts : ℕ) (small : starts < 2 ^ 64)
    (told : ℕ → Bool) (allowed : (v : ℕ) → Decides (Allowed file (sizes_of file) v) (told v)) where
  abbrev set : List ℕ
  set = starts ∷ replicate (words - 1) 0

  word : (i : ℕ) → get_or set i 0 < 2 ^ 64
  word zero = small
  word (suc i) = rw (zeros (words - 1) i) (lit< tt)

  module _ (exactly : every most_members (λ v. same (member set v) (ltb v (settings (sizes_of file)) && told v)) ≡ true) where
    bit : (v : ℕ) → v < most_members → member set v ≡ ltb v (settings (sizes_of file)) && told v
    bit = (decides_every most_members _ _ (λ v. decides_same _ _)).holds exactly

    pub framed : FrameOf file (sizes_of file) (free (sizes_of file).inputs (sizes_of file).states (sizes_of file).initial starts)
    framed = record {
      inputs = refl;
      states = refl;
      initial = refl;
      never = set_none words (settings (sizes_of file)) (λ v h. none_never none);
      starts = record {
        array = record { count = refl; small = λ i h. word i };
        each = λ v h. subst (Decides (Allowed file (sizes_of file) v))
            (sym (bit v (omega (arith, pow_mono {i = (sizes_of file).inputs} {j = most_inputs} few)) ∙ rw (lt-ltb v (settings (sizes_of file)) h) refl)) (allowed v);
        beyond = λ v h. ⊎_elim (λ l. bit v l ∙ rw (le-ltb v (settings (sizes_of file)) h) refl) (member_beyond set v) (below_or v most_members);
      };
    }
