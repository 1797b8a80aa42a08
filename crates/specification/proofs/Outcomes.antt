-- The ways in which reading ends before the records are handed on: refused by the shape, or by what its rules answer, or read. Each joins
-- the verdicts of the parts, and says what there is to hand on.
use mathlib.Core.Path.{◌≡◌, refl, sym, ap, subst₂, ◌∙◌}
use mathlib.Core.List.{List}
use Prim.Native.Nat.{ℕ, ◌≤◌}
use native.Mathlib.Omega.{arith}
use lib.ListN.{length}
use Rattle.std.specs.Prelude.{Ok, Err}
use Rattle.verdict.specs.Checks.{Passed, Judged}
use Rattle.verdict.specs.Refusals.{number_of, refused_by}
use Rattle.verdict.specs.declared.Answer.{Answer}
use Rattle.verdict.specs.declared.Refusal.{Refusal}
use Rattle.verdict.proofs.Order.{judged_on, judged_stop, judged_number, judged_passes, roomy}
use Rattle.verdict.proofs.Refusals.{refusal_number}
use Rattle.verdict.proofs.Fills.{left_same}
use Rattle.specification.specs.Records.{sizes_of, couples}
use Rattle.specification.specs.Rules.{FrameOf}
use Rattle.specification.specs.Reading.{shape_checks, CharacterFor}
use Rattle.specification.specs.inner.Private.{sound_checks, SoundAs}
use Rattle.specification.specs.inner.Outcomes.{CoreAs}
use Rattle.specification.specs.declared.answers.Reading.{Reading}
use Rattle.specification.specs.declared.records.Sizes.{Sizes}

refuses : (r : Refusal) → number_of r ≡ 0 → ⊥
refuses r e = omega (arith, refusal_number r)

module _ (file table words : List ℕ) (room : ℕ) where
  -- refused by 1, 2 or 3
  pub early : (r : Refusal) → Judged (shape_checks file (length table) (length words) room) Passed (refused_by r)
      → CoreAs file table words room (Err (record { refusal = r; character = 0; blanks = 0 })) table words
  early r v =
      let n = refuses r in
      let b = judged_number 1 3 v refl n in
      record {
        here = record {
          verdict = judged_stop (sound_checks file (sizes_of file)) v n;
          character = record { unread = λ e. absurd (omega (arith, b.1)); other = λ _. refl };
          refused = λ _. refl;
          done = λ h. absurd (n h);
          table = left_same b.0 b.1;
          words = left_same b.0 b.1;
        };
        ready = record { none = λ _. refl; all = λ h. absurd (omega (arith, b.1)); fits = omega arith };
      }

  module _ {s : Answer} (v : Judged (shape_checks file (length table) (length words) room) Passed s) (e : s.number ≡ 0) where
    fits : (sizes_of file).evolutions ≤ room
    fits = roomy (judged_passes 3 v refl e).1.1.1.1.0

    -- refused by 4 to 13
    pub late : {k : ℕ} {t w : List ℕ} (r : Refusal) → SoundAs file (sizes_of file) table words (refused_by r) t w → CharacterFor file (sizes_of file) (refused_by r) k
        → CoreAs file table words room (Err (record { refusal = r; character = k; blanks = (sizes_of file).evolutions })) t w
    late r u c =
        let n = refuses r in
        record {
          here = record { verdict = judged_on 3 v refl e u.judged; character = c; refused = λ _. refl; done = λ h. absurd (n h); table = u.table; words = u.words };
          ready = record { none = λ h. absurd (omega (arith, (judged_number 4 13 u.judged refl n).0)); all = λ _. refl; fits = fits };
        }

    -- read
    pub good : {t w : List ℕ} (r : Reading) → r.specification.file.now ≡ file → r.specification.z ≡ sizes_of file → FrameOf file (sizes_of file) r.frame
        → SoundAs file (sizes_of file) table words (record { number = 0; place = 0 }) t w → CoreAs file table words room (Ok r) t w
    good r f z x u =
        record {
          here = record {
            verdict = judged_on 3 v refl e u.judged;
            character = record { unread = λ h. absurd (omega arith); other = λ _. refl };
            refused = λ n. absurd (n refl);
            done = λ _. record { outputs = ap (λ z. z.outputs) z; evolutions = ap (λ z. z.evolutions) z; frame = x };
            table = u.table;
            words = u.words;
          };
          ready = record { of = f; fits = fits };
        }

    -- by the file and the sizes that were read
    module _ {f : List ℕ} {z : Sizes} (fe : f ≡ file) (ze : z ≡ sizes_of f) where
      sizes_are : z ≡ sizes_of file
      sizes_are = ze ∙ ap sizes_of fe

      pub rooms : (couples z ≤ length table) × (z.states ≤ length words)
      rooms = let p = judged_passes 3 v refl e in
          (omega (arith, ap couples sizes_are, roomy p.1.1.0), omega (arith, ap (λ (z : Sizes). z.states) sizes_are, roomy p.1.1.1.0))

      pub late_read : {k : ℕ} {t w : List ℕ} (r : Refusal) → SoundAs f z table words (refused_by r) t w → CharacterFor f z (refused_by r) k
          → CoreAs file table words room (Err (record { refusal = r; character = k; blanks = z.evolutions })) t w
      late_read {k} {t} {w} r =
          subst₂ (λ f z. SoundAs f z table words (refused_by r) t w → CharacterFor f z (refused_by r) k → CoreAs file table words room (Err (record { refusal = r; character = k; blanks = z.evolutions })) t w)
          (sym fe) (sym sizes_are) (late r)

      pub good_read : {t w : List ℕ} (r : Reading) → r.specification.file.now ≡ f → r.specification.z ≡ z → FrameOf f z r.frame → SoundAs f z table words (record { number = 0; place = 0 }) t w
          → CoreAs file table words room (Ok r) t w
      good_read {t} {w} r rf rz =
          subst₂ (λ f z. FrameOf f z r.frame → SoundAs f z table words (record { number = 0; place = 0 }) t w → CoreAs file table words room (Ok r) t w)
          (sym fe) (sym sizes_are) (good r (rf ∙ fe) (rz ∙ sizes_are))
