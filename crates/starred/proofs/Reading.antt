-- The verdict of reading a file, from its parts: what passes checks 1 to 7; and with the one rule of each couple, a sound table and its
-- states reached, what is read with success by a start, or refused by 13 without one.
use mathlib.Core.Path.{◌≡◌, subst}
use mathlib.Core.List.{List, [], ◌∷◌, ◌++◌}
use Prim.Native.Nat.{ℕ, ◌<◌}
use lib.ListN.{take}
use mathlib.Core.Bool.{true}
use Rattle.condition.specs.Grammar.{condition, Tree}
use Rattle.verdict.specs.Checks.{check, Nowhere, Unless, Passed, Judged}
use Rattle.verdict.proofs.Tests.{meets, whole}
use Rattle.verdict.proofs.Order.{pass, halt, ends, long}
use Rattle.machine.specs.Moves.{table_moves, Transient, SameWord, Reached, Start}
use Rattle.machine.specs.Runs.{machine_of, Sound}
use Rattle.machine.proofs.Same.{transient_into, reached_into, start_into}
use Rattle.specification.specs.File.{mark, rests_of, WellFormed}
use Rattle.specification.specs.Records.{sizes_of, settings, word, Sized, Beyond, Own, Twice}
use Rattle.specification.specs.Rules.{Unreads, Moves, MayStart}
use Rattle.specification.specs.Reading.{rule_checks, move_checks}
use Rattle.starred.specs.Rows.{free, Answered}
use Rattle.starred.proofs.Records.{formed, well_formed, ranged, sized, recorded, record_checks_lem}
use Rattle.starred.proofs.Rules.{spelling, none_unread, Ruled}

-- checks 1, 2, 4, 5, 6 and 7 fail nowhere
pub record Shaped (file : List ℕ) : Type 0 where
  pub formed : WellFormed file
  pub sized : Sized file
  pub inside : Nowhere (Beyond file (sizes_of file))
  pub read : Nowhere (Unreads file (sizes_of file))
  pub changes : Nowhere (Own file (sizes_of file))
  pub once : Nowhere (Twice file (sizes_of file))

-- by computation, where the tree of each text is given
pub shape : (file : List ℕ) (trees : List (Tree condition)) → spelling file trees ≡ true → take 4 file ≡ mark (rests_of file)
    → formed file ≡ true → ranged file ≡ true → recorded file ≡ true → Shaped file
shape file trees spelt marked e f g =
    let x = record_checks_lem file g in
    record { formed = well_formed file marked e; sized = sized file f; inside = x.0; read = none_unread file trees spelt; changes = x.1; once = x.2 }

module _ {file : List ℕ} (x : Shaped file) where
  pub shaped : {number place : ℕ} → Judged (rule_checks file (sizes_of file) ++ move_checks file (sizes_of file)) Passed (record { number = number; place = place }) → Answered file number place
  shaped v table words records a b c =
      pass (meets x.formed) (pass (meets x.sized) (pass (long a) (pass (long b) (pass (long c)
      (pass x.inside (pass x.read (pass x.changes (pass x.once v))))))))

  module _ {T : List ℕ} (starts : ℕ) (ok : Sound (machine_of (free (sizes_of file).inputs (sizes_of file).states (sizes_of file).initial starts) T)) (rules : Ruled file T)
      (same : Nowhere (SameWord (word file (sizes_of file)) (sizes_of file).states))
      (reached : (s : ℕ) → s < (sizes_of file).states → Reached (table_moves T (settings (sizes_of file))) (settings (sizes_of file)) (sizes_of file).initial s) where
    calm : Nowhere (Transient (Moves file (sizes_of file)) (sizes_of file).states (settings (sizes_of file)))
    calm = record {
      nowhere = λ p f.
          let y = transient_into rules.into rules.from p f in
          y.unrest (subst (λ t. table_moves T (settings (sizes_of file)) t y.v t) y.moves (ok.calm y.s y.v y.couple.state y.couple.setting));
    }

    -- 8 to 12 pass, so that 13 decides
    started : {number place : ℕ} → Judged (check 13 (Unless ((v : ℕ) × Start (Moves file (sizes_of file)) (MayStart file (sizes_of file)) (settings (sizes_of file)) (sizes_of file).initial v)) ∷ []) Passed (record { number = number; place = place })
        → Answered file number place
    started v = shaped (pass rules.once (pass rules.always (pass calm (pass same (pass
        (record { nowhere = λ s f. f.never (reached_into rules.from ok.begins (reached s f.state)).1 }) v)))))

    pub succeeds : (v : ℕ) → Start (table_moves T (settings (sizes_of file))) (MayStart file (sizes_of file)) (settings (sizes_of file)) (sizes_of file).initial v → Answered file 0 0
    succeeds v start = started (pass (meets (v, start_into rules.from (λ h. h) ok.begins start)) ends)

    pub no_start : ((v : ℕ) → Start (table_moves T (settings (sizes_of file))) (MayStart file (sizes_of file)) (settings (sizes_of file)) (sizes_of file).initial v → ⊥) → Answered file 13 0
    no_start none = started (halt (whole (λ s. none s.0 (start_into rules.into (λ h. h) ok.begins s.1))))
