-- A table job accepts the table of a file that is read: it passes 2, 3, 4, 10 and 13. The table's moves are the file's, so that each
-- follows from the check of the file with its number; and no two rules hold, so that the table is one.
use mathlib.Core.Path.{◌≡◌, refl, sym, subst, ◌∙◌}
use mathlib.Core.List.{List}
use mathlib.Core.Logic.{inl}
use Prim.Native.Nat.{ℕ, ◌≤◌, ◌<◌}
use native.Mathlib.Omega.{arith}
use lib.ListN.{length, get_or}
use lib.Seq.{ext_get_or}
use lib.Pow.{pow_pos}
use Rattle.verdict.specs.Checks.{Passed, Judged}
use Rattle.verdict.specs.declared.Answer.{Answer}
use Rattle.verdict.proofs.Order.{Passes, judged_passes, roomy}
use Rattle.machine.specs.Limits.{Sized as TableSized}
use Rattle.machine.specs.Runs.{machine_of}
use Rattle.machine.specs.declared.Frame.{Frame}
use Rattle.machine.proofs.Couples.{couple_of, couple_below}
use Rattle.machine.proofs.Same.{transient_into}
use Rattle.machine.proofs.Sizes.{sizes}
use Rattle.machine.proofs.Soundness.{sound_machine}
use Rattle.tables.specs.Tables.{start_checks, Checked}
use Rattle.specification.specs.Records.{sizes_of, settings, couples}
use Rattle.specification.specs.Rules.{MoveAt, TableOf, FrameOf}
use Rattle.specification.specs.Reading.{file_checks, ReadHere}
use Rattle.specification.specs.declared.Contents.{Contents}
use Rattle.specification.proofs.Framing.{framed, framed_is}
use Rattle.specification.proofs.Settling.{leads_below, same_move, Ruled, table_into, into_table, states_only, start_there}

module _ {file : List ℕ} {tableRoom wordRoom recordRoom : ℕ} {a : Answer} (v : Judged (file_checks file tableRoom wordRoom recordRoom) Passed a) (e : a.number ≡ 0) where
  passes : Passes (file_checks file tableRoom wordRoom recordRoom)
  passes = judged_passes 13 v refl e

  pub sized : TableSized (sizes_of file).inputs (sizes_of file).states (sizes_of file).initial
  sized = sizes (record {
    nowhere = λ p f. passes.1.0.nowhere 0 (refl, λ s. let g = s.ranges in f.1 (record { some_input = g.some_input; few_inputs = g.few_inputs; few_states = g.few_states; begins = g.begins }));
  })

  pub table_once : {t u : List ℕ} → TableOf file t → TableOf file u → t ≡ u
  table_once {t} {u} x y =
      ext_get_or 0 t u (x.whole ∙ sym y.whole) (λ p h.
      let l : p < couples (sizes_of file) = omega (arith, x.whole) in
      let k = couple_of p (pow_pos (sizes_of file).inputs) l in
      same_move file (sizes_of file) passes.1.1.1.1.1.1.1.1.1.0 k ((x.each p l).move _ _ k) ((y.each p l).move _ _ k))

  module _ {f : Frame} (x : FrameOf file (sizes_of file) f) (table : List ℕ) (long : couples (sizes_of file) ≤ length table)
      (each : (p : ℕ) → p < couples (sizes_of file) → MoveAt file (sizes_of file) (settings (sizes_of file)) p (get_or table p 0)) where
    ruled : Ruled file (sizes_of file) table
    ruled = record { leads = leads_below file (sizes_of file) passes.1.1.1.1.1.0; single = passes.1.1.1.1.1.1.1.1.1.0; moves = each }

    framed_accepted : Checked (machine_of (framed (sizes_of file) f.never f.starts) table) × Passes (start_checks (machine_of (framed (sizes_of file) f.never f.starts) table))
    framed_accepted = (
      record {
        tabled = record { sized = sized; long = long };
        sound = sound_machine _ sized.begins
            (record { nowhere = λ p x. let b = x.beyond in omega (arith, states_only ruled p (couple_below x.couple)) })
            (record { nowhere = λ p x. passes.1.1.1.1.1.1.1.1.1.1.1.0.nowhere p (transient_into (table_into ruled) (into_table ruled) p x) });
      },
      (record { nowhere = λ p u. passes.1.1.1.1.1.1.1.1.1.1.1.1.1.1.0.nowhere p (u.0, λ s. u.1 (start_there ruled x sized.begins s)) }, tt),
    )

    pub accepted : Checked (machine_of f table) × Passes (start_checks (machine_of f table))
    accepted = subst (λ (f : Frame). Checked (machine_of f table) × Passes (start_checks (machine_of f table))) (sym (framed_is x)) framed_accepted

-- by what reading answers and leaves
module _ {file table words : List ℕ} {room : ℕ} {r : Contents} {t w : List ℕ} (u : ReadHere file table words room r t w) (e : r.answer.number ≡ 0) where
  pub table_accepted : Checked (machine_of r.frame t) × Passes (start_checks (machine_of r.frame t))
  table_accepted =
      let f = u.table.filled (inl e) in
      let h = roomy (judged_passes 13 u.verdict refl e).1.1.0 in
      accepted u.verdict e (u.done e).frame t (omega (arith, f.same_length)) f.needed
