-- A file that reads makes a machine that no table job refuses: the front of the table that reading left is the table of the file.
use mathlib.Core.Path.{◌≡◌, refl, sym, ap, ap₂, subst, subst₂, ◌∙◌}
use mathlib.Core.Bool.{Bool, true}
use mathlib.Core.List.{List}
use mathlib.Core.Logic.{inl}
use Prim.Native.Nat.{ℕ, ◌*◌, ◌-◌, ◌^◌, ◌≤◌}
use native.Mathlib.Omega.{arith}
use lib.ListN.{length, take}
use lib.Seq.{get_or-take, length-take-le}
use Rattle.verdict.specs.Checks.{Passed, Judged}
use Rattle.verdict.proofs.Order.{judged_done, same_answer}
use Rattle.machine.specs.Limits.{most_inputs, most_states, most_couples}
use Rattle.machine.specs.Runs.{Machine, machine_by}
use Rattle.machine.specs.declared.Frame.{Frame}
use Rattle.machine.proofs.Sizes.{couples_few}
use Rattle.specification.specs.Limits.{most_evolutions}
use Rattle.specification.specs.Records.{sizes_of, settings, couples}
use Rattle.specification.specs.Rules.{MoveAt, TableOf, FrameOf}
use Rattle.specification.specs.Reading.{file_checks, ReadHere}
use Rattle.specification.specs.declared.Contents.{Contents}
use Rattle.specification.proofs.Accepted.{sized, accepted}
use Rattle.sheet.specs.Printed.{Answers, accepted as success, text_room, PlanText, SheetOf, read}
use Rattle.sheet.specs.inner.Steps.{Ready}

-- which changes are allowed makes no difference to whether a machine can be planned
ready_changing : (may_change : ℕ → ℕ → Bool) {m : Machine} {room : ℕ} → Ready m room
    → Ready (record { inputs = m.inputs; states = m.states; initial = m.initial; table = m.table; may_start = m.may_start; may_change = may_change }) room
ready_changing may_change y =
    let t = y.checked.tabled in
    let s = y.checked.sound in
    record {
      checked = record { tabled = record { sized = t.sized; long = t.long }; sound = record { closed = s.closed; calm = s.calm; begins = s.begins } };
      started = y.started;
      exact = y.exact;
      roomy = y.roomy;
    }

-- a table of the file makes a machine that can be planned
pub planned : {f : Frame} {file table : List ℕ} {room : ℕ} → Answers file success → FrameOf file (sizes_of file) f → TableOf file table → text_room ≤ room → Ready (machine_by true f table) room
planned {table = T} v x t h =
    let (c, s) = accepted v refl x T (omega (arith, t.whole)) t.each in
    ready_changing _ (record { checked = c; started = λ n. s.0.nowhere 0 (refl, n); exact = t.whole ∙ sym (ap₂ (λ (s n : ℕ). s * 2 ^ n) x.states x.inputs); roomy = h })

-- what reading left, with room for every table and all words
module _ {file table₀ words₀ table₁ words₁ : List ℕ} {r : Contents} (u : ReadHere file table₀ words₀ most_evolutions r table₁ words₁)
    (table-lent : length table₀ ≡ most_couples) (words-lent : length words₀ ≡ most_states) where
  pub answers : Answers file r.answer
  answers = subst₂ (λ t w. Judged (file_checks file t w most_evolutions) Passed r.answer) table-lent words-lent u.verdict

  -- so many settings were counted
  module _ (e : r.answer.number ≡ 0) {z : ℕ} (few : r.frame.inputs ≤ most_inputs → z ≡ 2 ^ r.frame.inputs) where
    succeeds : Answers file success
    succeeds = subst (Answers file) (same_answer r.answer success e (judged_done 13 answers refl e).place) answers

    are : r.frame.states * z ≡ couples (sizes_of file)
    are =
        let x = (u.done e).frame in
        ap₂ ◌*◌ x.states (few (rw x.inputs (sized answers e).few_inputs) ∙ ap (λ (n : ℕ). 2 ^ n) x.inputs)

    pub table_few : r.frame.states * z ≤ most_couples
    table_few = omega (arith, are, couples_few (sized answers e))

    pub table_reach : r.frame.states * z ≤ length table₁
    table_reach = omega (arith, table_few, (u.table.filled (inl e)).same_length)

    -- the front of the table is the table of the file
    front : TableOf file (take (r.frame.states * z - 0) table₁)
    front = record {
      whole = length-take-le (r.frame.states * z - 0) table₁ (omega (arith, table_reach)) ∙ omega (arith, are);
      each = λ p h. subst (MoveAt file (sizes_of file) (settings (sizes_of file)) p) (sym (get_or-take (r.frame.states * z - 0) table₁ p 0 (omega (arith, are))))
          ((u.table.filled (inl e)).needed p h);
    }

    pub ready : {room : ℕ} → text_room ≤ room → Ready (machine_by true r.frame (take (r.frame.states * z - 0) table₁)) room
    ready h = planned succeeds (u.done e).frame front h

    pub read_printed : {text : List ℕ} → PlanText (machine_by true r.frame (take (r.frame.states * z - 0) table₁)) text → SheetOf file text
    read_printed x = read succeeds (u.done e).frame front x
