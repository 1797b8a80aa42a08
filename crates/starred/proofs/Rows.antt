-- The starred rows, all of them: those on files from the trees of their texts, those on tables from lists that pass a certificate, those on
-- conditions from crate condition.
use mathlib.Core.Path.{refl}
use mathlib.Core.List.{[], ◌∷◌}
use lib.ListN.{get_or}
use lib.Dec.{lit<, lit≤}
use Rattle.condition.proofs.Examples.{and_before_or, not_before_and}
use Rattle.machine.specs.inner.Model.{among, visited, planned}
use Rattle.machine.specs.Runs.{Starts}
use Rattle.machine.proofs.Shortest.{followed_run}
use Rattle.machine.proofs.Plans.{listed_plan}
use Rattle.machine.proofs.Soundness.{sound_states, sound_calm}
use Rattle.verdict.proofs.Order.{pass, halt, long}
use Rattle.verdict.proofs.Tests.{meets, whole}
use Rattle.starred.specs.Rows.{lamp_table, gate_table, gate, RunRefused, Rows}
use Rattle.starred.proofs.Machines.{is_rank, not_marked, lamp_sound, lamp_listed, gate_sound, gate_parents, gate_listed}
use Rattle.starred.proofs.Files.{lamp_read, lamp_table_lem, lamp_frame_lem, gate_read, gate_moves, gate_frame_lem, closed_refused, two_refused}

-- the gate passes the checks of marking, and couple 19 is a couple that is not marked
gate_19 : RunRefused gate 19 15 0
unfolding gate_table
gate_19 ranks run h =
    let start : Starts gate 8 = record { below = lit< tt; rests = refl; allowed = refl } in
    pass (meets (record { some_input = lit≤ tt; few_inputs = lit≤ tt; few_states = lit≤ tt; begins = lit< tt }))
    (pass (long (lit≤ tt))
    (pass (long h)
    (pass (sound_states gate_sound)
    (pass (sound_calm gate_sound)
    (pass (meets (8, start))
    (pass (meets (lit< tt)) (halt (whole (not_marked (gate_listed.rank 19 (lit< tt)))))))))))

pub rows : Rows
unfolding lamp_table gate_table among visited planned
rows = record {
  lamp_table_lem = (lamp_read, lamp_table_lem, lamp_frame_lem);
  lamp_ranks_lem = record { whole = refl; each = lamp_listed.rank };
  lamp_plan_lem = ((0 ∷ []) ∷ (0 ∷ 1 ∷ []) ∷ (0 ∷ 1 ∷ 0 ∷ []) ∷ [], listed_plan lamp_sound _ _ lamp_listed, refl);
  gate_moves = (gate_read, gate_moves, gate_frame_lem, refl, refl, refl);
  gate_run = followed_run gate_sound (λ d. get_or gate_parents d 0) gate_listed.parent 3 44 (is_rank (gate_listed.rank 44 (lit< tt)) (lit< tt));
  gate_unmarked = gate_19;
  and_before_or = and_before_or;
  not_before_and = not_before_and;
  two_rules = two_refused;
  closed_gate = closed_refused;
}
