-- The lamp, the lamp with `1` as the rest of state 0, and the gate with and without kind 6: the trees of their texts, the rule of each
-- couple, and so the verdict of reading them, and their frames.
use mathlib.Core.Path.{◌≡◌, refl, subst}
use mathlib.Core.Bool.{true}
use mathlib.Core.List.{List, [], ◌∷◌}
use Prim.Native.Nat.{ℕ, zero, suc, ◌-◌, ◌^◌, ◌<◌}
use native.Mathlib.Omega.{arith}
use lib.Dec.{eqb, lit<, lit≤}
use Rattle.verdict.proofs.Order.{halt}
use Rattle.verdict.proofs.Tests.{it_holds, decides_map, decides_equal}
use Rattle.condition.specs.Grammar.{condition, Tree, one, more, bang, paren, on, input, text, opened, holds}
use Rattle.machine.specs.Moves.{Reached, start, step, table_moves}
use Rattle.verdict.specs.Below.{every}
use Rattle.specification.specs.File.{start_of, never_kind, starts_kind}
use Rattle.verdict.specs.Below.{sum_to}
use Rattle.specification.specs.Records.{sizes_of}
use Rattle.specification.specs.Rules.{condition_of, rule_of, leads_to, TableOf, power_up, FrameOf}
use Rattle.specification.specs.Before.{AnyStart}
use Rattle.specification.proofs.Optional.{none_never, zero_allowed, any_allowed}
use Rattle.starred.specs.Files.{lamp_with, lamp_file, two_rules_file, gate_file, closed_gate_file}
use Rattle.starred.specs.Rows.{lamp_table, gate_table, lamp_frame, gate_frame, Answered}
use Rattle.starred.proofs.Machines.{lamp_sound, gate_sound}
use Rattle.starred.proofs.Records.{none_of, none_same}
use Rattle.starred.proofs.Rules.{spelling, fires, none_two, Ruled, ruled}
use Rattle.starred.proofs.Reading.{Shaped, shape, shaped, succeeds, no_start}
use Rattle.starred.proofs.Frames.{framed}

-- `a` and `!a`
lit : Tree condition
lit = one (one (input 0))

unlit : Tree condition
unlit = one (one (bang (input 0)))

-- the lamp
abbrev lamp_trees : List (Tree condition)
lamp_trees = unlit ∷ lit ∷ lit ∷ unlit ∷ []

lamp_spelt : spelling lamp_file lamp_trees ≡ true
unfolding spelling condition_of lamp_with start_of sum_to lit unlit text opened every
lamp_spelt = refl

lamp_shaped : Shaped lamp_file
unfolding lamp_with start_of sum_to every
lamp_shaped = shape lamp_file lamp_trees lamp_spelt refl refl refl refl

-- state 0 rests by record 0 and moves by record 2, state 1 moves by record 3 and rests by record 1
lamp_ruled : Ruled lamp_file lamp_table
unfolding lamp_with lamp_table start_of lit unlit holds rule_of leads_to every
lamp_ruled = ruled lamp_file lamp_trees lamp_spelt (0 ∷ 2 ∷ 3 ∷ 1 ∷ []) lamp_table refl refl refl lamp_sound.closed

lamp_reached : (s : ℕ) → s < 2 → Reached (table_moves lamp_table 2) 2 0 s
unfolding lamp_table
lamp_reached zero h = start
lamp_reached (suc zero) h = step 1 start (lit< tt) refl
lamp_reached (suc (suc s)) h = absurd (omega arith)

pub lamp_read : Answered lamp_file 0 0
unfolding lamp_with lamp_table start_of every
lamp_read = succeeds lamp_shaped _ lamp_sound lamp_ruled (none_same lamp_file refl) lamp_reached 0
    (record { below = lit< tt; rests = refl; allowed = (power_up (none_of lamp_file starts_kind refl) refl, none_never (none_of lamp_file never_kind refl)) })

pub lamp_table_lem : TableOf lamp_file lamp_table
unfolding lamp_with lamp_table start_of
lamp_table_lem = record { whole = refl; each = lamp_ruled.moves }

pub lamp_frame_lem : FrameOf lamp_file (sizes_of lamp_file) lamp_frame
unfolding lamp_with start_of every
lamp_frame_lem = framed lamp_file (lit≤ tt) (none_of lamp_file never_kind refl) 1 (lit< tt) (λ v. eqb v 0)
    (λ v. decides_map (power_up (none_of lamp_file starts_kind refl)) (zero_allowed (none_of lamp_file starts_kind refl)) (decides_equal v 0)) refl

-- the lamp with `1` as the rest of state 0
abbrev two_trees : List (Tree condition)
two_trees = one (one on) ∷ lit ∷ lit ∷ unlit ∷ []

two_spelt : spelling two_rules_file two_trees ≡ true
unfolding spelling condition_of lamp_with start_of sum_to lit unlit text opened every
two_spelt = refl

two_shaped : Shaped two_rules_file
unfolding lamp_with start_of sum_to every
two_shaped = shape two_rules_file two_trees two_spelt refl refl refl refl

-- at couple 0 record 0 alone holds, at couple 1 records 0 and 2 do
pub two_refused : Answered two_rules_file 8 1
unfolding lamp_with start_of lit unlit holds rule_of every
two_refused = shaped two_shaped (halt (record {
  here = record {
    s = 0;
    v = 1;
    couple = record { state = lit< tt; setting = lit< tt; number = refl };
    two = record {
      low = 0;
      high = 2;
      differ = lit< tt;
      one = fires two_rules_file two_trees two_spelt 0 1 0 (lit< tt) refl;
      other = fires two_rules_file two_trees two_spelt 0 1 2 (lit< tt) refl;
    };
  };
  first = none_two two_rules_file two_trees two_spelt 1 (0 ∷ []) refl;
}))

-- the gate: from states 0 and 1 to 0, `c.(b+a)+d.!b`; to 1, `!d.!b.!a`; to 2, `!c.(b+!d.a)`
to_0 : Tree condition
to_0 = more (more (input 2) (one (paren (more (one (input 1)) (one (one (input 0))))))) (one (more (input 3) (one (bang (input 1)))))

to_1 : Tree condition
to_1 = one (more (bang (input 3)) (more (bang (input 1)) (one (bang (input 0)))))

to_2 : Tree condition
to_2 = one (more (bang (input 2)) (one (paren (more (one (input 1)) (one (more (bang (input 3)) (one (input 0))))))))

-- from state 2 to 2, `!c`; to 0, `c.(d+b+a)`; to 1, `!d.c.!b.!a`
from_2_to_2 : Tree condition
from_2_to_2 = one (one (bang (input 2)))

from_2_to_0 : Tree condition
from_2_to_0 = one (more (input 2) (one (paren (more (one (input 3)) (more (one (input 1)) (one (one (input 0))))))))

from_2_to_1 : Tree condition
from_2_to_1 = one (more (bang (input 3)) (more (input 2) (more (bang (input 1)) (one (bang (input 0))))))

abbrev gate_trees : List (Tree condition)
gate_trees = to_0 ∷ to_1 ∷ from_2_to_2 ∷ to_1 ∷ to_2 ∷ to_0 ∷ to_2 ∷ from_2_to_0 ∷ from_2_to_1 ∷ one (one on) ∷ []

gate_spelt : spelling gate_file gate_trees ≡ true
unfolding spelling condition_of gate_file start_of sum_to to_0 to_1 to_2 from_2_to_2 from_2_to_0 from_2_to_1 text opened every
gate_spelt = refl

gate_shaped : Shaped gate_file
unfolding gate_file start_of sum_to every
gate_shaped = shape gate_file gate_trees gate_spelt refl refl refl refl

-- the rule that holds at each couple
abbrev gate_rules : List ℕ
gate_rules =
    3 ∷ 4 ∷ 4 ∷ 4 ∷ 3 ∷ 0 ∷ 0 ∷ 0 ∷ 0 ∷ 0 ∷ 4 ∷ 4 ∷ 0 ∷ 0 ∷ 0 ∷ 0
    ∷ 1 ∷ 6 ∷ 6 ∷ 6 ∷ 1 ∷ 5 ∷ 5 ∷ 5 ∷ 5 ∷ 5 ∷ 6 ∷ 6 ∷ 5 ∷ 5 ∷ 5 ∷ 5
    ∷ 2 ∷ 2 ∷ 2 ∷ 2 ∷ 8 ∷ 7 ∷ 7 ∷ 7 ∷ 2 ∷ 2 ∷ 2 ∷ 2 ∷ 7 ∷ 7 ∷ 7 ∷ 7 ∷ []

gate_ruled : Ruled gate_file gate_table
unfolding gate_file gate_table start_of to_0 to_1 to_2 from_2_to_2 from_2_to_0 from_2_to_1 holds rule_of leads_to every
gate_ruled = ruled gate_file gate_trees gate_spelt gate_rules gate_table refl refl refl gate_sound.closed

gate_reached : (s : ℕ) → s < 3 → Reached (table_moves gate_table 16) 16 0 s
unfolding gate_table
gate_reached zero h = start
gate_reached (suc zero) h = step 0 start (lit< tt) refl
gate_reached (suc (suc zero)) h = step 1 start (lit< tt) refl
gate_reached (suc (suc (suc s))) h = absurd (omega arith)

-- the kind 6 `1`
gate_any : AnyStart gate_file
unfolding gate_file start_of
gate_any = record { entry = 4; of = record { there = lit< tt; is = refl }; text = refl }

pub gate_read : Answered gate_file 0 0
unfolding gate_file gate_table start_of every
gate_read = succeeds gate_shaped _ gate_sound gate_ruled (none_same gate_file refl) gate_reached 5
    (record { below = lit< tt; rests = refl; allowed = (any_allowed gate_any, none_never (none_of gate_file never_kind refl)) })

pub gate_moves : TableOf gate_file gate_table
unfolding gate_file gate_table start_of
gate_moves = record { whole = refl; each = gate_ruled.moves }

pub gate_frame_lem : FrameOf gate_file (sizes_of gate_file) gate_frame
unfolding gate_file start_of every
gate_frame_lem = framed gate_file (lit≤ tt) (none_of gate_file never_kind refl) (2 ^ 16 - 1) (lit< tt) (λ v. true) (λ v. it_holds (any_allowed gate_any)) refl

-- the gate without kind 6: setting 0 is the only start, and state 0 does not rest there
closed_spelt : spelling closed_gate_file gate_trees ≡ true
unfolding spelling condition_of closed_gate_file start_of sum_to to_0 to_1 to_2 from_2_to_2 from_2_to_0 from_2_to_1 text opened every
closed_spelt = refl

closed_shaped : Shaped closed_gate_file
unfolding closed_gate_file start_of sum_to every
closed_shaped = shape closed_gate_file gate_trees closed_spelt refl refl refl refl

closed_ruled : Ruled closed_gate_file gate_table
unfolding closed_gate_file gate_table start_of to_0 to_1 to_2 from_2_to_2 from_2_to_0 from_2_to_1 holds rule_of leads_to every
closed_ruled = ruled closed_gate_file gate_trees closed_spelt gate_rules gate_table refl refl refl gate_sound.closed

pub closed_refused : Answered closed_gate_file 13 0
unfolding closed_gate_file gate_table start_of every
closed_refused = no_start closed_shaped _ gate_sound closed_ruled (none_same closed_gate_file refl) gate_reached
    (λ v s. let e = zero_allowed (none_of closed_gate_file starts_kind refl) s.allowed.0 in omega (arith, subst (λ (v : ℕ). table_moves gate_table 16 0 v 0) e s.rests))
