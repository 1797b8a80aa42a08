-- Sizes and records (document 01, "Specification file"; document 02, ticket 8): refusals 2, 4, 6 and 7. Assumes nothing: these are definitions.
use Rattle.std.specs.Prelude.{◌≡◌, cond, List, ℕ, ◌+◌, ◌*◌, ◌-◌, ◌/◌, ◌^◌, ◌≤◌, ◌<◌, get_or}
use Rattle.machine.specs.Limits.{most_inputs, most_states}
use Rattle.basics.specs.Words.{most_outputs}
use Rattle.verdict.specs.Below.{sum_to}
use Rattle.specification.specs.Limits.{most_evolutions, most_text}
use Rattle.specification.specs.File.{two_at, rests_of, count_of, length_of, start_of, kinds}
use Rattle.specification.specs.declared.records.Sizes.{Sizes}

-- kind 1: inputs, outputs, states, initial state; kind 3: three bytes an evolution; the records begin with kind 2; bodies beyond kind 4;
-- the first record that has a condition: the first state's, or in a file without rest conditions the first evolution's
abbrev pub sizes_of : List ℕ → Sizes
sizes_of file =
    record {
      inputs = get_or file (start_of file 0) 0;
      outputs = get_or file (start_of file 0 + 1) 0;
      states = get_or file (start_of file 0 + 2) 0;
      initial = get_or file (start_of file 0 + 3) 0;
      evolutions = length_of file 2 / 3;
      first = start_of file 1;
      more = count_of file - kinds;
      worded = cond (rests_of file) 0 (get_or file (start_of file 0 + 2) 0);
    }

-- settings, couples
abbrev pub settings : Sizes → ℕ
settings z = 2 ^ z.inputs

abbrev pub couples : Sizes → ℕ
couples z = z.states * settings z

-- records are numbered from 0, states first, then evolutions; each has three bytes
abbrev pub records : Sizes → ℕ
records z = z.states + z.evolutions

abbrev pub record_at : Sizes → ℕ → ℕ
record_at z r = z.first + 3 * r

abbrev pub byte_of : List ℕ → Sizes → ℕ → ℕ → ℕ
byte_of file z r k = get_or file (record_at z r + k) 0

-- of a state: output word (two bytes), length of its rest condition
abbrev pub word : List ℕ → Sizes → ℕ → ℕ
word file z r = two_at file (record_at z r)

-- of an evolution: source, target, length of its condition
abbrev pub source : List ℕ → Sizes → ℕ → ℕ
source file z r = byte_of file z r 0

abbrev pub target : List ℕ → Sizes → ℕ → ℕ
target file z r = byte_of file z r 1

abbrev pub text_length : List ℕ → Sizes → ℕ → ℕ
text_length file z r = byte_of file z r 2

-- each size in its range, the initial state below S
pub record Ranges (z : Sizes) : Type 0 where
  pub some_input : 1 ≤ z.inputs
  pub few_inputs : z.inputs ≤ most_inputs
  pub some_output : 1 ≤ z.outputs
  pub few_outputs : z.outputs ≤ most_outputs
  pub some_state : 1 ≤ z.states
  pub few_states : z.states ≤ most_states
  pub begins : z.initial < z.states
  pub few_evolutions : z.evolutions ≤ most_evolutions

-- refusal 2 does not apply: the sizes, kind 2 has 3 × S bytes, a state without a rest condition has the length zero, the condition
-- lengths sum to kind 4, a body beyond has at most 255 bytes
pub record Sized (file : List ℕ) : Type 0 where
  pub ranges : Ranges (sizes_of file)
  pub states : length_of file 1 ≡ 3 * (sizes_of file).states
  pub empty : (s : ℕ) → s < (sizes_of file).worded → text_length file (sizes_of file) s ≡ 0
  pub texts : sum_to (text_length file (sizes_of file)) (records (sizes_of file)) ≡ length_of file 3
  pub bodies : (k : ℕ) → kinds ≤ k → k < count_of file → length_of file k ≤ most_text

-- record r is an evolution
pub record Evolves (z : Sizes) (r : ℕ) : Type 0 where
  pub after : z.states ≤ r
  pub below : r < records z

-- refusal 4: record r has an output bit beyond the outputs, or a state not below S
pub data Beyond (file : List ℕ) (z : Sizes) (r : ℕ) : Type 0 where
  output_beyond : r < z.states → 2 ^ z.outputs ≤ word file z r → Beyond file z r
  source_beyond : Evolves z r → z.states ≤ source file z r → Beyond file z r
  target_beyond : Evolves z r → z.states ≤ target file z r → Beyond file z r

-- refusal 6: record r is an evolution to its own source
pub record Own (file : List ℕ) (z : Sizes) (r : ℕ) : Type 0 where
  pub evolves : Evolves z r
  pub loops : target file z r ≡ source file z r

-- refusal 7: record r has the source and target of an earlier evolution
pub record Twice (file : List ℕ) (z : Sizes) (r : ℕ) : Type 0 where
  pub evolves : Evolves z r
  pub earlier : ℕ
  pub before : earlier < r
  pub evolved : Evolves z earlier
  pub from : source file z earlier ≡ source file z r
  pub to : target file z earlier ≡ target file z r
