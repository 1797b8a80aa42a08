-- Rules and moves (document 01, "Moves and soundness"; document 02, ticket 8): refusals 5, 8 and 9, the table, and the frame. Assumes
-- nothing: these are definitions.
use Rattle.std.specs.Prelude.{◌≡◌, cond, List, ℕ, ◌+◌, ◌-◌, ◌≤◌, ◌<◌, length, get_or, take, drop, ltb}
use Rattle.condition.specs.Condition.{Reads, Holds}
use Rattle.sets.specs.Sets.{words, SetOf}
use Rattle.machine.specs.Couples.{Couple}
use Rattle.machine.specs.declared.Frame.{Frame}
use Rattle.specification.specs.File.{kinds, never_kind, starts_kind, body_of, EntryOf, Has}
use Rattle.verdict.specs.Below.{sum_to}
use Rattle.specification.specs.Records.{sizes_of, settings, couples, records, record_at, source, target, text_length, Evolves}
use Rattle.specification.specs.declared.records.Sizes.{Sizes}

-- kind 4 follows the records: the condition texts, states first, then evolutions, end to end
abbrev pub texts_at : Sizes → ℕ
texts_at z = record_at z (records z)

abbrev pub text_at : List ℕ → Sizes → ℕ → ℕ
text_at file z r = texts_at z + sum_to (text_length file z) r

abbrev pub text_of : List ℕ → Sizes → ℕ → List ℕ
text_of file z r = take (text_length file z r) (drop (text_at file z r) file)

-- the conditions of a file: those of the records, then each body beyond kind 4, numbered on
abbrev pub conditions : Sizes → ℕ
conditions z = records z + z.more

unfoldable pub condition_of : List ℕ → Sizes → ℕ → List ℕ
condition_of file z r = cond (ltb r (records z)) (text_of file z r) (body_of file (kinds + (r - records z)))

-- refusal 5: condition r does not read; a state without a rest condition is not asked
pub record Unreads (file : List ℕ) (z : Sizes) (r : ℕ) : Type 0 where
  pub below : r < conditions z
  pub worded : z.worded ≤ r
  pub unread : Reads z.inputs (condition_of file z r) → ⊥

-- no evolution from s holds at v
pub record Idle (file : List ℕ) (z : Sizes) (s v : ℕ) : Type 0 where
  pub none : (r : ℕ) → Evolves z r → source file z r ≡ s → Holds z.inputs v (text_of file z r) → ⊥

-- record r holds at v: its condition does, or, of a state without a rest condition, no evolution from it does
pub data HoldsAt (file : List ℕ) (z : Sizes) (v r : ℕ) : Type 0 where
  by_text : z.worded ≤ r → Holds z.inputs v (text_of file z r) → HoldsAt file z v r
  by_rest : r < z.worded → Idle file z r v → HoldsAt file z v r

-- each record is a rule of one state and leads to one: a state's of itself to itself, an evolution of its source to its target
unfoldable pub rule_of : List ℕ → Sizes → ℕ → ℕ
rule_of file z r = cond (ltb r z.states) r (source file z r)

unfoldable pub leads_to : List ℕ → Sizes → ℕ → ℕ
leads_to file z r = cond (ltb r z.states) r (target file z r)

-- record r is a rule of s, and holds at v
pub record Fires (file : List ℕ) (z : Sizes) (s v r : ℕ) : Type 0 where
  pub below : r < records z
  pub rule : rule_of file z r ≡ s
  pub holds : HoldsAt file z v r

-- two different numbers are F
pub record Two (F : ℕ → Type 0) : Type 0 where
  pub low : ℕ
  pub high : ℕ
  pub differ : low < high
  pub one : F low
  pub other : F high

-- refusal 8: two rules hold at the couple p, at so many settings
pub record TwoRules (file : List ℕ) (z : Sizes) (settings p : ℕ) : Type 0 where
  pub s : ℕ
  pub v : ℕ
  pub couple : Couple z.states settings s v p
  pub two : Two (Fires file z s v)

-- refusal 9: no rule holds at the couple p
pub record NoRule (file : List ℕ) (z : Sizes) (settings p : ℕ) : Type 0 where
  pub s : ℕ
  pub v : ℕ
  pub couple : Couple z.states settings s v p
  pub none : (r : ℕ) → Fires file z s v r → ⊥

-- the move at (s, v) is t, the target of a rule that holds
pub record Moves (file : List ℕ) (z : Sizes) (s v t : ℕ) : Type 0 where
  pub rule : ℕ
  pub fires : Fires file z s v rule
  pub leads : leads_to file z rule ≡ t

-- x is the move of the couple p
pub record MoveAt (file : List ℕ) (z : Sizes) (settings p x : ℕ) : Type 0 where
  pub move : (s v : ℕ) → Couple z.states settings s v p → Moves file z s v x

-- the table of a file: the move of each couple
pub record TableOf (file table : List ℕ) : Type 0 where
  pub whole : length table ≡ couples (sizes_of file)
  pub each : (p : ℕ) → p < couples (sizes_of file) → MoveAt file (sizes_of file) (settings (sizes_of file)) p (get_or table p 0)

-- there is a body of a kind, and its condition holds at v
pub record HoldsIn (file : List ℕ) (z : Sizes) (kind v : ℕ) : Type 0 where
  pub entry : ℕ
  pub of : EntryOf file kind entry
  pub holds : Holds z.inputs v (body_of file entry)

-- the setting v is never used: kind 5 holds there
abbrev pub Never : List ℕ → Sizes → ℕ → Type 0
Never file z v = HoldsIn file z never_kind v

-- the setting v is an allowed start: kind 6 holds there, or without kind 6 it is setting 0
pub data Allowed (file : List ℕ) (z : Sizes) (v : ℕ) : Type 0 where
  said : HoldsIn file z starts_kind v → Allowed file z v
  power_up : (Has file starts_kind → ⊥) → v ≡ 0 → Allowed file z v

-- a run may start at an allowed start that kind 5 does not rule out
abbrev pub MayStart : List ℕ → Sizes → ℕ → Type 0
MayStart file z v = Allowed file z v × (Never file z v → ⊥)

-- the frame of a file: its sizes, the set of the settings that are never used, and that of the allowed starts
pub record FrameOf (file : List ℕ) (z : Sizes) (f : Frame) : Type 0 where
  pub inputs : f.inputs ≡ z.inputs
  pub states : f.states ≡ z.states
  pub initial : f.initial ≡ z.initial
  pub never : SetOf words (settings z) (Never file z) f.never
  pub starts : SetOf words (settings z) (Allowed file z) f.starts

-- exactly one rule of s holds at v, and x is its target
pub record OneRule (file : List ℕ) (z : Sizes) (s v x : ℕ) : Type 0 where
  pub rule : ℕ
  pub fires : Fires file z s v rule
  pub only : (r : ℕ) → Fires file z s v r → r ≡ rule
  pub leads : leads_to file z rule ≡ x
