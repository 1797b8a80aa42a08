-- Settings that a frame rules out, and its allowed starts, over what is left in a rank buffer and at the front of a plan buffer. Assumes
-- nothing: these are definitions.
use Rattle.std.specs.Prelude.{◌≡◌, true, List, ◌∷◌, ℕ, ◌<◌, get_or}
use Rattle.machine.specs.Limits.{unmarked}
use Rattle.machine.specs.Lists.{In}
use Rattle.machine.specs.Runs.{startable, machine_of, RuledOut, couples, visits}
use Rattle.machine.specs.Plans.{runs_in}
use Rattle.machine.specs.declared.Frame.{Frame}

-- the ranks hold 65,535 for each couple of a setting that is ruled out
abbrev pub RanksKeepOff : Frame → List ℕ → List ℕ → Type 0
RanksKeepOff f table ranks = (c : ℕ) → c < couples (machine_of f table) → RuledOut f c → get_or ranks c 0 ≡ unmarked

-- they do, no run that the bytes hold visits such a couple, and each starts at an allowed start
pub record KeepsOff (f : Frame) (table ranks bytes : List ℕ) : Type 0 where
  pub unranked : RanksKeepOff f table ranks
  pub unvisited : (vs : List ℕ) → In vs (runs_in bytes) → (c : ℕ) → RuledOut f c → In c (visits (machine_of f table) vs) → ⊥
  pub allowed : (v : ℕ) (vs : List ℕ) → In (v ∷ vs) (runs_in bytes) → startable f v ≡ true
