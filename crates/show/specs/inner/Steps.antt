-- Writing a text piece by piece, counts of ranks, and the first of stored runs. Assumes nothing.
use Rattle.std.specs.Prelude.{◌≡◌, List, [], ◌∷◌, ◌++◌, ℕ, ◌+◌, ◌*◌, ◌/◌, ◌<◌, ◌≤◌, length, get_or, take, drop, Option, Some, None, Result, Ok, Err}
use Rattle.machine.specs.Limits.{most_couples}
use Rattle.show.specs.declared.Short.{Short}
use Rattle.show.specs.declared.text.Text.{Text}
use Rattle.show.specs.Sheet.{count_of}
use Rattle.show.specs.Written.{over}

-- a text is what is written so far over a buffer that was lent
pub record Holds (text lent : List ℕ) (t : Text) : Type 0 where
  pub end : t.end ≡ length text
  pub room : length text ≤ length lent
  pub bytes : t.out.now ≡ over text lent

-- the buffer lent is too short for a text, and its front stands there
pub record Cut (text lent : List ℕ) (t : Text) : Type 0 where
  pub short : length lent < length text
  pub bytes : t.out.now ≡ over text lent

-- what stands there once a text was to be written
abbrev pub After : List ℕ → List ℕ → Result (Unit {0}) Short → Text → Type 0
After text lent (Ok done) t = Holds text lent t
After text lent (Err short) t = Cut text lent t

-- the piece was to be written behind whatever stood written before
pub record Adds (piece : List ℕ) (s : Text) (r : Result (Unit {0}) Short) (t : Text) : Type 0 where
  pub same_reference : t.out.ghost_name ≡ s.out.ghost_name
  pub behind : (text lent : List ℕ) → Holds text lent s → After (text ++ piece) lent r t

-- so many ranks are counted together
abbrev pub counted : ℕ
counted = most_couples / 8

-- a list has the count of each rank below n
pub record Counted (n : ℕ) (ranks counts : List ℕ) : Type 0 where
  pub whole : length counts ≡ n
  pub each : (r : ℕ) → r < n → get_or counts r 0 ≡ count_of r ranks

-- the first run that stored bytes hold, and what stands behind it
abbrev pub first_run : List ℕ → Option (List ℕ × List ℕ)
first_run [] = None
first_run (b ∷ []) = None
first_run (low ∷ high ∷ bs) = Some (take (high * 256 + low) bs, drop (high * 256 + low) bs)
