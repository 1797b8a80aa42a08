-- Words of outputs. Assumes nothing: these are definitions.
use Rattle.std.specs.Prelude.{ℕ}

-- a word has 16 outputs, and a file 1 to 16
abbrev pub most_outputs : ℕ
most_outputs = 16
