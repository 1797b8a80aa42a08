-- Sizes of a file (document 01, "The ground"); inputs and states are those of a machine, outputs those of a word. Assumes nothing: these are definitions.
use Rattle.std.specs.Prelude.{ℕ}

-- at most 992 evolutions
abbrev pub most_evolutions : ℕ
most_evolutions = 992

-- files up to 65,535 bytes
abbrev pub most_bytes : ℕ
most_bytes = 65535

-- conditions up to 255 bytes
abbrev pub most_text : ℕ
most_text = 255

-- what a refusal by 4 to 13 leaves in the needed table bytes, and in the needed words
abbrev pub blank_move : ℕ
blank_move = 255

abbrev pub blank_word : ℕ
blank_word = 65535
