-- The specification files of the starred rows, byte by byte. Assumes nothing: these are definitions.
use Rattle.std.specs.Prelude.{List, [], ◌∷◌, ◌++◌, ℕ, ◌+◌, length}
use Prim.Native.String.{String}
use Rattle.basics.specs.Texts.{letters}

-- texts end to end
abbrev pub texts : List String → List ℕ
texts [] = []
texts (t ∷ ts) = letters t ++ texts ts

-- the lamp with a text as the rest of state 0: the mark and the count; kind, offset and length of each body; inputs, outputs, states,
-- initial state; of each state the word and the length of its rest condition; of each evolution source, target and length of its
-- condition; the conditions
unfoldable pub lamp_with : String → List ℕ
lamp_with rest =
    letters "SEQ1" ++ (4
    ∷ 1 ∷ 25 ∷ 0 ∷ 4 ∷ 0
    ∷ 2 ∷ 29 ∷ 0 ∷ 6 ∷ 0
    ∷ 3 ∷ 35 ∷ 0 ∷ 6 ∷ 0
    ∷ 4 ∷ 41 ∷ 0 ∷ (4 + length (letters rest)) ∷ 0
    ∷ 1 ∷ 1 ∷ 2 ∷ 0
    ∷ 0 ∷ 0 ∷ length (letters rest)
    ∷ 1 ∷ 0 ∷ 1
    ∷ 0 ∷ 1 ∷ 1
    ∷ 1 ∷ 0 ∷ 2
    ∷ texts (rest ∷ "a" ∷ "a" ∷ "!a" ∷ []))

abbrev pub lamp_file : List ℕ
lamp_file = lamp_with "!a"

abbrev pub two_rules_file : List ℕ
two_rules_file = lamp_with "1"

-- the bodies of the gate, kinds 1 to 4
abbrev pub gate_bodies : List ℕ
gate_bodies =
    4 ∷ 2 ∷ 3 ∷ 0
    ∷ 0 ∷ 0 ∷ 12
    ∷ 1 ∷ 0 ∷ 8
    ∷ 2 ∷ 0 ∷ 2
    ∷ 0 ∷ 1 ∷ 8
    ∷ 0 ∷ 2 ∷ 11
    ∷ 1 ∷ 0 ∷ 12
    ∷ 1 ∷ 2 ∷ 11
    ∷ 2 ∷ 0 ∷ 9
    ∷ 2 ∷ 1 ∷ 10
    ∷ texts
    ("c.(b+a)+d.!b"
    ∷ "!d.!b.!a"
    ∷ "!c"
    ∷ "!d.!b.!a"
    ∷ "!c.(b+!d.a)"
    ∷ "c.(b+a)+d.!b"
    ∷ "!c.(b+!d.a)"
    ∷ "c.(d+b+a)"
    ∷ "!d.c.!b.!a"
    ∷ [])

-- the gate, with the kind 6 `1`
unfoldable pub gate_file : List ℕ
gate_file =
    letters "SEQ1" ++ (5
    ∷ 1 ∷ 30 ∷ 0 ∷ 4 ∷ 0
    ∷ 2 ∷ 34 ∷ 0 ∷ 9 ∷ 0
    ∷ 3 ∷ 43 ∷ 0 ∷ 18 ∷ 0
    ∷ 4 ∷ 61 ∷ 0 ∷ 83 ∷ 0
    ∷ 6 ∷ 144 ∷ 0 ∷ 1 ∷ 0
    ∷ gate_bodies ++ letters "1")

-- and without it
unfoldable pub closed_gate_file : List ℕ
closed_gate_file =
    letters "SEQ1" ++ (4
    ∷ 1 ∷ 25 ∷ 0 ∷ 4 ∷ 0
    ∷ 2 ∷ 29 ∷ 0 ∷ 9 ∷ 0
    ∷ 3 ∷ 38 ∷ 0 ∷ 18 ∷ 0
    ∷ 4 ∷ 56 ∷ 0 ∷ 83 ∷ 0
    ∷ gate_bodies)
