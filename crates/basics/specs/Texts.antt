-- Texts of ASCII characters. Assumes nothing: these are definitions.
use Rattle.std.specs.Prelude.{ℕ, List, [], ◌∷◌}
use Prim.Native.Char.{code}
use Prim.Native.String.{String, [] as none, ◌∷◌ as ◌then◌}

-- the bytes of a text
abbrev pub letters : String → List ℕ
letters none = []
letters (c then text) = code c ∷ letters text
