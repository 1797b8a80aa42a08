-- The contents of a file (document 01, "Specification file"): refusal 1. Assumes nothing: these are definitions.
use Rattle.std.specs.Prelude.{◌≡◌, Bool, cond, List, [], ◌∷◌, ℕ, zero, suc, ◌+◌, ◌*◌, ◌%◌, ◌≤◌, ◌<◌, length, get_or, take, drop, eqb}
use Prim.Native.Char.{code}
use Rattle.specification.specs.Limits.{most_bytes}

-- a number of two bytes, low byte first
abbrev pub two_at : List ℕ → ℕ → ℕ
two_at file at = get_or file at 0 + 256 * get_or file (at + 1) 0

-- the four letters SEQ1, of a file with rest conditions, or SEQ2, of one without
abbrev pub mark : Bool → List ℕ
mark rests = code "S" ∷ code "E" ∷ code "Q" ∷ cond rests (code "1") (code "2") ∷ []

-- the fourth of them tells which
abbrev pub rests_of : List ℕ → Bool
rests_of file = eqb (get_or file 3 0) (code "1")

-- then a byte, the number of entries
abbrev pub count_of : List ℕ → ℕ
count_of file = get_or file 4 0

-- then the entries, five bytes each: kind, offset, length
abbrev pub entry_at : ℕ → ℕ
entry_at k = 5 + 5 * k

abbrev pub kind_of : List ℕ → ℕ → ℕ
kind_of file k = get_or file (entry_at k) 0

abbrev pub offset_of : List ℕ → ℕ → ℕ
offset_of file k = two_at file (entry_at k + 1)

abbrev pub length_of : List ℕ → ℕ → ℕ
length_of file k = two_at file (entry_at k + 3)

-- the first body starts where the entries end, at 5 + 5 × count, each next one where the last ended
unfoldable pub start_of : List ℕ → ℕ → ℕ
start_of file zero = entry_at (count_of file)
start_of file (suc k) = start_of file k + length_of file k

-- the body of entry k
abbrev pub body_of : List ℕ → ℕ → List ℕ
body_of file k = take (length_of file k) (drop (start_of file k) file)

-- kinds 1 to 4 are always there
abbrev pub kinds : ℕ
kinds = 4

-- kind 5, the settings that are never used, and kind 6, the allowed starts, may be there, and no other
abbrev pub never_kind : ℕ
never_kind = 5

abbrev pub starts_kind : ℕ
starts_kind = 6

-- entry k is of a kind
pub record EntryOf (file : List ℕ) (kind k : ℕ) : Type 0 where
  pub there : k < count_of file
  pub is : kind_of file k ≡ kind

-- the file has a body of a kind
abbrev pub Has : List ℕ → ℕ → Type 0
Has file kind = (k : ℕ) × EntryOf file kind k

-- neither too long nor too short; mark and count
pub record Headed (file : List ℕ) : Type 0 where
  pub few : length file ≤ most_bytes
  pub marked : take 4 file ≡ mark (rests_of file)
  pub count : kinds ≤ count_of file
  pub enough : entry_at (count_of file) ≤ length file

-- kinds rising, 1 to 4 among them, none beyond 6; bodies end to end, the last ends with the file
pub record Entries (file : List ℕ) : Type 0 where
  pub always : (k : ℕ) → k < kinds → kind_of file k ≡ k + 1
  pub rising : (k : ℕ) → suc k < count_of file → kind_of file k < kind_of file (suc k)
  pub known : (k : ℕ) → k < count_of file → kind_of file k ≤ starts_kind
  pub offset : (k : ℕ) → k < count_of file → offset_of file k ≡ start_of file k
  pub ends : start_of file (count_of file) ≡ length file

-- kind 1 has 4 bytes, kinds 2 and 3 a multiple of 3
pub record Measured (file : List ℕ) : Type 0 where
  pub sizes : length_of file 0 ≡ 4
  pub states : length_of file 1 % 3 ≡ 0
  pub evolutions : length_of file 2 % 3 ≡ 0

-- refusal 1 does not apply
pub record WellFormed (file : List ℕ) : Type 0 where
  pub headed : Headed file
  pub entries : Entries file
  pub measured : Measured file
