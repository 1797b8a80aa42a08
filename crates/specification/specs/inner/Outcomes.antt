-- What reading comes to before the records are handed on.
use Rattle.std.specs.Prelude.{◌≡◌, List, ℕ, ◌≤◌, Result, Ok, Err}
use Rattle.verdict.specs.Refusals.{number_of, refused_by}
use Rattle.specification.specs.Records.{sizes_of}
use Rattle.specification.specs.Reading.{refusal_of, ReadHere}
use Rattle.specification.specs.declared.Contents.{Contents}
use Rattle.specification.specs.declared.answers.Reading.{Reading}
use Rattle.specification.specs.declared.answers.Refused.{Refused}

-- what C is answered
abbrev pub read_of : Reading → Contents
read_of r =
    record { answer = record { number = 0; place = 0 }; character = 0; outputs = r.specification.z.outputs; evolutions = r.specification.z.evolutions; frame = r.frame }

abbrev pub refused_of : Refused → Contents
refused_of e = refusal_of (refused_by e.refusal) e.character

abbrev pub contents_of : Result Reading Refused → Contents
contents_of (Ok r) = read_of r
contents_of (Err e) = refused_of e

-- the records that a file hands on: those of its evolutions
pub record Hands (file : List ℕ) (room : ℕ) (r : Reading) : Type 0 where
  pub of : r.specification.file.now ≡ file
  pub fits : (sizes_of file).evolutions ≤ room

-- or so many zero records: none after 1 to 3
pub record Blanks (file : List ℕ) (room : ℕ) (e : Refused) : Type 0 where
  pub none : number_of e.refusal ≤ 3 → e.blanks ≡ 0
  pub all : 4 ≤ number_of e.refusal → e.blanks ≡ (sizes_of file).evolutions
  pub fits : e.blanks ≤ room

abbrev pub Ready : List ℕ → ℕ → Result Reading Refused → Type 0
Ready file room (Ok r) = Hands file room r
Ready file room (Err e) = Blanks file room e

pub record CoreAs (file table₀ words₀ : List ℕ) (room : ℕ) (r : Result Reading Refused) (table₁ words₁ : List ℕ) : Type 0 where
  pub here : ReadHere file table₀ words₀ room (contents_of r) table₁ words₁
  pub ready : Ready file room r
