-- `read_core` joins the shape and the rules: the sizes that it reads are those of the file.
use mathlib.Core.Path.{refl}
use Rattle.specification.proofs.Outcomes.{early, rooms, late_read, good_read}
use Rattle.specification.proofs.reading.read_core.Goals as goal

pub returns-in-Err : goal.returns-in-Err
returns-in-Err c = early _ _ _ _ c.in-Err.refusal c.in-Err.ensures.judged

pub read_sound-requires : goal.read_sound-requires
read_sound-requires c = let k = rooms _ _ _ _ c.in-Ok.ensures.judged refl c.in-Ok.ensures.file c.in-Ok.specification.read in (c.frame-frame.ensures, k.0, k.1)

pub returns-in-Ok-read_sound : goal.returns-in-Ok-read_sound
returns-in-Ok-read_sound c = good_read _ _ _ _ c.in-Ok.ensures.judged refl c.in-Ok.ensures.file c.in-Ok.specification.read _ refl refl c.frame-frame.ensures c.in-Ok-read_sound.ensures

pub returns-in-Err-read_sound : goal.returns-in-Err-read_sound
returns-in-Err-read_sound c = late_read _ _ _ _ c.in-Ok.ensures.judged refl c.in-Ok.ensures.file c.in-Ok.specification.read c.in-Err-read_sound.refusal c.in-Err-read_sound.ensures c.character.ensures
