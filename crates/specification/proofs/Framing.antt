-- The frame of a file is one: its sizes are the file's, and so are the sets of the settings that are never used and of the allowed starts.
use mathlib.Core.Path.{◌≡◌, sym, ap, ap₂, ◌∙◌}
use mathlib.Core.List.{List}
use Prim.Native.Nat.{ℕ}
use Rattle.sets.proofs.Arrays.{set_of_only}
use Rattle.machine.specs.declared.Frame.{Frame}
use Rattle.specification.specs.Rules.{FrameOf}
use Rattle.specification.specs.declared.records.Sizes.{Sizes}

-- it is that of the file's sizes and its sets
abbrev pub framed : Sizes → List ℕ → List ℕ → Frame
framed z never starts = record { inputs = z.inputs; states = z.states; initial = z.initial; never = never; starts = starts }

pub framed_is : {file : List ℕ} {z : Sizes} {f : Frame} → FrameOf file z f → f ≡ framed z f.never f.starts
framed_is {z = z} {f} x =
    ap₂ (λ (i s : ℕ). record { inputs = i; states = s; initial = f.initial; never = f.never; starts = f.starts }) x.inputs x.states
    ∙ ap (λ (b : ℕ). record { inputs = z.inputs; states = z.states; initial = b; never = f.never; starts = f.starts }) x.initial

pub frame_only : {file : List ℕ} {z : Sizes} {f g : Frame} → FrameOf file z f → FrameOf file z g → f ≡ g
frame_only {z = z} x y = framed_is x ∙ ap₂ (framed z) (set_of_only x.never y.never) (set_of_only x.starts y.starts) ∙ sym (framed_is y)
