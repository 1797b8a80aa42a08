-- A file has one text: reading it has one answer and one character with it, and where that is success one frame, one table, one list of
-- ranks, one plan and one list. So printing it leaves one count and one buffer.
use mathlib.Core.Path.{◌≡◌, refl, sym, ap, ap₂, subst, subst₂, ◌∙◌}
use mathlib.Core.Bool.{true}
use mathlib.Core.List.{List}
use Prim.Native.Nat.{ℕ}
use native.Mathlib.Nat.{le_refl}
use Rattle.verdict.specs.declared.Answer.{Answer}
use Rattle.verdict.proofs.Order.{judged_unique}
use Rattle.show.specs.Sheet.{refusal_text}
use Rattle.show.specs.Written.{over, written}
use Rattle.std.specs.Prelude.{Result, Ok}
use Rattle.show.specs.declared.Short.{Short}
use Rattle.machine.specs.Runs.{machine_by}
use Rattle.machine.specs.declared.Frame.{Frame}
use Rattle.specification.specs.Records.{sizes_of}
use Rattle.specification.specs.Reading.{CharacterFor}
use Rattle.specification.proofs.Accepted.{table_once}
use Rattle.specification.proofs.Conditions.{character_for_only}
use Rattle.specification.proofs.Framing.{frame_only}
use Rattle.sheet.specs.Printed.{PlanText, SheetOf, refused, read, Prints}
use Rattle.sheet.proofs.Files.{planned}
use Rattle.sheet.proofs.Plans.{text_once}

pub sheet_once : {file t u : List ℕ} → SheetOf file t → SheetOf file u → t ≡ u
sheet_once {file} (refused v x n) (refused {k = k} w y o) =
    let e = judged_unique v w in
    ap₂ (λ (a : Answer) (k : ℕ). refusal_text a.number a.place k) e (character_for_only x (subst (λ (a : Answer). CharacterFor file (sizes_of file) a k) (sym e) y))
sheet_once (refused v x n) (read w j u y) = absurd (n (ap (λ (a : Answer). a.number) (judged_unique v w)))
sheet_once (read v i t x) (refused w y o) = absurd (o (ap (λ (a : Answer). a.number) (judged_unique w v)))
sheet_once {file} (read v i t x) (read {text = text} w j u y) =
    text_once (planned v i t (le_refl _)).checked.sound x
    (subst₂ (λ (f : Frame) table. PlanText (machine_by true f table) text) (frame_only j i) (table_once v refl u t) y)

pub only : {file : List ℕ} {n k : ℕ} {before a b : List ℕ} → Prints (SheetOf file) n before a → Prints (SheetOf file) k before b → (n ≡ k) × (a ≡ b)
only {n = n} {k = k} {before} x y =
    let e = sheet_once x.is y.is in
    let f : ◌≡◌ {A = Result ℕ Short} (Ok n) (Ok k) = x.writes.answered ∙ ap (λ (t : List ℕ). written t before) e ∙ sym y.writes.answered in
    (cc, x.writes.bytes ∙ ap (λ (t : List ℕ). over t before) e ∙ sym y.writes.bytes)
