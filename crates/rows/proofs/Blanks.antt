-- A local array of zero records, as a walk has it: what it takes to store it, to lend it as a slice, and to have the local again. The
-- list is shut, so that no proof computes its elements.
use mathlib.Core.Path.{◌≡◌, refl}
use Prim.Native.Nat.{ℕ, zero, suc}
use mathlib.Core.List.{List, [], ◌∷◌}
use lib.Dec.{T as Holds, lit<}
use lib.ListN.{length, replicate, length-replicate}
use seplogic.Ra.Ura.{Ura}
use base.Fraction.{full_share}
use mir.Syntax.{ty_array}
use mir.Val.{Val, WT, has_ty}
use base.Logic.{ent, ex}
use base.Fml.{fsep, fat}
use types.Logic.{Logic, sem}
use types.Kit.{‵, ◌$◌, ◌∵◌, !, qed, move, keep, drop, use1, fsplit, fjoin, fpick, fpack, feq_l, feq_i, rewrite, show, done}
use types.SemTy.{cells, Arr}
use types.Share.{arr_parts}
use denote.Shadow.{shadow}
use denote.Laws.{Is}
use denote.Memory.{mem, cell_at, part_at, part_of, shares}
use denote.Array.{Array, array_val, each, Array-Lawful, Array-Makes}
use denote.ArrayMemory.{Array-apart, Array-whole}
use denote.Slice.{Room}
use denote.Index.{row, whole_out, whole_in}
use denote.Steps.{owned}
use denote.Struct.Laws as LL
use Rattle.evolutions.specs.declared.Evolution.{Evolution}
use Rattle.specification.specs.Limits.{most_evolutions}
use Rattle.evolutions.specs.Evolutions.{blank}
use Rattle.evolutions.proofs.Rows.{R, val, blank_is}
use Rattle.evolutions.specs.contracts.Evolution as T
use Rattle.evolutions.proofs.Evolution.TheLaws as T'

each_is : (n : ℕ) → shadow (each Evolution R.own_val (replicate n blank) (replicate n (val blank)))
each_is zero = tt
each_is (suc n) = (blank_is, each_is n)

array_is : (n : ℕ) → Is (Array R n) (replicate n blank) (array_val (replicate n (val blank)) ∷ [])
array_is n = (replicate n (val blank), ((refl, length-replicate n blank), each_is n))

pub blanks : ℕ → List Evolution
blanks n = replicate n blank

pub blanks_length : (n : ℕ) → length (blanks n) ≡ n
unfolding blanks
blanks_length n = length-replicate n blank

pub blanks_val : ℕ → Val
blanks_val n = array_val (replicate n (val blank))

pub val_is : (n : ℕ) → array_val (replicate n (val blank)) ≡ blanks_val n
unfolding blanks_val
val_is n = refl

module _ {M : Type 1} {𝓤 : Ura M} (𝓛 : Logic 𝓤) (n : ℕ) where
  open 𝓛 use {H}

  pub typed : Holds (has_ty (ty_array T'.mir n) (array_val (replicate n (val blank)))) × WT (array_val (replicate n (val blank)))
  typed = ((Array-Lawful 𝓛 R (LL.lawful T.the_type T'.the_laws 𝓛) n).typed (replicate n blank) _ (array_is n)).0

  -- the local's cell is the records, side by side
  pub laid : (b : ℕ) → ent 𝓤 (H.at full_share (ty_array T'.mir n) b 0 (blanks_val n)) (sem 𝓛 (cells (mem R) (blanks n) b 0))
  unfolding blanks blanks_val part_of
  laid b =
      qed 𝓛 (‵ (fat full_share (ty_array T'.mir n) b 0 (array_val (replicate n (val blank)))) ∷ []) ∵
      use1 𝓛 (‵ (cell_at full_share (Array R n).mir (array_val (replicate n (val blank)) ∷ []) b 0)) (𝓛.laws.at_raw full_share (ty_array T'.mir n) b 0 (array_val (replicate n (val blank)))) $
      owned ! (Array R n) (Is (Array R n)) (Array-Makes 𝓛 R (LL.makes T.the_type T'.the_plain 𝓛) n) (replicate n blank) _ (array_is n) $ move ! (1 ∷ 0 ∷ []) $ fjoin ! $
      fpack ! (List Val) (λ vs. fsep (cell_at full_share (Array R n).mir vs b 0) ((Array R n).own_val (replicate n blank) vs)) (array_val (replicate n (val blank)) ∷ []) $
      use1 𝓛 (‵ ((arr_parts (shares R) n).part full_share (replicate n blank) b 0)) (Array-apart 𝓛 R full_share tt n (replicate n blank) b 0) $ fsplit ! $ drop ! $
      use1 𝓛 (‵ (cells (mem R) (replicate n blank) b 0)) (whole_in 𝓛 R (replicate n blank) b 0) $ done !

  -- and back, at any list
  pub taken : (b : ℕ) (zs : List Evolution) → ent 𝓤 (sem 𝓛 ((Arr (mem R) n).own_at zs b 0)) (ex 𝓤 (λ (v : Val). H.at full_share (ty_array T'.mir n) b 0 v))
  unfolding part_of
  taken b zs =
      qed 𝓛 (‵ ((Arr (mem R) n).own_at zs b 0) ∷ []) ∵ fsplit ! $ feq_l ! (λ l. use1 𝓛 (‵ (row R full_share zs b 0)) (whole_out 𝓛 R zs b 0) $ feq_i ! ℕ (length zs) n l $ fjoin ! $
      use1 𝓛 (‵ (part_at (Array R n) full_share zs b 0)) (Array-whole 𝓛 R full_share n zs b 0) $
      fpick ! (λ vs. fsplit ! $ move ! (1 ∷ []) $ fpick ! (λ us. fsplit ! $ fsplit ! $ feq_l ! (λ e. move ! (2 ∷ []) $
      rewrite ! 0 (λ (ws : List Val). ‵ (cell_at full_share (Array R n).mir ws b 0)) e refl $
      use1 𝓛 (‵ (fat full_share (ty_array T'.mir n) b 0 (array_val us))) (𝓛.laws.raw_at full_share (ty_array T'.mir n) b 0 (array_val us)) $
      show ! (λ (v : Val). H.at full_share (ty_array T'.mir n) b 0 v) (array_val us) $ keep ! (0 ∷ []) $ done !))))

pub room : Room R (length (blanks most_evolutions))
unfolding blanks
room = (lit< tt, lit< tt)
